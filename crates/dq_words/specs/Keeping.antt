-- What the keeper's writes count, and what it may ask of a packed word.
use Rattle.std.specs.Prelude.{◌≡◌, ◌≢◌, ◌⊎◌, ℕ, ◌<◌, ◌≤◌, true, false, List, length, slice_index}
use mathlib.Core.Option.{some}
use lib.ListN.{get_elem?}
use Rattle.atomic_table.specs.Table.{State}
use Rattle.dq_core.specs.Words.{Counts}
use Rattle.dq_ticks.specs.Word.{word, stamp_of, mark_of, field_of}
use Rattle.dq_words.specs.Counts.{begins_in, expiries_in, removals_in, below}
use Rattle.dq_words.specs.Rule.{Ruled}
use Rattle.dq_words.specs.declared.keeper.TheConstants.{HANDLE_LIMIT}
use Rattle.dq_words.specs.declared.views.View.{View}
use Rattle.dq_words.specs.declared.views.Write.{Write}

-- the view of a keeper: it begins no more than the stamps that it saw, and issues no more than
-- the callers that it may
abbrev pub IsKeeper : View → Type 0
IsKeeper v =
    (v.keeps ≡ true) × (v.gone ≡ false) × (v.issued ≤ HANDLE_LIMIT)
    × (begins_in v.writes ≤ below stamp_of v.seen (length v.seen))

-- There was a moment, between two steps of the keeper and its callers, at which the rule of the
-- words held and the keeper knew exactly this.
abbrev pub Stood : View → Type 0
Stood v = (t : State ℕ View) × Ruled (length v.seen) t × (get_elem? t.views 0 ≡ some v)

-- The same of any seat.
abbrev pub Knew : View → Type 0
Knew v = (t : State ℕ View) × (j : ℕ) × Ruled (length v.seen) t × (get_elem? t.views j ≡ some v)

-- how often the writes begin a word, and end one as expired or removed
abbrev pub counts_of : List Write → Counts
counts_of ws =
    record { begins = begins_in ws; expiries = expiries_in ws; removals = removals_in ws }

-- a slot that was never used, or a word that ended
abbrev pub IsFree : ℕ → Type 0
IsFree n = (n ≡ 0) ⊎ (mark_of n ≢ 0)

-- no entry is live by the word: its slot was never used, or its entry has ended
abbrev pub IsEnded : ℕ → Type 0
IsEnded n = 0 < stamp_of n → mark_of n ≢ 0

-- the keeper saw each word ended
abbrev pub NoneLive : View → Type 0
NoneLive v = (i : ℕ) → i < length v.seen → IsEnded (slice_index v.seen i)

-- a given stamp whose word is live or cancelled
abbrev pub IsOpen : ℕ → ℕ → Type 0
IsOpen n s = (0 < s) × ((n ≡ word s 1 0) ⊎ (n ≡ word s 0 (field_of n)))

-- the same, where a live one's deadline is not before f
abbrev pub IsOpenFrom : ℕ → ℕ → ℕ → Type 0
IsOpenFrom n s f = IsOpen n s × (mark_of n ≡ 0 → f ≤ field_of n)
