-- Each given stamp, and each inserted entry through its resets, ends exactly once or is queued.
use Rattle.std.specs.Prelude.{◌≡◌, ◌⊎◌, ℕ, zero, suc, ◌+◌, ◌<◌, ◌≤◌, ◌==◌, ◌&&◌, nat_le}
use Rattle.std.specs.Prelude.{if◌then◌else◌, List, [], ◌∷◌, length, slice_index}
use Rattle.atomic_table.specs.Table.{State}
use mathlib.Core.Option.{some}
use lib.ListN.{get_elem?}
use Rattle.dq_ticks.specs.Word.{stamp_of, mark_of}
use Rattle.dq_words.specs.declared.views.View.{View}
use Rattle.dq_words.specs.declared.views.Write.{Write}
use Rattle.dq_words.specs.declared.views.Write.TheVariants.{Begin, Expired, Renewed, Removed}
use Rattle.dq_words.specs.Files.{File, file, blank, keeper_writes, IsIn, IsDeadline}
use Rattle.dq_words.specs.Keeping.{IsEnded, NoneLive}
use Rattle.dq_words.specs.Rule.{Ruled}

-- the word of the slot i
abbrev pub word_in : State ℕ View → ℕ → ℕ
word_in t i = slice_index t.words i

-- what all views say of the slot i at the stamp s
abbrev pub file_in : State ℕ View → ℕ → ℕ → File
file_in t i s = file i s t.views

-- the slot i was not given the stamp s
abbrev pub NotGiven : ℕ → State ℕ View → ℕ → ℕ → Type 0
NotGiven rows t i s = (rows ≤ i) ⊎ ((s ≡ 0) ⊎ (stamp_of (word_in t i) < s))

-- 1 where the word is live at the stamp s
abbrev pub lives_at : ℕ → ℕ → ℕ
lives_at n s = if (mark_of n == 0) && (stamp_of n == s) then 1 else 0

-- how often the slot i at the stamp s was ended by the keeper, was cancelled, or is live
abbrev pub endings_at : State ℕ View → ℕ → ℕ → ℕ
endings_at t i s =
    length (file_in t i s).ends + length (file_in t i s).cancels + lives_at (word_in t i) s

-- Between any two steps each given stamp was given once, and was ended once by the keeper, or
-- cancelled once, or its word is live.
abbrev pub StampsEndOnce : Type 0
StampsEndOnce =
    (rows : ℕ) (t : State ℕ View) → Ruled rows t → (i s : ℕ) → i < rows → 0 < s
    → s ≤ stamp_of (word_in t i)
    → (length (file_in t i s).bases ≡ 1) × (endings_at t i s ≡ 1)

-- A stamp that was not given has no calls and no writes.
abbrev pub OthersAreBlank : Type 0
OthersAreBlank =
    (rows : ℕ) (t : State ℕ View) → Ruled rows t → (i s : ℕ) → NotGiven rows t i s
    → file_in t i s ≡ blank

-- Each end, and each accepted cancel, was at the deadline in force.
abbrev pub EndsAreInForce : Type 0
EndsAreInForce =
    (rows : ℕ) (t : State ℕ View) → Ruled rows t → (i s : ℕ)
    → ((e : ℕ × ℕ) → IsIn (file_in t i s).ends e → IsDeadline (file_in t i s) e.1)
    × ((d : ℕ) → IsIn (file_in t i s).cancels d → IsDeadline (file_in t i s) d)

-- how many of the keeper's ends closed the entry: an end of mark 0 gave its next stamp
abbrev pub closed_in : List (ℕ × ℕ) → ℕ
closed_in [] = 0
closed_in (e ∷ es) = (if e.0 == 0 then 0 else 1) + closed_in es

-- how an entry stands at one of its stamps: expired or removed by the keeper, cancelled by a
-- caller, or live by the word
abbrev pub fates_at : ℕ → ℕ → State ℕ View → ℕ
fates_at i s t =
    closed_in (file_in t i s).ends + length (file_in t i s).cancels + lives_at (word_in t i) s

-- the stamp of the birth of the entry that the slot i had at the stamp s: that of its last Begin at
-- or before s
abbrev pub birth_at : ℕ → ℕ → List Write → ℕ
birth_at i s [] = 0
birth_at i s (Begin j b d ∷ ws) = if (i == j) && nat_le b s then b else birth_at i s ws
birth_at i s (Expired j b d ∷ ws) = birth_at i s ws
birth_at i s (Renewed j b d x ∷ ws) = birth_at i s ws
birth_at i s (Removed j b d ∷ ws) = birth_at i s ws

-- f of each of the stamps 1 to k that the entry born at b had, added up
abbrev pub over_life : (ℕ → ℕ) → ℕ → ℕ → List Write → ℕ → ℕ
over_life f i b ws zero = 0
over_life f i b ws (suc k) =
    (if birth_at i (suc k) ws == b then f (suc k) else 0) + over_life f i b ws k

-- what the keeper has begun by one view it has begun by another
abbrev pub WritesStay : View → View → Type 0
WritesStay v w = (i b base : ℕ) → IsIn v.writes (Begin i b base) → IsIn w.writes (Begin i b base)

-- Between any two steps each Begin's entry, over all stamps that its resets gave it, was ended once
-- as expired, as removed or by an accepted cancel, or is live.
abbrev pub EntriesEndOnce : Type 0
EntriesEndOnce =
    (rows : ℕ) (t : State ℕ View) → Ruled rows t
    → (i b base : ℕ) → IsIn (keeper_writes t.views) (Begin i b base)
    → over_life (λ s. fates_at i s t) i b (keeper_writes t.views) (stamp_of (word_in t i)) ≡ 1

-- Where the keeper saw no word live, none is live, whatever callers did since.
abbrev pub EndedWordsStay : Type 0
EndedWordsStay =
    (rows : ℕ) (t : State ℕ View) → Ruled rows t
    → (v : View) → get_elem? t.views 0 ≡ some v → NoneLive v
    → (i : ℕ) → i < rows → IsEnded (word_in t i)
