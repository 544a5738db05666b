-- The rule over the words of one table and the views of all seats.
use Rattle.dq_ticks.specs.declared.TheConstants.{CAPACITY_LIMIT, LAST_TICK}
use Rattle.dq_words.specs.declared.keeper.TheConstants.{HANDLE_LIMIT}
use Rattle.dq_words.specs.declared.seated.TheConstants.{ONE_CANCEL}
use Rattle.dq_ticks.specs.Word.{stamp_unit, word, stamp_of}
use Rattle.std.specs.Prelude.{◌≡◌, ◌⊎◌, ℕ, zero, suc, ◌+◌, ◌*◌, ◌<◌, ◌≤◌, Bool, List, [], ◌∷◌}
use Rattle.std.specs.Prelude.{length, slice_index, replicate, true, false}
use mathlib.Core.Option.{some}
use lib.ListN.{get_elem?}
use Rattle.atomic_table.specs.Table.{State}
use Rattle.dq_words.specs.declared.views.View.{View}
use Rattle.dq_words.specs.declared.views.Write.{Write}
use Rattle.dq_words.specs.Word.{Left, LearnedWord}
use Rattle.dq_words.specs.Counts.{gone_by, begins_in, expiries_in, removals_in, total, goes}
use Rattle.dq_words.specs.Counts.{gone_cancels, passes_of, reaped_in, withdrawn}
use Rattle.dq_words.specs.Counts.{made_cancels, lives, below, issued_in, returns_in, given_in}
use Rattle.dq_words.specs.Counts.{InOrder}
use Rattle.dq_words.specs.Files.{File, blank, file, keeper_writes, IsIn, Among, IsDeadline}

-- Of the word n of a slot, one stamp s and the stamp's file: the stamp was not given.
pub record UnbornStamp (n s : ℕ) (f : File) : Type 0 where
  pub none : f ≡ blank
  pub below : n < s * stamp_unit

-- It was given, and the word is live at the deadline in force.
pub record LivingStamp (n s : ℕ) (f : File) : Type 0 where
  pub base : ℕ
  pub deadline : ℕ
  pub given : f.bases ≡ base ∷ []
  pub unended : f.ends ≡ []
  pub uncancelled : f.cancels ≡ []
  pub in_force : IsDeadline f deadline
  pub small : deadline ≤ LAST_TICK
  pub now : n ≡ word s 0 deadline

-- It was given and cancelled once, at the deadline in force.
pub record CancelledStamp (n s : ℕ) (f : File) : Type 0 where
  pub base : ℕ
  pub deadline : ℕ
  pub given : f.bases ≡ base ∷ []
  pub unended : f.ends ≡ []
  pub cancelled : f.cancels ≡ deadline ∷ []
  pub in_force : IsDeadline f deadline
  pub small : deadline ≤ LAST_TICK
  pub now : (n ≡ word s 1 0) ⊎ Left n s

-- The keeper ended it once, at the deadline in force.
pub record EndedStamp (n s : ℕ) (f : File) : Type 0 where
  pub base : ℕ
  pub deadline : ℕ
  pub mark : ℕ
  pub given : f.bases ≡ base ∷ []
  pub ended : f.ends ≡ (mark, deadline) ∷ []
  pub uncancelled : f.cancels ≡ []
  pub in_force : IsDeadline f deadline
  pub small : deadline ≤ LAST_TICK
  pub now : ((n ≡ word s mark deadline) × (1 < mark) × (mark < 4)) ⊎ Left n s

-- what the rule says of one slot at one stamp
abbrev pub Law : ℕ → ℕ → File → Type 0
Law n s f = UnbornStamp n s f ⊎ (LivingStamp n s f ⊎ (CancelledStamp n s f ⊎ EndedStamp n s f))

-- the slot has had the word x
abbrev pub HadAt : ℕ → ℕ → File → Type 0
HadAt x s f =
    ((d : ℕ) × (x ≡ word s 0 d) × (d ≤ LAST_TICK) × Among f d)
    ⊎ (((d : ℕ) × (x ≡ word s 1 0) × IsIn f.cancels d)
    ⊎ ((m : ℕ) × (d : ℕ) × (x ≡ word s m d) × (1 < m) × (m < 4) × (d ≤ LAST_TICK)
    × IsIn f.ends (m, d)))

-- the slot i has had the word x
abbrev pub Had : ℕ → ℕ → List View → Type 0
Had x i views = (x ≡ 0) ⊎ ((s : ℕ) × HadAt x s (file i s views))

-- the first view is the keeper's, which makes no calls and stays; the others are callers' and
-- passers', and these make no writes
abbrev pub Role : ℕ → View → Type 0
Role zero v = (v.keeps ≡ true) × (v.gone ≡ false) × (v.calls ≡ []) × (v.passes ≡ false)
Role (suc j) v = (v.keeps ≡ false) × (v.writes ≡ [])

-- what the seat saw may have become the present words by callers' steps alone
abbrev pub Learns : ℕ → List ℕ → View → Type 0
Learns rows words v =
    (i : ℕ) → i < rows → LearnedWord (slice_index v.seen i) (slice_index words i)

-- What the seat j knows: each word that it saw is one that the slot has had, and not above the
-- present one. What the keeper saw may have become the present word by callers' steps alone.
pub record Sees (rows : ℕ) (words : List ℕ) (views : List View) (j : ℕ) (v : View) : Type 0 where
  pub role : Role j v
  pub row : length v.seen ≡ rows
  pub below : (i : ℕ) → i < rows → slice_index v.seen i ≤ slice_index words i
  pub had : (i : ℕ) → i < rows → Had (slice_index v.seen i) i views
  pub learns : v.keeps ≡ true → Learns rows words v

-- Words and views agree.
pub record Kept (rows : ℕ) (t : State ℕ View) : Type 0 where
  pub sized : length t.words ≡ rows + 1
  pub cells : (i s : ℕ) → i < rows → 0 < s → Law (slice_index t.words i) s (file i s t.views)
  pub outside : (i s : ℕ) → (rows ≤ i) ⊎ (s ≡ 0) → file i s t.views ≡ blank
  pub unused :
      (i : ℕ) → i < rows → slice_index t.words i < stamp_unit → slice_index t.words i ≡ 0
  pub sees : (j : ℕ) (v : View) → get_elem? t.views j ≡ some v → Sees rows t.words t.views j v

-- What was begun is what the keeper ended, what callers cancelled, and what is live.
abbrev pub IsBalanced : List Write → ℕ → ℕ → Type 0
IsBalanced ws cancelled live =
    begins_in ws ≡ ((expiries_in ws + removals_in ws) + cancelled) + live

-- each slot's word has the stamp that the writes gave it last
abbrev pub AreGiven : ℕ → List ℕ → List Write → Type 0
AreGiven rows words ws = (i : ℕ) → i < rows → given_in i ws ≡ stamp_of (slice_index words i)

-- The numbers. The return word is G + 2048 C, where G callers are gone and their lists have C
-- cancels; what was begun has ended or is live.
pub record Tallied (rows : ℕ) (t : State ℕ View) : Type 0 where
  pub few : rows ≤ CAPACITY_LIMIT
  pub wide : (i : ℕ) → i < rows → slice_index t.words i < 18446744073709551616
  pub issued : length t.views ≡ (issued_in t.views + 1) + total passes_of t.views
  pub limit : issued_in t.views ≤ HANDLE_LIMIT
  pub returned :
      slice_index t.words rows ≡ total goes t.views + ONE_CANCEL * total gone_cancels t.views
  pub older : gone_by (returns_in t.views) ≤ total goes t.views
  pub same :
      gone_by (returns_in t.views) ≡ total goes t.views →
      returns_in t.views ≡ slice_index t.words rows
  pub balance :
      IsBalanced (keeper_writes t.views) (total made_cancels t.views) (below lives t.words rows)
  pub reaped : total made_cancels t.views ≡ reaped_in t.views + below withdrawn t.words rows
  pub ordered : InOrder (keeper_writes t.views)
  pub given : AreGiven rows t.words (keeper_writes t.views)
  pub bounded : begins_in (keeper_writes t.views) ≤ below stamp_of t.words rows

-- The rule of the words: it holds between any two atomic steps of the keeper and its callers.
pub record Ruled (rows : ℕ) (t : State ℕ View) : Type 0 where
  pub kept : Kept rows t
  pub tallied : Tallied rows t

-- a row of words that were never used
abbrev pub zeros : ℕ → List ℕ
zeros n = replicate n 0

-- the view of a seat that made no step yet, the keeper's or a caller's
abbrev pub new_view : Bool → ℕ → View
new_view keeper rows = record {
  keeps = keeper;
  seen = zeros rows;
  steps = [];
  calls = [];
  gone = false;
  passes = false;
  writes = [];
  issued = 0;
  returns = 0;
  reaped = 0;
}

-- the view of a passer that made no step yet
abbrev pub passer : ℕ → View
passer rows = record (new_view false rows) { passes = true }

-- the keeper's view at the start
abbrev pub first_keeper : ℕ → View
first_keeper rows = new_view true rows
