-- Entries that leave a queue together: a sweep of those that were cancelled, and a clear of all.
use Rattle.std.specs.Prelude.{cond, ◌≡◌, ◌≢◌, ℕ, ◌+◌, ◌≤◌, Bool, true, false, List, [], ◌∷◌, Option}
use Rattle.std.specs.Prelude.{Some, None, length, Result, Ok, Err, ◌⊎◌, ◌<◌}
use Rattle.std.specs.List.{count_by, AllByRecursion}
use Rattle.dq_ticks.specs.declared.words.Parts.{Parts}
use Rattle.dq_wheel.specs.State.{Filing, unlinked}
use Rattle.dq_core.specs.Words.{Counts, removed, word_at, IsChanged}
use Rattle.dq_core.specs.Slots.{Row, SlotRows, is_held, row_at, vacated}
use Rattle.dq_core.specs.Machine.{Entry, Machine, Event, Run, RunOf, table_at, IsReaping}
use Rattle.dq_core.specs.Machine.{IsClearing, removes, NoneLinked}
use Rattle.dq_core.specs.Core.{Core, machine}
use Rattle.dq_core.specs.Calls.{LooksOver, IsFound, IsMissing}
use Rattle.dq_core.specs.declared.errors.ReapError.{ReapError}
use Rattle.dq_core.specs.declared.errors.ReapError.TheVariants.{Missing, Live}
use Rattle.dq_ticks.specs.declared.keys.EntryId.{EntryId}

-- a wheel where each of those indexes is unlinked, in turn
abbrev pub all_unlinked : Filing → List ℕ → Filing
all_unlinked w [] = w
all_unlinked w (i ∷ is) = all_unlinked (unlinked w i) is

-- slots of which each of those is vacated, in turn
abbrev pub all_vacated : {T : Type 0} → SlotRows T → List ℕ → SlotRows T
all_vacated s [] = s
all_vacated s (i ∷ is) = all_vacated (vacated s i) is

-- the entries at those slots, one at each, and no others, left the wheel and the slots
pub record AreOut {T W : Type 0} (b : Core T W) (is : List ℕ) (c : Core T W) : Type 0 where
  pub filed : c.wheel.filing ≡ all_unlinked b.wheel.filing is
  pub slots : c.slots ≡ all_vacated b.slots is
  pub held : count_by is_held c.slots.rows + length is ≡ count_by is_held b.slots.rows
  pub noted : c.noted ≡ b.noted

-- no cancelled entry is linked at the slot
abbrev pub NotCancelled : {T : Type 0} → Machine T → ℕ → Type 0
NotCancelled {T} m i = (e : Entry T) → (table_at m i).entry ≡ Some e → e.due ≢ None

-- no cancelled entry is linked
abbrev pub NoneCancelled : {T : Type 0} → Machine T → Type 0
NoneCancelled m = (i : ℕ) → NotCancelled m i

-- the entries at those slots were found cancelled and were reaped
pub record AreReaped {T W : Type 0} (shared : Bool) (b : Core T W) (is : List ℕ) (c : Core T W)
    : Type 0 where
  pub run : RunOf (IsReaping shared) b.slots.last_stamp (machine b) (machine c)
  pub out : AreOut b is c
  pub looks : LooksOver shared b.known c.known
  pub counts : c.counts ≡ b.counts

-- the one slot that was looked at, where its entry was reaped, and none where it wasn't
abbrev pub only_if : Bool → ℕ → List ℕ
only_if true i = i ∷ []
only_if false i = []

-- one slot was swept: its entry is reaped where it was found cancelled, and the other slots are as
-- they were
pub record IsSwept {T W : Type 0} (shared : Bool) (b : Core T W) (i : ℕ) (found : Bool)
    (c : Core T W) : Type 0 where
  pub reaped : AreReaped shared b (only_if found i) c
  pub here : NotCancelled (machine c) i
  pub other : (j : ℕ) → j ≢ i → table_at (machine c) j ≡ table_at (machine b) j

-- a sweep reaps n entries, and leaves none linked that is known as cancelled
pub record Sweeps {T W : Type 0} (shared : Bool) (b : Core T W) (n : ℕ) (c : Core T W)
    : Type 0 where
  pub reaped : (is : List ℕ) × (length is ≡ n) × AreReaped shared b is c
  pub none : NoneCancelled (machine c)

-- the slots from one on and before another were swept: n entries were reaped, none is left there
-- that is known as cancelled, and the other slots are as they were
pub record SweepsSome {T W : Type 0} (shared : Bool) (b : Core T W) (from upto n : ℕ) (c : Core T W)
    : Type 0 where
  pub reaped : (is : List ℕ) × (length is ≡ n) × AreReaped shared b is c
  pub none : (i : ℕ) → from ≤ i → i < upto → NotCancelled (machine c) i
  pub other :
      (i : ℕ) → (i < from) ⊎ (upto ≤ i) → table_at (machine c) i ≡ table_at (machine b) i

-- the one entry of that name was found cancelled and was reaped, or was found live and stays; or
-- none has that name
abbrev pub Reaps : {T W : Type 0} → Bool → Core T W → EntryId → Result (Unit {0}) ReapError →
    Core T W → Type 0
Reaps shared b id (Ok done) c = IsFound b id id.index × IsSwept shared b id.index true c
Reaps shared b id (Err Live) c = IsFound b id id.index × IsSwept shared b id.index false c
Reaps shared b id (Err Missing) c = IsMissing b id × (c ≡ b)

-- where n entries are removed
abbrev pub removed_counts : Counts → ℕ → Counts
removed_counts c n = record c { removals = c.removals + n }

-- a run of a clear, with that many removals
abbrev pub RunOfClear : {T : Type 0} → Bool → ℕ → Machine T → ℕ → Machine T → Type 0
RunOfClear {T} shared last m n k =
    (es : List (Event T)) × AllByRecursion (IsClearing shared) es × Run last m es k
    × (removes es ≡ n)

-- how a clear leaves a word: that of an entry is ended as removed at the deadline that was then in
-- force, or was learned to be cancelled; any other is as it was
abbrev pub IsCleared : {T : Type 0} → Bool → Row T → Parts → Parts → Type 0
IsCleared shared r w v =
    (is_held r ≡ true → (o : Option ℕ) × IsChanged shared r.stamp (removed r.stamp) w o v)
    × (is_held r ≡ false → v ≡ w)

-- entries at those slots were ended, n of them as removed
pub record AreEnded {T W : Type 0} (shared : Bool) (b : Core T W) (is : List ℕ) (n : ℕ)
    (c : Core T W) : Type 0 where
  pub run : RunOfClear shared b.slots.last_stamp (machine b) n (machine c)
  pub few : n ≤ length is
  pub out : AreOut b is c
  pub counts : c.counts ≡ removed_counts b.counts n

-- one slot was cleared, and the other slots and words are as they were
pub record IsEmptied {T W : Type 0} (shared : Bool) (b : Core T W) (i : ℕ) (removed : Bool)
    (c : Core T W) : Type 0 where
  pub ended : (is : List ℕ) × AreEnded shared b is (cond removed 1 0) c
  pub here : (row_at c.slots.rows i).held ≡ None
  pub word : IsCleared shared (row_at b.slots.rows i) (word_at b.known i) (word_at c.known i)
  pub other :
      (j : ℕ) → j ≢ i → (row_at c.slots.rows j ≡ row_at b.slots.rows j)
      × (word_at c.known j ≡ word_at b.known j)

-- a clear ends each linked entry, n of them as removed
pub record Clears {T W : Type 0} (shared : Bool) (b : Core T W) (n : ℕ) (c : Core T W)
    : Type 0 where
  pub ended : (is : List ℕ) × AreEnded shared b is n c
  pub words :
      (i : ℕ) → IsCleared shared (row_at b.slots.rows i) (word_at b.known i) (word_at c.known i)
  pub none : NoneLinked (machine c)
