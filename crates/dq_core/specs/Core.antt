-- A queue as its owner sees it, the machine that it is, and the shard law.
use Rattle.std.specs.Prelude.{◌≡◌, ℕ, ◌+◌, ◌<◌, ◌≤◌, min, List, [], ◌∷◌, Option, Some, None, length}
use Rattle.std.specs.List.{count_by, sum_by}
use Rattle.dq_ticks.specs.declared.words.Parts.{Parts}
use Rattle.dq_ticks.specs.declared.words.Mark.{Mark}
use Rattle.dq_ticks.specs.declared.words.Mark.TheVariants.{LiveMark, CancelledMark, ExpiredMark}
use Rattle.dq_ticks.specs.declared.words.Mark.TheVariants.{RemovedMark}
use Rattle.dq_ticks.specs.declared.TheConstants.{CAPACITY_LIMIT, LAST_TICK, LAST_STAMP, REACH}
use Rattle.dq_ticks.specs.Units.{lap}
use Rattle.dq_wheel.specs.State.{Filing, WheelState, filed_at}
use Rattle.dq_core.specs.declared.slots.Held.{Held}
use Rattle.dq_core.specs.Words.{Counts, word_at, IsOver, IsInForce}
use Rattle.dq_core.specs.Slots.{Row, SlotRows, DeferredValues, row_at, is_held}
use Rattle.dq_core.specs.Machine.{Entry, TableRow, Machine}

-- a queue: its number, the greatest accepted tick, the wheel, the slots, the values that are
-- deferred there, and of its words what is known, the keeper's own writes, and the words themselves
pub record Core (T W : Type 0) : Type 0 where
  pub shard : ℕ
  pub noted : ℕ
  pub wheel : WheelState
  pub slots : SlotRows T
  pub deferred : DeferredValues T
  pub known : List Parts
  pub counts : Counts
  pub words : W

-- the deadline in force of a word, none where it isn't live
abbrev pub due_by : Mark → ℕ → Option ℕ
due_by LiveMark d = Some d
due_by CancelledMark d = None
due_by ExpiredMark d = None
due_by RemovedMark d = None

-- what is held at a slot, as an entry: its deadline in force is that of the word
abbrev pub entry_of : {T : Type 0} → Option (Held T) → Parts → Option (Entry T)
entry_of None w = None
entry_of (Some h) w = Some (record { born = h.born; value = h.value; due = due_by w.mark w.field })

-- the table of all slots, each with its word
abbrev pub table_of : {T : Type 0} → List (Row T) → List Parts → List (TableRow T)
table_of [] ws = []
table_of (r ∷ rs) [] = []
table_of (r ∷ rs) (w ∷ ws) =
    record { stamp = r.stamp; entry = entry_of r.held w } ∷ table_of rs ws

-- the machine that a queue is
abbrev pub machine : {T W : Type 0} → Core T W → Machine T
machine c =
    record { tick = c.wheel.filing.tick; noted = c.noted; table = table_of c.slots.rows c.known }

-- where a deadline in force is filed at a tick: there, or as far ahead as the wheel reaches
abbrev pub filing_for : ℕ → ℕ → ℕ
filing_for tick d = min d (tick + REACH)

-- what is held, what is known and what is filed at one slot
abbrev pub IsPlaced : {T : Type 0} → ℕ → ℕ → ℕ → Option (Held T) → Parts → Option ℕ → Type 0
IsPlaced tick noted stamp None w None = IsOver w × (w.mark ≡ ExpiredMark → w.field ≤ noted)
IsPlaced tick noted stamp (Some h) w (Some f) =
    IsInForce stamp f w × (tick ≤ f) × (f < tick + lap) × (h.born ≤ stamp)
IsPlaced tick noted stamp None w (Some f) = ⊥
IsPlaced tick noted stamp (Some h) w None = ⊥

-- one slot: its known word has its stamp, and is in force where an entry is held, which is then
-- filed no later than its deadline in force
pub record IsSlot {T : Type 0} (tick noted last : ℕ) (r : Row T) (w : Parts) (f : Option ℕ)
    : Type 0 where
  pub stamp : w.stamp ≡ r.stamp
  pub bound : r.stamp ≤ last
  pub placed : IsPlaced tick noted r.stamp r.held w f

-- all slots, each with its word and where its index is filed
abbrev pub AreSlots : {T : Type 0} → ℕ → ℕ → ℕ → List (Row T) → List Parts → List (Option ℕ) →
    Type 0
AreSlots tick noted last rows known filed =
    (i : ℕ) → i < length rows →
    IsSlot tick noted last (row_at rows i) (word_at known i) (filed_at filed i)

-- the shard law
pub record IsLawful {T : Type 0} (noted : ℕ) (wheel : Filing) (slots : SlotRows T)
    (known : List Parts) (counts : Counts) : Type 0 where
  pub as_filed : length wheel.filed ≡ length slots.rows
  pub as_known : length known ≡ length slots.rows
  pub capacity : length slots.rows ≤ CAPACITY_LIMIT
  pub last_bound : slots.last_stamp ≤ LAST_STAMP
  pub tick : wheel.tick ≤ noted
  pub noted_bound : noted ≤ LAST_TICK
  pub each : AreSlots wheel.tick noted slots.last_stamp slots.rows known wheel.filed
  -- no more entries were begun than stamps were given
  pub stamps : counts.begins ≤ sum_by (λ r. r.stamp) slots.rows
  -- each that was begun is linked, or ended as expired, as removed or as cancelled
  pub balance : counts.expiries + counts.removals + count_by is_held slots.rows ≤ counts.begins

-- the shard law of a queue
abbrev pub IsLawfulCore : {T W : Type 0} → Core T W → Type 0
IsLawfulCore c = IsLawful c.noted c.wheel.filing c.slots c.known c.counts
