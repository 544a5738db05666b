-- The deferred values: each was freed, and lies in its slot until it is taken out.
use Rattle.std.specs.Prelude.{◌≡◌, ◌≢◌, ◌⊎◌, ℕ, ◌<◌, true, List, Option, Some, None, length}
use Rattle.std.specs.Prelude.{slice_index_or, slice_set, is_some, if◌then◌else◌}
use Rattle.std.specs.List.{count_by}
use Rattle.dq_core.specs.declared.slots.Held.{Held}
use Rattle.dq_core.specs.declared.outcomes.Turn.{Turn}
use Rattle.dq_core.specs.declared.outcomes.Turn.TheVariants.{Out, Waiting, Idle}
use Rattle.dq_core.specs.declared.outcomes.Piece.{Piece}
use Rattle.dq_core.specs.declared.outcomes.Piece.TheVariants.{Answer, Working}
use Rattle.dq_core.specs.declared.outcomes.Progress.{Progress}
use Rattle.dq_core.specs.declared.outcomes.Progress.TheVariants.{Gave, Went, Rests}
use Rattle.dq_core.specs.Slots.{Row, SlotRows, DeferredValues, row_at, is_free}
use Rattle.dq_core.specs.Core.{Core}

-- the value that is deferred at a slot
abbrev pub deferred_value_at : {T : Type 0} → DeferredValues T → ℕ → Option T
deferred_value_at a i = slice_index_or a.values i None

-- nothing is deferred
abbrev pub NoneDeferred : {T : Type 0} → DeferredValues T → Type 0
NoneDeferred a = (i : ℕ) → deferred_value_at a i ≡ None

-- with that deferred at slot i
abbrev pub with_deferred : {T : Type 0} → DeferredValues T → ℕ → Option T → DeferredValues T
with_deferred a i v = record a { values = slice_set a.values i v }

-- how many values wait for their drop
abbrev pub waiting_in : {T : Type 0} → DeferredValues T → ℕ
waiting_in a = if a.drops then count_by is_some a.values else 0

-- a value that waits is taken out; none comes exactly where none waits
abbrev pub TakesDeferredValue : {T : Type 0} →
    DeferredValues T → Option T → DeferredValues T → Type 0
TakesDeferredValue a None b = (waiting_in a ≡ 0) × (b ≡ a)
TakesDeferredValue a (Some v) b =
    (a.drops ≡ true)
    × ((i : ℕ) × (deferred_value_at a i ≡ Some v) × (b ≡ with_deferred a i None))

-- a slot is left for an insert, and in each such slot a value waits
abbrev pub WillDisplace : {T : Type 0} → SlotRows T → DeferredValues T → Type 0
WillDisplace s a =
    (a.drops ≡ true) × (0 < count_by (is_free s.last_stamp) s.rows)
    × ((i : ℕ) → i < length s.rows → is_free s.last_stamp (row_at s.rows i) ≡ true →
    is_some (deferred_value_at a i) ≡ true)

-- a slot is left for an insert, and no value waits in it
abbrev pub IsClearAt : {T : Type 0} → SlotRows T → DeferredValues T → ℕ → Type 0
IsClearAt s a i =
    (i < length s.rows) × (is_free s.last_stamp (row_at s.rows i) ≡ true)
    × (a.drops ≡ true → deferred_value_at a i ≡ None)

-- the value that an insert would displace is taken out; none comes exactly where a slot is left in
-- which none waits, or none is left
abbrev pub TakesDisplaced : {T : Type 0} →
    SlotRows T → DeferredValues T → Option T → DeferredValues T → Type 0
TakesDisplaced s a None b = (¬ WillDisplace s a) × (b ≡ a)
TakesDisplaced s a (Some v) b =
    WillDisplace s a
    × ((i : ℕ) × (i < length s.rows) × (is_free s.last_stamp (row_at s.rows i) ≡ true)
    × (deferred_value_at a i ≡ Some v) × (b ≡ with_deferred a i None))

-- room for an insert: nothing is taken out, or the value that waits in such a slot
abbrev pub MakesRoom : {T : Type 0} → SlotRows T → DeferredValues T → DeferredValues T → Type 0
MakesRoom {T} s a b = (b ≡ a) ⊎ ((v : T) × TakesDisplaced s a (Some v) b)

-- a slot and what is deferred there, before and after: nothing changes of what is held and
-- deferred, or the value that was held is deferred
abbrev pub IsDeferredAt : {T : Type 0} → Row T → Option T → Row T → Option T → Type 0
IsDeferredAt {T} r a s b =
    ((s.held ≡ r.held) × (b ≡ a))
    ⊎ ((h : Held T) × (r.held ≡ Some h) × (s.held ≡ None) × (b ≡ Some h.value))

-- the slot's value left, and nothing more is deferred there
abbrev pub IsOutBeside : {T : Type 0} → Row T → Option T → Row T → Option T → Type 0
IsOutBeside {T} r a s b = (h : Held T) × (r.held ≡ Some h) × (s.held ≡ None) × (b ≡ a)

-- each value that left its slot is deferred there, but for one that came out
pub record DefersValuesBut {T : Type 0} (rows : List (Row T)) (a : DeferredValues T)
    (out : Option ℕ) (rows' : List (Row T)) (b : DeferredValues T) : Type 0 where
  pub drops : b.drops ≡ a.drops
  pub others :
      (i : ℕ) → out ≢ Some i →
      IsDeferredAt (row_at rows i) (deferred_value_at a i) (row_at rows' i) (deferred_value_at b i)
  pub came :
      (i : ℕ) → out ≡ Some i →
      IsOutBeside (row_at rows i) (deferred_value_at a i) (row_at rows' i) (deferred_value_at b i)

-- so of a queue
abbrev pub DefersValues : {T W : Type 0} → Core T W → Option ℕ → Core T W → Type 0
DefersValues b out c = DefersValuesBut b.slots.rows b.deferred out c.slots.rows c.deferred

-- the slot of what a step gave
abbrev pub given_at : {T : Type 0} → Progress T → Option ℕ
given_at (Gave x) = Some x.key.entry.index
given_at Went = None
given_at Rests = None

-- the slot of what a poll took out
abbrev pub out_at : {T : Type 0} → Turn T → Option ℕ
out_at (Out x) = Some x.key.entry.index
out_at (Waiting next) = None
out_at Idle = None

-- the slot of what a piece of a poll took out
abbrev pub answered_at : {T : Type 0} → Piece T → Option ℕ
answered_at (Answer turn) = out_at turn
answered_at Working = None
