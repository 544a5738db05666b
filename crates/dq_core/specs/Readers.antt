-- What the readers of a queue tell.
use Rattle.std.specs.Prelude.{◌≡◌, ℕ, ◌+◌, ◌<◌, ◌≤◌, Option, Some, None}
use Rattle.std.specs.List.{count_by}
use Rattle.dq_wheel.specs.State.{filed_at, IsLeast}
use Rattle.dq_wheel.specs.Lawful.{IsLawfulWheel}
use Rattle.dq_wheel.specs.Places.{place_for}
use Rattle.dq_wheel.specs.declared.wheel.Place.{Place}
use Rattle.dq_ticks.specs.declared.keys.Key.{Key}
use Rattle.dq_ticks.specs.declared.keys.EntryId.{EntryId}
use Rattle.dq_core.specs.declared.outcomes.Tally.{Tally}
use Rattle.dq_core.specs.Deferring.{IsClearAt}
use Rattle.dq_core.specs.Slots.{is_held, row_at}
use Rattle.dq_core.specs.Machine.{table_at, NoneLinked, NoneLiveBefore}
use Rattle.dq_core.specs.Core.{Core, machine, IsLawfulCore}
use Rattle.dq_core.specs.Calls.{IsLinked, IsMissing, TellsWake}

-- the keeper's own writes, the linked entries and the wheel's moves; each entry that was inserted
-- is linked, or has ended as expired, as removed or as cancelled
pub record IsTally {T W : Type 0} (c : Core T W) (t : Tally) : Type 0 where
  pub begins : c.counts.begins ≡ t.inserted
  pub expiries : c.counts.expiries ≡ t.expired
  pub removals : c.counts.removals ≡ t.removed
  pub linked : t.linked ≡ count_by is_held c.slots.rows
  pub sum : t.inserted ≡ t.expired + t.removed + t.cancelled + t.linked
  pub moves : t.moves ≡ c.wheel.filing.moved

-- a linked entry that is filed least, with its key of the present stamp; none exactly where nothing
-- is linked
abbrev pub TellsLeast : {T W : Type 0} → Core T W → Option Key → Type 0
TellsLeast c None = NoneLinked (machine c)
TellsLeast c (Some k) =
    IsLinked c k.entry × ((table_at (machine c) k.entry.index).stamp ≡ k.stamp)
    × IsLeast c.wheel.filing.filed k.entry.index

-- the key of a slot that is left in which no value waits, under the slot's next stamp; none exactly
-- where there is no such slot
abbrev pub TellsNext : {T W : Type 0} → Core T W → Option Key → Type 0
TellsNext c None = (i : ℕ) → ¬ IsClearAt c.slots c.deferred i
TellsNext c (Some k) =
    IsClearAt c.slots c.deferred k.entry.index × (k.entry.shard ≡ c.shard)
    × (k.entry.born ≡ k.stamp)
    × (k.stamp ≡ (row_at c.slots.rows k.entry.index).stamp + 1)

-- the birth of an id isn't after its slot's stamp: no new entry gets that id
abbrev pub WasGiven : {T W : Type 0} → Core T W → EntryId → Type 0
WasGiven c id = id.born ≤ (table_at (machine c) id.index).stamp

-- no entry is linked at the slots from one on, before another
abbrev pub NoneBetween : {T W : Type 0} → Core T W → ℕ → ℕ → Type 0
NoneBetween c from end =
    (i : ℕ) → from ≤ i → i < end → (table_at (machine c) i).entry ≡ None

-- the linked entry of the first of those slots that has one, none exactly where none has
abbrev pub TellsFirst : {T W : Type 0} → Core T W → ℕ → ℕ → Option EntryId → Type 0
TellsFirst c from end None = NoneBetween c from end
TellsFirst c from end (Some id) =
    IsLinked c id × (from ≤ id.index) × (id.index < end) × NoneBetween c from id.index

-- no live entry has a deadline before the tick by which that entry is filed
abbrev pub NoneLiveBeforeFiled : {T W : Type 0} → Core T W → Key → Type 0
NoneLiveBeforeFiled c k =
    (f : ℕ) × (filed_at c.wheel.filing.filed k.entry.index ≡ Some f) × NoneLiveBefore (machine c) f

-- at all times, between the pieces of a poll too, no live entry has a deadline before the tick by
-- which an entry is filed that a peek may give
abbrev pub PeeksBoundDeadlines : Type 0 → Type 0 → Type 0
PeeksBoundDeadlines T W =
    (c : Core T W) (k : Key) → IsLawfulCore c → TellsLeast c (Some k) → NoneLiveBeforeFiled c k

-- at all times, between the pieces of a poll too, no live entry has a deadline before the next wake
abbrev pub WakesBoundDeadlines : Type 0 → Type 0 → Type 0
WakesBoundDeadlines T W =
    (c : Core T W) (w : ℕ) → IsLawfulCore c → IsLawfulWheel c.wheel → TellsWake c (Some w) →
    NoneLiveBefore (machine c) w

-- the place of a linked entry
abbrev pub TellsPlace : {T W : Type 0} → Core T W → EntryId → Option Place → Type 0
TellsPlace c id None = IsMissing c id
TellsPlace c id (Some place) =
    IsLinked c id × (place ≡ place_for c.wheel.filing.tick (filed_at c.wheel.filing.filed id.index))

-- where a linked entry is filed
abbrev pub TellsFiled : {T W : Type 0} → Core T W → EntryId → Option ℕ → Type 0
TellsFiled c id None = IsMissing c id
TellsFiled c id (Some filed) = IsLinked c id × (filed_at c.wheel.filing.filed id.index ≡ Some filed)

-- a queue with other words that are known alike
abbrev pub with_words : {T W : Type 0} → Core T W → W → Core T W
with_words c w = record c { words = w }
