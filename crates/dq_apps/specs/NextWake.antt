-- The next wake of a cache: a tick at which its wheel looks at what it keeps, and before which
-- nothing is due.
use Rattle.std.specs.Prelude.{◌≡◌, ℕ, ◌≤◌, Option, Some, None}
use Rattle.dq_wheel.specs.Wakes.{wake_for}
use Rattle.dq_core.specs.Core.{filing_for}
use Rattle.dq_apps.specs.Cache.{Item, Cache, slot_at}

module _ {K V : Type 0} where
  -- nothing that is kept is due before w
  abbrev pub NoneDueBefore : Cache K V → ℕ → Type 0
  NoneDueBefore c w =
      (i : ℕ) (x : Item K V) → (slot_at c.slots i).item ≡ Some x → w ≤ x.deadline

  -- w is when a wheel that stands at a tick looks at an item that is kept: it filed the item's
  -- deadline at that tick or at an earlier one, and the tick isn't after the moment
  abbrev pub IsWakeOfOne : Cache K V → ℕ → Type 0
  IsWakeOfOne c w =
      (i : ℕ) × (x : Item K V) × (filed : ℕ) × (tick : ℕ) × ((slot_at c.slots i).item ≡ Some x)
      × (filed ≤ tick) × (tick ≤ c.moment) × (w ≡ wake_for tick (filing_for filed x.deadline))

  -- the next wake, none exactly where nothing is kept
  abbrev pub TellsNextWake : Cache K V → Option ℕ → Type 0
  TellsNextWake c None = (i : ℕ) → (slot_at c.slots i).item ≡ None
  TellsNextWake c (Some w) = IsWakeOfOne c w × NoneDueBefore c w
