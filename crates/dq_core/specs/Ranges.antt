-- Which numbers a queue can be made by.
use Rattle.std.specs.Prelude.{◌≡◌, ℕ, ◌<◌, ◌≤◌}
use Rattle.dq_ticks.specs.declared.TheConstants.{LAST_STAMP}
use Rattle.dq_core.specs.declared.errors.CoreConfig.{CoreConfig}
use Rattle.dq_core.specs.declared.errors.BadNumber.{BadNumber}
use Rattle.dq_core.specs.declared.errors.BadNumber.TheVariants.{BadCapacity, BadLastStamp}
use Rattle.dq_core.specs.WordRows.{IsCapacity}

-- a stamp after which a slot may be worn
abbrev pub IsLastStamp : ℕ → Type 0
IsLastStamp n = (0 < n) × (n ≤ LAST_STAMP)

-- each number is in its range
abbrev pub IsConfigInRange : CoreConfig → Type 0
IsConfigInRange c = IsCapacity c.capacity × IsLastStamp c.last_stamp

-- the number is the first of a configuration's that is out of its range
abbrev pub IsBadNumber : CoreConfig → BadNumber → Type 0
IsBadNumber c (BadCapacity n) = (n ≡ c.capacity) × (¬ IsCapacity n)
IsBadNumber c (BadLastStamp n) = (n ≡ c.last_stamp) × IsCapacity c.capacity × (¬ IsLastStamp n)
