-- The numbers that a cache is made by.
use Rattle.std.specs.Prelude.{ℕ, ◌<◌, ◌≤◌}
use Rattle.dq_ticks.specs.declared.TheConstants.{CAPACITY_LIMIT, LAST_STAMP}
use Rattle.dq_core.specs.declared.errors.CoreError.{CoreError}
use Rattle.dq_core.specs.declared.errors.CoreError.TheVariants.{BadConfig, NoMemory}

-- the capacity and the last stamp are in their ranges
abbrev pub IsSetting : ℕ → ℕ → Type 0
IsSetting capacity last =
    (0 < capacity) × (capacity ≤ CAPACITY_LIMIT) × (0 < last) × (last ≤ LAST_STAMP)

-- why nothing is made: BadConfig exactly where a number is out of its range
abbrev pub SettingRefused : ℕ → ℕ → CoreError → Type 0
SettingRefused capacity last BadConfig = ¬ IsSetting capacity last
SettingRefused capacity last NoMemory = IsSetting capacity last
SettingRefused capacity last e = ⊥
