-- No public clause cites this module.
-- Occupancy maps: six numbers of 64 bits, a bit for each list.

use Rattle.std.specs.Prelude.{◌≡◌, ◌≢◌, ℕ, ◌+◌, ◌-◌, ◌/◌, ◌%◌, ◌<◌, ◌≤◌, ◌⊎◌, ◌==◌, if◌then◌else◌}
use Rattle.std.specs.Prelude.{List}
use Rattle.dq_wheel.specs.Lists.{IsListFilled}
use Rattle.dq_wheel.specs.Walks.{bit_of}
use Rattle.dq_wheel.specs.declared.TheConstants.{LISTS}

-- the bit of each list that meets the test is 1 exactly where the list isn't empty
pub record IsOccupiedAt (Where : ℕ → Type 0) (maps homes : List ℕ) : Type 0 where
  pub filled : (p : ℕ) → p < LISTS → Where p → bit_of maps p ≡ 1 → IsListFilled homes p
  pub shown : (p : ℕ) → p < LISTS → Where p → IsListFilled homes p → bit_of maps p ≡ 1

-- that of each list
abbrev pub IsOccupied : List ℕ → List ℕ → Type 0
IsOccupied maps homes = IsOccupiedAt (λ p. Unit {0}) maps homes

-- that of each list but one
abbrev pub IsOccupiedBut : ℕ → List ℕ → List ℕ → Type 0
IsOccupiedBut list maps homes = IsOccupiedAt (λ p. p ≢ list) maps homes

-- how many lists of its level come before list p, where at the top level the one after own comes
-- first
abbrev pub list_turn : ℕ → ℕ → ℕ
list_turn own p = if p / 64 == 5 then (p % 64 + 63 - own) % 64 else p % 64

-- a lower level, or an earlier turn of the same
abbrev pub IsEarlier : ℕ → ℕ → ℕ → Type 0
IsEarlier own q p =
    (q / 64 < p / 64) ⊎ ((q / 64 ≡ p / 64) × (list_turn own q ≤ list_turn own p))

-- list q is filled, and no filled list is earlier
abbrev pub IsFirstFilled : ℕ → List ℕ → ℕ → Type 0
IsFirstFilled own homes q =
    (q < LISTS) × IsListFilled homes q
    × ((p : ℕ) → p < LISTS → IsListFilled homes p → IsEarlier own q p)
