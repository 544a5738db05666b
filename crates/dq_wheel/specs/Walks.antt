-- What one finds in a wheel's lists and in its occupancy maps.

use Rattle.std.specs.Prelude.{◌≡◌, ℕ, ◌+◌, ◌/◌, ◌%◌, ◌<◌, List, [], ◌∷◌, ◌==◌, if◌then◌else◌}
use Rattle.std.specs.Prelude.{slice_index}
use Rattle.std.specs.Int.{bit_at}

-- the entries that one meets from x along next until the head
abbrev pub IsWalk : ℕ → (ℕ → ℕ) → ℕ → ℕ → List ℕ → Type 0
IsWalk cap next head x [] = x ≡ head
IsWalk cap next head x (y ∷ ys) = (x ≡ y) × (y < cap) × IsWalk cap next head (next y) ys

-- how often x stands in xs
abbrev pub occurrences : ℕ → List ℕ → ℕ
occurrences x [] = 0
occurrences x (y ∷ ys) = if y == x then 1 + occurrences x ys else occurrences x ys

-- the bit of list p in six maps of 64 bits
abbrev pub bit_of : List ℕ → ℕ → ℕ
bit_of maps p = bit_at (slice_index maps (p / 64)) (p % 64)
