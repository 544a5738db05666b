-- No public clause cites this module.
-- How rows are seen while a list is open. Its circle hangs on the head of list 0, which is the due
-- list then, and each of its entries is seen there, filed at the tick of the opening. The rows of
-- the entries stay as they are: they say the old list, and the tick at which they were filed.

use Rattle.std.specs.Prelude.{◌≢◌, ℕ, zero, suc, ◌+◌, List, [], ◌∷◌, Option, Some, None}
use Rattle.std.specs.Prelude.{if◌then◌else◌, ◌==◌}
use Rattle.dq_wheel.specs.Homes.{list_number}
use Rattle.dq_wheel.specs.Wakes.{IsWithin}

-- the home that is seen of an entry, by that in its row, where that list is open
abbrev pub home_seen : Option ℕ → ℕ → ℕ
home_seen None home = home
home_seen (Some p) home = if home == p + 1 then 1 else home

-- the number that is seen, which says where it is filed
abbrev pub number_seen : Option ℕ → ℕ → ℕ → ℕ → ℕ
number_seen None tick home number = number
number_seen (Some p) tick home number = if home == p + 1 then tick else number

-- the homes that are seen of rows, of which so many are entries and the others heads
unfoldable pub homes_seen : ℕ → Option ℕ → List ℕ → List ℕ
homes_seen zero opened homes = homes
homes_seen (suc n) opened [] = []
homes_seen (suc n) opened (home ∷ homes) = home_seen opened home ∷ homes_seen n opened homes

-- the numbers that are seen of rows, by their homes
unfoldable pub numbers_seen : Option ℕ → ℕ → List ℕ → List ℕ → List ℕ
numbers_seen opened tick [] numbers = []
numbers_seen opened tick (home ∷ homes) [] = []
numbers_seen opened tick (home ∷ homes) (number ∷ numbers) =
    number_seen opened tick home number ∷ numbers_seen opened tick homes numbers

-- at tick e the place of no index is that of the open list
abbrev pub IsUnnamed : ℕ → Option ℕ → Type 0
IsUnnamed e None = Unit {0}
IsUnnamed e (Some p) = (f : ℕ) → IsWithin e f → list_number e f ≢ p
