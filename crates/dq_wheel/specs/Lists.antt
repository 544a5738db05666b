-- No public clause cites this module.
-- What the lists hold, by the home of each index: one more than the number of its list, or 0.

use Rattle.std.specs.Prelude.{◌≡◌, ◌≢◌, ℕ, ◌+◌, ◌<◌, ◌≤◌, List, length, slice_index, ◌==◌}
use Rattle.std.specs.Prelude.{if◌then◌else◌, Option, Some}
use Rattle.dq_wheel.specs.Walks.{IsWalk, occurrences}
use Rattle.dq_wheel.specs.declared.TheConstants.{LISTS}

-- the home of each index, the number that says where it is filed, and how often it moved; what
-- follows each index, and behind them what follows the head of each list; the list that is open; and
-- the occupancy maps of the lists
pub record ListsState : Type 0 where
  pub homes : List ℕ
  pub filed : List ℕ
  pub moves : List ℕ
  pub next : List ℕ
  pub opened : Option ℕ
  pub maps : List ℕ

-- index x stands in list p
abbrev pub StandsIn : List ℕ → ℕ → ℕ → Type 0
StandsIn homes p x = (x < length homes) × (slice_index homes x ≡ p + 1)

-- index x stands in the list of index i, and is another
abbrev pub StandsBeside : List ℕ → ℕ → ℕ → Type 0
StandsBeside homes i x =
    (x < length homes) × (slice_index homes x ≡ slice_index homes i) × (x ≢ i)

-- index x stands in no list
abbrev pub IsLoose : List ℕ → ℕ → Type 0
IsLoose homes x = (x < length homes) × (slice_index homes x ≡ 0)

-- list p is one of the wheel's, and not the open one, so that an index may be put into it
abbrev pub TakesMore : Option ℕ → ℕ → Type 0
TakesMore opened p = (p < LISTS) × (opened ≢ Some p)

-- no index stands in list p
abbrev pub IsListEmpty : List ℕ → ℕ → Type 0
IsListEmpty homes p = (x : ℕ) → x < length homes → slice_index homes x ≢ p + 1

-- some index stands in list p
abbrev pub IsListFilled : List ℕ → ℕ → Type 0
IsListFilled homes p = (i : ℕ) × StandsIn homes p i

-- index x stands in list p, and none of its indexes has a lesser key
abbrev pub IsLeastIn : List ℕ → List ℕ → ℕ → ℕ → Type 0
IsLeastIn homes keys p x =
    StandsIn homes p x
    × ((y : ℕ) → StandsIn homes p y → slice_index keys x ≤ slice_index keys y)

-- list p, walked from its head until one is back there, has each index once whose home it is, and
-- no other
pub record IsListOf (next homes : List ℕ) (p : ℕ) : Type 0 where
  pub list : List ℕ
  pub walk : IsWalk (length homes) (slice_index next) (length homes + p)
      (slice_index next (length homes + p)) list
  pub once : (i : ℕ) → i < length homes →
      occurrences i list ≡ (if slice_index homes i == p + 1 then 1 else 0)
