-- No public clause cites this module.
-- In which list an index is at home: list 64 * level + slot is that slot. At level 0 the list of
-- the tick's own digit is the due list, since what is filed later stands in another one.

use Rattle.std.specs.Prelude.{List, length, slice_index, sum, Option, None, Some, ◌≡◌, ◌≢◌, ℕ, ◌+◌}
use Rattle.std.specs.Prelude.{◌-◌, ◌*◌, ◌<◌, ◌≤◌, ◌==◌, if◌then◌else◌}
use Rattle.dq_ticks.specs.Digits.{digit_of, level}
use Rattle.dq_ticks.specs.Units.{lap, tick_limit}
use Rattle.dq_ticks.specs.declared.TheConstants.{CAPACITY_LIMIT}
use Rattle.dq_wheel.specs.State.{filed_at}
use Rattle.dq_wheel.specs.Places.{place_of_list}
use Rattle.dq_wheel.specs.declared.wheel.Place.{Place}
use Rattle.dq_wheel.specs.declared.wheel.Place.TheVariants.{Loose}

-- the list in which f stands at tick e
abbrev pub list_number : ℕ → ℕ → ℕ
list_number e f = 64 * level e f + digit_of f (level e f)

-- the place that a home stands for
abbrev pub place_of_home : ℕ → ℕ → Place
place_of_home e home = if home == 0 then Loose else place_of_list e (home - 1)

-- what a filed tick, a home and a count of moves say of one index: it is in reach, stands in the
-- list of its place, and has moved at most as often as it came down from the top level
pub record IsAt (e f home moves : ℕ) : Type 0 where
  pub not_before : e ≤ f
  pub in_range : f < tick_limit
  pub near : f < e + lap
  pub number : home ≡ list_number e f + 1
  pub few : moves + level e f ≤ 5

-- the same of an index that may be loose
abbrev pub IsHome : ℕ → Option ℕ → ℕ → ℕ → Type 0
IsHome e None home moves = (home ≡ 0) × (moves ≡ 0)
IsHome e (Some f) home moves = IsAt e f home moves

-- what a wheel keeps of its tick and rows
pub record IsLawfulFiling (tick : ℕ) (filed : List (Option ℕ)) (moves homes : List ℕ) : Type 0 where
  pub large : 0 < length homes
  pub small : length homes ≤ CAPACITY_LIMIT
  pub filed_size : length filed ≡ length homes
  pub moves_size : length moves ≡ length homes
  pub in_range : tick < tick_limit
  pub home : (i : ℕ) → i < length homes →
      IsHome tick (filed_at filed i) (slice_index homes i) (slice_index moves i)

-- the home of an index that is filed at f, once list p was opened at tick e
abbrev pub home_after : ℕ → ℕ → ℕ → ℕ → ℕ
home_after e p f home = if home == p + 1 then list_number e f + 1 else home

-- its moves then: one more where it stood in the opened list and isn't due
abbrev pub moves_after : ℕ → ℕ → ℕ → ℕ → ℕ → ℕ
moves_after e p f home moves =
    if home == p + 1 then (if e == f then moves else moves + 1) else moves

-- an index that is filed at f may go from list p to the list that its tick names at tick e: from
-- level 1 to level 0, and from level 2 to level 1 or 0, as its second digit says
pub record CanGo (e p f moves : ℕ) : Type 0 where
  pub not_before : e ≤ f
  pub in_range : f < tick_limit
  pub away : list_number e f ≢ p
  pub few : moves < 255
  pub lowest : p < 128 → level e f ≡ 0
  pub second : 128 ≤ p → p < 192 → level e f ≡ (if digit_of f 1 == 0 then 0 else 1)

-- list p was opened at tick e: each of its indexes is placed again, no other is, and the moves that
-- were made are counted
pub record IsOpened (e p : ℕ) (filed homes moves homes2 moves2 : List ℕ) (made : ℕ) : Type 0 where
  pub size : length homes2 ≡ length homes
  pub moves_size : length moves2 ≡ length homes
  pub placed : (i : ℕ) → i < length homes →
      slice_index homes2 i ≡ home_after e p (slice_index filed i) (slice_index homes i)
  pub counted : (i : ℕ) → i < length homes →
      slice_index moves2 i
      ≡ moves_after e p (slice_index filed i) (slice_index homes i) (slice_index moves i)
  pub sum : sum moves2 ≡ sum moves + made
