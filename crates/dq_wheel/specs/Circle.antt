-- No public clause cites this module.
-- Circular lists of indexes, linked both ways. The numbers from 0 are entries, and the number
-- cap + p is the head of list p.

use Rattle.std.specs.Prelude.{◌≡◌, ℕ, ◌+◌, ◌<◌, ◌≤◌, ◌==◌, ◌&&◌, nat_lt, if◌then◌else◌, List}
use Rattle.std.specs.Prelude.{length, slice_index}
use Rattle.dq_ticks.specs.declared.TheConstants.{CAPACITY_LIMIT}
use Rattle.dq_wheel.specs.Walks.{IsWalk, occurrences}
use Rattle.dq_wheel.specs.declared.TheConstants.{LISTS}

-- what the links of a number say that stands in a list
pub record Node (size : ℕ) (next prev home : ℕ → ℕ) (x : ℕ) : Type 0 where
  pub next_in : next x < size
  pub prev_in : prev x < size
  pub next_home : home (next x) ≡ home x
  pub prev_home : home (prev x) ≡ home x
  pub back : prev (next x) ≡ x
  pub forth : next (prev x) ≡ x

-- `home x` is one more than the list in which x stands, or 0. Along `prev` the rank falls until the
-- head.
pub record Circle (cap lists : ℕ) (next prev home rank : ℕ → ℕ) : Type 0 where
  pub head_home : (p : ℕ) → p < lists → home (cap + p) ≡ p + 1
  pub home_le : (x : ℕ) → x < cap → home x ≤ lists
  pub node : (x : ℕ) → x < cap + lists → 0 < home x → Node (cap + lists) next prev home x
  pub falls : (x : ℕ) → x < cap → 0 < home x → rank (prev x) < rank x

-- the lists of a wheel over cap entries
pub record IsCircles (cap : ℕ) (next prev homes : List ℕ) : Type 0 where
  pub small : cap ≤ CAPACITY_LIMIT
  pub next_len : length next ≡ cap + LISTS
  pub prev_len : length prev ≡ cap + LISTS
  pub homes_len : length homes ≡ cap + LISTS
  pub rank : ℕ → ℕ
  pub circle : Circle cap LISTS (slice_index next) (slice_index prev) (slice_index homes) rank

-- the home of x, where an entry of list p counts as loose
abbrev pub home_but : ℕ → ℕ → List ℕ → ℕ → ℕ
home_but cap p homes x =
    if nat_lt x cap && (slice_index homes x == p + 1) then 0 else slice_index homes x

-- List p was taken off its head: its entries follow one another from `at` on, and end at the head.
-- The other lists are circles.
pub record IsTakenOff (cap p at : ℕ) (next prev homes : List ℕ) : Type 0 where
  pub small : cap ≤ CAPACITY_LIMIT
  pub next_len : length next ≡ cap + LISTS
  pub prev_len : length prev ≡ cap + LISTS
  pub homes_len : length homes ≡ cap + LISTS
  pub rank : ℕ → ℕ
  pub circle : Circle cap LISTS (slice_index next) (slice_index prev) (home_but cap p homes) rank
  pub list : List ℕ
  pub walk : IsWalk cap (slice_index next) (cap + p) at list
  pub once : (i : ℕ) → i < cap →
      occurrences i list ≡ (if slice_index homes i == p + 1 then 1 else 0)
