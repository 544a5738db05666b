-- No public clause cites this module.
-- Rows, as the five rows of numbers that they stand for, and what callers see of them.

use Rattle.std.specs.Prelude.{◌≡◌, ℕ, ◌+◌, ◌-◌, ◌<◌, List, length, map, slice_index, take, Option}
use Rattle.dq_wheel.specs.Circle.{IsCircles, IsTakenOff}
use Rattle.dq_wheel.specs.Seen.{homes_seen, numbers_seen}
use Rattle.dq_wheel.specs.declared.lists.Row.{Row}
use Rattle.dq_wheel.specs.declared.lists.TheConstants.{NOT_FILED}

-- what follows each number
abbrev pub nexts : List Row → List ℕ
nexts rows = map (λ r. r.next) rows

-- what each number follows
abbrev pub prevs : List Row → List ℕ
prevs rows = map (λ r. r.prev) rows

-- one more than the list in which each number stands, or 0
abbrev pub homes : List Row → List ℕ
homes rows = map (λ r. r.home) rows

-- the tick at which each number is filed, as it is kept
abbrev pub filed_numbers : List Row → List ℕ
filed_numbers rows = map (λ r. r.filed) rows

-- how often each number moved
abbrev pub moves_made : List Row → List ℕ
moves_made rows = map (λ r. r.moves) rows

-- the homes of the first entries
abbrev pub entry_homes : ℕ → List Row → List ℕ
entry_homes cap rows = take cap (homes rows)

-- the ticks at which they are filed
abbrev pub entry_filed : ℕ → List Row → List ℕ
entry_filed cap rows = take cap (filed_numbers rows)

-- how often they moved
abbrev pub entry_moves : ℕ → List Row → List ℕ
entry_moves cap rows = take cap (moves_made rows)

-- the homes of the entries as they are seen
abbrev pub shown_homes : ℕ → Option ℕ → List Row → List ℕ
shown_homes cap opened rows = take cap (homes_seen cap opened (homes rows))

-- the ticks at which each number is seen to be filed
abbrev pub shown_numbers : Option ℕ → ℕ → List Row → List ℕ
shown_numbers opened tick rows = numbers_seen opened tick (homes rows) (filed_numbers rows)

-- those of the entries
abbrev pub shown_filed : ℕ → Option ℕ → ℕ → List Row → List ℕ
shown_filed cap opened tick rows = take cap (shown_numbers opened tick rows)

-- the rows are circular lists, as they are seen
abbrev pub AreSeenCircles : ℕ → Option ℕ → List Row → Type 0
AreSeenCircles cap opened rows =
    IsCircles cap (nexts rows) (prevs rows) (homes_seen cap opened (homes rows))

-- the neighbours of a number are numbers, and link back to it
pub record HasNeighbours (rows : List Row) (x : ℕ) : Type 0 where
  pub next_in : slice_index (nexts rows) x < length rows
  pub prev_in : slice_index (prevs rows) x < length rows
  pub back : slice_index (prevs rows) (slice_index (nexts rows) x) ≡ x
  pub forth : slice_index (nexts rows) (slice_index (prevs rows) x) ≡ x

-- the rows are circular lists
abbrev pub AreCircles : ℕ → List Row → Type 0
AreCircles cap rows = IsCircles cap (nexts rows) (prevs rows) (homes rows)

-- the rows are circular lists but list p, which was taken off its head and goes on at `at`
abbrev pub AreTakenFrom : ℕ → ℕ → ℕ → List Row → Type 0
AreTakenFrom cap p at rows = IsTakenOff cap p at (nexts rows) (prevs rows) (homes rows)

-- each follows itself, each head stands in its list, and none is filed or has moved
pub record AreAlone (cap : ℕ) (rows : List Row) : Type 0 where
  pub next : (x : ℕ) → x < length rows → slice_index (nexts rows) x ≡ x
  pub prev : (x : ℕ) → x < length rows → slice_index (prevs rows) x ≡ x
  pub home : (x : ℕ) → x < length rows → slice_index (homes rows) x ≡ x + 1 - cap
  pub filed : (x : ℕ) → x < length rows → slice_index (filed_numbers rows) x ≡ NOT_FILED
  pub moves : (x : ℕ) → x < length rows → slice_index (moves_made rows) x ≡ 0
