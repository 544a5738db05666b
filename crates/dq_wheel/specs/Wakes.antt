-- When a wheel has to be looked at next.

use Rattle.std.specs.Prelude.{◌≡◌, ◌⊎◌, ℕ, ◌+◌, ◌/◌, ◌%◌, ◌<◌, ◌≤◌, ◌==◌}
use Rattle.std.specs.Prelude.{List, Option, Some, if◌then◌else◌}
use Rattle.dq_ticks.specs.Digits.{digit_of, start, start_for}
use Rattle.dq_ticks.specs.Units.{lap, tick_limit}
use Rattle.dq_wheel.specs.Lists.{IsListEmpty}
use Rattle.dq_wheel.specs.Maps.{IsFirstFilled}
use Rattle.dq_wheel.specs.State.{filed_at, NoneFiledAt}
use Rattle.dq_wheel.specs.declared.TheConstants.{LISTS}

-- the first list that is filled, seen from a tick, and its start, which isn't after the limit
abbrev pub IsStop : ℕ → ℕ → List ℕ → ℕ → ℕ → Type 0
IsStop tick limit homes list begin =
    IsFirstFilled (digit_of tick 5) homes list × (begin ≡ start tick (list / 64) (list % 64))
    × (begin ≤ limit)

-- no list is filled, or the first one starts after the limit
abbrev pub StopsLater : ℕ → ℕ → List ℕ → Type 0
StopsLater tick limit homes =
    ((p : ℕ) → p < LISTS → IsListEmpty homes p)
    ⊎ ((list : ℕ) × IsFirstFilled (digit_of tick 5) homes list
    × (limit < start tick (list / 64) (list % 64)))

-- f is a tick from e on, less than a lap after it
pub record IsWithin (e f : ℕ) : Type 0 where
  pub not_before : e ≤ f
  pub in_range : f < tick_limit
  pub near : f < e + lap

-- when an index that is filed at f has to be looked at: now, or when its slot starts
abbrev pub wake_for : ℕ → ℕ → ℕ
wake_for e f = if e == f then e else start_for e f

-- w is the least of these over all that are filed
pub record IsNextWake (e : ℕ) (filed : List (Option ℕ)) (w : ℕ) : Type 0 where
  pub some : (i : ℕ) × (f : ℕ) × (filed_at filed i ≡ Some f) × (w ≡ wake_for e f)
  pub least : (i f : ℕ) → filed_at filed i ≡ Some f → w ≤ wake_for e f

-- where nothing is due, what wakes next wakes after the tick
abbrev pub WakesAreAhead : Type 0
WakesAreAhead =
    (e : ℕ) (filed : List (Option ℕ)) (w : ℕ) →
    ((i f : ℕ) → filed_at filed i ≡ Some f → IsWithin e f) →
    NoneFiledAt filed e →
    IsNextWake e filed w → e < w
