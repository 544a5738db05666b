-- Ticks by their base-64 digits: the level and the slot at which a tick stands, seen from another.
use Rattle.std.specs.Prelude.{ℕ, zero, suc, ◌+◌, ◌*◌, ◌-◌, ◌/◌, ◌%◌, ◌^◌, ◌<◌, ◌==◌, nat_lt, min}
use Rattle.std.specs.Prelude.{if◌then◌else◌}
use Rattle.dq_ticks.specs.Units.{lap, tick_limit, top_span}

-- the base-64 digit of t at that place
abbrev pub digit_of : ℕ → ℕ → ℕ
digit_of t place = t / 64 ^ place % 64

-- the highest of the first n places in which the digits of e and f differ, or 0 where there is none
abbrev pub highest_differing : ℕ → ℕ → ℕ → ℕ
highest_differing zero e f = 0
highest_differing (suc n) e f = if digit_of e n == digit_of f n then highest_differing n e f else n

-- the level at which f stands, seen from e: the highest of their seven places that differs, or the
-- top level 5 where that is higher
unfoldable pub level : ℕ → ℕ → ℕ
level e f = min 5 (highest_differing 7 e f)

-- below the top level the tick e with the digit at that place set to k, and all lower digits 0; the
-- top level goes round: there the least multiple of its slots' span that is after e and has that
-- digit
unfoldable pub start : ℕ → ℕ → ℕ → ℕ
start e place k =
    if place == 5
    then (e / lap + (if nat_lt (digit_of e 5) k then 0 else 1)) * lap + k * top_span
    else e / 64 ^ (place + 1) * 64 ^ (place + 1) + k * 64 ^ place

-- the start of the slot in which f stands, seen from e
unfoldable pub start_for : ℕ → ℕ → ℕ
start_for e f = start e (level e f) (digit_of f (level e f))

-- how many slots of a level come before slot k: on the lap the slot after the tick's own comes
-- first
abbrev pub turn : ℕ → ℕ → ℕ → ℕ
turn e place k = if place == 5 then (k + 63 - digit_of e 5) % 64 else k

-- f is a tick after e, less than a lap ahead
pub record IsAhead (e f : ℕ) : Type 0 where
  pub later : e < f
  pub near : f < e + lap
  pub in_range : f < tick_limit
