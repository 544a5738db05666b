-- Lengths of time in ticks.
use Rattle.std.specs.Prelude.{◌≡◌, ℕ, ◌+◌, ◌*◌, ◌<◌}
use Rattle.dq_ticks.specs.Units.{tick_nanos}

-- a tick is the first that isn't before the end of so many nanoseconds, which comes so many before
-- the tick
pub record RoundsUp (nanos tick early : ℕ) : Type 0 where
  pub meets : tick * tick_nanos ≡ nanos + early
  pub first : early < tick_nanos
