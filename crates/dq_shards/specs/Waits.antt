-- What a poller may wait for.
use Rattle.std.specs.Prelude.{ℕ, nat_le, Bool, true, false, Option, Some, None}

-- whether one that waits for a tick may go on waiting at a next wake: its tick isn't after it
abbrev pub lasts_until : ℕ → Option ℕ → Bool
lasts_until next None = false
lasts_until next (Some wake) = nat_le next wake

-- whether a wait for a tick is over at one
abbrev pub ends_by_tick : ℕ → ℕ → Bool
ends_by_tick next tick = nat_le next tick

-- the same of one that waits for a tick, or without one while nothing is linked
abbrev pub lasts_or_idles : Option ℕ → Option ℕ → Bool
lasts_or_idles (Some next) wake = lasts_until next wake
lasts_or_idles None (Some wake) = false
lasts_or_idles None None = true

-- whether such a wait is over at a tick
abbrev pub wait_ends_by : Option ℕ → ℕ → Bool
wait_ends_by (Some next) tick = nat_le next tick
wait_ends_by None tick = false
