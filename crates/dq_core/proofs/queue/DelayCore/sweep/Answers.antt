use Rattle.dq_core.proofs.Dropped.{sweeps_dropped}
use Rattle.dq_core.proofs.queue.DelayCore.sweep.Goals as goal

pub returns : goal.returns
returns g c =
    let s = c.sweep_deferring-reaped.ensures in
    rw c.drop_deferred.ensures.rest
    (record { reaped = s.reaped; fewer = s.fewer; counts = s.counts; noted = s.noted; tick = s.tick; none = c.drop_deferred.ensures.none; sweeps = sweeps_dropped g.W.Words.shared _ _ _ _ s.sweeps; same = s.same; origin = s.origin; begun = s.begun })
