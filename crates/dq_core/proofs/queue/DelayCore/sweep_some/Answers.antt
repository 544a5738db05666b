use Rattle.dq_core.proofs.Dropped.{sweeps_some_dropped}
use Rattle.dq_core.proofs.queue.DelayCore.sweep_some.Goals as goal

pub returns : goal.returns
returns g c =
    let s = c.sweep_some_deferring-swept.ensures in
    rw c.drop_deferred.ensures.rest
    (record { reaped = s.reaped; fewer = s.fewer; others = s.others; next = s.next; few_steps = s.few_steps; counts = s.counts; noted = s.noted; tick = s.tick; none = c.drop_deferred.ensures.none; sweeps = sweeps_some_dropped g.W.Words.shared _ _ _ _ _ _ s.sweeps; same = s.same; origin = s.origin; begun = s.begun })
