use Rattle.dq_core.proofs.Dropped.{clears_dropped}
use Rattle.dq_core.proofs.queue.DelayCore.clear.Goals as goal

pub returns : goal.returns
returns g c =
    let s = c.clear_deferring-removed.ensures in
    rw c.drop_deferred.ensures.rest
    (record { empty = s.empty; counts = s.counts; at_most = s.at_most; noted = s.noted; tick = s.tick; none = c.drop_deferred.ensures.none; clears = clears_dropped g.W.Words.shared _ _ _ _ s.clears; same = s.same; origin = s.origin; begun = s.begun })
