use Rattle.dq_core.proofs.Dropped.{none_out, polled_dropped}
use Rattle.dq_core.proofs.queue.DelayCore.poll.Goals as goal

pub returns : goal.returns
returns g c =
    let polled = c.in_ok-answer.ensures in
    rw c.drop_deferred.ensures.rest
    (record { noted = polled.noted; refused = polled.refused; kept = polled.kept; out = polled.out; waiting = polled.waiting; ahead = polled.ahead; idle = polled.idle; none = λ o. c.drop_deferred.ensures.none; deferred = none_out _ c.in_ok-answer.answer c.in_default.not-Out; polls = polled_dropped g.W.Words.shared _ _ _ _ _ polled.polls; same = polled.same; origin = polled.origin; begun = polled.begun })
