use Rattle.std.proofs.Common.{◌∙◌}
use Rattle.dq_core.proofs.PieceSteps.{polled_due}
use Rattle.dq_core.proofs.Steps.{on_way_more, polled_out, polled_waiting, polled_idle}
use Rattle.dq_core.proofs.Settings.{sets_then}
use Rattle.dq_core.proofs.queue.DelayCore.poll_deferring.Goals as goal

pub returns-in-Gave-clause-polls : goal.returns-in-Gave-clause-polls
returns-in-Gave-clause-polls g c =
    polled_out g.W.Words.shared c.args.self.now c.steps.self c.step.new.self c.args.tick c.in-Gave.expired c.steps.invariant.0 c.in-Gave.ensures.progress c.in-Gave.ensures.noted

pub steps-preserved : goal.steps-preserved
steps-preserved g c = (
  on_way_more g.W.Words.shared c.args.self.now c.steps.self c.step.new.self c.args.tick c.steps.invariant.0 c.in-Went.ensures.same c.in-Went.ensures.noted c.in-Went.ensures.progress.0,
  c.in-Went.ensures.origin ∙ c.steps.invariant.1,
  λ i s d b. c.in-Went.ensures.begun i s d (c.steps.invariant.2 i s d b),
  sets_then c.steps.invariant.3 c.in-Went.ensures.deferred,
)

pub returns-in-Some-clause-polls : goal.returns-in-Some-clause-polls
returns-in-Some-clause-polls g c =
    polled_waiting g.W.Words.shared c.args.self.now c.steps.self c.step.new.self c.args.tick c.in-Some.next c.steps.invariant.0 c.in-Rests.ensures.progress c.in-Some.ensures.wake c.in-Some.ensures.ahead

pub returns-in-None-clause-polls : goal.returns-in-None-clause-polls
returns-in-None-clause-polls g c =
    polled_idle g.W.Words.shared c.args.self.now c.steps.self c.step.new.self c.args.tick c.steps.invariant.0 c.in-Rests.ensures.progress c.in-None.ensures.wake

pub returns-in-Gave-clause-out : goal.returns-in-Gave-clause-out
returns-in-Gave-clause-out g c = polled_due g.W.Words.shared c.steps.self c.step.new.self c.in-Gave.expired c.in-Gave.ensures.progress

pub returns-in-Gave-clause-deferred : goal.returns-in-Gave-clause-deferred
returns-in-Gave-clause-deferred g c = sets_then c.steps.invariant.3 c.in-Gave.ensures.deferred

pub returns-in-Some-clause-deferred : goal.returns-in-Some-clause-deferred
returns-in-Some-clause-deferred g c = sets_then c.steps.invariant.3 c.in-Rests.ensures.deferred

pub returns-in-None-clause-deferred : goal.returns-in-None-clause-deferred
returns-in-None-clause-deferred g c = sets_then c.steps.invariant.3 c.in-Rests.ensures.deferred

pub returns-in-Gave-clause-same : goal.returns-in-Gave-clause-same
returns-in-Gave-clause-same g c =
    let was = c.steps.invariant.0.1 in
    let step = c.in-Gave.ensures.same in
    (step.0 ∙ was.0, step.1 ∙ was.1, step.2 ∙ was.2)

pub returns-in-Gave-clause-origin : goal.returns-in-Gave-clause-origin
returns-in-Gave-clause-origin g c = c.in-Gave.ensures.origin ∙ c.steps.invariant.1

pub returns-in-Gave-clause-begun : goal.returns-in-Gave-clause-begun
returns-in-Gave-clause-begun g c = λ i s d b. c.in-Gave.ensures.begun i s d (c.steps.invariant.2 i s d b)

pub returns-in-Some-clause-same : goal.returns-in-Some-clause-same
returns-in-Some-clause-same g c =
    let was = c.steps.invariant.0.1 in
    let step = c.in-Rests.ensures.same in
    (step.0 ∙ was.0, step.1 ∙ was.1, step.2 ∙ was.2)

pub returns-in-Some-clause-origin : goal.returns-in-Some-clause-origin
returns-in-Some-clause-origin g c = c.in-Rests.ensures.origin ∙ c.steps.invariant.1

pub returns-in-Some-clause-begun : goal.returns-in-Some-clause-begun
returns-in-Some-clause-begun g c = λ i s d b. c.in-Rests.ensures.begun i s d (c.steps.invariant.2 i s d b)

pub returns-in-None-clause-same : goal.returns-in-None-clause-same
returns-in-None-clause-same g c =
    let was = c.steps.invariant.0.1 in
    let step = c.in-Rests.ensures.same in
    (step.0 ∙ was.0, step.1 ∙ was.1, step.2 ∙ was.2)

pub returns-in-None-clause-origin : goal.returns-in-None-clause-origin
returns-in-None-clause-origin g c = c.in-Rests.ensures.origin ∙ c.steps.invariant.1

pub returns-in-None-clause-begun : goal.returns-in-None-clause-begun
returns-in-None-clause-begun g c = λ i s d b. c.in-Rests.ensures.begun i s d (c.steps.invariant.2 i s d b)
