use Rattle.std.proofs.Common.{true, Ok, refl, ap, ◌∙◌, subst, arith}
use Rattle.dq_core.specs.Calls.{Polls}
use Rattle.dq_words.proofs.Outs.{none_behind, one_more_behind}
use Rattle.dq_words.proofs.many.poll_into.Goals as goal

pub loop-place-init : goal.loop-place-init
loop-place-init g c = (
  omega (arith, c.len-place.ensures),
  omega (arith, c.capacity-place-end.ensures),
  refl,
  omega (arith, c.if-tick-gt-LAST_TICK.false),
  none_behind c.args.queue.now c.args.tick c.args.row.now.items,
  (refl, refl, refl),
  refl,
  λ i s d h. h,
)

pub loop-place-preserved : goal.loop-place-preserved
loop-place-preserved g c =
    let l = c.loop-place in
    let before = l.invariant in
    let pushed = c.push_reserved.ensures in
    let poll = c.poll_deferring.ensures in
    let polled = subst (λ x. Polls true l.queue c.args.tick x c.poll_deferring.new.self) (c.in-Ok-Out.is ∙ ap Ok c.in-Ok-Out.field-0-is) poll.polls in (
      omega (arith, before.0, pushed.len),
      before.1,
      omega (arith, before.2, pushed.capacity),
      before.3,
      one_more_behind c.args.queue.now c.args.tick c.args.row.now.items l.row.items c.push_reserved.new.self.items c.in-Ok-Out.expired l.queue c.poll_deferring.new.self before.4 polled pushed.items,
      (poll.same.0 ∙ before.5.0, poll.same.1 ∙ before.5.1, poll.same.2 ∙ before.5.2),
      poll.origin ∙ before.6,
      λ i s d h. poll.begun i s d (before.7 i s d h),
    )

pub returns-in-Ok-Waiting-clause-same : goal.returns-in-Ok-Waiting-clause-same
returns-in-Ok-Waiting-clause-same g c =
    let before = c.loop-place.invariant in
    let poll = c.poll_deferring.ensures in
    (poll.same.0 ∙ before.5.0, poll.same.1 ∙ before.5.1, poll.same.2 ∙ before.5.2)

pub returns-in-Ok-Waiting-clause-origin : goal.returns-in-Ok-Waiting-clause-origin
returns-in-Ok-Waiting-clause-origin g c = c.poll_deferring.ensures.origin ∙ c.loop-place.invariant.6

pub returns-in-Ok-Waiting-clause-begun : goal.returns-in-Ok-Waiting-clause-begun
returns-in-Ok-Waiting-clause-begun g c = λ i s d h. c.poll_deferring.ensures.begun i s d (c.loop-place.invariant.7 i s d h)

pub returns-in-Ok-Waiting-clause-room : goal.returns-in-Ok-Waiting-clause-room
returns-in-Ok-Waiting-clause-room g c = c.loop-place.invariant.2

pub returns-in-Ok-Idle-clause-same : goal.returns-in-Ok-Idle-clause-same
returns-in-Ok-Idle-clause-same g c =
    let before = c.loop-place.invariant in
    let poll = c.poll_deferring.ensures in
    (poll.same.0 ∙ before.5.0, poll.same.1 ∙ before.5.1, poll.same.2 ∙ before.5.2)

pub returns-in-Ok-Idle-clause-origin : goal.returns-in-Ok-Idle-clause-origin
returns-in-Ok-Idle-clause-origin g c = c.poll_deferring.ensures.origin ∙ c.loop-place.invariant.6

pub returns-in-Ok-Idle-clause-begun : goal.returns-in-Ok-Idle-clause-begun
returns-in-Ok-Idle-clause-begun g c = λ i s d h. c.poll_deferring.ensures.begun i s d (c.loop-place.invariant.7 i s d h)

pub returns-in-Ok-Idle-clause-room : goal.returns-in-Ok-Idle-clause-room
returns-in-Ok-Idle-clause-room g c = c.loop-place.invariant.2

pub returns-clause-same : goal.returns-clause-same
returns-clause-same g c = c.loop-place.invariant.5

pub returns-clause-origin : goal.returns-clause-origin
returns-clause-origin g c = c.loop-place.invariant.6

pub returns-clause-begun : goal.returns-clause-begun
returns-clause-begun g c = c.loop-place.invariant.7

pub returns-clause-room : goal.returns-clause-room
returns-clause-room g c = c.loop-place.invariant.2
