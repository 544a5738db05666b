use Rattle.std.proofs.Common.{ℕ, ◌+◌, ◌-◌, ◌≤◌, ap, ◌∙◌, arith, subst}
use Rattle.dq_core.specs.Deferring.{given_at, DefersValues}
use Rattle.dq_core.specs.Pieces.{IsPieceBy}
use Rattle.dq_core.proofs.PieceSteps.{piece_init, piece_more, out_due, piece_out, piece_waiting, piece_idle}
use Rattle.dq_core.proofs.Settings.{stays_as, sets_then}
use Rattle.dq_core.proofs.queue.DelayCore.poll_some_deferring.Goals as goal

in_all : (x y z made more most : ℕ) → x ≤ y + more → y ≤ z + made → more ≤ most - made → made ≤ most → x ≤ z + most
in_all x y z made more most a b d e = omega arith

up_to : (y z made most : ℕ) → y ≤ z + made → made ≤ most → y ≤ z + most
up_to y z made most a b = omega arith

pub loop-made-init : goal.loop-made-init
loop-made-init g c = (
  omega arith,
  piece_init g.W.Words.shared c.args.self.now c.note.new.self c.args.tick (omega (arith, c.if-tick-gt-LAST_TICK.false)) c.note.ensures,
  ap (λ q. g.W.Words.origin q.words) c.note.ensures,
  λ i s d b. rw (ap (λ q. q.words) c.note.ensures) b,
  rw (ap (λ q. q.words) c.note.ensures) (omega arith),
  stays_as _ _ _ _ (ap (λ q. q.slots.rows) c.note.ensures) (ap (λ q. q.deferred) c.note.ensures),
)

pub loop-made-preserved : goal.loop-made-preserved
loop-made-preserved g c =
    let made = c.look_then_step-progress.result.1 in
    let step = c.look_then_step-progress.ensures in
    let piece = subst (λ m. IsPieceBy g.W.Words.shared c.loop-made.self made m c.look_then_step-progress.new.self) c.in-Went.is step.piece in (
      omega (arith, c.loop-made.invariant.0, step.few),
      piece_more g.W.Words.shared c.args.self.now c.loop-made.self c.look_then_step-progress.new.self c.args.tick c.loop-made.made made c.loop-made.invariant.1 step.some step.same step.noted piece,
      step.origin ∙ c.loop-made.invariant.2,
      λ i s d b. step.begun i s d (c.loop-made.invariant.3 i s d b),
      omega (arith, step.few_steps, c.loop-made.invariant.4),
      sets_then c.loop-made.invariant.5 (subst (λ p. DefersValues c.loop-made.self (given_at p) c.look_then_step-progress.new.self) c.in-Went.is step.deferred),
    )

pub returns-in-Gave-clause-polls : goal.returns-in-Gave-clause-polls
returns-in-Gave-clause-polls g c =
    let step = c.look_then_step-progress.ensures in
    let piece = subst (λ m. IsPieceBy g.W.Words.shared c.loop-made.self c.look_then_step-progress.result.1 m c.look_then_step-progress.new.self) c.in-Gave.is step.piece in
    piece_out g.W.Words.shared c.args.self.now c.loop-made.self c.look_then_step-progress.new.self c.args.tick c.loop-made.made c.args.most c.in-Gave.expired c.loop-made.invariant.1 piece step.noted
    (omega (arith, c.loop-made-test.true))

pub returns-in-Gave-clause-out : goal.returns-in-Gave-clause-out
returns-in-Gave-clause-out g c =
    let step = c.look_then_step-progress.ensures in
    let piece = subst (λ m. IsPieceBy g.W.Words.shared c.loop-made.self c.look_then_step-progress.result.1 m c.look_then_step-progress.new.self) c.in-Gave.is step.piece in
    out_due g.W.Words.shared c.loop-made.self c.look_then_step-progress.new.self c.in-Gave.expired piece

pub returns-in-Some-clause-polls : goal.returns-in-Some-clause-polls
returns-in-Some-clause-polls g c =
    let step = c.look_then_step-progress.ensures in
    let piece = subst (λ m. IsPieceBy g.W.Words.shared c.loop-made.self c.look_then_step-progress.result.1 m c.look_then_step-progress.new.self) c.in-Rests.is step.piece in
    piece_waiting g.W.Words.shared c.args.self.now c.loop-made.self c.look_then_step-progress.new.self c.args.tick c.loop-made.made c.args.most c.in-Some.next c.loop-made.invariant.1 c.loop-made.invariant.0 piece c.in-Some.ensures.wake c.in-Some.ensures.ahead

pub returns-in-None-clause-polls : goal.returns-in-None-clause-polls
returns-in-None-clause-polls g c =
    let step = c.look_then_step-progress.ensures in
    let piece = subst (λ m. IsPieceBy g.W.Words.shared c.loop-made.self c.look_then_step-progress.result.1 m c.look_then_step-progress.new.self) c.in-Rests.is step.piece in
    piece_idle g.W.Words.shared c.args.self.now c.loop-made.self c.look_then_step-progress.new.self c.args.tick c.loop-made.made c.args.most c.loop-made.invariant.1 c.loop-made.invariant.0 piece c.in-None.ensures.wake

pub returns-in-Gave-clause-deferred : goal.returns-in-Gave-clause-deferred
returns-in-Gave-clause-deferred g c =
    sets_then c.loop-made.invariant.5
    (subst (λ p. DefersValues c.loop-made.self (given_at p) c.look_then_step-progress.new.self) c.in-Gave.is c.look_then_step-progress.ensures.deferred)

pub returns-in-Some-clause-deferred : goal.returns-in-Some-clause-deferred
returns-in-Some-clause-deferred g c =
    sets_then c.loop-made.invariant.5
    (subst (λ p. DefersValues c.loop-made.self (given_at p) c.look_then_step-progress.new.self) c.in-Rests.is c.look_then_step-progress.ensures.deferred)

pub returns-in-None-clause-deferred : goal.returns-in-None-clause-deferred
returns-in-None-clause-deferred g c =
    sets_then c.loop-made.invariant.5
    (subst (λ p. DefersValues c.loop-made.self (given_at p) c.look_then_step-progress.new.self) c.in-Rests.is c.look_then_step-progress.ensures.deferred)

pub returns-in-Gave-clause-noted : goal.returns-in-Gave-clause-noted
returns-in-Gave-clause-noted g c = c.look_then_step-progress.ensures.noted ∙ c.loop-made.invariant.1.2

pub returns-in-Gave-clause-same : goal.returns-in-Gave-clause-same
returns-in-Gave-clause-same g c =
    let was = c.loop-made.invariant.1.1 in
    let step = c.look_then_step-progress.ensures.same in
    (step.0 ∙ was.0, step.1 ∙ was.1, step.2 ∙ was.2)

pub returns-in-Gave-clause-origin : goal.returns-in-Gave-clause-origin
returns-in-Gave-clause-origin g c = c.look_then_step-progress.ensures.origin ∙ c.loop-made.invariant.2

pub returns-in-Gave-clause-begun : goal.returns-in-Gave-clause-begun
returns-in-Gave-clause-begun g c = λ i s d b. c.look_then_step-progress.ensures.begun i s d (c.loop-made.invariant.3 i s d b)

pub returns-in-Gave-clause-few_steps : goal.returns-in-Gave-clause-few_steps
returns-in-Gave-clause-few_steps g c =
    let step = c.look_then_step-progress.ensures in
    in_all _ _ _ c.loop-made.made _ c.args.most step.few_steps c.loop-made.invariant.4 step.few c.loop-made.invariant.0

pub returns-in-Some-clause-noted : goal.returns-in-Some-clause-noted
returns-in-Some-clause-noted g c = c.look_then_step-progress.ensures.noted ∙ c.loop-made.invariant.1.2

pub returns-in-Some-clause-same : goal.returns-in-Some-clause-same
returns-in-Some-clause-same g c =
    let was = c.loop-made.invariant.1.1 in
    let step = c.look_then_step-progress.ensures.same in
    (step.0 ∙ was.0, step.1 ∙ was.1, step.2 ∙ was.2)

pub returns-in-Some-clause-origin : goal.returns-in-Some-clause-origin
returns-in-Some-clause-origin g c = c.look_then_step-progress.ensures.origin ∙ c.loop-made.invariant.2

pub returns-in-Some-clause-begun : goal.returns-in-Some-clause-begun
returns-in-Some-clause-begun g c = λ i s d b. c.look_then_step-progress.ensures.begun i s d (c.loop-made.invariant.3 i s d b)

pub returns-in-Some-clause-few_steps : goal.returns-in-Some-clause-few_steps
returns-in-Some-clause-few_steps g c =
    let step = c.look_then_step-progress.ensures in
    in_all _ _ _ c.loop-made.made _ c.args.most step.few_steps c.loop-made.invariant.4 step.few c.loop-made.invariant.0

pub returns-in-None-clause-noted : goal.returns-in-None-clause-noted
returns-in-None-clause-noted g c = c.look_then_step-progress.ensures.noted ∙ c.loop-made.invariant.1.2

pub returns-in-None-clause-same : goal.returns-in-None-clause-same
returns-in-None-clause-same g c =
    let was = c.loop-made.invariant.1.1 in
    let step = c.look_then_step-progress.ensures.same in
    (step.0 ∙ was.0, step.1 ∙ was.1, step.2 ∙ was.2)

pub returns-in-None-clause-origin : goal.returns-in-None-clause-origin
returns-in-None-clause-origin g c = c.look_then_step-progress.ensures.origin ∙ c.loop-made.invariant.2

pub returns-in-None-clause-begun : goal.returns-in-None-clause-begun
returns-in-None-clause-begun g c = λ i s d b. c.look_then_step-progress.ensures.begun i s d (c.loop-made.invariant.3 i s d b)

pub returns-in-None-clause-few_steps : goal.returns-in-None-clause-few_steps
returns-in-None-clause-few_steps g c =
    let step = c.look_then_step-progress.ensures in
    in_all _ _ _ c.loop-made.made _ c.args.most step.few_steps c.loop-made.invariant.4 step.few c.loop-made.invariant.0

pub returns-clause-noted : goal.returns-clause-noted
returns-clause-noted g c = c.loop-made.invariant.1.2

pub returns-clause-same : goal.returns-clause-same
returns-clause-same g c = c.loop-made.invariant.1.1

pub returns-clause-origin : goal.returns-clause-origin
returns-clause-origin g c = c.loop-made.invariant.2

pub returns-clause-begun : goal.returns-clause-begun
returns-clause-begun g c = c.loop-made.invariant.3

pub returns-clause-few_steps : goal.returns-clause-few_steps
returns-clause-few_steps g c = up_to _ _ c.loop-made.made c.args.most c.loop-made.invariant.4 c.loop-made.invariant.0
