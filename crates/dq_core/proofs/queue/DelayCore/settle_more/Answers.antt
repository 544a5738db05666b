use Rattle.std.proofs.Common.{◌∙◌, arith, refl, subst}
use Rattle.dq_core.specs.Pieces.{SettlesByLook}
use Rattle.dq_core.proofs.PieceSteps.{looks_init, looks_on, looks_stop}
use Rattle.dq_core.proofs.Settings.{stays, sets_then}
use Rattle.dq_core.proofs.queue.DelayCore.settle_more.Goals as goal

pub loop-made-init : goal.loop-made-init
loop-made-init g c = (omega arith, looks_init g.W.Words.shared c.args.self.now, refl, λ i s d b. b, omega arith, c.requires.due, stays _ _)

pub loop-made-preserved : goal.loop-made-preserved
loop-made-preserved g c =
    let look = c.settle_by_look-is_settled.ensures in
    let settles = subst (λ r. SettlesByLook g.W.Words.shared c.loop-made.self r c.settle_by_look-is_settled.new.self) c.if-not-is_settled.false look.settles in (
      omega (arith, c.loop-made-test.true),
      looks_on g.W.Words.shared c.args.self.now c.loop-made.self c.settle_by_look-is_settled.new.self c.loop-made.made c.loop-made.invariant.1 look.same look.noted settles,
      look.origin ∙ c.loop-made.invariant.2,
      λ i s d b. look.begun i s d (c.loop-made.invariant.3 i s d b),
      omega (arith, look.one_step, c.loop-made.invariant.4),
      look.next,
      sets_then c.loop-made.invariant.6 look.deferred,
    )

pub returns-then-not-is_settled-clause-looks : goal.returns-then-not-is_settled-clause-looks
returns-then-not-is_settled-clause-looks g c =
    let look = c.settle_by_look-is_settled.ensures in
    let settles = subst (λ r. SettlesByLook g.W.Words.shared c.loop-made.self r c.settle_by_look-is_settled.new.self) c.if-not-is_settled.true look.settles in
    looks_stop g.W.Words.shared c.args.self.now c.loop-made.self c.settle_by_look-is_settled.new.self c.loop-made.made c.loop-made.invariant.1 settles

pub returns-then-not-is_settled-clause-deferred : goal.returns-then-not-is_settled-clause-deferred
returns-then-not-is_settled-clause-deferred g c = sets_then c.loop-made.invariant.6 c.settle_by_look-is_settled.ensures.deferred
