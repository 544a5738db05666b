use Rattle.std.proofs.Common.{◌≡◌, Some, subst}
use Rattle.dq_wheel.specs.State.{filed_at}
use Rattle.dq_core.specs.Pieces.{SettlesByLook}
use Rattle.dq_core.proofs.PieceSteps.{piece_by_two, piece_by_looks}
use Rattle.dq_core.proofs.Settings.{sets_then}
use Rattle.dq_core.proofs.queue.DelayCore.look_then_step.Goals as goal

pub returns-then-is_settled-clause-piece : goal.returns-then-is_settled-clause-piece
returns-then-is_settled-clause-piece g c =
    let look = c.settle_by_look-is_settled.ensures in
    let settles = subst (λ r. SettlesByLook g.W.Words.shared c.args.self.now r c.settle_by_look-is_settled.new.self) c.if-is_settled.true look.settles in
    piece_by_looks g.W.Words.shared c.args.self.now c.settle_by_look-is_settled.new.self c.settle_more-more.new.self c.settle_more-more.result look.same look.noted settles c.settle_more-more.ensures.looks

pub returns-in-Some-clause-piece : goal.returns-in-Some-clause-piece
returns-in-Some-clause-piece g c =
    let due = subst (λ q. filed_at q.wheel.filing.filed c.in-Some.index ≡ Some q.wheel.filing.tick) c.self.view_is c.in-Some.ensures.due in
    let look = c.settle_by_look-is_settled.ensures in
    let same = subst (λ r. SettlesByLook g.W.Words.shared c.args.self.now r c.settle_by_look-is_settled.new.self) c.if-is_settled.false look.settles in
    piece_by_two g.W.Words.shared c.args.self.now c.settle_by_look-is_settled.new.self c.in-Some.index c.step.result c.step.new.self due same c.step.ensures.progress

pub returns-then-is_settled-clause-deferred : goal.returns-then-is_settled-clause-deferred
returns-then-is_settled-clause-deferred g c = sets_then c.settle_by_look-is_settled.ensures.deferred c.settle_more-more.ensures.deferred

pub returns-in-Some-clause-deferred : goal.returns-in-Some-clause-deferred
returns-in-Some-clause-deferred g c = sets_then c.settle_by_look-is_settled.ensures.deferred c.step.ensures.deferred
