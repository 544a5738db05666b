use Rattle.std.proofs.Common.{ap, ◌∙◌, sym, arith}
use Rattle.dq_queue.specs.Known.{Known}
use Rattle.dq_queue.proofs.JournalSteps.{writes}
use Rattle.dq_queue.proofs.journal.witness.Witness.enter_said.Goals as goal

pub load-requires : goal.load-requires
load-requires g c =
    let e = c.deref.ensures in
    let i = c.self.invariant in
    let own = ap (λ (s : Known _). s.view) c.self.view_is in
    let z = i.0 ∙ sym (ap (λ b. b.shared.table_id) e) in (
      z,
      (let w = ap (λ b. b.shared.table_id.words) e in let one = i.1 in omega (arith, w, one)),
      writes c.deref.result.now.shared.key c.deref.result.now.shared.table_id.slots c.self.inside.seat.id c.self.inside.seat.me.0 c.self.inside.seat.me.1 (rw own c.requires.keeper) (rw own c.requires.holds) g.P.Says.said,
    )
