use Rattle.std.proofs.Common.{ap, ◌∙◌, sym, arith}
use Rattle.dq_queue.specs.Known.{Known}
use Rattle.dq_queue.proofs.JournalSteps.{lends}
use Rattle.dq_queue.proofs.journal.witness.Witness.give_to.Goals as goal

pub split_seat-requires : goal.split_seat-requires
split_seat-requires g c =
    let e = c.deref.ensures in
    let i = c.self.invariant in
    let z = i.0 ∙ sym (ap (λ b. b.shared.table_id) e) in (
      z,
      (let w = ap (λ b. b.shared.table_id.words) e in let one = i.1 in omega (arith, w, one)),
      lends c.deref.result.now.shared.key c.self.inside.seat.id c.self.inside.seat.me.0,
    )
