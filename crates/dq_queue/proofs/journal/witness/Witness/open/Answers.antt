use Rattle.std.proofs.Common.{ap, ◌∙◌, sym, arith}
use Rattle.dq_queue.specs.Known.{Known}
use Rattle.dq_queue.proofs.JournalSteps.{opens}
use Rattle.dq_queue.proofs.journal.witness.Witness.open.Goals as goal

pub split_seat-seat-requires : goal.split_seat-seat-requires
split_seat-seat-requires g c =
    let e = c.deref.ensures in
    let i = c.self.invariant in
    let own = ap (λ (s : Known _). s.view) c.self.view_is in
    let z = i.0 ∙ sym (ap (λ b. b.shared.table_id) e) in (
      z,
      (let w = ap (λ b. b.shared.table_id.words) e in let one = i.1 in omega arith),
      opens c.deref.result.now.shared.key c.self.inside.seat.id c.self.inside.seat.me.0 (rw own c.requires.keeper.0) (rw own c.requires.keeper.1),
    )
