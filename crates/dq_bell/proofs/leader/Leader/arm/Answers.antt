use Rattle.std.proofs.Common.{ap, ◌∙◌, sym, arith}
use Rattle.dq_bell.specs.declared.rule.SeatView.{SeatView}
use Rattle.dq_bell.proofs.Steps.{arms_ok}
use Rattle.dq_bell.proofs.leader.Leader.arm.Goals as goal

pub store-requires : goal.store-requires
store-requires g c =
    let e = c.deref.ensures in
    let i = c.self.invariant in
    let z = i.0.0 ∙ sym (ap (λ b. b.shared.table_id) e) in (
      z,
      (let w = ap (λ b. b.shared.table_id.words) e in let a = i.0.1 in omega arith),
      arms_ok c.deref.result.now.shared.key c.deref.result.now.shared.table_id.slots c.self.inside.seat.id c.self.inside.seat.me.0 c.self.inside.seat.me.1 (ap (λ (v : SeatView). v.leads) i.1) (ap (λ (v : SeatView). v.writes) i.1) c.args.until,
    )
