use Rattle.std.proofs.Common.{◌<◌, ap, ◌∙◌, sym, arith}
use Rattle.dq_bell.specs.declared.rule.SeatView.{SeatView}
use Rattle.dq_bell.specs.Seats.{LeaderSeat}
use Rattle.dq_bell.proofs.Steps.{looks_ok}
use Rattle.dq_bell.proofs.leader.Leader.look.Goals as goal

pub load-found-requires : goal.load-found-requires
load-found-requires g c =
    let e = c.deref.ensures in
    let i = c.self.invariant in
    let z = i.0.0 ∙ sym (ap (λ b. b.shared.table_id) e) in
    let seen = ap (λ (s : LeaderSeat). s.seen) c.self.view_is in
    let places = ap (λ (s : LeaderSeat). s.places) c.self.view_is in
    let key = ap (λ b. b.shared.key) e in
    let small : c.args.at < c.deref.result.now.shared.key = (let a = i.0.2 in let r = c.requires.inside in omega arith) in (
      z,
      (let w = ap (λ b. b.shared.table_id.words) e in let a = i.0.1 in let r = c.requires.inside in omega arith),
      looks_ok c.deref.result.now.shared.key c.deref.result.now.shared.table_id.slots c.self.inside.seat.id c.self.inside.seat.me.0 c.self.inside.seat.me.1 (ap (λ (v : SeatView). v.leads) i.1) (ap (λ (v : SeatView). v.writes) i.1) c.args.at (c.requires.next ∙ sym seen) small,
    )
