use Rattle.std.proofs.Common.{◌<◌, ap, ◌∙◌, sym, arith}
use Rattle.dq_bell.specs.declared.rule.SeatView.{SeatView}
use Rattle.dq_bell.specs.Seats.{LeaderSeat}
use Rattle.dq_bell.proofs.Steps.{deals}
use Rattle.dq_bell.proofs.leader.Leader.add_place.Goals as goal

pub split_seat-seat-requires : goal.split_seat-seat-requires
split_seat-seat-requires g c =
    let e = c.deref.ensures in
    let i = c.self.invariant in
    let z = i.0.0 ∙ sym (ap (λ b. b.shared.table_id) e) in
    let dealt = ap (λ (s : LeaderSeat). s.dealt) c.self.view_is in
    let places = ap (λ (s : LeaderSeat). s.places) c.self.view_is in
    let key = ap (λ b. b.shared.key) e in
    let mine = ap (λ (v : SeatView). v.dealt) i.1 in
    let room : c.self.inside.seat.me.0.dealt < c.deref.result.now.shared.key = (let a = i.0.2 in let r = c.requires in omega arith) in (
      z,
      (let w = ap (λ b. b.shared.table_id.words) e in let a = i.0.1 in omega arith),
      deals c.deref.result.now.shared.key c.self.inside.seat.id c.self.inside.seat.me.0 (ap (λ (v : SeatView). v.leads) i.1) (ap (λ (v : SeatView). v.writes) i.1) room,
    )
