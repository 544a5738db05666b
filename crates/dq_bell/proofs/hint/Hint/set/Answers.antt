use Rattle.std.proofs.Common.{◌<◌, ap, ◌∙◌, sym, arith}
use Rattle.dq_bell.specs.declared.rule.SeatView.{SeatView}
use Rattle.dq_bell.proofs.Steps.{lowers_ok, asks_ok, rings_ok}
use Rattle.dq_bell.proofs.hint.Hint.set.Goals as goal

pub store-requires : goal.store-requires
store-requires g c =
    let e = c.deref.ensures in
    let i = c.self.invariant in
    let z = i.0.0 ∙ sym (ap (λ b. b.shared.table_id) e) in (
      z,
      (let w = ap (λ b. b.shared.table_id.words) e in let a = i.0.1 in let b = i.2 in omega arith),
      lowers_ok c.deref.result.now.shared.key c.deref.result.now.shared.table_id.slots c.self.inside.seat.id c.self.inside.seat.me.0 c.self.inside.seat.me.1 (ap (λ (v : SeatView). v.writes) i.1) (ap (λ (v : SeatView). v.leads) i.1) c.self.inside.place c.args.tick (ap (λ (v : SeatView). v.place) i.1),
    )

pub load-until-requires : goal.load-until-requires
load-until-requires g c =
    let e = c.deref-2.ensures in
    let i = c.self.invariant in
    let s = c.store.ensures in
    let z = i.0.0 ∙ sym (ap (λ b. b.shared.table_id) e) in (
      s.0 ∙ z,
      (let w = ap (λ b. b.shared.table_id.words) e in let a = i.0.1 in omega arith),
      asks_ok c.deref-2.result.now.shared.key c.deref-2.result.now.shared.table_id.slots c.store.new.seat.id c.store.new.seat.me.0 c.store.new.seat.me.1 (ap (λ (v : SeatView). v.writes) s.2 ∙ ap (λ (v : SeatView). v.writes) i.1) (ap (λ (v : SeatView). v.leads) s.2 ∙ ap (λ (v : SeatView). v.leads) i.1),
    )

pub store-requires-2 : goal.store-requires-2
store-requires-2 g c =
    let e = c.deref-3.ensures in
    let i = c.self.invariant in
    let s = c.store.ensures in
    let a = c.load-until.ensures in
    let z = i.0.0 ∙ sym (ap (λ b. b.shared.table_id) e) in
    let beyond : c.store.new.seat.me.0.hint < c.load-until.result = (let h = ap (λ (v : SeatView). v.hint) s.2 in let t = c.if-until-tick.false in omega arith) in
    let same = a.2.1 beyond in (
      a.0 ∙ (s.0 ∙ z),
      (let w = ap (λ b. b.shared.table_id.words) e in let b = i.0.1 in omega arith),
      rings_ok c.deref-3.result.now.shared.key c.deref-3.result.now.shared.table_id.slots c.load-until.new.seat.id c.load-until.new.seat.me.0 c.load-until.new.seat.me.1 (ap (λ (v : SeatView). v.writes) same ∙ (ap (λ (v : SeatView). v.writes) s.2 ∙ ap (λ (v : SeatView). v.writes) i.1)) (ap (λ (v : SeatView). v.leads) same ∙ (ap (λ (v : SeatView). v.leads) s.2 ∙ ap (λ (v : SeatView). v.leads) i.1)),
    )
