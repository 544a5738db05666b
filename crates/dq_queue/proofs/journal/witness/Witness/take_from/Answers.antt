use Rattle.std.proofs.Common.{◌≡◌, ap, ◌∙◌, sym, arith}
use Rattle.dq_queue.specs.declared.journal.views.View.{View}
use Rattle.dq_queue.specs.Known.{Known}
use Rattle.dq_queue.specs.Views.{lent}
use Rattle.dq_queue.proofs.JournalSteps.{lends, takes}
use Rattle.dq_queue.proofs.journal.witness.Witness.take_from.Goals as goal

pub split_seat-token-requires : goal.split_seat-token-requires
split_seat-token-requires g c =
    let e = c.deref.ensures in
    let i = c.self.invariant in
    let table : Known _ → _ = λ (s : Known _). s.table in
    let z = ap table c.other.view_is ∙ (sym c.requires.table ∙ (sym (ap table c.self.view_is) ∙ (i.0 ∙ sym (ap (λ b. b.shared.table_id) e)))) in
    (z, (let w = ap (λ b. b.shared.table_id.words) e in let one = i.1 in omega arith), lends c.deref.result.now.shared.key c.other.inside.seat.id c.other.inside.seat.me.0)

pub join_seat-requires : goal.join_seat-requires
join_seat-requires g c =
    let e = c.deref-2.ensures in
    let i = c.self.invariant in
    let t = c.split_seat-token.ensures in
    let table : Known _ → _ = λ (s : Known _). s.table in
    let z = i.0 ∙ sym (ap (λ b. b.shared.table_id) e) in
    let same = ap table c.other.view_is ∙ (sym c.requires.table ∙ sym (ap table c.self.view_is)) in
    let u : c.split_seat-token.result.me.0 ≡ lent c.other.inside.seat.me.0 = ap (λ m. m.0) t.4 in (
      z,
      t.3 ∙ same ∙ z,
      ap (λ m. m.1) t.4,
      (let w = ap (λ b. b.shared.table_id.words) e in let one = i.1 in omega arith),
      takes c.deref-2.result.now.shared.key c.self.inside.seat.id c.self.inside.seat.me.0 c.split_seat-token.result.id c.split_seat-token.result.me.0 (ap (λ (v : View _). v.keeps) u),
    )
