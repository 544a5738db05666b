use Rattle.std.proofs.Common.{◌≡◌, ◌+◌, List, ap, ◌∙◌, sym, subst, arith}
use Rattle.dq_words.specs.declared.views.Call.{Call}
use Rattle.dq_words.specs.declared.views.View.{View}
use Rattle.dq_words.specs.OpenCalls.{Open}
use Rattle.dq_words.specs.Places.{PlaceMe, StoodApart}
use Rattle.dq_words.specs.Seats.{Sat}
use Rattle.dq_words.proofs.Places.{spends, takes, learns_apart}
use Rattle.dq_words.proofs.seated.open.OpenWords.tell.Goals as goal

pub split_seat-carrier-requires : goal.split_seat-carrier-requires
split_seat-carrier-requires g c =
    let e = c.deref.ensures in
    let words : c.deref.result.now.shared.table_id.words ≡ c.self.inside.rows + 1 = ap (λ b. b.shared.table_id.words) e ∙ c.self.invariant.1 in
    let table = ap (λ (s : Sat). s.table) c.other.view_is ∙ c.requires.other ∙ sym (ap (λ (o : Open). o.table) c.self.view_is) ∙ sym (ap (λ b. b.shared.table_id) e) in
    (table, omega arith, spends _ _ _ c.other.invariant.0)

pub join_seat-requires : goal.join_seat-requires
join_seat-requires g c =
    let e = c.deref-2.ensures in
    let t = c.split_seat-carrier.ensures in
    let words : c.deref-2.result.now.shared.table_id.words ≡ c.self.inside.rows + 1 = ap (λ b. b.shared.table_id.words) e ∙ c.self.invariant.1 in
    let here = sym (ap (λ (o : Open). o.table) c.self.view_is) ∙ sym (ap (λ b. b.shared.table_id) e) in
    let one = ap (λ (s : Sat). s.table) c.one.view_is ∙ c.requires.one ∙ here in
    let other = ap (λ (s : Sat). s.table) c.other.view_is ∙ c.requires.other ∙ here in
    (one, t.3 ∙ other, ap (λ (m : PlaceMe). m.1) t.4, omega arith, takes _ _ _ _ _ c.one.invariant.0 (ap (λ (m : PlaceMe). m.0.carries) t.4))

pub load-requires : goal.load-requires
load-requires g c =
    let e = c.deref-3.ensures in
    let j = c.join_seat.ensures in
    let words : c.deref-3.result.now.shared.table_id.words ≡ c.self.inside.rows + 1 = ap (λ b. b.shared.table_id.words) e ∙ c.self.invariant.1 in
    let one = ap (λ (s : Sat). s.table) c.one.view_is ∙ c.requires.one ∙ sym (ap (λ (o : Open). o.table) c.self.view_is) ∙ sym (ap (λ b. b.shared.table_id) e) in
    (j.0 ∙ one, omega arith, learns_apart _ _ _ _ _ (ap (λ (m : PlaceMe). m.0.carries) j.2 ∙ c.one.invariant.0) (ap (λ (m : PlaceMe). m.0.spent) j.2 ∙ c.one.invariant.1))

pub returns-clause-together : goal.returns-clause-together
returns-clause-together g c =
    let j = c.join_seat.ensures in
    let t = c.split_seat-carrier.ensures in
    let mine : c.join_seat.new.seat.me.0.view ≡ c.args.one.now.view = ap (λ (m : PlaceMe). m.0.view) j.2 ∙ ap (λ (s : Sat). s.view) c.one.view_is in
    let told : c.join_seat.new.seat.me.0.apart ≡ c.args.other.view.calls = ap (λ (m : PlaceMe). m.0.apart) j.2 ∙ (ap (λ (m : PlaceMe). m.0.apart) t.4 ∙ ap (λ (s : Sat). s.view.calls) c.other.view_is) in
    let P : View × List Call → Type 0 = λ x. StoodApart x.0 x.1 in
    subst P (λ k. (mine k, told k)) c.load.ensures.2.1
