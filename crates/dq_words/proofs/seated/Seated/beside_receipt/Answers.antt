use Rattle.std.proofs.Common.{◌≡◌, List, ap, ◌∙◌, sym, subst}
use Rattle.dq_words.specs.declared.views.Call.{Call}
use Rattle.dq_words.specs.declared.views.View.{View}
use Rattle.dq_words.specs.Places.{PlaceMe, StoodWith}
use Rattle.dq_words.specs.Seats.{Sat}
use Rattle.dq_words.proofs.Places.{tells, hears, learns_told}
use Rattle.dq_words.proofs.Seats.{fits_return}
use Rattle.dq_words.proofs.seated.Seated.beside_receipt.Goals as goal

pub split_seat-carrier-requires : goal.split_seat-carrier-requires
split_seat-carrier-requires g c =
    let f = fits_return _ _ _ _ _ _ c.self.invariant.0 (ap (λ b. b.shared.table_id) c.deref.ensures) in
    let table : Sat → _ = λ (s : Sat). s.table in
    (ap table c.other.view_is ∙ (sym c.requires.table ∙ (sym (ap table c.self.view_is) ∙ f.0)), f.2, tells _ _ _ c.other.invariant.0)

pub join_seat-requires : goal.join_seat-requires
join_seat-requires g c =
    let f = fits_return _ _ _ _ _ _ c.self.invariant.0 (ap (λ b. b.shared.table_id) c.deref-2.ensures) in
    let t = c.split_seat-carrier.ensures in
    let table : Sat → _ = λ (s : Sat). s.table in
    let same = ap table c.other.view_is ∙ (sym c.requires.table ∙ sym (ap table c.self.view_is)) in
    (f.0, t.3 ∙ (same ∙ f.0), ap (λ (m : PlaceMe). m.1) t.4, f.2, hears _ _ _ _ _ c.self.invariant.2 (ap (λ (m : PlaceMe). m.0.carries) t.4))

pub load-requires : goal.load-requires
load-requires g c =
    let f = fits_return _ _ _ _ _ _ c.self.invariant.0 (ap (λ b. b.shared.table_id) c.deref-3.ensures) in
    let own = ap (λ (s : Sat). s.view) c.self.view_is in
    let j = c.join_seat.ensures in
    (j.0 ∙ f.0, f.1, learns_told _ _ _ _ _ (ap (λ (m : PlaceMe). m.0.carries) j.2 ∙ c.self.invariant.2) (ap (λ (m : PlaceMe). m.0.view.keeps) j.2 ∙ rw own c.requires.keeper))

pub returns-clause-together : goal.returns-clause-together
returns-clause-together g c =
    let j = c.join_seat.ensures in
    let t = c.split_seat-carrier.ensures in
    let mine : c.join_seat.new.seat.me.0.view ≡ c.args.self.now.view = ap (λ (m : PlaceMe). m.0.view) j.2 ∙ ap (λ (s : Sat). s.view) c.self.view_is in
    let told : c.join_seat.new.seat.me.0.told ≡ c.args.other.now.view.calls = ap (λ (m : PlaceMe). m.0.told) j.2 ∙ (ap (λ (m : PlaceMe). m.0.told) t.4 ∙ ap (λ (s : Sat). s.view.calls) c.other.view_is) in
    let P : View × List Call → Type 0 = λ x. StoodWith x.0 x.1 in
    subst P (λ k. (mine k, told k)) c.load.ensures.2.1

pub invariant_of-other : goal.invariant_of-other
invariant_of-other g c =
    let t = c.split_seat-carrier.ensures in
    (ap (λ (m : PlaceMe). m.0.carries) t.2 ∙ c.other.invariant.0, ap (λ (m : PlaceMe). m.0.spent) t.2 ∙ c.other.invariant.1)
