use Rattle.std.proofs.Common.{◌≡◌, length, ap, ◌∙◌, refl}
use Rattle.std.proofs.lemmas.List.{length-replicate}
use Rattle.dq_words.specs.Places.{PlaceMe}
use Rattle.dq_words.specs.Plays.{issuing, newcomer}
use Rattle.dq_words.specs.Seats.{Sat}
use Rattle.dq_words.specs.declared.views.View.{View}
use Rattle.dq_words.proofs.Seats.{fits_return, fits_same, issues_knew, newcomer_knew}
use Rattle.dq_words.proofs.Places.{issues_at}
use Rattle.dq_words.proofs.seated.Seated.issue.Goals as goal

pub split_seat-seat-requires : goal.split_seat-seat-requires
split_seat-seat-requires g c =
    let e = c.deref.ensures in
    let own = ap (λ (s : Sat). s.view) c.self.view_is in
    let f = fits_return _ _ _ _ _ _ c.self.invariant.0 (ap (λ b. b.shared.table_id) e) in
    (f.0, f.2, rw (ap (λ b. b.shared.key) e ∙ c.self.invariant.0.keyed) (issues_at _ _ _ c.self.invariant.2 (rw own c.requires.keeper) (rw own c.requires.few)))

pub invariant_of-result : goal.invariant_of-result
invariant_of-result g c =
    let own = ap (λ (s : Sat). s.view) c.self.view_is in
    let table = c.in_ok-table.ensures in
    let made = c.split_seat-seat.ensures in
    let is : c.split_seat-seat.result.me.0.view ≡ newcomer c.self.inside.seat.me.0.view = ap (λ (m : PlaceMe). m.0.view) made.4 in (
      fits_same _ _ _ _ _ _ _ _ _ c.self.invariant.0 made.3 (ap (λ b. b.shared.table_id) table) (ap (λ b. b.shared.key) table) (ap (λ (v : View). length v.seen) is ∙ length-replicate _ 0),
      rw is (newcomer_knew _ c.self.invariant.1 (rw own c.requires.keeper) (rw own c.requires.few)),
      ap (λ (m : PlaceMe). m.0.carries) made.4,
    )

pub invariant_of-self : goal.invariant_of-self
invariant_of-self g c =
    let own = ap (λ (s : Sat). s.view) c.self.view_is in
    let made = c.split_seat-seat.ensures in
    let is : c.split_seat-seat.new.seat.me.0.view ≡ issuing c.self.inside.seat.me.0.view = ap (λ (m : PlaceMe). m.0.view) made.2 in (
      fits_same _ _ _ _ _ _ _ _ _ c.self.invariant.0 made.0 refl refl (ap (λ (v : View). length v.seen) is),
      rw is (issues_knew _ c.self.invariant.1 (rw own c.requires.keeper) (rw own c.requires.few)),
      ap (λ (m : PlaceMe). m.0.carries) made.2 ∙ c.self.invariant.2,
    )
