use Rattle.std.proofs.Common.{◌+◌, ◌*◌, ap, ◌∙◌}
use Rattle.dq_words.proofs.Returns.{gives_back}
use Rattle.dq_words.specs.Seats.{Sat}
use Rattle.dq_words.proofs.Seats.{fits_return}
use Rattle.dq_words.proofs.Places.{giving_back_at}
use Rattle.dq_words.proofs.seated.Seated.give_back.Goals as goal

pub fetch_add-requires : goal.fetch_add-requires
fetch_add-requires g c =
    let e = c.deref.ensures in
    let own = ap (λ (s : Sat). s.view) c.self.view_is in
    let f = fits_return _ _ _ _ _ _ c.self.invariant.0 (ap (λ b. b.shared.table_id) e) in
    (f.0, f.1, rw (ap (λ b. b.shared.key) e ∙ c.self.invariant.0.keyed) (giving_back_at _ _ _ _ _ c.self.invariant.2 _ (λ k. gives_back _ _ _ _ _ (rw own c.requires.caller.0) (rw own c.requires.caller.1) (rw own c.requires.issued) (ap (λ k. 1 + 2048 * k) (rw own c.requires.cancels)))))
