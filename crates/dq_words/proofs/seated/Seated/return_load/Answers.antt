use Rattle.std.proofs.Common.{ap, ◌∙◌}
use Rattle.dq_words.proofs.Returns.{return_loads}
use Rattle.dq_words.specs.Seats.{Sat}
use Rattle.dq_words.proofs.Seats.{fits_return}
use Rattle.dq_words.proofs.Places.{return_loading}
use Rattle.dq_words.proofs.seated.Seated.return_load.Goals as goal

pub load-found-requires : goal.load-found-requires
load-found-requires g c =
    let e = c.deref.ensures in
    let own = ap (λ (s : Sat). s.view) c.self.view_is in
    let f = fits_return _ _ _ _ _ _ c.self.invariant.0 (ap (λ b. b.shared.table_id) e) in
    (f.0, f.1, rw (ap (λ b. b.shared.key) e ∙ c.self.invariant.0.keyed) (return_loading _ _ _ _ _ c.self.invariant.2 (λ k. return_loads _ _ _ _ (rw own c.requires.keeper))))
