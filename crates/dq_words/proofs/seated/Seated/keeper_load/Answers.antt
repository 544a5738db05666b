use Rattle.std.proofs.Common.{ap, ◌∙◌}
use Rattle.dq_words.specs.Seats.{Sat}
use Rattle.dq_words.proofs.Seats.{fits}
use Rattle.dq_words.proofs.Places.{keeper_loading}
use Rattle.dq_words.proofs.Steps.{keeper_loads}
use Rattle.dq_words.proofs.seated.Seated.keeper_load.Goals as goal

pub load-found-requires : goal.load-found-requires
load-found-requires g c =
    let e = c.deref.ensures in
    let own = ap (λ (s : Sat). s.view) c.self.view_is in
    let f = fits _ _ _ _ _ _ c.self.invariant.0 (ap (λ b. b.shared.table_id) e) _ _ c.self.view_is c.requires.inside in
    (f.0, f.1, rw (ap (λ b. b.shared.key) e ∙ c.self.invariant.0.keyed) (keeper_loading _ _ _ _ _ c.self.invariant.2 (λ k. keeper_loads _ _ _ _ _ f.2 (rw own c.requires.keeper))))
