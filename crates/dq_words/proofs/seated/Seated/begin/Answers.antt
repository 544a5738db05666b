use Rattle.std.proofs.Common.{ap, ◌∙◌, inl, inr, ⊎_elim, arith}
use Rattle.dq_words.specs.Seats.{Sat}
use Rattle.dq_words.proofs.Seats.{fits}
use Rattle.dq_words.proofs.Places.{beginning_at}
use Rattle.dq_words.proofs.Writes.{begins}
use Rattle.dq_words.proofs.seated.Seated.begin.Goals as goal

pub store-requires : goal.store-requires
store-requires g c =
    let e = c.deref.ensures in
    let own = ap (λ (s : Sat). s.view) c.self.view_is in
    let f = fits _ _ _ _ _ _ c.self.invariant.0 (ap (λ b. b.shared.table_id) e) _ _ c.self.view_is c.requires.inside in
    (f.0, f.1, rw (ap (λ b. b.shared.key) e ∙ c.self.invariant.0.keyed) (beginning_at _ _ _ _ _ c.self.invariant.2 _ (λ k. begins _ _ _ _ _ _ f.2 (rw own c.requires.keeper) (⊎_elim inr inl (rw own c.requires.free)) (rw own c.requires.next) c.requires.live (omega arith))))
