use Rattle.std.proofs.Common.{refl, ap, ◌∙◌, arith}
use Rattle.dq_words.specs.Plays.{renewing}
use Rattle.dq_words.specs.Seats.{Sat}
use Rattle.dq_words.proofs.Seats.{fits}
use Rattle.dq_words.proofs.Places.{exchanging}
use Rattle.dq_words.proofs.Writes.{renews}
use Rattle.dq_words.proofs.seated.Seated.renew.Goals as goal

pub compare_exchange-found-requires : goal.compare_exchange-found-requires
compare_exchange-found-requires g c =
    let e = c.deref.ensures in
    let own = ap (λ (s : Sat). s.view) c.self.view_is in
    let f = fits _ _ _ _ _ _ c.self.invariant.0 (ap (λ b. b.shared.table_id) e) _ _ c.self.view_is c.requires.inside in
    (f.0, f.1, rw (ap (λ b. b.shared.key) e ∙ c.self.invariant.0.keyed) (exchanging _ _ _ _ _ c.self.invariant.2 renewing _ _ refl (λ k. renews _ _ _ _ _ _ _ f.2 (rw own c.requires.keeper) c.requires.old.0 c.requires.old.1 c.requires.new.0 c.requires.new.1 (omega arith))))
