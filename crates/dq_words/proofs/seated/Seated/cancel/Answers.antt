use Rattle.std.proofs.Common.{ap, ◌∙◌, arith}
use Rattle.dq_words.specs.Seats.{Sat}
use Rattle.dq_words.proofs.Seats.{fits}
use Rattle.dq_words.proofs.Places.{cancelling_at}
use Rattle.dq_words.proofs.Cancels.{cancels}
use Rattle.dq_words.proofs.seated.Seated.cancel.Goals as goal

pub fetch_max-found-requires : goal.fetch_max-found-requires
fetch_max-found-requires g c =
    let e = c.deref.ensures in
    let own = ap (λ (s : Sat). s.view) c.self.view_is in
    let f = fits _ _ _ _ _ _ c.self.invariant.0 (ap (λ b. b.shared.table_id) e) _ _ c.self.view_is c.requires.inside in
    (f.0, f.1, rw (ap (λ b. b.shared.key) e ∙ c.self.invariant.0.keyed) (cancelling_at _ _ _ _ _ c.self.invariant.2 _ (λ k. cancels _ _ _ _ _ _ f.2 (rw own c.requires.caller.1) (rw own c.requires.caller.0) c.requires.new.0 c.requires.new.1 (omega arith) (rw own c.requires.given))))
