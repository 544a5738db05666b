use Rattle.std.proofs.Common.{◌≡◌, ◌∙◌, ℕ, false, Option, Some, true≢false, refl, sym}
use Rattle.std.proofs.lemmas.List.{get_or-set_other}
use Rattle.dq_bell.proofs.Lined.{awake_there}
use Rattle.dq_bell.proofs.line.Line.ring.Goals as goal

alike : (o : Option ℕ) (f g : ℕ) → o ≡ Some f → o ≡ Some g → f ≡ g
alike o f g a b = cc

pub returns-then-not-is_leader : goal.returns-then-not-is_leader
returns-then-not-is_leader g c =
    record {
      stays = record { bell = (refl, refl, refl); closer = refl; roll = refl };
      until = refl;
      nobody = λ _. (refl, refl);
      leader = λ t. absurd (true≢false (sym t ∙ (sym c.is_leader.ensures ∙ c.if-not-is_leader.true)));
    }

pub returns : goal.returns
returns g c =
    let s = c.self.inside.sleepers in
    let first = c.in-Some.first in
    rw (← c.self.view_is, c.call.ensures.sleeps)
    (record {
      stays = record { bell = (refl, refl, refl); closer = refl; roll = refl };
      until = refl;
      nobody = λ n. absurd (true≢false (sym c.if-not-is_leader.false ∙ (c.is_leader.ensures ∙ n)));
      leader = λ _ f e.
          let q : f ≡ first = alike _ f first e (sym c.first.ensures ∙ c.in-Some.is) in
          rw q (
            record {
              stays = record { bell = (refl, refl, refl); closer = refl; roll = refl };
              awake = awake_there s first;
              others = λ j n. get_or-set_other s first j false false n;
            },
            c.call.ensures.called,
          );
    })
