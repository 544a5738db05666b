use Rattle.std.proofs.Common.{refl}
use Rattle.dq_bell.proofs.Turned.{still_turns}
use Rattle.dq_bell.proofs.turns.Turns.rise.Goals as goal

pub returns-then-not-sits-clause-rises : goal.returns-then-not-sits-clause-rises
returns-then-not-sits-clause-rises g c = λ h. absurd (c.sits.ensures.no c.if-not-sits.true h)

pub returns-then-not-sits-clause-lost : goal.returns-then-not-sits-clause-lost
returns-then-not-sits-clause-lost g c = λ _. (refl, refl)

pub invariant_of-self : goal.invariant_of-self
invariant_of-self g c = still_turns _ _ c.self.inside.sitters _ c.rise.ensures.awake.stays.roll c.self.invariant

pub returns-clause-rises : goal.returns-clause-rises
returns-clause-rises g c =
    let r = c.rise.ensures in
    λ _. rw (← c.self.view_is)
    (record { line = r.awake; told = r.told; slept = r.own; sitters = refl; same = record { stays = refl; has_tasks = refl } })

pub returns-clause-lost : goal.returns-clause-lost
returns-clause-lost g c = λ n. absurd (n (c.sits.ensures.yes c.if-not-sits.false))
