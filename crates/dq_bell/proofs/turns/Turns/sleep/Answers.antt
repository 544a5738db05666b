use Rattle.std.proofs.Common.{refl, Some}
use Rattle.dq_bell.proofs.Turned.{led_turns, still_turns, leader_asleep, follower_asleep, leader_awake, follower_awake}
use Rattle.dq_bell.proofs.turns.Turns.sleep.Goals as goal
use Rattle.dq_bell.proofs.turns.Turns.sleep.Goals.{then-leads, else-leads}

pub returns-then-not-sits-clause-awake : goal.returns-then-not-sits-clause-awake
returns-then-not-sits-clause-awake g c = λ h. absurd (c.sits.ensures.no c.if-not-sits.true h)

pub returns-then-not-sits-clause-lost : goal.returns-then-not-sits-clause-lost
returns-then-not-sits-clause-lost g c = λ _. (refl, refl)

pub invariant_of-self : goal.invariant_of-self
invariant_of-self g c =
    still_turns _ _ c.self.inside.sitters _ c.in-Ok.ensures.asleep.stays.roll c.self.invariant

pub returns-then-not-leads-clause-asleep : goal.returns-then-not-leads-clause-asleep
returns-then-not-leads-clause-asleep g c =
    let i = c.self.inside in
    follower_asleep i.line c.sleep.new.self i.sitters i.sitters i.stays i.has_tasks _ c.args.seat c.args.until c.args.now c.self.view_is c.watch.result (c.sits.ensures.yes c.if-not-sits.false)
    c.in-Ok.ensures.asleep (c.is_first-leads.ensures.no c.if-not-leads.true) c.watch.ensures

pub returns-then-not-leads-clause-lost : goal.returns-then-not-leads-clause-lost
returns-then-not-leads-clause-lost g c = λ n. absurd (n (c.sits.ensures.yes c.if-not-sits.false))

pub invariant_of-self-in-Ok : goal.invariant_of-self-in-Ok
invariant_of-self-in-Ok g c =
    rw (c.lead_from.ensures) (led_turns _ _ _ _ (Some c.args.seat.at) c.args.until c.in-Ok.ensures.asleep.stays.roll c.self.invariant)

pub invariant_of-self-then-leads : goal.invariant_of-self-then-leads
invariant_of-self-then-leads g c =
    rw (c.lead_from-then-leads.ensures) (led_turns _ _ _ _ (Some c.args.seat.at) c.args.now c.in-Err.ensures.awake.1.stays.roll c.self.invariant)

pub invariant_of-self-else-leads : goal.invariant_of-self-else-leads
invariant_of-self-else-leads g c =
    still_turns _ _ c.self.inside.sitters _ c.in-Err.ensures.awake.1.stays.roll c.self.invariant

pub returns-else-not-leads-clause-asleep : goal.returns-else-not-leads-clause-asleep
returns-else-not-leads-clause-asleep g c =
    let i = c.self.inside in
    leader_asleep i.line c.sleep.new.self i.sitters c.lead_from.new.self i.stays i.has_tasks _ c.args.seat c.args.until c.args.now c.self.view_is (c.sits.ensures.yes c.if-not-sits.false)
    c.in-Ok.ensures.asleep (c.is_first-leads.ensures.yes c.if-not-leads.false) c.lead_from.ensures

pub returns-else-not-leads-clause-lost : goal.returns-else-not-leads-clause-lost
returns-else-not-leads-clause-lost g c = λ n. absurd (n (c.sits.ensures.yes c.if-not-sits.false))

pub returns-after-leads-clause-awake : goal.returns-after-leads-clause-awake
returns-after-leads-clause-awake g c =
    λ _. let i = c.self.inside in elim (c.if-leads.branch) [
      | then-leads w ↦ rw (w.self-is)
          (leader_awake i.line c.sleep.new.self i.sitters w.lead_from-then-leads.new.self i.stays i.has_tasks _ c.args.seat c.args.until c.args.now c.self.view_is
          c.in-Err.ensures.awake.1 (c.is_first-leads.ensures.yes w.if-leads.true) w.lead_from-then-leads.ensures)
      | else-leads w ↦ rw (w.self-is)
          (follower_awake i.line c.sleep.new.self i.sitters i.sitters i.stays i.has_tasks _ c.args.seat c.args.until c.args.now c.self.view_is
          c.in-Err.ensures.awake.1 (c.is_first-leads.ensures.no w.if-leads.false))
    ]

pub returns-after-leads-clause-lost : goal.returns-after-leads-clause-lost
returns-after-leads-clause-lost g c = λ n. absurd (n (c.sits.ensures.yes c.if-not-sits.false))
