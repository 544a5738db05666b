use Rattle.std.proofs.Common.{refl}
use Rattle.dq_bell.specs.Turns.{IsTurns}
use Rattle.dq_bell.proofs.Turned.{led_turns, vacates, leader_left, follower_left}
use Rattle.dq_bell.proofs.turns.Turns.leave.Goals as goal
use Rattle.dq_bell.proofs.turns.Turns.leave.Goals.{then-led, else-led}

pub invariant_of-self : goal.invariant_of-self
invariant_of-self g c =
    let l = c.leave-called.ensures in
    let v : IsTurns c.leave-called.new.self.roll c.put.new.self c.self.inside.stays = rw (c.put.ensures, c.nobody.ensures) (vacates _ _ _ _ c.args.seat.at _ c.rise-slept.ensures.awake.stays.roll c.self.invariant l.stay l.is_out l.size) in
    rw (c.lead_from.ensures) (led_turns _ _ c.put.new.self _ c.first.result c.args.now refl v)

pub invariant_of-self-else-led : goal.invariant_of-self-else-led
invariant_of-self-else-led g c =
    let l = c.leave-called.ensures in
    rw (c.put.ensures, c.nobody.ensures) (vacates _ _ _ _ c.args.seat.at _ c.rise-slept.ensures.awake.stays.roll c.self.invariant l.stay l.is_out l.size)

pub returns-then-not-sits-clause-leaves : goal.returns-then-not-sits-clause-leaves
returns-then-not-sits-clause-leaves g c = λ h. absurd (c.sits.ensures.no c.if-not-sits.true h)

pub returns-clause-leaves : goal.returns-clause-leaves
returns-clause-leaves g c =
    λ _. let i = c.self.inside in elim (c.if-led.branch) [
      | then-led w ↦ rw (w.self-is)
          (leader_left i.line c.rise-slept.new.self c.leave-called.new.self i.sitters c.put.new.self c.nobody.result i.stays i.has_tasks _ c.args.seat c.args.now _ _ c.self.view_is
          c.rise-slept.ensures.awake c.leave-called.ensures c.rise-slept.ensures.own c.nobody.ensures c.put.ensures _ w.first.result (c.is_first-led.ensures.yes w.if-led.true)
          w.first.ensures w.lead_from.ensures)
      | else-led w ↦ rw (w.self-is)
          (follower_left i.line c.rise-slept.new.self c.leave-called.new.self i.sitters c.put.new.self c.nobody.result i.stays i.has_tasks _ c.args.seat c.args.now _ _ c.self.view_is
          c.rise-slept.ensures.awake c.leave-called.ensures c.rise-slept.ensures.own c.nobody.ensures c.put.ensures (c.is_first-led.ensures.no w.if-led.false))
    ]

pub returns-clause-lost : goal.returns-clause-lost
returns-clause-lost g c = λ n. absurd (n (c.sits.ensures.yes c.if-not-sits.false))
