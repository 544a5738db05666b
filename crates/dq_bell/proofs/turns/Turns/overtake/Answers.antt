use Rattle.std.proofs.Common.{refl, Some}
use Rattle.dq_bell.specs.Turns.{IsTurns}
use Rattle.dq_bell.proofs.Turned.{led_turns, vacates}
use Rattle.dq_bell.proofs.turns.Turns.overtake.Goals as goal

pub invariant_of-self : goal.invariant_of-self
invariant_of-self g c =
    let r = c.overtake-slept.ensures.roll in
    let v : IsTurns c.overtake-slept.new.self.roll c.put.new.self c.self.inside.stays = rw (c.put.ensures, c.nobody.ensures) (vacates _ _ _ _ c.in-Some.first _ refl c.self.invariant r.others r.is_out r.size) in
    rw (c.lead_from.ensures) (led_turns _ _ c.put.new.self _ (Some c.args.seat.at) c.args.now refl v)
