use Rattle.dq_bell.proofs.Turned.{led_turns}
use Rattle.dq_bell.proofs.turns.Turns.ring.Goals as goal

pub invariant_of-self : goal.invariant_of-self
invariant_of-self g c =
    rw (c.lead_from.ensures) (led_turns _ _ _ _ c.first.result c.args.now c.ring-called.ensures.stays.roll c.self.invariant)
