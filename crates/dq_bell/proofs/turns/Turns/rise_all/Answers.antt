use Rattle.dq_bell.proofs.Turned.{led_turns}
use Rattle.dq_bell.proofs.turns.Turns.rise_all.Goals as goal

pub invariant_of-self-2 : goal.invariant_of-self-2
invariant_of-self-2 g c =
    rw (c.lead_from.ensures) (led_turns _ _ _ _ c.sleeping_leader-first.result c.args.now c.rise_all.ensures.stays.roll c.self.invariant)
