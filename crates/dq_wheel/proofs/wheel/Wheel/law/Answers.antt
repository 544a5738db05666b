use Rattle.dq_wheel.proofs.Places.{lawful_wheel}
use Rattle.dq_wheel.proofs.wheel.Wheel.law.Goals as goal

pub returns : goal.returns
returns g c = rw (← c.self.view_is) (lawful_wheel _ _ _ _ _ _ c.self.invariant.0 c.law.ensures.bits c.law.ensures.lists _)
