use Rattle.dq_wheel.proofs.Wakes.{wakes_ahead}
use Rattle.dq_wheel.proofs.wheel.wakes_are_ahead.Goals as goal

pub returns : goal.returns
returns c = wakes_ahead
