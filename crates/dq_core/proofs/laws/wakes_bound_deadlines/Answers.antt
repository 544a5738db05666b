use Rattle.dq_core.proofs.Asks.{wakes_bound_deadlines}
use Rattle.dq_core.proofs.laws.wakes_bound_deadlines.Goals as goal

pub returns : goal.returns
returns g c = wakes_bound_deadlines _ _
