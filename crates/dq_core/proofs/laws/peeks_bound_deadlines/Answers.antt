use Rattle.dq_core.proofs.Asks.{peeks_bound_deadlines}
use Rattle.dq_core.proofs.laws.peeks_bound_deadlines.Goals as goal

pub returns : goal.returns
returns g c = peeks_bound_deadlines _ _
