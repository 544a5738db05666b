use Rattle.dq_core.proofs.RunsTogether.{laws_hold_over_calls}
use Rattle.dq_core.proofs.runs.laws_hold_over_calls.Goals as goal

pub returns : goal.returns
returns g c = laws_hold_over_calls _ _
