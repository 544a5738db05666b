use Rattle.dq_core.proofs.RunsLeft.{what_left_has_ended}
use Rattle.dq_core.proofs.runs.what_left_has_ended.Goals as goal

pub returns : goal.returns
returns g c = what_left_has_ended _ _
