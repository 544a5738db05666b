use Rattle.dq_core.proofs.RunsOrdered.{runs_join}
use Rattle.dq_core.proofs.runs.runs_join.Goals as goal

pub returns : goal.returns
returns g c = runs_join _
