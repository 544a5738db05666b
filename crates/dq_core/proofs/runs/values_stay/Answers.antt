use Rattle.dq_core.proofs.RunsKept.{values_stay}
use Rattle.dq_core.proofs.runs.values_stay.Goals as goal

pub returns : goal.returns
returns g c = values_stay _
