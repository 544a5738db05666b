use Rattle.dq_core.proofs.RunsEnding.{entries_leave_once}
use Rattle.dq_core.proofs.runs.entries_leave_once.Goals as goal

pub returns : goal.returns
returns g c = entries_leave_once _
