use Rattle.dq_core.proofs.RunsOfCalls.{calls_are_runs}
use Rattle.dq_core.proofs.runs.calls_are_runs.Goals as goal

pub returns : goal.returns
returns g c = calls_are_runs _ _
