use Rattle.dq_core.proofs.RunsOfCalls.{no_birth_is_ahead}
use Rattle.dq_core.proofs.runs.no_birth_is_ahead.Goals as goal

pub returns : goal.returns
returns g c = no_birth_is_ahead _ _
