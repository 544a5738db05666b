use Rattle.dq_core.proofs.RunsEnded.{ended_stays_ended}
use Rattle.dq_core.proofs.runs.ended_stays_ended.Goals as goal

pub returns : goal.returns
returns g c = ended_stays_ended _
