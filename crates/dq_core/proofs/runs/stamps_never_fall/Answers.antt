use Rattle.dq_core.proofs.RunsKept.{stamps_never_fall}
use Rattle.dq_core.proofs.runs.stamps_never_fall.Goals as goal

pub returns : goal.returns
returns g c = stamps_never_fall _
