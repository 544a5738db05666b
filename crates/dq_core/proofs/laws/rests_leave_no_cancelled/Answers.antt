use Rattle.dq_core.proofs.Rests.{rests_leave_no_cancelled}
use Rattle.dq_core.proofs.laws.rests_leave_no_cancelled.Goals as goal

pub returns : goal.returns
returns g c = rests_leave_no_cancelled _ _
