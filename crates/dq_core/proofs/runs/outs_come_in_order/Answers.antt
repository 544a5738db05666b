use Rattle.dq_core.proofs.RunsOrdered.{outs_come_in_order}
use Rattle.dq_core.proofs.runs.outs_come_in_order.Goals as goal

pub returns : goal.returns
returns g c = outs_come_in_order _
