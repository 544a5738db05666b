use Rattle.dq_queue.proofs.Outs.{outs}
use Rattle.dq_queue.proofs.endings.outs_are_in_force.Goals as goal

pub returns : goal.returns
returns g c = outs _ c.ends_are_in_force.ensures
