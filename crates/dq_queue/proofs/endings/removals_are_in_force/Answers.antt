use Rattle.dq_queue.proofs.Outs.{moves, removals}
use Rattle.dq_queue.proofs.endings.removals_are_in_force.Goals as goal

pub returns : goal.returns
returns g c = record { removals = removals _ c.ends_are_in_force.ensures; moves = moves _ c.ends_are_in_force.ensures }
