use Rattle.dq_stream.proofs.Least.{items}
use Rattle.dq_stream.proofs.endings.items_are_in_force.Goals as goal

pub returns : goal.returns
returns g c = items _ c.outs_are_in_force.ensures c.piece_outs_are_in_force.ensures
