use Rattle.dq_shards.proofs.Headline.{piece_outs}
use Rattle.dq_shards.proofs.endings.piece_outs_are_in_force.Goals as goal

pub returns : goal.returns
returns g c = piece_outs _ c.ends_are_in_force.ensures
