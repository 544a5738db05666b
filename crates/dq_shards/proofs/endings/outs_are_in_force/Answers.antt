use Rattle.dq_shards.proofs.Headline.{outs}
use Rattle.dq_shards.proofs.endings.outs_are_in_force.Goals as goal

pub returns : goal.returns
returns g c = outs _ c.ends_are_in_force.ensures
