use Rattle.dq_shards.proofs.ParkedLaw.{parked_still}
use Rattle.dq_shards.proofs.state.ShardState.deadline.Goals as goal

pub invariant_of-self : goal.invariant_of-self
invariant_of-self g c =
    parked_still c.self.inside.watched.core c.deadline.new.self _ c.deadline.ensures.kept.wheel c.self.invariant
