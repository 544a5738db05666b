use Rattle.dq_core.proofs.DeferredBits.{count_small}
use Rattle.dq_core.proofs.free_slots.DeferredDrops.count.Goals as goal

pub returns-clause-bound : goal.returns-clause-bound
returns-clause-bound g c = count_small _ _ _ _ c.self.invariant
