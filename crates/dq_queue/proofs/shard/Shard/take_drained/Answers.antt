use Rattle.std.proofs.Common.{subst}
use Rattle.dq_queue.specs.Loans.{StoreGivesOut}
use Rattle.dq_queue.specs.Shards.{HeldShard}
use Rattle.dq_queue.proofs.shard.Shard.take_drained.Goals as goal

pub returns-clause-gives : goal.returns-clause-gives
returns-clause-gives g c =
    let P : HeldShard _ → Type 0 = λ s. StoreGivesOut c.lend.result s.sized.store c.lend.new.self.sized.store in
    subst P c.self.view_is c.lend.ensures.gives
