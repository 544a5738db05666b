use Rattle.dq_shards.proofs.Auditing.{SumsOf}
use Rattle.dq_shards.proofs.queue.SharedDelayQueue.audit.Given as goal

abbrev pub invariant-loop-shard : goal.invariant-loop-shard
invariant-loop-shard g l = SumsOf g.row.T.Denot l.shard l.sums
