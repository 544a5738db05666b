use Rattle.std.proofs.Common.{◌≡◌, ◌≤◌, vec_len}
use Rattle.std.specs.Prelude.{vec_capacity}
use Rattle.dq_shards.specs.Issuing.{AllFrom, IssuedBy}
use Rattle.dq_shards.proofs.queue.SharedDelayQueue.handle.Given as goal

abbrev pub invariant-loop-shard : goal.invariant-loop-shard
invariant-loop-shard g l =
    (vec_len l.callers ≡ l.shard)
    × (l.shard-end ≤ vec_capacity l.callers)
    × AllFrom (IssuedBy g.row.T.Denot) 0 l.callers.items
