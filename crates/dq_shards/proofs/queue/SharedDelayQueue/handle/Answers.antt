use Rattle.std.proofs.Common.{arith}
use Rattle.dq_shards.proofs.Numbering.{one_behind}
use Rattle.dq_shards.proofs.Refusing.{handle_refused}
use Rattle.dq_shards.proofs.queue.SharedDelayQueue.handle.Goals as goal

pub returns-in-Err : goal.returns-in-Err
returns-in-Err g c = handle_refused _ c.args.self.now _ _ _ (omega (arith, c.loop-shard-test.true, c.shards-shard-end.ensures.value)) c.in-Err.ensures c.refused.ensures

pub loop-shard-preserved : goal.loop-shard-preserved
loop-shard-preserved g c =
    let before = c.loop-shard.invariant in
    let pushed = c.push_reserved.ensures in
    let all = one_behind _ 0 _ _ _ before.2 (omega (arith, before.0, c.loop-shard.callers.ok.0)) c.in-Ok-issue_of.ensures in
    (omega (arith, before.0, pushed.len), omega (arith, before.1, pushed.capacity), rw pushed.items all)
