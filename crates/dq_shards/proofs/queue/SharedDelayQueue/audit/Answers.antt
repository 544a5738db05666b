use Rattle.std.proofs.Common.{arith}
use Rattle.std.proofs.lemmas.Result.{err_from_is_err_and}
use Rattle.dq_shards.proofs.Auditing.{one_more, first_refused}
use Rattle.dq_shards.proofs.queue.SharedDelayQueue.audit.Goals as goal

pub returns-in_err-audit_of-clause-audits : goal.returns-in_err-audit_of-clause-audits
returns-in_err-audit_of-clause-audits g c =
    let refused = err_from_is_err_and c.from_residual.result c.from_residual.ensures.1 in
    rw (refused.1, refused.2) (first_refused _ _ c.args.self.now _ _ c.loop-shard.invariant
    (omega (arith, c.loop-shard-test.true, c.shards-shard-end.ensures.value)) c.in_err-audit_of.ensures)

pub loop-shard-preserved : goal.loop-shard-preserved
loop-shard-preserved g c = one_more _ _ _ _ _ c.loop-shard.invariant c.in_ok-audit_of.ensures c.sum-sums.ensures
