use Rattle.std.proofs.Common.{arith, ◌∙◌, Ok, Err}
use Rattle.std.proofs.lemmas.Result.{err_from_is_err_and}
use Rattle.dq_shards.specs.Changes.{ShardDeadline}
use Rattle.dq_shards.proofs.Locked.{on_numbered}
use Rattle.dq_shards.proofs.queue.SharedDelayQueue.deadline.Goals as goal

pub returns-clause-answers : goal.returns-clause-answers
returns-clause-answers g c =
    let entered = c.in_ok-shard.ensures.entered in
    let number = c.in_ok-shard.ensures.number ∙ c.shard.ensures in
    (omega (arith, entered.0, c.shard.ensures), on_numbered c.args.entry.now.shard (λ old r new. ShardDeadline old c.args.entry.now r new) (Ok c.in_ok-answer.field-0) _ _ _ _ entered.1 number c.deref_mut.ensures.value c.law.ensures c.deref.ensures c.in_ok-answer.ensures.tells)

pub returns-in_err-answer-clause-answers : goal.returns-in_err-answer-clause-answers
returns-in_err-answer-clause-answers g c =
    let entered = c.in_ok-shard.ensures.entered in
    let number = c.in_ok-shard.ensures.number ∙ c.shard.ensures in
    let refused = err_from_is_err_and c.from_residual-in_err-answer.result c.from_residual-in_err-answer.ensures.1 in
    rw (refused.1, refused.2)
    (omega (arith, entered.0, c.shard.ensures), on_numbered c.args.entry.now.shard (λ old r new. ShardDeadline old c.args.entry.now r new) (Err c.in_err-answer.field-0.0) _ _ _ _ entered.1 number c.deref_mut.ensures.value c.law.ensures c.deref.ensures c.in_err-answer.ensures.tells)
