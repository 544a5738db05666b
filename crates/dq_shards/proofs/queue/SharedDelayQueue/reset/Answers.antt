use Rattle.std.proofs.Common.{arith, refl, ◌∙◌, Ok, Err}
use Rattle.std.proofs.lemmas.Result.{err_from_is_err_and}
use Rattle.dq_shards.specs.Changes.{ShardResets}
use Rattle.dq_shards.proofs.Locked.{on_numbered}
use Rattle.dq_shards.proofs.queue.SharedDelayQueue.reset.Goals as goal

pub returns-clause-answers : goal.returns-clause-answers
returns-clause-answers g c =
    let entered = c.in_ok-shard.ensures.entered in
    let number = c.in_ok-shard.ensures.number ∙ c.shard.ensures in
    let told = c.reset-answer.ensures in
    let does = rw c.in_ok-answer.was at told.resets in
    (omega (arith, entered.0, c.shard.ensures), on_numbered c.args.entry.now.shard (λ old r new. ShardResets old c.args.entry.now c.args.when r new) (Ok c.in_ok-answer.field-0) _ _ _ _ entered.1 number (c.behind-shard.view_is ∙ c.deref_mut.ensures.value) c.unlock.ensures.law refl (does, (told.attends.0, told.attends.1, told.attends.3, told.attends.2)))

pub returns-in_err-answer-clause-answers : goal.returns-in_err-answer-clause-answers
returns-in_err-answer-clause-answers g c =
    let entered = c.in_ok-shard.ensures.entered in
    let number = c.in_ok-shard.ensures.number ∙ c.shard.ensures in
    let told = c.reset-answer.ensures in
    let does = rw c.in_err-answer.was at told.resets in
    let refused = err_from_is_err_and c.from_residual-in_err-answer.result c.from_residual-in_err-answer.ensures.1 in
    rw (refused.1, refused.2)
    (omega (arith, entered.0, c.shard.ensures), on_numbered c.args.entry.now.shard (λ old r new. ShardResets old c.args.entry.now c.args.when r new) (Err c.in_err-answer.field-0.0) _ _ _ _ entered.1 number (c.behind-shard.view_is ∙ c.deref_mut.ensures.value) c.unlock.ensures.law refl (does, (told.attends.0, told.attends.1, told.attends.3, told.attends.2)))
