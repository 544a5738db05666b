use Rattle.std.proofs.Common.{arith, refl, ◌∙◌}
use Rattle.dq_shards.specs.Changes.{ShardReaps}
use Rattle.dq_shards.proofs.Locked.{on_numbered}
use Rattle.dq_shards.proofs.queue.SharedDelayQueue.reap.Goals as goal

pub returns-clause-answers : goal.returns-clause-answers
returns-clause-answers g c =
    let entered = c.in_ok-locked.ensures.entered in
    let number = c.in_ok-locked.ensures.number ∙ c.shard-shard.ensures in
    let told = c.reap-answer.ensures in
    (omega (arith, entered.0, c.shard-shard.ensures), on_numbered c.args.entry.now.shard (λ old r new. ShardReaps old c.args.entry.now r new) c.reap-answer.result.0 _ _ _ _ entered.1 number (c.behind-locked.view_is ∙ c.deref_mut.ensures.value) c.leave.ensures refl (told.reaps, (told.attends.0, told.attends.1, told.attends.3, told.attends.2)))
