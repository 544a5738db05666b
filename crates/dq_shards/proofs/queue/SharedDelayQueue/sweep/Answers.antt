use Rattle.std.proofs.Common.{refl, ◌∙◌}
use Rattle.dq_shards.specs.Changes.{ShardSweeps}
use Rattle.dq_shards.proofs.Locked.{on_numbered}
use Rattle.dq_shards.proofs.queue.SharedDelayQueue.sweep.Goals as goal

pub returns-clause-answers : goal.returns-clause-answers
returns-clause-answers g c =
    let entered = c.in_ok-locked.ensures.entered in
    let told = c.sweep-reaped.ensures in
    (entered.0, on_numbered c.args.shard (λ old r new. ShardSweeps old r new) c.sweep-reaped.result.0 _ _ _ _ entered.1 c.in_ok-locked.ensures.number (c.behind-locked.view_is ∙ c.deref_mut.ensures.value) c.leave.ensures refl (told.sweeps, (told.attends.0, told.attends.1, told.attends.3, told.attends.2)))
