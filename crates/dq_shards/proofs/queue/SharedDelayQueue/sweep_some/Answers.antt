use Rattle.std.proofs.Common.{refl, ◌∙◌}
use Rattle.dq_shards.specs.Changes.{ShardSweepsSome}
use Rattle.dq_shards.proofs.Locked.{on_numbered}
use Rattle.dq_shards.proofs.queue.SharedDelayQueue.sweep_some.Goals as goal

pub returns-clause-answers : goal.returns-clause-answers
returns-clause-answers g c =
    let entered = c.in_ok-locked.ensures.entered in
    let told = c.sweep_some-pending.ensures in
    (entered.0, on_numbered c.args.shard (λ old r new. ShardSweepsSome old c.args.from c.args.count r new) c.sweep_some-pending.result.0 _ _ _ _ entered.1 c.in_ok-locked.ensures.number (c.behind-locked.view_is ∙ c.deref_mut.ensures.value) c.leave.ensures refl (told.sweeps, told.next, (told.attends.0, told.attends.1, told.attends.3, told.attends.2)))
