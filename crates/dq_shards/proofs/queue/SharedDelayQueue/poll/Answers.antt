use Rattle.std.proofs.Common.{refl, ◌∙◌, Ok}
use Rattle.dq_shards.specs.Changes.{ShardPolls}
use Rattle.dq_shards.proofs.Locked.{on_numbered}
use Rattle.dq_shards.proofs.queue.SharedDelayQueue.poll.Goals as goal

pub returns-clause-answers : goal.returns-clause-answers
returns-clause-answers g c =
    let entered = c.in_ok-locked.ensures.entered in
    let told = c.poll-answer.ensures in
    let does = rw c.in_ok-answer.was at told.polls in
    (entered.0, on_numbered c.args.shard (λ old r new. ShardPolls old c.args.tick r new) (Ok c.in_ok-answer.field-0) _ _ _ _ entered.1 c.in_ok-locked.ensures.number (c.behind-locked.view_is ∙ c.deref_mut.ensures.value) c.leave.ensures refl (does, (told.attends.0, told.attends.1, told.attends.3, told.attends.2)))
