use Rattle.std.proofs.Common.{◌∙◌, ◌%◌, ap, refl, Ok}
use Rattle.dq_shards.specs.Changes.{ShardInserts}
use Rattle.dq_shards.proofs.Locked.{on_numbered}
use Rattle.dq_shards.proofs.queue.SharedDelayQueue.insert.Goals as goal

pub returns-in-Ok-clause-inserts : goal.returns-in-Ok-clause-inserts
returns-in-Ok-clause-inserts g c =
    let told = c.insert-answer.ensures in
    let does = rw c.in-Ok.is at told.inserts in
    let begun = rw c.in-Ok.is at told.begins in
    let routed = c.routed_shard-shard.ensures ∙ ap (λ n. c.args.route % n) (c.len.ensures ∙ c.self.view_is) in
    on_numbered (c.args.route % c.args.self.now) (λ old r new. ShardInserts old c.args.value c.args.when r new) (Ok c.in-Ok.key) _ _ _ _ c.lock_with_room-locked.ensures.law (c.lock_with_room-locked.ensures.place ∙ routed) (c.behind-locked.view_is ∙ c.deref_mut.ensures.value) c.unlock.ensures.law refl (does, (told.attends.0, told.attends.1, told.attends.3, told.attends.2), begun)
