use Rattle.std.proofs.Common.{sym, ap, ◌∙◌, subst}
use Rattle.dq_shards.specs.Shard.{IsShard}
use Rattle.dq_shards.proofs.queue.SharedDelayQueue.issue_of.Goals as goal

pub returns : goal.returns
returns g c =
    let entered = c.deref_mut.ensures.value in (
      c.deref_mut.result.now,
      c.issue-issued.new.self,
      subst (λ s. IsShard s) (sym entered) c.lock-shard.ensures.law,
      subst (λ s. IsShard s) c.deref.ensures c.law.ensures,
      (ap (λ s. s.core.shard) entered ∙ c.lock-shard.ensures.place, c.issue-issued.ensures.issues),
    )
