use Rattle.std.proofs.Common.{Some, ap, ◌∙◌}
use Rattle.dq_shards.specs.Parking.{poller}
use Rattle.dq_shards.proofs.ParkedLaw.{may_wait}
use Rattle.dq_shards.proofs.state.ShardState.park.Goals as goal

pub invariant_of-self : goal.invariant_of-self
invariant_of-self g c =
    let same = ap (λ s. s.core) (c.self.view_is ∙ c.unpark.ensures.1) in
    rw same (may_wait c.args.self.now.core (Some (poller c.args.next c.args.waker)) c.requires)
