use Rattle.std.proofs.Common.{◌≡◌, ap, subst}
use Rattle.dq_growing.specs.Sized.{SizedState}
use Rattle.dq_queue.specs.Shards.{HeldShard}
use Rattle.dq_queue.proofs.Histories.{keeps_so}
use Rattle.dq_queue.proofs.shard.Shard.call_others.Goals as goal

pub invariant_of-self : goal.invariant_of-self
invariant_of-self g c =
    keeps_so g.J.Rooms.shards g.J.Rooms.history g.J.Rooms.loans g.J.Rooms.rows _ _ c.self.inside.history.view c.self.inside.claims.items _ c.self.inside.loans.view c.self.inside.sized c.call_others.new.self
    (ap (λ (s : SizedState _ _). s.store) c.call_others.ensures) c.self.invariant

pub returns-clause-size : goal.returns-clause-size
returns-clause-size g c =
    let t = c.call_others.new.self in
    let P : HeldShard _ → Type 0 = λ x. t ≡ record x.sized { hint = 0 } in
    subst P c.self.view_is c.call_others.ensures

pub returns-clause-none : goal.returns-clause-none
returns-clause-none g c =
    let is = c.self.view_is in
    (ap (λ (s : HeldShard _). s.number) is, ap (λ (s : HeldShard _). s.history) is, ap (λ (s : HeldShard _). s.claims) is)
