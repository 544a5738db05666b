use Rattle.std.proofs.Common.{◌≡◌, ◌++◌, ◌∷◌, [], rules}
use Rattle.dq_growing.proofs.Rows.{takes_law}
use Rattle.dq_core.specs.Core.{machine}
use Rattle.dq_growing.proofs.Quiet.{quiet_fresh}
use Rattle.dq_growing.proofs.cores.Cores.take_in.Goals as goal

pub invariant_of-self-2 : goal.invariant_of-self-2
invariant_of-self-2 g c =
    let is : c.push_reserved.new.self.items ≡ c.self.inside.cores.items ++ c.args.core ∷ [] = search rules in (
      takes_law _ _ c.args.core c.self.invariant.0 (rw (← c.self.view_is) at c.in_default.ensures.may) is
          (rw c.shard-number.ensures at c.max-self-inside.ensures) (rw c.noted.ensures at c.max-self-inside-2.ensures) c.law.ensures.shard.noted_bound,
      (λ j d ne there. quiet_fresh (machine d) _ c.new-self-inside.ensures.others, λ j d there. quiet_fresh (machine d) _ (c.new-self-inside.ensures.bounds j)),
    )

pub invariant_of-self : goal.invariant_of-self
invariant_of-self g c = rw c.reserve.ensures.items c.self.invariant
