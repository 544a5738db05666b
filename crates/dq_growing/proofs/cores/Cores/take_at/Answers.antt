use Rattle.std.proofs.Common.{refl}
use Rattle.dq_growing.proofs.Rows.{removed_law, gives}
use Rattle.dq_core.specs.Core.{machine}
use Rattle.dq_growing.proofs.Quiet.{quiet_fresh}
use Rattle.dq_growing.proofs.cores.Cores.take_at.Goals as goal

pub invariant_of-self : goal.invariant_of-self
invariant_of-self g c =
    (removed_law _ _ c.args.at c.self.invariant.0 (rw (← c.self.view_is) at c.requires).1.0.0 c.remove-core.ensures.items refl refl, (λ j d ne there. quiet_fresh (machine d) _ c.new-self-inside.ensures.others, λ j d there. quiet_fresh (machine d) _ (c.new-self-inside.ensures.bounds j)))

pub returns-clause-gives : goal.returns-clause-gives
returns-clause-gives g c =
    rw (← c.self.view_is)
    (gives _ c.args.at _ c.remove-core.result _ (rw (← c.self.view_is) at c.requires) c.remove-core.ensures.value
    c.remove-core.ensures.items c.opened_after-self-inside.ensures)
