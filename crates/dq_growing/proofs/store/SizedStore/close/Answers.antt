use Rattle.std.proofs.Common.{length, ap}
use Rattle.dq_growing.proofs.Stored.{stored, opened_ages, law_closes}
use Rattle.dq_growing.proofs.Keeping.{keeps_noted}
use Rattle.dq_growing.proofs.Holding.{row_same, holds_noted}
use Rattle.dq_growing.proofs.Hints.{held_late, cores_late}
use Rattle.dq_growing.proofs.store.SizedStore.close.Goals as goal

pub invariant_of-self-inside : goal.invariant_of-self-inside
invariant_of-self-inside g c =
    let i = c.self-inside.inside.0.0 in
    law_closes (stored i.cores i.notes) c.close.new.self (length i.cores.cores) c.self-inside.invariant c.close.ensures

pub returns-clause-keeps : goal.returns-clause-keeps
returns-clause-keeps g c =
    let i = c.self-inside.inside.0.0 in
    rw (← c.self.view_is, ← c.self-inside.view_is) (keeps_noted (stored i.cores i.notes) c.close.new.self c.self-inside.invariant (opened_ages i.cores c.close.new.self (length i.cores.cores) c.close.ensures))

pub returns-clause-holds : goal.returns-clause-holds
returns-clause-holds g c =
    let i = c.self-inside.inside.0.0 in
    rw (← c.self.view_is, ← c.self-inside.view_is) (holds_noted (stored i.cores i.notes) c.close.new.self (λ q. row_same i.cores c.close.new.self q (ap (λ k. k.cores) c.close.ensures)))

pub invariant_of-self : goal.invariant_of-self
invariant_of-self g c =
    let i = c.self-inside.inside.0.0 in
    cores_late i.cores c.close.new.self c.self-inside.inside.0.1.1.0 (ap (λ k. k.cores) c.close.ensures) (held_late _ c.self.inside c.self-inside.view_is c.self.invariant)
