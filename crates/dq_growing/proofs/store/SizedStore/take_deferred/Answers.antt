use Rattle.dq_growing.proofs.Stored.{stored, deferred_ages, law_takes_deferred}
use Rattle.dq_growing.proofs.Keeping.{keeps_noted}
use Rattle.dq_growing.proofs.Holding.{deferred_raises, holds_noted}
use Rattle.dq_growing.proofs.Hints.{held_late, takes_late}
use Rattle.dq_growing.proofs.store.SizedStore.take_deferred.Goals as goal

pub invariant_of-self-inside : goal.invariant_of-self-inside
invariant_of-self-inside g c =
    let i = c.self-inside.inside.0.0 in
    let a = c.take_deferred-value in
    law_takes_deferred (stored i.cores i.notes) a.new.self a.result c.self-inside.invariant c.law.ensures a.ensures

pub returns-clause-keeps : goal.returns-clause-keeps
returns-clause-keeps g c =
    let i = c.self-inside.inside.0.0 in
    let a = c.take_deferred-value in
    rw (← c.self.view_is, ← c.self-inside.view_is) (keeps_noted (stored i.cores i.notes) a.new.self c.self-inside.invariant (deferred_ages i.cores a.new.self a.result c.law.ensures a.ensures))

pub returns-clause-holds : goal.returns-clause-holds
returns-clause-holds g c =
    let i = c.self-inside.inside.0.0 in
    let a = c.take_deferred-value in
    rw (← c.self.view_is, ← c.self-inside.view_is) (holds_noted (stored i.cores i.notes) a.new.self (deferred_raises i.cores a.new.self a.result a.ensures))

pub invariant_of-self : goal.invariant_of-self
invariant_of-self g c =
    let i = c.self-inside.inside.0.0 in
    let a = c.take_deferred-value in
    takes_late i.cores a.new.self c.self-inside.inside.0.1.1.0 a.result a.ensures (held_late _ c.self.inside c.self-inside.view_is c.self.invariant)

pub returns-clause-takes : goal.returns-clause-takes
returns-clause-takes g c = rw (← c.self.view_is, ← c.self-inside.view_is) c.take_deferred-value.ensures
