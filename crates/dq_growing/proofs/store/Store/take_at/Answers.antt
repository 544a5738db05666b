use Rattle.std.proofs.Common.{Some}
use Rattle.dq_growing.proofs.Stored.{stored, given_ages, law_given}
use Rattle.dq_growing.proofs.Keeping.{keeps_noted}
use Rattle.dq_growing.proofs.Holding.{given_raises, holds_noted}
use Rattle.dq_growing.proofs.store.Store.take_at.Goals as goal

pub invariant_of-self : goal.invariant_of-self
invariant_of-self g c =
    let i = c.self.inside in
    let a = c.take_at-core in
    law_given (stored i.cores i.notes) a.new.self (Some a.result) c.self.invariant c.law.ensures a.ensures.gives (tt {0})

pub returns-clause-keeps : goal.returns-clause-keeps
returns-clause-keeps g c =
    let i = c.self.inside in
    let a = c.take_at-core in
    rw (← c.self.view_is)
    (keeps_noted (stored i.cores i.notes) a.new.self c.self.invariant (given_ages i.cores a.new.self (Some a.result) c.law.ensures a.ensures.gives (tt {0})))

pub returns-clause-holds : goal.returns-clause-holds
returns-clause-holds g c =
    let i = c.self.inside in
    let a = c.take_at-core in
    rw (← c.self.view_is) (holds_noted (stored i.cores i.notes) a.new.self (given_raises i.cores a.new.self (Some a.result) a.ensures.gives (tt {0})))

pub take_at-core-requires : goal.take_at-core-requires
take_at-core-requires g c = rw (← c.self.view_is) at c.requires
