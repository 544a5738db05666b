use Rattle.dq_growing.proofs.Hints.{given_late, held_late}
use Rattle.dq_growing.proofs.Stored.{stored, given_ages, law_given}
use Rattle.dq_growing.proofs.Keeping.{keeps_noted}
use Rattle.dq_growing.proofs.Holding.{given_raises, holds_noted}
use Rattle.dq_growing.proofs.store.SizedStore.take_drained.Goals as goal

pub invariant_of-self-inside : goal.invariant_of-self-inside
invariant_of-self-inside g c =
    let i = c.self-inside.inside.0.0 in
    let a = c.take_drained-core in
    law_given (stored i.cores i.notes) a.new.self a.result c.self-inside.invariant c.law.ensures a.ensures.gives a.ensures.none

pub invariant_of-self : goal.invariant_of-self
invariant_of-self g c =
    let i = c.self-inside.inside.0.0 in
    let a = c.take_drained-core in
    given_late i.cores a.new.self c.self-inside.inside.0.1.1.0 a.result a.ensures.gives a.ensures.none
    (held_late _ c.self.inside c.self-inside.view_is c.self.invariant)

pub returns-then-is_some-clause-keeps : goal.returns-then-is_some-clause-keeps
returns-then-is_some-clause-keeps g c =
    let i = c.self-inside.inside.0.0 in
    let a = c.take_drained-core in
    rw (← c.self.view_is, ← c.self-inside.view_is)
    (keeps_noted (stored i.cores i.notes) a.new.self c.self-inside.invariant (given_ages i.cores a.new.self a.result c.law.ensures a.ensures.gives a.ensures.none))

pub returns-then-is_some-clause-holds : goal.returns-then-is_some-clause-holds
returns-then-is_some-clause-holds g c =
    let i = c.self-inside.inside.0.0 in
    let a = c.take_drained-core in
    rw (← c.self.view_is, ← c.self-inside.view_is) (holds_noted (stored i.cores i.notes) a.new.self (given_raises i.cores a.new.self a.result a.ensures.gives a.ensures.none))

pub invariant_of-self-inside-else-is_some : goal.invariant_of-self-inside-else-is_some
invariant_of-self-inside-else-is_some g c =
    let i = c.self-inside.inside.0.0 in
    let a = c.take_drained-core in
    law_given (stored i.cores i.notes) a.new.self a.result c.self-inside.invariant c.law.ensures a.ensures.gives a.ensures.none

pub invariant_of-self-else-is_some : goal.invariant_of-self-else-is_some
invariant_of-self-else-is_some g c =
    let i = c.self-inside.inside.0.0 in
    let a = c.take_drained-core in
    given_late i.cores a.new.self c.self-inside.inside.0.1.1.0 a.result a.ensures.gives a.ensures.none
    (held_late _ c.self.inside c.self-inside.view_is c.self.invariant)

pub returns-else-is_some-clause-keeps : goal.returns-else-is_some-clause-keeps
returns-else-is_some-clause-keeps g c =
    let i = c.self-inside.inside.0.0 in
    let a = c.take_drained-core in
    rw (← c.self.view_is, ← c.self-inside.view_is)
    (keeps_noted (stored i.cores i.notes) a.new.self c.self-inside.invariant (given_ages i.cores a.new.self a.result c.law.ensures a.ensures.gives a.ensures.none))

pub returns-else-is_some-clause-holds : goal.returns-else-is_some-clause-holds
returns-else-is_some-clause-holds g c =
    let i = c.self-inside.inside.0.0 in
    let a = c.take_drained-core in
    rw (← c.self.view_is, ← c.self-inside.view_is) (holds_noted (stored i.cores i.notes) a.new.self (given_raises i.cores a.new.self a.result a.ensures.gives a.ensures.none))
