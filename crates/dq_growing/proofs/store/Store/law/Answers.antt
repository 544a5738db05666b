use Rattle.dq_growing.proofs.Stored.{apart}
use Rattle.dq_growing.proofs.Keeping.{one_value}
use Rattle.dq_growing.proofs.store.Store.law.Goals as goal

pub returns-clause-apart : goal.returns-clause-apart
returns-clause-apart g c = rw (← c.self.view_is) (apart _ c.self.invariant)

pub returns-clause-one : goal.returns-clause-one
returns-clause-one g c id = rw (← c.self.view_is) (one_value _ c.self.invariant c.law.ensures id)
