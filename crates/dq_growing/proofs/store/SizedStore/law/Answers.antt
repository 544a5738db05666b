use Rattle.dq_growing.proofs.store.SizedStore.law.Goals as goal

pub returns-clause-apart : goal.returns-clause-apart
returns-clause-apart g c = rw (← c.self.view_is) c.law.ensures.apart

pub returns-clause-one : goal.returns-clause-one
returns-clause-one g c = rw (← c.self.view_is) c.law.ensures.one
