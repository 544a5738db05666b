use Rattle.std.proofs.Common.{◌+◌}
use Rattle.dq_growing.proofs.Stored.{stored, law_same_notes}
use Rattle.dq_growing.proofs.Keeping.{keeps_noted}
use Rattle.dq_growing.proofs.Holding.{swept_raises, holds_noted}
use Rattle.dq_growing.proofs.store.Store.sweep_some.Goals as goal

pub invariant_of-self : goal.invariant_of-self
invariant_of-self g c =
    let i = c.self.inside in
    let a = c.sweep_some-swept in
    law_same_notes (stored i.cores i.notes) a.new.self c.self.invariant a.ensures.ages

pub returns-clause-words : goal.returns-clause-words
returns-clause-words g c = rw (← c.self.view_is) c.sweep_some-swept.ensures.words

pub returns-clause-keeps : goal.returns-clause-keeps
returns-clause-keeps g c =
    let i = c.self.inside in
    let a = c.sweep_some-swept in
    rw (← c.self.view_is) (keeps_noted (stored i.cores i.notes) a.new.self c.self.invariant a.ensures.ages)

pub returns-clause-holds : goal.returns-clause-holds
returns-clause-holds g c =
    let i = c.self.inside in
    let a = c.sweep_some-swept in
    rw (← c.self.view_is)
    (holds_noted (stored i.cores i.notes) a.new.self
    (swept_raises g.W.Words.origin g.W.Words.begun g.W.Words.shared i.cores a.new.self c.args.place c.args.from (c.args.from + c.args.count) a.result a.ensures.words a.ensures.sweeps))
