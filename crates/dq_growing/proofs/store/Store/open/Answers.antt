use Rattle.dq_growing.proofs.Stored.{stored, opens_age, law_opens}
use Rattle.dq_growing.proofs.Keeping.{keeps_noted}
use Rattle.dq_growing.proofs.Holding.{opened_raises, holds_noted}
use Rattle.dq_growing.proofs.store.Store.open.Goals as goal

pub invariant_of-self : goal.invariant_of-self
invariant_of-self g c =
    let i = c.self.inside in
    let o = c.open-opens in
    law_opens (stored i.cores i.notes) o.new.self o.result c.args.place c.self.invariant o.ensures.opens o.ensures.refused

pub returns-clause-keeps : goal.returns-clause-keeps
returns-clause-keeps g c =
    let i = c.self.inside in
    let o = c.open-opens in
    rw (← c.self.view_is) (keeps_noted (stored i.cores i.notes) o.new.self c.self.invariant (opens_age i.cores o.new.self o.result c.args.place o.ensures.opens o.ensures.refused))

pub returns-clause-holds : goal.returns-clause-holds
returns-clause-holds g c =
    let i = c.self.inside in
    let o = c.open-opens in
    rw (← c.self.view_is) (holds_noted (stored i.cores i.notes) o.new.self (opened_raises i.cores o.new.self o.result c.args.place o.ensures.opens o.ensures.refused))
