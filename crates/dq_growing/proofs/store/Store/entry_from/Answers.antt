use Rattle.std.proofs.Common.{◌+◌}
use Rattle.dq_growing.proofs.Stored.{stored, from_none, from_some}
use Rattle.dq_growing.proofs.store.Store.entry_from.Goals as goal

pub returns-in_default-entry_from : goal.returns-in_default-entry_from
returns-in_default-entry_from g c =
    let i = c.self.inside in
    rw (← c.self.view_is)
    (from_none (stored i.cores i.notes) c.args.place c.in-Some.core.now c.in-Some.ensures.found c.args.from (c.args.from + c.args.count) c.entry_from.result c.entry_from.ensures c.in_default-entry_from.is)

pub returns : goal.returns
returns g c =
    let i = c.self.inside in
    rw (← c.self.view_is)
    (from_some (stored i.cores i.notes) c.args.place c.in-Some.core.now c.in-Some.ensures.found c.args.from (c.args.from + c.args.count) c.entry_from.result c.in-Some-entry_from.entry c.user-user.result c.entry_from.ensures c.in-Some-entry_from.is c.user-user.ensures)
