use Rattle.std.proofs.Common.{sym, ◌∙◌}
use Rattle.dq_growing.proofs.Stored.{stored, none_number, found_by}
use Rattle.dq_growing.proofs.store.Store.get.Goals as goal

pub returns-in_default-of : goal.returns-in_default-of
returns-in_default-of g c =
    let i = c.self.inside in
    rw (← c.self.view_is)
    (none_number (stored i.cores i.notes) c.self.invariant c.args.entry.now c.in-Some.place (sym c.place.ensures ∙ c.in-Some.is) c.in_default-of.ensures.none)

pub returns : goal.returns
returns g c =
    let i = c.self.inside in
    let at = c.in-Some-of.ensures.found in
    rw (← c.self.view_is)
    (found_by (stored i.cores i.notes) c.self.invariant c.args.entry.now c.law.ensures c.in-Some.place at.0 c.in-Some-of.core.now (sym c.place.ensures ∙ c.in-Some.is) at.1 c.law-2.ensures.shard _ _ c.get.ensures)
