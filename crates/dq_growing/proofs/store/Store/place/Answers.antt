use Rattle.std.proofs.Common.{sym}
use Rattle.dq_growing.proofs.Stored.{stored, tells_place}
use Rattle.dq_growing.proofs.store.Store.place.Goals as goal

pub returns-clause-tells : goal.returns-clause-tells
returns-clause-tells g c =
    let i = c.self.inside in
    rw (← c.self.view_is) (tells_place (stored i.cores i.notes) c.self.invariant c.args.entry.now c.place-place.result (sym c.place-place.ensures))
