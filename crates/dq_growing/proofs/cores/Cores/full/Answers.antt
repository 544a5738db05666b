use Rattle.std.proofs.Common.{◌<◌, length, sym, rules}
use Rattle.dq_growing.proofs.Moves.{full_told}
use Rattle.dq_growing.proofs.cores.Cores.full.Goals as goal

pub returns : goal.returns
returns g c =
    let i = c.self.inside in
    let inside : i.opened < length i.cores.items = search rules in
    rw (← c.self.view_is)
    (full_told (record { cores = i.cores.items; opened = i.opened; next = i.next; noted = i.noted }) c.index.result.now c.full_of-full.result
    (inside, sym c.index.ensures) c.full_of-full.ensures)
