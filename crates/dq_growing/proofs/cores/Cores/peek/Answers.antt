use Rattle.dq_growing.proofs.Leasts.{peeks}
use Rattle.dq_growing.proofs.cores.Cores.peek.Goals as goal

pub returns : goal.returns
returns g c =
    let i = c.self.inside in
    rw (← c.self.view_is)
    (peeks (record { cores = i.cores.items; opened = i.opened; next = i.next; noted = i.noted }) c.in-Some.least c.index.result.now
    c.peek-key.result (rw (← c.self.view_is) at c.in-Some.ensures) c.index.ensures c.peek-key.ensures)
