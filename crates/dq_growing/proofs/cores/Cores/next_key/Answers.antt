use Rattle.std.proofs.Common.{inl, sym, arith}
use Rattle.dq_growing.proofs.cores.Cores.next_key.Goals as goal

pub returns : goal.returns
returns g c =
    rw (← c.self.view_is) (inl (c.index.result.now, (omega arith, sym c.index.ensures), c.next_key-key.ensures))
