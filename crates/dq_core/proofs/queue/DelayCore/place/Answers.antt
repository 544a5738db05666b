use Rattle.dq_core.proofs.Ways.{core_of}
use Rattle.dq_core.proofs.Asks.{tells_place}
use Rattle.dq_core.proofs.queue.DelayCore.place.Goals as goal

pub returns : goal.returns
returns g c =
    let s = c.self.inside in
    let b = core_of s.shard s.noted s.wheel s.slots (g.W.Words.known s.words) (g.W.Words.counts s.words) s.words in
    let found = rw (← c.self.view_is) at c.in-Some.ensures in
    rw (← c.self.view_is) (tells_place b c.self.invariant.0 c.args.entry.now c.in-Some.index c.place.result found c.place.ensures)
