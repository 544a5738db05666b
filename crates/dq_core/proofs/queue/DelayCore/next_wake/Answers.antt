use Rattle.dq_core.proofs.Ways.{core_of}
use Rattle.dq_core.proofs.Steps.{tells_wake, wakes_ahead}
use Rattle.dq_core.proofs.Rests.{wakes_none}
use Rattle.dq_core.proofs.queue.DelayCore.next_wake.Goals as goal

pub returns-clause-wake : goal.returns-clause-wake
returns-clause-wake g c =
    let s = c.self.inside in
    let b = core_of s.shard s.noted s.wheel s.slots (g.W.Words.known s.words) (g.W.Words.counts s.words) s.words in
    rw (← c.self.view_is) (tells_wake b c.self.invariant.0 c.next_wake.result c.next_wake.ensures)

pub returns-clause-ahead : goal.returns-clause-ahead
returns-clause-ahead g c =
    let s = c.self.inside in
    let b = core_of s.shard s.noted s.wheel s.slots (g.W.Words.known s.words) (g.W.Words.counts s.words) s.words in
    rw (← c.self.view_is) (wakes_ahead b c.next_wake.result c.wakes_are_ahead.ensures c.law.ensures c.next_wake.ensures)

pub returns-clause-none : goal.returns-clause-none
returns-clause-none g c =
    let s = c.self.inside in
    let b = core_of s.shard s.noted s.wheel s.slots (g.W.Words.known s.words) (g.W.Words.counts s.words) s.words in
    rw (← c.self.view_is) (wakes_none b c.self.invariant.0 c.next_wake.result c.next_wake.ensures)
