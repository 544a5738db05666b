use Rattle.dq_core.specs.Slots.{row_at}
use Rattle.dq_core.proofs.Ways.{core_of}
use Rattle.dq_core.proofs.Steps.{none_linked}
use Rattle.dq_core.proofs.Asks.{tells_least, born_is}
use Rattle.dq_core.proofs.queue.DelayCore.peek.Goals as goal

pub returns-in_default : goal.returns-in_default
returns-in_default g c =
    let s = c.self.inside in
    let b = core_of s.shard s.noted s.wheel s.slots (g.W.Words.known s.words) (g.W.Words.counts s.words) s.words in
    rw (← c.self.view_is) (none_linked b c.self.invariant.0 c.in_default.ensures)

pub returns : goal.returns
returns g c =
    let s = c.self.inside in
    let b = core_of s.shard s.noted s.wheel s.slots (g.W.Words.known s.words) (g.W.Words.counts s.words) s.words in
    rw (← c.self.view_is)
    (tells_least b c.self.invariant.0 c.in-Some.index c.unwrap-born.result c.stamp.result c.new-entry.result c.new.result c.in-Some.ensures (born_is (row_at s.slots.rows c.in-Some.index) _ _ c.unwrap-born.ensures c.born.ensures) c.stamp.ensures c.new-entry.ensures c.new.ensures)
