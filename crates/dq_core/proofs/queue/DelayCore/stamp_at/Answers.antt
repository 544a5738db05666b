use Rattle.std.proofs.Common.{sym, ◌∙◌, arith}
use Rattle.dq_core.proofs.Ways.{core_of}
use Rattle.dq_core.proofs.Asks.{stamp_told, stamp_past}
use Rattle.dq_core.proofs.queue.DelayCore.stamp_at.Goals as goal

pub returns-then-index-capacity : goal.returns-then-index-capacity
returns-then-index-capacity g c =
    let s = c.self.inside in
    let b = core_of s.shard s.noted s.wheel s.slots (g.W.Words.known s.words) (g.W.Words.counts s.words) s.words in
    let cap = c.capacity.ensures in
    let past = c.if-index-capacity.true in
    rw (← c.self.view_is) (sym (stamp_past b c.self.invariant.0 c.args.index (omega (arith, cap, past))))

pub returns : goal.returns
returns g c =
    let s = c.self.inside in
    let b = core_of s.shard s.noted s.wheel s.slots (g.W.Words.known s.words) (g.W.Words.counts s.words) s.words in
    rw (← c.self.view_is) (c.stamp.ensures ∙ sym (stamp_told b c.self.invariant.0 c.args.index))
