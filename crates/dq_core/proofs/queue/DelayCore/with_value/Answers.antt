use Rattle.std.specs.Fn.{FnOnceReturnsAtMut}
use Rattle.dq_core.specs.Slots.{shown}
use Rattle.dq_core.proofs.Ways.{core_of}
use Rattle.dq_core.proofs.Values.{law_revalued, changed_value, changed_entry, changed_same}
use Rattle.dq_core.proofs.queue.DelayCore.with_value.Goals as goal

pub invariant_of-self : goal.invariant_of-self
invariant_of-self g c =
    let found = rw (← c.self.view_is) at c.in-Some.ensures in
    let m = c.with_value-answer.ensures.changes in
    rw m.4 (law_revalued c.self.invariant.0 c.in-Some.index m.0 m.1 found.2 m.2, c.self.invariant.1)

pub returns-clause-changes : goal.returns-clause-changes
returns-clause-changes g c =
    let s = c.self.inside in
    let b = core_of s.shard s.noted s.wheel s.slots (g.W.Words.known s.words) (g.W.Words.counts s.words) s.words in
    let found = rw (← c.self.view_is) at c.in-Some.ensures in
    let a = c.with_value-answer in
    rw (← c.self.view_is, a.ensures.deferred)
    (changed_value (FnOnceReturnsAtMut g.F.FnOnce c.args.call) b c.args.entry.now c.in-Some.index a.result (shown a.new.self) found a.ensures.changes)

pub returns-clause-entry : goal.returns-clause-entry
returns-clause-entry g c =
    let s = c.self.inside in
    let b = core_of s.shard s.noted s.wheel s.slots (g.W.Words.known s.words) (g.W.Words.counts s.words) s.words in
    rw (← c.self.view_is)
    (changed_entry (FnOnceReturnsAtMut g.F.FnOnce c.args.call) b _ c.args.entry.now c.with_value-answer.result c.self.invariant.0 (rw (← c.self.view_is) at (returns-clause-changes g c)))

pub returns-clause-same : goal.returns-clause-same
returns-clause-same g c =
    let made = returns-clause-changes g c in
    changed_same c.args.self.now _ c.args.entry.now.index made.1 made.4
