use Rattle.std.proofs.Common.{inl, inr, ◌≡◌, ◌+◌, None, length, arith}
use Rattle.dq_core.specs.Readers.{NoneBetween}
use Rattle.dq_core.specs.Slots.{row_at}
use Rattle.dq_core.specs.Core.{machine}
use Rattle.dq_core.specs.Machine.{table_at}
use Rattle.dq_wheel.proofs.Links.{nat_le_or_lt}
use Rattle.dq_core.proofs.Ways.{core_of}
use Rattle.dq_core.proofs.Asks.{none_at, none_past, none_more, tells_first, born_is}
use Rattle.dq_core.proofs.queue.DelayCore.entry_from.Goals as goal

pub loop-index-preserved : goal.loop-index-preserved
loop-index-preserved g c =
    let s = c.self.inside in
    let b = core_of s.shard s.noted s.wheel s.slots (g.W.Words.known s.words) (g.W.Words.counts s.words) s.words in
    let low = c.loop-index.invariant.0 in
    let here : (table_at (machine c.args.self.now) c.loop-index.index).entry ≡ None = rw (← c.self.view_is) (none_at b c.self.invariant.0 c.loop-index.index c.born.result c.born.ensures (λ n e. c.in_default.not-Some n e)) in
    (omega (arith, low), none_more c.args.self.now c.min-first.result c.loop-index.index c.loop-index.invariant.1 here)

pub returns-in-Some : goal.returns-in-Some
returns-in-Some g c =
    let s = c.self.inside in
    let b = core_of s.shard s.noted s.wheel s.slots (g.W.Words.known s.words) (g.W.Words.counts s.words) s.words in
    let low = c.loop-index.invariant.0 in
    let before = rw (← c.self.view_is) at c.loop-index.invariant.1 in
    let first = c.min-first.ensures in
    let more = c.min.ensures in
    let test = c.loop-index-test.true in
    rw (← c.self.view_is)
    (tells_first b c.self.invariant.0 c.args.from c.min-first.result c.loop-index.index c.in-Some.born (c.args.from + c.args.count) c.new.result
    (born_is (row_at s.slots.rows c.loop-index.index) _ _ c.in-Some.is c.born.ensures) c.new.ensures before (omega (arith, low, first, more, test)) (omega (arith, low, first, more, test)) (omega (arith, low, first, more, test)))

pub returns : goal.returns
returns g c =
    let s = c.self.inside in
    let b = core_of s.shard s.noted s.wheel s.slots (g.W.Words.known s.words) (g.W.Words.counts s.words) s.words in
    let before = rw (← c.self.view_is) at c.loop-index.invariant.1 in
    let none : NoneBetween b c.args.from (c.args.from + c.args.count) = λ i after below.
    elim (nat_le_or_lt (length s.slots.rows) i) [
      | inl past ↦ none_past b c.self.invariant.0 i past
      | inr inside ↦
          let first = c.min-first.ensures in
          let more = c.min.ensures in
          let cap = c.capacity-capacity.ensures in
          let test = c.loop-index-test.false in
          before i (omega (arith, first, more, test, cap, after, below, inside)) (omega (arith, first, more, test, cap, after, below, inside))
    ]
    in
    rw (← c.self.view_is) none
