use Rattle.std.proofs.Common.{arith, sym, ◌∙◌}
use Rattle.dq_core.proofs.Ways.{core_of}
use Rattle.dq_core.proofs.Finds.{missing_past, missing_born, other_born}
use Rattle.dq_core.proofs.queue.DelayCore.find.Goals as goal

pub returns-then-index-capacity : goal.returns-then-index-capacity
returns-then-index-capacity g c =
    let s = c.self.inside in
    let b = core_of s.shard s.noted s.wheel s.slots (g.W.Words.known s.words) (g.W.Words.counts s.words) s.words in
    rw (← c.self.view_is) (missing_past b c.self.invariant.0 c.args.entry.now (omega (arith, c.index-index.ensures, c.capacity.ensures, c.if-index-capacity.true)))

pub returns-in_default : goal.returns-in_default
returns-in_default g c =
    let s = c.self.inside in
    let b = core_of s.shard s.noted s.wheel s.slots (g.W.Words.known s.words) (g.W.Words.counts s.words) s.words in
    rw (← c.self.view_is) (missing_born b c.self.invariant.0 c.args.entry.now c.index-index.result c.index-index.ensures c.born.result c.born.ensures (λ n e. absurd (c.in_default.not-Some n e)))

pub returns-then-born : goal.returns-then-born
returns-then-born g c =
    let s = c.self.inside in
    let b = core_of s.shard s.noted s.wheel s.slots (g.W.Words.known s.words) (g.W.Words.counts s.words) s.words in
    rw (← c.self.view_is) (missing_born b c.self.invariant.0 c.args.entry.now c.index-index.result c.index-index.ensures c.born.result c.born.ensures (other_born c.born.result c.in-Some.born c.born-2.result c.args.entry.now.born c.in-Some.is c.born-2.ensures c.if-born.true))

pub returns : goal.returns
returns g c =
    let h = c.in-Some.ensures in
    rw (← c.self.view_is)
    (sym c.shard.ensures ∙ c.if-shard-self.false, c.index-index.ensures, omega (arith, c.capacity.ensures, c.if-index-capacity.false), (h.0, h.1, h.2 ∙ c.if-born.false ∙ c.born-2.ensures))
