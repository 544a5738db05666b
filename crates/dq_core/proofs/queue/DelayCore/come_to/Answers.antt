use Rattle.std.proofs.Common.{arith}
use Rattle.dq_core.proofs.Ways.{core_of}
use Rattle.dq_core.proofs.Renewing.{goes_to_limit, law_later, none_filed}
use Rattle.dq_core.proofs.Steps.{none_linked}
use Rattle.dq_core.proofs.queue.DelayCore.come_to.Goals as goal

pub advance-requires-clause-none_due : goal.advance-requires-clause-none_due
advance-requires-clause-none_due g c =
    let none = rw (← c.self.view_is) at c.requires.empty in
    λ i. none_filed c.self.invariant.0 none i _

pub advance-requires-clause-not_before : goal.advance-requires-clause-not_before
advance-requires-clause-not_before g c =
    let up = rw (← c.self.view_is) at c.requires.later in
    let tick = c.self.invariant.0.tick in
    omega (arith, up, tick)

pub invariant_of-self : goal.invariant_of-self
invariant_of-self g c =
    let none = rw (← c.self.view_is) at c.requires.empty in
    let up = rw (← c.self.view_is) at c.requires.later in
    let way = goes_to_limit _ _ _ _ (none_filed c.self.invariant.0 none) c.advance.ensures.way in
    (law_later c.self.invariant.0 none up c.requires.in_range way, c.self.invariant.1)

pub returns-clause-none : goal.returns-clause-none
returns-clause-none g c =
    let s = c.self.inside in
    let b = core_of s.shard s.noted s.wheel s.slots (g.W.Words.known s.words) (g.W.Words.counts s.words) s.words in
    let none = rw (← c.self.view_is) at c.requires.empty in
    none_linked b c.self.invariant.0 (none_filed c.self.invariant.0 none)

pub returns-clause-way : goal.returns-clause-way
returns-clause-way g c =
    let none = rw (← c.self.view_is) at c.requires.empty in
    rw (← c.self.view_is) (goes_to_limit _ _ _ _ (none_filed c.self.invariant.0 none) c.advance.ensures.way)
