use Rattle.std.proofs.Common.{refl}
use Rattle.dq_core.proofs.Ways.{core_of}
use Rattle.dq_core.proofs.Finds.{seen_as_cancelled, seen_as_live}
use Rattle.dq_core.proofs.CallWords.{missing_exactly, looked_others}
use Rattle.dq_core.proofs.queue.DelayCore.deadline.Goals as goal

pub returns-in_default-mark-clause-tells : goal.returns-in_default-mark-clause-tells
returns-in_default-mark-clause-tells g c =
    let s = c.self.inside in
    let b = core_of s.shard s.noted s.wheel s.slots (g.W.Words.known s.words) (g.W.Words.counts s.words) s.words in
    let found = rw (← c.self.view_is) at c.in-Some.ensures in
    rw (← c.self.view_is)
    (seen_as_live g.W.Words.shared b c.self.invariant.0 c.args.entry.now c.in-Some.index found _ c.look-word.result c.in_default-mark.not-CancelledMark c.look-word.ensures.learned c.look-word.ensures.known refl refl c.look-word.ensures.counts refl refl)

pub returns-clause-tells : goal.returns-clause-tells
returns-clause-tells g c =
    let s = c.self.inside in
    let b = core_of s.shard s.noted s.wheel s.slots (g.W.Words.known s.words) (g.W.Words.counts s.words) s.words in
    let found = rw (← c.self.view_is) at c.in-Some.ensures in
    rw (← c.self.view_is)
    (seen_as_cancelled g.W.Words.shared b c.self.invariant.0 c.args.entry.now c.in-Some.index found _ c.look-word.result c.in-CancelledMark.is c.look-word.ensures.learned c.look-word.ensures.known refl refl c.look-word.ensures.counts refl refl)

pub returns-in_default-mark-clause-live : goal.returns-in_default-mark-clause-live
returns-in_default-mark-clause-live g c = (returns-in_default-mark-clause-tells g c).entry

pub returns-in_default-mark-clause-others : goal.returns-in_default-mark-clause-others
returns-in_default-mark-clause-others g c = looked_others (returns-in_default-mark-clause-tells g c).looked

pub returns-clause-cancelled : goal.returns-clause-cancelled
returns-clause-cancelled g c = λ _. (returns-clause-tells g c).entry

pub returns-clause-others : goal.returns-clause-others
returns-clause-others g c = looked_others (returns-clause-tells g c).looked

pub returns-in_default-mark-clause-missing : goal.returns-in_default-mark-clause-missing
returns-in_default-mark-clause-missing g c =
    let s = c.self.inside in
    let b = core_of s.shard s.noted s.wheel s.slots (g.W.Words.known s.words) (g.W.Words.counts s.words) s.words in
    let found = rw (← c.self.view_is) at c.in-Some.ensures in
    rw (← c.self.view_is) (missing_exactly b c.self.invariant.0 c.args.entry.now c.in-Some.index found _ (λ e. cc))

pub returns-clause-missing : goal.returns-clause-missing
returns-clause-missing g c =
    let s = c.self.inside in
    let b = core_of s.shard s.noted s.wheel s.slots (g.W.Words.known s.words) (g.W.Words.counts s.words) s.words in
    let found = rw (← c.self.view_is) at c.in-Some.ensures in
    rw (← c.self.view_is) (missing_exactly b c.self.invariant.0 c.args.entry.now c.in-Some.index found _ (λ e. cc))
