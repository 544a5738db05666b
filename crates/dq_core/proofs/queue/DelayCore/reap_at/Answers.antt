use Rattle.std.proofs.Common.{◌∙◌, refl}
use Rattle.dq_core.proofs.Ways.{core_of}
use Rattle.dq_core.proofs.Leaving.{held_at, swept_none, swept_live, swept_reaped, reaped_lawful}
use Rattle.dq_core.proofs.Settings.{stays}
use Rattle.dq_core.proofs.queue.DelayCore.reap_at.Goals as goal

pub returns-then-not-is_held-clause-swept : goal.returns-then-not-is_held-clause-swept
returns-then-not-is_held-clause-swept g c =
    rw (← c.self.view_is) (swept_none g.W.Words.shared _ c.args.index c.self.invariant.0 c.if-not-is_held.ensures)

pub returns-in_default : goal.returns-in_default
returns-in_default g c =
    let s = c.self.inside in
    let b = core_of s.shard s.noted s.wheel s.slots (g.W.Words.known s.words) (g.W.Words.counts s.words) s.words in
    let at = held_at b c.self.invariant.0 c.args.index c.if-not-is_held.ensures in
    rw (← c.self.view_is)
    (record { same = (refl, refl, refl); origin = c.look-word.ensures.origin; begun = c.look-word.ensures.begun; one_step = c.look-word.ensures.one_step; swept = swept_live g.W.Words.shared b _ c.self.invariant.0 c.args.index at.0 at.1 c.look-word.result c.look-word.ensures.learned c.in_default.not-CancelledMark refl refl c.look-word.ensures.known c.look-word.ensures.counts refl; deferred = stays _ _ })

pub invariant_of-self-2 : goal.invariant_of-self-2
invariant_of-self-2 g c =
    let s = c.self.inside in
    let b = core_of s.shard s.noted s.wheel s.slots (g.W.Words.known s.words) (g.W.Words.counts s.words) s.words in
    let n = core_of s.shard s.noted c.unlink.new.self c.defer.new.self (g.W.Words.known c.look-word.new.self) (g.W.Words.counts c.look-word.new.self) c.look-word.new.self in
    let at = held_at b c.self.invariant.0 c.args.index c.if-not-is_held.ensures in
    (reaped_lawful g.W.Words.shared b n c.self.invariant.0 c.args.index at.0 at.1 c.look-word.result c.look-word.ensures.learned c.in-CancelledMark.is c.unlink.ensures.exact c.defer.ensures.vacated c.look-word.ensures.known c.look-word.ensures.counts, c.look-word.ensures.counts ∙ c.self.invariant.1)

pub returns-clause-swept : goal.returns-clause-swept
returns-clause-swept g c =
    let s = c.self.inside in
    let b = core_of s.shard s.noted s.wheel s.slots (g.W.Words.known s.words) (g.W.Words.counts s.words) s.words in
    let at = held_at b c.self.invariant.0 c.args.index c.if-not-is_held.ensures in
    rw (← c.self.view_is)
    (swept_reaped g.W.Words.shared b _ c.self.invariant.0 c.args.index at.0 at.1 c.look-word.result c.look-word.ensures.learned c.in-CancelledMark.is c.unlink.ensures.exact c.defer.ensures.vacated c.look-word.ensures.known c.look-word.ensures.counts refl)

pub returns-then-not-is_held-clause-deferred : goal.returns-then-not-is_held-clause-deferred
returns-then-not-is_held-clause-deferred g c = rw (← c.self.view_is) (stays _ _)

pub returns-clause-deferred : goal.returns-clause-deferred
returns-clause-deferred g c = rw (← c.self.view_is) c.defer.ensures.deferred
