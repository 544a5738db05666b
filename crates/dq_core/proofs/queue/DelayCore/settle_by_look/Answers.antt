use Rattle.std.proofs.Common.{ap, ◌∙◌, refl, arith, length}
use Rattle.dq_core.proofs.Ways.{core_of}
use Rattle.dq_core.proofs.PieceSteps.{look_later, look_cancelled, look_same, looked_same, due_next, due_beside}
use Rattle.dq_core.proofs.Steps.{refiled}
use Rattle.std.proofs.lemmas.List.{length-set}
use Rattle.dq_core.proofs.Settings.{stays}
use Rattle.dq_core.proofs.queue.DelayCore.settle_by_look.Goals as goal

pub invariant_of-self : goal.invariant_of-self
invariant_of-self g c =
    let look = c.look-word.ensures in
    let due = rw (← c.self.view_is) at c.requires.due in
    let s = c.self.inside in
    let b = core_of s.shard s.noted s.wheel s.slots (g.W.Words.known s.words) (g.W.Words.counts s.words) s.words in
    let n = core_of s.shard s.noted c.unlink.new.self c.defer.new.self (g.W.Words.known c.look-word.new.self) (g.W.Words.counts c.look-word.new.self) c.look-word.new.self in
    ((look_cancelled g.W.Words.shared b n c.self.invariant.0 c.args.index due refl _ look.learned c.in_default.not-LiveMark look.known c.unlink.ensures.exact c.defer.ensures.vacated look.counts).0, look.counts ∙ c.self.invariant.1)

pub returns-in_default : goal.returns-in_default
returns-in_default g c =
    let look = c.look-word.ensures in
    let due = rw (← c.self.view_is) at c.requires.due in
    let size = ap (λ s. length s.rows) c.defer.ensures.vacated ∙ length-set _ _ _ in
    let after = c.next_due-next.ensures in
    let filed = ap (λ f. length f.filed) c.unlink.ensures.exact ∙ length-set _ _ _ in
    let next = due_beside c.self.inside.wheel.filing c.unlink.new.self.filing c.args.index c.next_due-next.result c.unlink.ensures.others c.unlink.ensures.tick filed after.due after.in_range after.other in
    let way = look_cancelled g.W.Words.shared _ _ c.self.invariant.0 c.args.index due refl _ look.learned c.in_default.not-LiveMark look.known c.unlink.ensures.exact c.defer.ensures.vacated look.counts in
    rw (← c.self.view_is)
    (record { same = (refl, ap (λ s. s.last_stamp) c.defer.ensures.vacated, size); origin = look.origin; begun = look.begun; one_step = look.one_step; noted = refl; settles = (way.1, way.2); next = next; deferred = c.defer.ensures.deferred })

pub returns-then-word-tick-clause-settles : goal.returns-then-word-tick-clause-settles
returns-then-word-tick-clause-settles g c =
    let look = c.look-word.ensures in
    let due = rw (← c.self.view_is) at c.requires.due in
    let s = c.self.inside in
    let b = core_of s.shard s.noted s.wheel s.slots (g.W.Words.known s.words) (g.W.Words.counts s.words) s.words in
    let tick = c.tick-tick.ensures.value in
    let same = look_same g.W.Words.shared b b c.self.invariant.0 c.args.index due refl _ _ look.learned c.in-LiveMark.is (omega (arith, tick, c.if-word-tick.true)) look.known in
    rw (← c.self.view_is) (looked_same s.shard s.noted s.wheel s.slots _ _ _ _ c.look-word.new.self same look.counts)

pub returns-clause-settles : goal.returns-clause-settles
returns-clause-settles g c =
    let look = c.look-word.ensures in
    let due = rw (← c.self.view_is) at c.requires.due in
    let tick = c.tick-tick.ensures.value in
    let ew = refiled _ c.unlink-2.new.self.filing _ _ c.filing_tick.result _ _ c.link.ensures.exact c.unlink-2.ensures.exact c.filing_tick.ensures tick in
    let way = look_later g.W.Words.shared _ _ c.self.invariant.0 c.args.index due refl _ look.learned c.in-LiveMark.is (omega (arith, tick, c.if-word-tick.false)) look.known ew refl look.counts in
    rw (← c.self.view_is) (way.1, way.2)

pub returns-then-word-tick-clause-next : goal.returns-then-word-tick-clause-next
returns-then-word-tick-clause-next g c =
    due_next c.self.inside.wheel.filing c.next_due-next.result c.next_due-next.ensures.due c.next_due-next.ensures.in_range

pub returns-clause-next : goal.returns-clause-next
returns-clause-next g c =
    let after = c.next_due-next.ensures in
    let gone = c.unlink-2.ensures in
    let there = c.link.ensures in
    let filed = ap (λ f. length f.filed) there.exact ∙ length-set _ _ _ ∙ (ap (λ f. length f.filed) gone.exact ∙ length-set _ _ _) in
    due_beside c.self.inside.wheel.filing c.link.new.self.filing c.args.index c.next_due-next.result (λ j d. there.others j d ∙ gone.others j d) (there.tick ∙ gone.tick) filed after.due after.in_range after.other

pub returns-then-word-tick-clause-deferred : goal.returns-then-word-tick-clause-deferred
returns-then-word-tick-clause-deferred g c = rw (← c.self.view_is) (stays _ _)

pub returns-clause-deferred : goal.returns-clause-deferred
returns-clause-deferred g c = rw (← c.self.view_is) (stays _ _)

pub returns-then-word-tick-clause-same : goal.returns-then-word-tick-clause-same
returns-then-word-tick-clause-same g c = rw (← c.self.view_is) (refl, refl, refl)

pub returns-then-word-tick-clause-origin : goal.returns-then-word-tick-clause-origin
returns-then-word-tick-clause-origin g c = rw (← c.self.view_is) c.look-word.ensures.origin

pub returns-then-word-tick-clause-begun : goal.returns-then-word-tick-clause-begun
returns-then-word-tick-clause-begun g c = rw (← c.self.view_is) c.look-word.ensures.begun

pub returns-then-word-tick-clause-one_step : goal.returns-then-word-tick-clause-one_step
returns-then-word-tick-clause-one_step g c = rw (← c.self.view_is) c.look-word.ensures.one_step

pub returns-then-word-tick-clause-noted : goal.returns-then-word-tick-clause-noted
returns-then-word-tick-clause-noted g c = rw (← c.self.view_is) refl

pub returns-clause-same : goal.returns-clause-same
returns-clause-same g c = rw (← c.self.view_is) (refl, refl, refl)

pub returns-clause-origin : goal.returns-clause-origin
returns-clause-origin g c = rw (← c.self.view_is) c.look-word.ensures.origin

pub returns-clause-begun : goal.returns-clause-begun
returns-clause-begun g c = rw (← c.self.view_is) c.look-word.ensures.begun

pub returns-clause-one_step : goal.returns-clause-one_step
returns-clause-one_step g c = rw (← c.self.view_is) c.look-word.ensures.one_step

pub returns-clause-noted : goal.returns-clause-noted
returns-clause-noted g c = rw (← c.self.view_is) refl
