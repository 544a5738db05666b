use Rattle.std.proofs.Common.{ℕ, ◌+◌, ◌≤◌, ◌∙◌, refl, ap, arith}
use Rattle.dq_core.proofs.PieceSteps.{arrives_on, step_arrived, step_rests}
use Rattle.dq_core.proofs.Steps.{step_advanced, advanced_on, rests_at}
use Rattle.dq_core.proofs.WheelSteps.{goes_on}
use Rattle.dq_core.proofs.Settings.{stays, stays_as}
use Rattle.dq_core.proofs.queue.DelayCore.step.Goals as goal

one_more : (n : ℕ) → n ≤ n + 1
one_more n = omega arith

pub returns-in-Whole-clause-progress : goal.returns-in-Whole-clause-progress
returns-in-Whole-clause-progress g c =
    let same = c.self.view_is ∙ c.in_default.ensures.settles.0 in
    let none = rw (← same) at c.in_default.ensures.settles.1 in
    let tick = c.tick-tick.ensures.value in
    let goes = goes_on _ _ c.self.inside.wheel.filing _ _ refl (omega (arith, tick, c.if-tick-self.true)) none c.advance_reading.ensures.way in
    rw (c.in-Whole.is, ← same)
    (step_advanced g.W.Words.shared _ _ c.self.invariant.0 goes c.advance_reading.ensures.filed c.advance_reading.ensures.within (advanced_on _ _ c.self.inside.wheel.filing.tick _ c.tick-tick.ensures.value refl c.if-tick-self.true c.advance_reading.ensures.onward) c.advance_reading.ensures.none_before refl refl refl refl)

pub returns-in-InPieces-clause-progress : goal.returns-in-InPieces-clause-progress
returns-in-InPieces-clause-progress g c =
    let same = c.self.view_is ∙ c.in_default.ensures.settles.0 in
    let none = rw (← same) at c.in_default.ensures.settles.1 in
    let tick = c.tick-tick.ensures.value in
    let on = arrives_on _ _ c.self.inside.wheel.filing _ _ refl (omega (arith, tick, c.if-tick-self.true)) none c.arrive.ensures.way in
    rw (c.in-InPieces.is, ← same)
    (step_arrived g.W.Words.shared _ _ c.self.invariant.0 on c.arrive.ensures.earlier c.arrive.ensures.within (advanced_on _ _ c.self.inside.wheel.filing.tick _ c.tick-tick.ensures.value refl c.if-tick-self.true c.arrive.ensures.onward) c.arrive.ensures.none_before refl refl refl refl)

pub returns-clause-progress : goal.returns-clause-progress
returns-clause-progress g c =
    let same = c.self.view_is ∙ c.in_default.ensures.settles.0 in
    let none = rw (← same) at c.in_default.ensures.settles.1 in
    let tick = c.tick-tick.ensures.value in
    rw (← c.self.view_is) (step_rests _ c.args.pace _ _ (rests_at _ _ same c.self.invariant.0 (omega (arith, tick, c.if-tick-self.false)) none))

pub returns-in-Whole-clause-deferred : goal.returns-in-Whole-clause-deferred
returns-in-Whole-clause-deferred g c =
    let same = c.self.view_is ∙ c.in_default.ensures.settles.0 in
    rw (← same) (stays _ _)

pub returns-in-InPieces-clause-deferred : goal.returns-in-InPieces-clause-deferred
returns-in-InPieces-clause-deferred g c =
    let same = c.self.view_is ∙ c.in_default.ensures.settles.0 in
    rw (← same) (stays _ _)

pub returns-clause-deferred : goal.returns-clause-deferred
returns-clause-deferred g c =
    let same = c.in_default.ensures.settles.0 in
    stays_as _ _ _ _ (ap (λ q. q.slots.rows) same) (ap (λ q. q.deferred) same)

pub returns-in-Whole-clause-same : goal.returns-in-Whole-clause-same
returns-in-Whole-clause-same g c = rw (← (c.self.view_is ∙ c.in_default.ensures.settles.0)) (refl, refl, refl)

pub returns-in-Whole-clause-origin : goal.returns-in-Whole-clause-origin
returns-in-Whole-clause-origin g c = rw (← (c.self.view_is ∙ c.in_default.ensures.settles.0)) refl

pub returns-in-Whole-clause-begun : goal.returns-in-Whole-clause-begun
returns-in-Whole-clause-begun g c = rw (← (c.self.view_is ∙ c.in_default.ensures.settles.0)) (λ i s d x. x)

pub returns-in-Whole-clause-one_step : goal.returns-in-Whole-clause-one_step
returns-in-Whole-clause-one_step g c = rw (← (c.self.view_is ∙ c.in_default.ensures.settles.0)) (one_more _)

pub returns-in-Whole-clause-noted : goal.returns-in-Whole-clause-noted
returns-in-Whole-clause-noted g c = rw (← (c.self.view_is ∙ c.in_default.ensures.settles.0)) refl

pub returns-in-InPieces-clause-same : goal.returns-in-InPieces-clause-same
returns-in-InPieces-clause-same g c = rw (← (c.self.view_is ∙ c.in_default.ensures.settles.0)) (refl, refl, refl)

pub returns-in-InPieces-clause-origin : goal.returns-in-InPieces-clause-origin
returns-in-InPieces-clause-origin g c = rw (← (c.self.view_is ∙ c.in_default.ensures.settles.0)) refl

pub returns-in-InPieces-clause-begun : goal.returns-in-InPieces-clause-begun
returns-in-InPieces-clause-begun g c = rw (← (c.self.view_is ∙ c.in_default.ensures.settles.0)) (λ i s d x. x)

pub returns-in-InPieces-clause-one_step : goal.returns-in-InPieces-clause-one_step
returns-in-InPieces-clause-one_step g c = rw (← (c.self.view_is ∙ c.in_default.ensures.settles.0)) (one_more _)

pub returns-in-InPieces-clause-noted : goal.returns-in-InPieces-clause-noted
returns-in-InPieces-clause-noted g c = rw (← (c.self.view_is ∙ c.in_default.ensures.settles.0)) refl

pub returns-clause-same : goal.returns-clause-same
returns-clause-same g c = c.in_default.ensures.same

pub returns-clause-origin : goal.returns-clause-origin
returns-clause-origin g c = c.in_default.ensures.origin

pub returns-clause-begun : goal.returns-clause-begun
returns-clause-begun g c = c.in_default.ensures.begun

pub returns-clause-one_step : goal.returns-clause-one_step
returns-clause-one_step g c = c.in_default.ensures.one_step

pub returns-clause-noted : goal.returns-clause-noted
returns-clause-noted g c = c.in_default.ensures.noted
