use Rattle.std.proofs.Common.{ap, ◌∙◌, refl, length}
use Rattle.std.proofs.lemmas.List.{length-set}
use Rattle.dq_core.specs.Words.{settled_counts}
use Rattle.dq_core.specs.declared.words.Settled.TheVariants.{SettledExpired}
use Rattle.dq_core.proofs.Ways.{core_of}
use Rattle.dq_core.proofs.PieceSteps.{both_expired, both_later, both_cancelled}
use Rattle.dq_core.proofs.Steps.{step_expired, expired_lawful, cancelled_lawful, refiled, key_at}
use Rattle.dq_core.proofs.Settings.{comes_out, stays}
use Rattle.dq_core.proofs.queue.DelayCore.settle_due.Goals as goal

pub invariant_of-self-in-SettledExpired : goal.invariant_of-self-in-SettledExpired
invariant_of-self-in-SettledExpired g c =
    let s = c.self.inside in
    let b = core_of s.shard s.noted s.wheel s.slots (g.W.Words.known s.words) (g.W.Words.counts s.words) s.words in
    let n = core_of s.shard s.noted c.pop_due.new.self c.vacate-gone.new.self (g.W.Words.known c.settle.new.self) (g.W.Words.counts c.settle.new.self) c.settle.new.self in
    let settled = rw (c.stamp-stamp.ensures, c.tick-tick.ensures.value) at c.in-SettledExpired.ensures.settled in
    (expired_lawful g.W.Words.shared b n c.self.invariant.0 c.in-Some.index c.in-Some.ensures.exact.1 refl settled c.in-Some.ensures.exact.2 c.vacate-gone.ensures.vacated c.in-SettledExpired.ensures.known c.in-SettledExpired.ensures.counts, c.in-SettledExpired.ensures.counts ∙ ap (λ x. settled_counts x SettledExpired) c.self.invariant.1)

pub invariant_of-self-in-SettledCancelled : goal.invariant_of-self-in-SettledCancelled
invariant_of-self-in-SettledCancelled g c =
    let s = c.self.inside in
    let b = core_of s.shard s.noted s.wheel s.slots (g.W.Words.known s.words) (g.W.Words.counts s.words) s.words in
    let n = core_of s.shard s.noted c.pop_due.new.self c.defer.new.self (g.W.Words.known c.settle.new.self) (g.W.Words.counts c.settle.new.self) c.settle.new.self in
    let settled = rw c.stamp-stamp.ensures at c.in-SettledCancelled.ensures.settled in
    (cancelled_lawful g.W.Words.shared b n c.self.invariant.0 c.in-Some.index c.in-Some.ensures.exact.1 refl settled c.in-Some.ensures.exact.2 c.defer.ensures.vacated c.in-SettledCancelled.ensures.known c.in-SettledCancelled.ensures.counts, c.in-SettledCancelled.ensures.counts ∙ c.self.invariant.1)

pub returns-in-SettledExpired-clause-settles : goal.returns-in-SettledExpired-clause-settles
returns-in-SettledExpired-clause-settles g c =
    let settled = rw (c.stamp-stamp.ensures, c.tick-tick.ensures.value) at c.in-SettledExpired.ensures.settled in
    rw (← c.self.view_is)
    (both_expired g.W.Words.shared _ _ c.in-Some.index c.in-Some.ensures.exact.1 c.in-Some.ensures.exact.2
    (step_expired g.W.Words.shared _ _ c.self.invariant.0 c.in-Some.index c.in-Some.ensures.exact.1 refl c.vacate-gone.result c.new-entry.result _ settled c.vacate-gone.ensures.held c.in-Some.ensures.exact.2 c.vacate-gone.ensures.vacated c.in-SettledExpired.ensures.known c.in-SettledExpired.ensures.counts c.new-entry.ensures (key_at _ _ _ _ c.new.ensures c.stamp-stamp.ensures) c.tick-tick.ensures.value refl refl))

pub returns-in-Later-clause-settles : goal.returns-in-Later-clause-settles
returns-in-Later-clause-settles g c =
    let settled = rw (c.stamp-stamp.ensures, c.tick-tick.ensures.value) at c.in-Later.ensures.settled in
    rw (← c.self.view_is)
    (both_later g.W.Words.shared _ _ c.self.invariant.0 c.in-Some.index c.in-Some.ensures.exact.1 refl _ settled (refiled _ c.pop_due.new.self.filing _ _ c.filing_tick.result _ _ c.link.ensures.exact c.in-Some.ensures.exact.2 c.filing_tick.ensures c.tick-tick.ensures.value) refl c.in-Later.ensures.known c.in-Later.ensures.counts)

pub returns-in-SettledCancelled-clause-settles : goal.returns-in-SettledCancelled-clause-settles
returns-in-SettledCancelled-clause-settles g c =
    let settled = rw c.stamp-stamp.ensures at c.in-SettledCancelled.ensures.settled in
    rw (← c.self.view_is)
    (both_cancelled g.W.Words.shared _ _ c.self.invariant.0 c.in-Some.index c.in-Some.ensures.exact.1 refl settled c.in-Some.ensures.exact.2 c.defer.ensures.vacated c.in-SettledCancelled.ensures.known c.in-SettledCancelled.ensures.counts)

-- the entry's key has the slot's index
pub returns-in-SettledExpired-clause-deferred : goal.returns-in-SettledExpired-clause-deferred
returns-in-SettledExpired-clause-deferred g c =
    let out = comes_out c.self.inside.slots.rows c.vacate-gone.new.self.rows c.self.inside.slots.deferred c.vacate-gone.new.self.deferred c.in-Some.index c.vacate-gone.result c.vacate-gone.ensures.held (ap (λ s. s.rows) c.vacate-gone.ensures.vacated) c.vacate-gone.ensures.deferred in
    rw (← c.self.view_is, c.new.ensures, c.new-entry.ensures) out

pub returns-in-SettledCancelled-clause-deferred : goal.returns-in-SettledCancelled-clause-deferred
returns-in-SettledCancelled-clause-deferred g c = rw (← c.self.view_is) c.defer.ensures.deferred

pub returns-in-Later-clause-deferred : goal.returns-in-Later-clause-deferred
returns-in-Later-clause-deferred g c = rw (← c.self.view_is) (stays _ _)

pub returns-in-SettledExpired-clause-same : goal.returns-in-SettledExpired-clause-same
returns-in-SettledExpired-clause-same g c =
    let v = c.vacate-gone.ensures.vacated in
    rw (← c.self.view_is) (refl, ap (λ x. x.last_stamp) v, ap (λ x. length x.rows) v ∙ length-set _ _ _)

pub returns-in-SettledExpired-clause-origin : goal.returns-in-SettledExpired-clause-origin
returns-in-SettledExpired-clause-origin g c = rw (← c.self.view_is) c.in-SettledExpired.ensures.origin

pub returns-in-SettledExpired-clause-begun : goal.returns-in-SettledExpired-clause-begun
returns-in-SettledExpired-clause-begun g c = rw (← c.self.view_is) c.in-SettledExpired.ensures.begun

pub returns-in-SettledExpired-clause-one_step : goal.returns-in-SettledExpired-clause-one_step
returns-in-SettledExpired-clause-one_step g c = rw (← c.self.view_is) c.in-SettledExpired.ensures.one_step

pub returns-in-SettledExpired-clause-noted : goal.returns-in-SettledExpired-clause-noted
returns-in-SettledExpired-clause-noted g c = rw (← c.self.view_is) refl

pub returns-in-Later-clause-same : goal.returns-in-Later-clause-same
returns-in-Later-clause-same g c = rw (← c.self.view_is) (refl, refl, refl)

pub returns-in-Later-clause-origin : goal.returns-in-Later-clause-origin
returns-in-Later-clause-origin g c = rw (← c.self.view_is) c.in-Later.ensures.origin

pub returns-in-Later-clause-begun : goal.returns-in-Later-clause-begun
returns-in-Later-clause-begun g c = rw (← c.self.view_is) c.in-Later.ensures.begun

pub returns-in-Later-clause-one_step : goal.returns-in-Later-clause-one_step
returns-in-Later-clause-one_step g c = rw (← c.self.view_is) c.in-Later.ensures.one_step

pub returns-in-Later-clause-noted : goal.returns-in-Later-clause-noted
returns-in-Later-clause-noted g c = rw (← c.self.view_is) refl

pub returns-in-SettledCancelled-clause-same : goal.returns-in-SettledCancelled-clause-same
returns-in-SettledCancelled-clause-same g c =
    let v = c.defer.ensures.vacated in
    rw (← c.self.view_is) (refl, ap (λ x. x.last_stamp) v, ap (λ x. length x.rows) v ∙ length-set _ _ _)

pub returns-in-SettledCancelled-clause-origin : goal.returns-in-SettledCancelled-clause-origin
returns-in-SettledCancelled-clause-origin g c = rw (← c.self.view_is) c.in-SettledCancelled.ensures.origin

pub returns-in-SettledCancelled-clause-begun : goal.returns-in-SettledCancelled-clause-begun
returns-in-SettledCancelled-clause-begun g c = rw (← c.self.view_is) c.in-SettledCancelled.ensures.begun

pub returns-in-SettledCancelled-clause-one_step : goal.returns-in-SettledCancelled-clause-one_step
returns-in-SettledCancelled-clause-one_step g c = rw (← c.self.view_is) c.in-SettledCancelled.ensures.one_step

pub returns-in-SettledCancelled-clause-noted : goal.returns-in-SettledCancelled-clause-noted
returns-in-SettledCancelled-clause-noted g c = rw (← c.self.view_is) refl
