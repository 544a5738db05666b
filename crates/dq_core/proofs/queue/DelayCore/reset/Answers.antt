use Rattle.std.proofs.lemmas.Result.{err_from_is_err_and}
use Rattle.std.proofs.Common.{◌∙◌, refl, ap, length}
use Rattle.std.proofs.lemmas.List.{length-set}
use Rattle.dq_core.specs.Slots.{shown}
use Rattle.dq_core.proofs.Ways.{core_of}
use Rattle.dq_core.proofs.Finds.{found_linked, found_cancelled, law_reset, resets, learned_at, below_last, linked_anew}
use Rattle.dq_core.proofs.CallWords.{looked_others, reset_others, reset_live, find_refuses}
use Rattle.dq_core.proofs.queue.DelayCore.reset.Goals as goal

pub returns-in_default-renew-clause-resets : goal.returns-in_default-renew-clause-resets
returns-in_default-renew-clause-resets g c =
    let s = c.self.inside in
    let b = core_of s.shard s.noted s.wheel s.slots (g.W.Words.known s.words) (g.W.Words.counts s.words) s.words in
    let found = rw (← c.self.view_is) at c.in-Some.ensures in
    let changed = rw (c.once_near-stamp.ensures ∙ c.stamp.ensures) at c.in_default-renew.ensures.changed in
    rw (← c.self.view_is)
    (c.if-when-gt-LAST_TICK.false, found_cancelled g.W.Words.shared b c.self.invariant.0 c.args.entry.now c.in-Some.index found _ _ changed.1 (learned_at _ _ _ _ changed) c.in_default-renew.ensures.known refl refl c.in_default-renew.ensures.counts refl refl)

pub invariant_of-self-2 : goal.invariant_of-self-2
invariant_of-self-2 g c =
    let s = c.self.inside in
    let b = core_of s.shard s.noted s.wheel s.slots (g.W.Words.known s.words) (g.W.Words.counts s.words) s.words in
    let found = rw (← c.self.view_is) at c.in-Some.ensures in
    let below = below_last g.W.Words.shared b c.self.invariant.0 c.args.entry.now c.in-Some.index found c.once_near-stamp.result c.last.result (c.once_near-stamp.ensures ∙ c.stamp.ensures) c.last.ensures c.if-stamp-last.false in
    (law_reset g.W.Words.shared b c.self.invariant.0 c.args.entry.now c.in-Some.index found c.link.new.self (shown c.raise.new.self) (g.W.Words.known c.renew.new.self) (g.W.Words.counts c.renew.new.self) c.once_near-stamp.result c.tick-tick.result c.max-base.result c.filing_tick.result c.args.when (c.once_near-stamp.ensures ∙ c.stamp.ensures) below c.if-when-gt-LAST_TICK.false c.tick-tick.ensures.value c.max-base.ensures c.filing_tick.ensures c.in-Some-renew.ensures.changed.1 (linked_anew s.wheel.filing c.unlink.new.self.filing _ _ _ c.unlink.ensures.exact c.link.ensures.exact) c.raise.ensures.raised c.in-Some-renew.ensures.known c.in-Some-renew.ensures.counts, c.in-Some-renew.ensures.counts ∙ c.self.invariant.1)

pub returns-clause-resets : goal.returns-clause-resets
returns-clause-resets g c =
    let s = c.self.inside in
    let b = core_of s.shard s.noted s.wheel s.slots (g.W.Words.known s.words) (g.W.Words.counts s.words) s.words in
    let found = rw (← c.self.view_is) at c.in-Some.ensures in
    let below = below_last g.W.Words.shared b c.self.invariant.0 c.args.entry.now c.in-Some.index found c.once_near-stamp.result c.last.result (c.once_near-stamp.ensures ∙ c.stamp.ensures) c.last.ensures c.if-stamp-last.false in
    rw (← c.self.view_is)
    (resets g.W.Words.shared b c.self.invariant.0 c.args.entry.now c.in-Some.index found _ c.once_near-stamp.result c.tick-tick.result c.max-base.result c.filing_tick.result c.args.when c.in-Some-renew.field-0 c.new.result (c.once_near-stamp.ensures ∙ c.stamp.ensures) below c.if-when-gt-LAST_TICK.false c.tick-tick.ensures.value c.max-base.ensures c.filing_tick.ensures c.in-Some-renew.ensures.changed (linked_anew s.wheel.filing c.unlink.new.self.filing _ _ _ c.unlink.ensures.exact c.link.ensures.exact) c.raise.ensures.raised c.in-Some-renew.ensures.known c.in-Some-renew.ensures.counts c.new.ensures refl refl)

pub returns-in_default-renew-clause-others : goal.returns-in_default-renew-clause-others
returns-in_default-renew-clause-others g c = looked_others (returns-in_default-renew-clause-resets g c).1.looked

pub returns-clause-live : goal.returns-clause-live
returns-clause-live g c = reset_live (returns-clause-resets g c)

pub returns-clause-others : goal.returns-clause-others
returns-clause-others g c = reset_others (returns-clause-resets g c)

pub returns-in_err-deadline-clause-resets : goal.returns-in_err-deadline-clause-resets
returns-in_err-deadline-clause-resets g c =
    let p = err_from_is_err_and c.from_residual.result c.from_residual.ensures.1 in
    rw (p.1, p.2)
    (find_refuses g.W.Words.shared c.args.self.now c.args.entry.now c.args.when _ c.deadline.new.self c.if-when-gt-LAST_TICK.false c.in_err-deadline.ensures.tells)

pub once_near-stamp-requires-clause-linked : goal.once_near-stamp-requires-clause-linked
once_near-stamp-requires-clause-linked g c =
    let s = c.self.inside in
    let b = core_of s.shard s.noted s.wheel s.slots (g.W.Words.known s.words) (g.W.Words.counts s.words) s.words in
    let found = rw (← c.self.view_is) at c.in-Some.ensures in
    found_linked b c.self.invariant.0 c.args.entry.now c.in-Some.index found

pub returns-in_default-renew-clause-same : goal.returns-in_default-renew-clause-same
returns-in_default-renew-clause-same g c = rw (← c.self.view_is) (refl, refl, refl)

pub returns-in_default-renew-clause-origin : goal.returns-in_default-renew-clause-origin
returns-in_default-renew-clause-origin g c = rw (← c.self.view_is) c.in_default-renew.ensures.origin

pub returns-in_default-renew-clause-begun : goal.returns-in_default-renew-clause-begun
returns-in_default-renew-clause-begun g c = rw (← c.self.view_is) c.in_default-renew.ensures.begun

pub returns-in_default-renew-clause-deferred : goal.returns-in_default-renew-clause-deferred
returns-in_default-renew-clause-deferred g c = rw (← c.self.view_is) refl

pub returns-in_default-renew-clause-refused : goal.returns-in_default-renew-clause-refused
returns-in_default-renew-clause-refused g c = rw (← c.self.view_is) (record { slots = refl; wheel = refl; noted = refl })

pub returns-clause-same : goal.returns-clause-same
returns-clause-same g c =
    let v = c.raise.ensures.raised in
    rw (← c.self.view_is) (refl, ap (λ x. x.last_stamp) v, ap (λ x. length x.rows) v ∙ length-set _ _ _)

pub returns-clause-origin : goal.returns-clause-origin
returns-clause-origin g c = rw (← c.self.view_is) c.in-Some-renew.ensures.origin

pub returns-clause-begun : goal.returns-clause-begun
returns-clause-begun g c = rw (← c.self.view_is) c.in-Some-renew.ensures.begun

pub returns-clause-deferred : goal.returns-clause-deferred
returns-clause-deferred g c = rw (← c.self.view_is) c.raise.ensures.deferred
