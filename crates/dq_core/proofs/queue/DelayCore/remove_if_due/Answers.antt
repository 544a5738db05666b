use Rattle.std.proofs.Common.{ap, ◌∙◌, refl, Some, length}
use Rattle.std.proofs.lemmas.List.{length-set}
use Rattle.dq_core.specs.Words.{finished_counts}
use Rattle.dq_core.specs.Slots.{shown}
use Rattle.dq_core.proofs.Ways.{core_of}
use Rattle.dq_core.proofs.Finds.{found_linked, found_live, found_cancelled, law_removed, removes, learned_at}
use Rattle.dq_core.proofs.queue.DelayCore.remove_if_due.Goals as goal

pub returns-in-StillLive-clause-removes : goal.returns-in-StillLive-clause-removes
returns-in-StillLive-clause-removes g c =
    let s = c.self.inside in
    let b = core_of s.shard s.noted s.wheel s.slots (g.W.Words.known s.words) (g.W.Words.counts s.words) s.words in
    let found = rw (← c.self.view_is) at c.in-Some.ensures in
    let look = rw (c.once_near-stamp.ensures ∙ c.stamp.ensures) at c.in-StillLive.ensures.finished in
    rw (← c.self.view_is)
    (c.in-StillLive.field-0, look.0, found_live g.W.Words.shared b c.self.invariant.0 c.args.entry.now c.in-Some.index found _ _ _ look.1.1 (learned_at _ _ _ _ look.1) c.in-StillLive.ensures.known refl refl c.in-StillLive.ensures.counts refl refl)

pub returns-in-LookCancelled-clause-removes : goal.returns-in-LookCancelled-clause-removes
returns-in-LookCancelled-clause-removes g c =
    let s = c.self.inside in
    let b = core_of s.shard s.noted s.wheel s.slots (g.W.Words.known s.words) (g.W.Words.counts s.words) s.words in
    let found = rw (← c.self.view_is) at c.in-Some.ensures in
    let changed = rw (c.once_near-stamp.ensures ∙ c.stamp.ensures) at c.in-LookCancelled.ensures.finished in
    rw (← c.self.view_is)
    (found_cancelled g.W.Words.shared b c.self.invariant.0 c.args.entry.now c.in-Some.index found _ _ changed.1 (learned_at _ _ _ _ changed) c.in-LookCancelled.ensures.known refl refl c.in-LookCancelled.ensures.counts refl refl)

pub invariant_of-self-2 : goal.invariant_of-self-2
invariant_of-self-2 g c =
    let s = c.self.inside in
    let b = core_of s.shard s.noted s.wheel s.slots (g.W.Words.known s.words) (g.W.Words.counts s.words) s.words in
    let found = rw (← c.self.view_is) at c.in-Some.ensures in
    let done = c.in-LookRemoved.ensures in
    (law_removed g.W.Words.shared b c.self.invariant.0 c.args.entry.now c.in-Some.index found c.unlink.new.self (shown c.vacate-held.new.self) (g.W.Words.known c.finish_by.new.self) (g.W.Words.counts c.finish_by.new.self) c.once_near-stamp.result c.in-LookRemoved.deadline (c.once_near-stamp.ensures ∙ c.stamp.ensures) done.finished.1.1 c.unlink.ensures.exact c.vacate-held.ensures.vacated done.known done.counts, done.counts ∙ ap (λ x. finished_counts x (Some c.in-LookRemoved.deadline)) c.self.invariant.1)

pub returns-clause-removes : goal.returns-clause-removes
returns-clause-removes g c =
    let s = c.self.inside in
    let b = core_of s.shard s.noted s.wheel s.slots (g.W.Words.known s.words) (g.W.Words.counts s.words) s.words in
    let found = rw (← c.self.view_is) at c.in-Some.ensures in
    let done = c.in-LookRemoved.ensures in
    rw (← c.self.view_is)
    (done.finished.0, removes g.W.Words.shared b c.self.invariant.0 c.args.entry.now c.in-Some.index found _ c.once_near-stamp.result c.in-LookRemoved.deadline c.vacate-held.result _ (c.once_near-stamp.ensures ∙ c.stamp.ensures) done.finished.1 c.vacate-held.ensures.held c.unlink.ensures.exact c.vacate-held.ensures.vacated done.known done.counts c.new.ensures refl refl refl refl)

pub once_near-stamp-requires-clause-linked : goal.once_near-stamp-requires-clause-linked
once_near-stamp-requires-clause-linked g c =
    let s = c.self.inside in
    let b = core_of s.shard s.noted s.wheel s.slots (g.W.Words.known s.words) (g.W.Words.counts s.words) s.words in
    let found = rw (← c.self.view_is) at c.in-Some.ensures in
    found_linked b c.self.invariant.0 c.args.entry.now c.in-Some.index found

pub returns-in-StillLive-clause-same : goal.returns-in-StillLive-clause-same
returns-in-StillLive-clause-same g c = rw (← c.self.view_is) (refl, refl, refl)

pub returns-in-StillLive-clause-origin : goal.returns-in-StillLive-clause-origin
returns-in-StillLive-clause-origin g c = rw (← c.self.view_is) c.in-StillLive.ensures.origin

pub returns-in-StillLive-clause-begun : goal.returns-in-StillLive-clause-begun
returns-in-StillLive-clause-begun g c = rw (← c.self.view_is) c.in-StillLive.ensures.begun

pub returns-in-StillLive-clause-deferred : goal.returns-in-StillLive-clause-deferred
returns-in-StillLive-clause-deferred g c = rw (← c.self.view_is) refl

pub returns-in-LookCancelled-clause-same : goal.returns-in-LookCancelled-clause-same
returns-in-LookCancelled-clause-same g c = rw (← c.self.view_is) (refl, refl, refl)

pub returns-in-LookCancelled-clause-origin : goal.returns-in-LookCancelled-clause-origin
returns-in-LookCancelled-clause-origin g c = rw (← c.self.view_is) c.in-LookCancelled.ensures.origin

pub returns-in-LookCancelled-clause-begun : goal.returns-in-LookCancelled-clause-begun
returns-in-LookCancelled-clause-begun g c = rw (← c.self.view_is) c.in-LookCancelled.ensures.begun

pub returns-in-LookCancelled-clause-deferred : goal.returns-in-LookCancelled-clause-deferred
returns-in-LookCancelled-clause-deferred g c = rw (← c.self.view_is) refl

pub returns-clause-same : goal.returns-clause-same
returns-clause-same g c =
    let v = c.vacate-held.ensures.vacated in
    rw (← c.self.view_is) (refl, ap (λ x. x.last_stamp) v, ap (λ x. length x.rows) v ∙ length-set _ _ _)

pub returns-clause-origin : goal.returns-clause-origin
returns-clause-origin g c = rw (← c.self.view_is) c.in-LookRemoved.ensures.origin

pub returns-clause-begun : goal.returns-clause-begun
returns-clause-begun g c = rw (← c.self.view_is) c.in-LookRemoved.ensures.begun

pub returns-clause-deferred : goal.returns-clause-deferred
returns-clause-deferred g c = rw (← c.self.view_is) c.vacate-held.ensures.deferred
