use Rattle.std.proofs.Common.{ap, ◌∙◌, refl, Some, length}
use Rattle.std.proofs.lemmas.List.{length-set}
use Rattle.dq_core.specs.Words.{finished_counts}
use Rattle.dq_core.specs.Slots.{shown}
use Rattle.dq_core.proofs.Ways.{core_of}
use Rattle.dq_core.proofs.Finds.{found_linked, found_cancelled, law_removed, removes, learned_at}
use Rattle.dq_core.proofs.CallWords.{missing_exactly, looked_others, removed_others, removed_gone}
use Rattle.dq_core.proofs.queue.DelayCore.remove.Goals as goal

pub returns-in_default-finish-clause-removes : goal.returns-in_default-finish-clause-removes
returns-in_default-finish-clause-removes g c =
    let s = c.self.inside in
    let b = core_of s.shard s.noted s.wheel s.slots (g.W.Words.known s.words) (g.W.Words.counts s.words) s.words in
    let found = rw (← c.self.view_is) at c.in-Some.ensures in
    let changed = rw (c.once_near-stamp.ensures ∙ c.stamp.ensures) at c.in_default-finish.ensures.changed in
    rw (← c.self.view_is)
    (found_cancelled g.W.Words.shared b c.self.invariant.0 c.args.entry.now c.in-Some.index found _ _ changed.1 (learned_at _ _ _ _ changed) c.in_default-finish.ensures.known refl refl c.in_default-finish.ensures.counts refl refl)

pub invariant_of-self-2 : goal.invariant_of-self-2
invariant_of-self-2 g c =
    let s = c.self.inside in
    let b = core_of s.shard s.noted s.wheel s.slots (g.W.Words.known s.words) (g.W.Words.counts s.words) s.words in
    let found = rw (← c.self.view_is) at c.in-Some.ensures in
    (law_removed g.W.Words.shared b c.self.invariant.0 c.args.entry.now c.in-Some.index found c.unlink.new.self (shown c.vacate-held.new.self) (g.W.Words.known c.finish.new.self) (g.W.Words.counts c.finish.new.self) c.once_near-stamp.result c.in-Some-finish.deadline (c.once_near-stamp.ensures ∙ c.stamp.ensures) c.in-Some-finish.ensures.changed.1 c.unlink.ensures.exact c.vacate-held.ensures.vacated c.in-Some-finish.ensures.known c.in-Some-finish.ensures.counts, c.in-Some-finish.ensures.counts ∙ ap (λ x. finished_counts x (Some c.in-Some-finish.deadline)) c.self.invariant.1)

pub returns-clause-removes : goal.returns-clause-removes
returns-clause-removes g c =
    let s = c.self.inside in
    let b = core_of s.shard s.noted s.wheel s.slots (g.W.Words.known s.words) (g.W.Words.counts s.words) s.words in
    let found = rw (← c.self.view_is) at c.in-Some.ensures in
    rw (← c.self.view_is)
    (removes g.W.Words.shared b c.self.invariant.0 c.args.entry.now c.in-Some.index found _ c.once_near-stamp.result c.in-Some-finish.deadline c.vacate-held.result _ (c.once_near-stamp.ensures ∙ c.stamp.ensures) c.in-Some-finish.ensures.changed c.vacate-held.ensures.held c.unlink.ensures.exact c.vacate-held.ensures.vacated c.in-Some-finish.ensures.known c.in-Some-finish.ensures.counts c.new.ensures refl refl refl refl)

pub returns-in_default-finish-clause-others : goal.returns-in_default-finish-clause-others
returns-in_default-finish-clause-others g c = looked_others (returns-in_default-finish-clause-removes g c).looked

pub returns-clause-gone : goal.returns-clause-gone
returns-clause-gone g c = removed_gone (returns-clause-removes g c)

pub returns-clause-others : goal.returns-clause-others
returns-clause-others g c = removed_others (returns-clause-removes g c)

pub returns-in_default-finish-clause-missing : goal.returns-in_default-finish-clause-missing
returns-in_default-finish-clause-missing g c =
    let s = c.self.inside in
    let b = core_of s.shard s.noted s.wheel s.slots (g.W.Words.known s.words) (g.W.Words.counts s.words) s.words in
    let found = rw (← c.self.view_is) at c.in-Some.ensures in
    rw (← c.self.view_is) (missing_exactly b c.self.invariant.0 c.args.entry.now c.in-Some.index found _ (λ e. cc))

pub returns-clause-missing : goal.returns-clause-missing
returns-clause-missing g c =
    let s = c.self.inside in
    let b = core_of s.shard s.noted s.wheel s.slots (g.W.Words.known s.words) (g.W.Words.counts s.words) s.words in
    let found = rw (← c.self.view_is) at c.in-Some.ensures in
    rw (← c.self.view_is) (missing_exactly b c.self.invariant.0 c.args.entry.now c.in-Some.index found _ (λ e. cc))

pub once_near-stamp-requires-clause-linked : goal.once_near-stamp-requires-clause-linked
once_near-stamp-requires-clause-linked g c =
    let s = c.self.inside in
    let b = core_of s.shard s.noted s.wheel s.slots (g.W.Words.known s.words) (g.W.Words.counts s.words) s.words in
    let found = rw (← c.self.view_is) at c.in-Some.ensures in
    found_linked b c.self.invariant.0 c.args.entry.now c.in-Some.index found

pub returns-in_default-finish-clause-same : goal.returns-in_default-finish-clause-same
returns-in_default-finish-clause-same g c = rw (← c.self.view_is) (refl, refl, refl)

pub returns-in_default-finish-clause-origin : goal.returns-in_default-finish-clause-origin
returns-in_default-finish-clause-origin g c = rw (← c.self.view_is) c.in_default-finish.ensures.origin

pub returns-in_default-finish-clause-begun : goal.returns-in_default-finish-clause-begun
returns-in_default-finish-clause-begun g c = rw (← c.self.view_is) c.in_default-finish.ensures.begun

pub returns-in_default-finish-clause-deferred : goal.returns-in_default-finish-clause-deferred
returns-in_default-finish-clause-deferred g c = rw (← c.self.view_is) refl

pub returns-in_default-finish-clause-refused : goal.returns-in_default-finish-clause-refused
returns-in_default-finish-clause-refused g c = rw (← c.self.view_is) (record { slots = refl; wheel = refl; noted = refl })

pub returns-clause-same : goal.returns-clause-same
returns-clause-same g c =
    let v = c.vacate-held.ensures.vacated in
    rw (← c.self.view_is) (refl, ap (λ x. x.last_stamp) v, ap (λ x. length x.rows) v ∙ length-set _ _ _)

pub returns-clause-origin : goal.returns-clause-origin
returns-clause-origin g c = rw (← c.self.view_is) c.in-Some-finish.ensures.origin

pub returns-clause-begun : goal.returns-clause-begun
returns-clause-begun g c = rw (← c.self.view_is) c.in-Some-finish.ensures.begun

pub returns-clause-deferred : goal.returns-clause-deferred
returns-clause-deferred g c = rw (← c.self.view_is) c.vacate-held.ensures.deferred
