use Rattle.std.proofs.Common.{refl, Some, None, length, ap, ◌∙◌}
use Rattle.std.proofs.lemmas.List.{length-set}
use Rattle.dq_core.specs.Words.{finished_counts}
use Rattle.dq_core.proofs.Ways.{core_of}
use Rattle.dq_core.proofs.Leaving.{held_at}
use Rattle.dq_core.proofs.Clearing.{emptied_live, emptied_cancelled, emptied_none, law_emptied}
use Rattle.dq_core.proofs.Settings.{stays}
use Rattle.dq_core.proofs.queue.DelayCore.clear_at.Goals as goal

pub returns-in-Some-clause-emptied : goal.returns-in-Some-clause-emptied
returns-in-Some-clause-emptied g c =
    let s = c.self.inside in
    let b = core_of s.shard s.noted s.wheel s.slots (g.W.Words.known s.words) (g.W.Words.counts s.words) s.words in
    let at = held_at b c.self.invariant.0 c.args.index c.if-not-is_held.ensures in
    rw (← c.self.view_is)
    (emptied_live g.W.Words.shared b _ c.self.invariant.0 c.args.index at.0 at.1 c.stamp-stamp.result c.stamp-stamp.ensures c.unlink.ensures.exact c.defer.ensures.vacated c.in-Some.ensures.known refl c.in-Some.field-0 c.in-Some.ensures.changed c.in-Some.ensures.counts)

pub returns-in-None-clause-emptied : goal.returns-in-None-clause-emptied
returns-in-None-clause-emptied g c =
    let s = c.self.inside in
    let b = core_of s.shard s.noted s.wheel s.slots (g.W.Words.known s.words) (g.W.Words.counts s.words) s.words in
    let at = held_at b c.self.invariant.0 c.args.index c.if-not-is_held.ensures in
    rw (← c.self.view_is)
    (emptied_cancelled g.W.Words.shared b _ c.self.invariant.0 c.args.index at.0 at.1 c.stamp-stamp.result c.stamp-stamp.ensures c.unlink.ensures.exact c.defer-in-None.ensures.vacated c.in-None.ensures.known refl c.in-None.ensures.changed c.in-None.ensures.counts)

pub returns-then-not-is_held-clause-deferred : goal.returns-then-not-is_held-clause-deferred
returns-then-not-is_held-clause-deferred g c = rw (← c.self.view_is) (stays _ _)

pub returns-in-Some-clause-deferred : goal.returns-in-Some-clause-deferred
returns-in-Some-clause-deferred g c = rw (← c.self.view_is) c.defer.ensures.deferred

pub returns-in-None-clause-deferred : goal.returns-in-None-clause-deferred
returns-in-None-clause-deferred g c = rw (← c.self.view_is) c.defer-in-None.ensures.deferred

pub invariant_of-self : goal.invariant_of-self
invariant_of-self g c =
    let s = c.self.inside in
    let b = core_of s.shard s.noted s.wheel s.slots (g.W.Words.known s.words) (g.W.Words.counts s.words) s.words in
    let n = core_of s.shard s.noted c.unlink.new.self c.defer.new.self (g.W.Words.known c.finish-ended.new.self) (g.W.Words.counts c.finish-ended.new.self) c.finish-ended.new.self in
    let at = held_at b c.self.invariant.0 c.args.index c.if-not-is_held.ensures in (
      law_emptied g.W.Words.shared b n c.self.invariant.0 c.args.index at.0 at.1
          c.stamp-stamp.result c.stamp-stamp.ensures c.unlink.ensures.exact c.defer.ensures.vacated c.in-Some.ensures.known refl (Some c.in-Some.field-0)
          c.in-Some.ensures.changed c.in-Some.ensures.counts,
      c.in-Some.ensures.counts ∙ ap (λ x. finished_counts x (Some c.in-Some.field-0)) c.self.invariant.1,
    )

pub invariant_of-self-in-None : goal.invariant_of-self-in-None
invariant_of-self-in-None g c =
    let s = c.self.inside in
    let b = core_of s.shard s.noted s.wheel s.slots (g.W.Words.known s.words) (g.W.Words.counts s.words) s.words in
    let n = core_of s.shard s.noted c.unlink.new.self c.defer-in-None.new.self (g.W.Words.known c.finish-ended.new.self) (g.W.Words.counts c.finish-ended.new.self) c.finish-ended.new.self in
    let at = held_at b c.self.invariant.0 c.args.index c.if-not-is_held.ensures in (
      law_emptied g.W.Words.shared b n c.self.invariant.0 c.args.index at.0 at.1
          c.stamp-stamp.result c.stamp-stamp.ensures c.unlink.ensures.exact c.defer-in-None.ensures.vacated c.in-None.ensures.known refl None
          c.in-None.ensures.changed c.in-None.ensures.counts,
      c.in-None.ensures.counts ∙ ap (λ x. finished_counts x None) c.self.invariant.1,
    )

pub returns-then-not-is_held-clause-same : goal.returns-then-not-is_held-clause-same
returns-then-not-is_held-clause-same g c = (refl, refl, refl)

pub returns-then-not-is_held-clause-origin : goal.returns-then-not-is_held-clause-origin
returns-then-not-is_held-clause-origin g c = refl

pub returns-then-not-is_held-clause-begun : goal.returns-then-not-is_held-clause-begun
returns-then-not-is_held-clause-begun g c = λ i s d x. x

pub returns-then-not-is_held-clause-emptied : goal.returns-then-not-is_held-clause-emptied
returns-then-not-is_held-clause-emptied g c =
    rw (← c.self.view_is) (emptied_none g.W.Words.shared _ c.args.index c.if-not-is_held.ensures)

pub returns-in-Some-clause-same : goal.returns-in-Some-clause-same
returns-in-Some-clause-same g c =
    let v = c.defer.ensures.vacated in
    rw (← c.self.view_is) (refl, ap (λ x. x.last_stamp) v, ap (λ x. length x.rows) v ∙ length-set _ _ _)

pub returns-in-Some-clause-origin : goal.returns-in-Some-clause-origin
returns-in-Some-clause-origin g c = rw (← c.self.view_is) c.in-Some.ensures.origin

pub returns-in-Some-clause-begun : goal.returns-in-Some-clause-begun
returns-in-Some-clause-begun g c = rw (← c.self.view_is) c.in-Some.ensures.begun

pub returns-in-None-clause-same : goal.returns-in-None-clause-same
returns-in-None-clause-same g c =
    let v = c.defer-in-None.ensures.vacated in
    rw (← c.self.view_is) (refl, ap (λ x. x.last_stamp) v, ap (λ x. length x.rows) v ∙ length-set _ _ _)

pub returns-in-None-clause-origin : goal.returns-in-None-clause-origin
returns-in-None-clause-origin g c = rw (← c.self.view_is) c.in-None.ensures.origin

pub returns-in-None-clause-begun : goal.returns-in-None-clause-begun
returns-in-None-clause-begun g c = rw (← c.self.view_is) c.in-None.ensures.begun
