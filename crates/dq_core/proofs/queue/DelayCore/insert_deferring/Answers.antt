use Rattle.std.proofs.Common.{ap, ◌∙◌, refl, arith, length}
use Rattle.std.proofs.lemmas.List.{length-set}
use Rattle.dq_core.specs.Words.{begun_counts}
use Rattle.dq_core.specs.Slots.{shown}
use Rattle.dq_core.proofs.Law.{few}
use Rattle.dq_core.proofs.Inserts.{law_inserted, inserts, refused_full, same_slots, room}
use Rattle.dq_core.proofs.CallWords.{inserted_live, inserted_others}
use Rattle.dq_core.proofs.queue.DelayCore.insert_deferring.Goals as goal

-- too few entries were begun to overflow
pub overflow_add-self : goal.overflow_add-self
overflow_add-self g c = omega (arith, few c.self.invariant.0, ap (λ n. n.begins) c.self.invariant.1)

pub invariant_of-self : goal.invariant_of-self
invariant_of-self g c =
    (law_inserted c.self.invariant.0 c.in-Ok.index c.stamp-stamp.result c.tick-tick.result c.max-base.result c.filing_tick.result c.args.when c.args.value c.if-when-gt-LAST_TICK.false c.in-Ok.ensures.filled c.stamp-stamp.ensures c.tick-tick.ensures.value c.max-base.ensures c.filing_tick.ensures c.link.ensures.exact c.begin.ensures.known c.begin.ensures.counts, c.begin.ensures.counts ∙ ap begun_counts c.self.invariant.1)

pub returns-in-Ok-clause-inserts : goal.returns-in-Ok-clause-inserts
returns-in-Ok-clause-inserts g c =
    rw (← c.self.view_is)
    (inserts _ _ c.in-Ok.index c.stamp-stamp.result c.tick-tick.result c.max-base.result c.filing_tick.result c.args.when c.args.value c.new-entry.result c.new.result c.self.invariant.0 c.if-when-gt-LAST_TICK.false c.in-Ok.ensures.filled c.stamp-stamp.ensures c.tick-tick.ensures.value c.max-base.ensures c.filing_tick.ensures c.link.ensures.exact c.begin.ensures.known c.begin.ensures.counts c.new-entry.ensures c.new.ensures refl refl)

pub returns-in-Err-clause-inserts : goal.returns-in-Err-clause-inserts
returns-in-Err-clause-inserts g c =
    rw (← c.self.view_is)
    (refused_full _ (shown c.fill.new.self) c.args.when c.linked.result c.worn.result c.if-when-gt-LAST_TICK.false c.in-Err.ensures.filled.0 c.in-Err.ensures.filled.2 c.linked.ensures c.worn.ensures, c.in-Err.ensures.filled.1, same_slots _ c.fill.new.self c.in-Err.ensures.filled.2 c.in-Err.ensures.kept)

pub returns-in-Ok-clause-live : goal.returns-in-Ok-clause-live
returns-in-Ok-clause-live g c = inserted_live (returns-in-Ok-clause-inserts g c)

pub returns-in-Ok-clause-others : goal.returns-in-Ok-clause-others
returns-in-Ok-clause-others g c = inserted_others (returns-in-Ok-clause-inserts g c)

pub returns-in-Ok-clause-room : goal.returns-in-Ok-clause-room
returns-in-Ok-clause-room g c =
    rw (← c.self.view_is) (room _ _ c.in-Ok.index c.args.value c.in-Ok.ensures.filled.0 c.in-Ok.ensures.filled.1)

pub returns-in-Ok-clause-same : goal.returns-in-Ok-clause-same
returns-in-Ok-clause-same g c =
    let v = c.in-Ok.ensures.filled.2 in
    rw (← c.self.view_is) (refl, ap (λ x. x.last_stamp) v, ap (λ x. length x.rows) v ∙ length-set _ _ _)

pub returns-in-Ok-clause-origin : goal.returns-in-Ok-clause-origin
returns-in-Ok-clause-origin g c = rw (← c.self.view_is) c.begin.ensures.origin

pub returns-in-Ok-clause-begun : goal.returns-in-Ok-clause-begun
returns-in-Ok-clause-begun g c = rw (← c.self.view_is) c.begin.ensures.begun

pub returns-in-Ok-clause-displaced : goal.returns-in-Ok-clause-displaced
returns-in-Ok-clause-displaced g c = rw (← c.self.view_is) c.in-Ok.ensures.displaced

pub returns-in-Ok-clause-beside : goal.returns-in-Ok-clause-beside
returns-in-Ok-clause-beside g c = rw (← c.self.view_is, c.new.ensures, c.new-entry.ensures) c.in-Ok.ensures.deferred

pub returns-in-Err-clause-same : goal.returns-in-Err-clause-same
returns-in-Err-clause-same g c =
    let v = c.in-Err.ensures.filled.2 in
    rw (← c.self.view_is) (refl, ap (λ x. x.last_stamp) v, ap (λ x. length x.rows) v)

pub returns-in-Err-clause-origin : goal.returns-in-Err-clause-origin
returns-in-Err-clause-origin g c = rw (← c.self.view_is) refl

pub returns-in-Err-clause-begun : goal.returns-in-Err-clause-begun
returns-in-Err-clause-begun g c = rw (← c.self.view_is) (λ i s d x. x)

pub returns-in-Err-clause-refused : goal.returns-in-Err-clause-refused
returns-in-Err-clause-refused g c =
    rw (← c.self.view_is)
    (c.in-Err.ensures.filled.1, same_slots _ c.fill.new.self c.in-Err.ensures.filled.2 c.in-Err.ensures.kept)
