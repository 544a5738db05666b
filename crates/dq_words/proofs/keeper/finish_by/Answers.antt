use Rattle.std.proofs.Common.{◌≡◌, ◌≢◌, ◌∙◌, arith, rules}
use Rattle.dq_ticks.specs.Word.{mark_of}
use Rattle.dq_words.specs.Plays.{finishing}
use Rattle.dq_words.proofs.Tries.{loaded_first, tries_rise, given_live, live_stamp_is, same_removed, is_removed, exchanged}
use Rattle.dq_words.proofs.Trying.{loaded_more, found_cancelled, found_live, goes_more}
use Rattle.dq_words.proofs.keeper.finish_by.Goals as goal

pub loop-deadline-preserved : goal.loop-deadline-preserved
loop-deadline-preserved g c =
    let so_far = c.loop-deadline.invariant in
    let tried = c.finish-found.ensures in
    (loaded_more _ _ _ _ _ _ _ c.requires.inside so_far.0 tried.step.0 (tried.step.1.1 c.if-found-seen.false), goes_more _ _ _ so_far.1 tried.seat, tried.table ∙ so_far.2)

pub returns-clause-finishes : goal.returns-clause-finishes
returns-clause-finishes g c =
    let ended : mark_of c.loop-deadline.seen ≢ 0 = search rules in
    found_cancelled _ _ _ _ _ c.loop-deadline.invariant.0 ended

pub loop-deadline-init : goal.loop-deadline-init
loop-deadline-init g c =
    let l = c.keeper_load-seen.ensures in
    (loaded_first _ _ _ _ _ l.step c.requires.open, l.seat, l.table)

pub loop-deadline-smaller : goal.loop-deadline-smaller
loop-deadline-smaller g c =
    let so_far = c.loop-deadline.invariant in
    let tried = c.finish-found.ensures in
    let more = tries_rise _ _ _ _ _ _ c.requires.inside so_far.0 tried.step.0 c.if-found-seen.false in
    let top = c.finish-found.type_inv in
    omega (arith, more, top)

pub finish-found-requires : goal.finish-found-requires
finish-found-requires g c =
    let so_far = c.loop-deadline.invariant in
    let open_word = so_far.0.open_word in
    let live : mark_of c.loop-deadline.seen ≡ 0 = c.loop-deadline-test.ensures.0 (search rules) in
    let inside = c.requires.inside in
    let row = so_far.1.row in
    record {
      inside = omega (arith, inside, row);
      keeper = so_far.1.role ∙ c.requires.keeper;
      old = given_live _ _ open_word live;
      same = same_removed _ _ _ _ (live_stamp_is _ _ open_word live) c.field-deadline.ensures.0 c.field-deadline.ensures.1 c.removed_word.ensures;
      removed = is_removed _ _ _ c.field-deadline.ensures.1 c.removed_word.ensures;
    }

pub returns-then-found-seen-clause-finishes : goal.returns-then-found-seen-clause-finishes
returns-then-found-seen-clause-finishes g c =
    let live : mark_of c.loop-deadline.seen ≡ 0 = c.loop-deadline-test.ensures.0 (search rules) in (
      c.if-deadline-tick.false,
      exchanged finishing _ _ _ _ _ _ _ _ _ c.loop-deadline.invariant.0 live c.field-deadline.ensures.0 c.field-deadline.ensures.1 c.removed_word.ensures (c.finish-found.ensures.step.1.0
          c.if-found-seen.true),
    )

pub returns-then-deadline-tick-clause-finishes : goal.returns-then-deadline-tick-clause-finishes
returns-then-deadline-tick-clause-finishes g c =
    let live : mark_of c.loop-deadline.seen ≡ 0 = c.loop-deadline-test.ensures.0 (search rules) in
    found_live _ _ _ _ _ _ _ c.loop-deadline.invariant.0 live c.field-deadline.ensures.0 c.if-deadline-tick.true

pub returns-then-deadline-tick-clause-seat : goal.returns-then-deadline-tick-clause-seat
returns-then-deadline-tick-clause-seat g c = c.loop-deadline.invariant.1

pub returns-then-deadline-tick-clause-table : goal.returns-then-deadline-tick-clause-table
returns-then-deadline-tick-clause-table g c = c.loop-deadline.invariant.2

pub returns-then-found-seen-clause-seat : goal.returns-then-found-seen-clause-seat
returns-then-found-seen-clause-seat g c = goes_more _ _ _ c.loop-deadline.invariant.1 c.finish-found.ensures.seat

pub returns-then-found-seen-clause-table : goal.returns-then-found-seen-clause-table
returns-then-found-seen-clause-table g c = c.finish-found.ensures.table ∙ c.loop-deadline.invariant.2

pub returns-clause-seat : goal.returns-clause-seat
returns-clause-seat g c = c.loop-deadline.invariant.1

pub returns-clause-table : goal.returns-clause-table
returns-clause-table g c = c.loop-deadline.invariant.2
