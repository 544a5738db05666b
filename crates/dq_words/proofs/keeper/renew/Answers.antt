use Rattle.std.proofs.Common.{◌≡◌, ◌≢◌, ◌∙◌, arith, rules}
use Rattle.dq_ticks.specs.Word.{mark_of}
use Rattle.dq_words.specs.Plays.{renewing}
use Rattle.dq_words.proofs.Tries.{loaded_first, tries_rise, given_live, live_stamp_is, next_stamp, exchanged}
use Rattle.dq_words.proofs.Trying.{loaded_more, found_cancelled, goes_more}
use Rattle.dq_words.proofs.keeper.renew.Goals as goal

pub loop-seat-preserved : goal.loop-seat-preserved
loop-seat-preserved g c =
    let so_far = c.loop-seat.invariant in
    let tried = c.renew-found.ensures in
    (loaded_more _ _ _ _ _ _ _ c.requires.inside so_far.0 tried.step.0 (tried.step.1.1 c.if-found-seen.false), goes_more _ _ _ so_far.1 tried.seat, tried.table ∙ so_far.2)

pub returns-clause-renews : goal.returns-clause-renews
returns-clause-renews g c =
    let ended : mark_of c.loop-seat.seen ≢ 0 = search rules in
    found_cancelled _ _ _ _ _ c.loop-seat.invariant.0 ended

pub loop-seat-init : goal.loop-seat-init
loop-seat-init g c =
    let l = c.keeper_load-seen.ensures in
    (loaded_first _ _ _ _ _ l.step c.requires.open, l.seat, l.table)

pub loop-seat-smaller : goal.loop-seat-smaller
loop-seat-smaller g c =
    let so_far = c.loop-seat.invariant in
    let tried = c.renew-found.ensures in
    let more = tries_rise _ _ _ _ _ _ c.requires.inside so_far.0 tried.step.0 c.if-found-seen.false in
    let top = c.renew-found.type_inv in
    omega (arith, more, top)

pub renew-found-requires : goal.renew-found-requires
renew-found-requires g c =
    let so_far = c.loop-seat.invariant in
    let open_word = so_far.0.open_word in
    let live : mark_of c.loop-seat.seen ≡ 0 = c.loop-seat-test.ensures.0 (search rules) in
    let inside = c.requires.inside in
    let row = so_far.1.row in
    record {
      inside = omega (arith, inside, row);
      keeper = so_far.1.role ∙ c.requires.keeper;
      old = given_live _ _ open_word live;
      new = next_stamp _ _ _ c.args.when (live_stamp_is _ _ open_word live) c.requires.tick c.live_word-new.ensures;
    }

pub returns-then-found-seen-clause-renews : goal.returns-then-found-seen-clause-renews
returns-then-found-seen-clause-renews g c =
    let live : mark_of c.loop-seat.seen ≡ 0 = c.loop-seat-test.ensures.0 (search rules) in
    exchanged renewing _ _ _ _ _ _ _ _ _ c.loop-seat.invariant.0 live c.field.ensures.0 c.field.ensures.1 c.live_word-new.ensures (c.renew-found.ensures.step.1.0 c.if-found-seen.true)

pub returns-then-found-seen-clause-seat : goal.returns-then-found-seen-clause-seat
returns-then-found-seen-clause-seat g c = goes_more _ _ _ c.loop-seat.invariant.1 c.renew-found.ensures.seat

pub returns-then-found-seen-clause-table : goal.returns-then-found-seen-clause-table
returns-then-found-seen-clause-table g c = c.renew-found.ensures.table ∙ c.loop-seat.invariant.2

pub returns-clause-seat : goal.returns-clause-seat
returns-clause-seat g c = c.loop-seat.invariant.1

pub returns-clause-table : goal.returns-clause-table
returns-clause-table g c = c.loop-seat.invariant.2
