use Rattle.std.proofs.Common.{arith, sym, ◌∙◌, inl, inr}
use Rattle.dq_wheel.proofs.Scattering.{few_moves, may_go, scattered, scattered_bits, scattered_circles, scattering_falls, scattering_goes, scattering_init}
use Rattle.dq_wheel.proofs.lists.scatter.Goals.{then-row-tick, else-row-tick}
use Rattle.dq_wheel.proofs.lists.scatter.Goals as goal

pub loop-index-init : goal.loop-index-init
loop-index-init c =
    scattering_init _ _ _ _ _ _ _ c.take_off-index.ensures.taken c.take_off-index.ensures.home c.take_off-index.ensures.filed
    c.take_off-index.ensures.moves c.requires.occupied

pub list_from-to-requires-clause-ordered : goal.list_from-to-requires-clause-ordered
list_from-to-requires-clause-ordered c =
    (may_go _ _ _ _ _ _ _ _ c.loop-index.invariant c.loop-index-test.true c.requires.can_go _ c.row_at-row.ensures.filed _ c.row_at-row.ensures.moves).not_before

pub list_from-to-requires-clause-in_range : goal.list_from-to-requires-clause-in_range
list_from-to-requires-clause-in_range c =
    let goes = may_go _ _ _ _ _ _ _ _ c.loop-index.invariant c.loop-index-test.true c.requires.can_go _ c.row_at-row.ensures.filed _ c.row_at-row.ensures.moves in
    omega (arith, goes.in_range)

pub list_from-to-requires-clause-lowest : goal.list_from-to-requires-clause-lowest
list_from-to-requires-clause-lowest c =
    (may_go _ _ _ _ _ _ _ _ c.loop-index.invariant c.loop-index-test.true c.requires.can_go _ c.row_at-row.ensures.filed _ c.row_at-row.ensures.moves).lowest

pub list_from-to-requires-clause-second : goal.list_from-to-requires-clause-second
list_from-to-requires-clause-second c =
    (may_go _ _ _ _ _ _ _ _ c.loop-index.invariant c.loop-index-test.true c.requires.can_go _ c.row_at-row.ensures.filed _ c.row_at-row.ensures.moves).second

pub put_last-after-requires-clause-away : goal.put_last-after-requires-clause-away
put_last-after-requires-clause-away c same =
    (may_go _ _ _ _ _ _ _ _ c.loop-index.invariant c.loop-index-test.true c.requires.can_go _ c.row_at-row.ensures.filed _ c.row_at-row.ensures.moves).away (sym c.list_from-to.ensures.value ∙ same)

pub overflow_add-row : goal.overflow_add-row
overflow_add-row c =
    omega (arith, few_moves _ _ _ _ _ _ _ _ c.loop-index.invariant c.loop-index-test.true c.requires.can_go _ c.row_at-row.ensures.filed _ c.row_at-row.ensures.moves)

pub loop-index-smaller : goal.loop-index-smaller
loop-index-smaller c =
    scattering_falls _ _ _ _ _ _ _ _ c.loop-index.invariant c.loop-index-test.true c.requires.can_go _ c.row_at-row.ensures.filed _ c.row_at-row.ensures.moves _ _ _ _
    c.list_from-to.ensures.value c.put_last-after.ensures.taken c.put_last-after.ensures.home c.put_last-after.ensures.filed c.set_bit.ensures.set c.set_bit.ensures.others

pub loop-index-preserved : goal.loop-index-preserved
loop-index-preserved c =
    scattering_goes _ _ _ _ _ _ _ _ c.loop-index.invariant c.loop-index-test.true c.requires.can_go _ c.row_at-row.ensures.filed _ c.row_at-row.ensures.moves _ _ _ _
    c.list_from-to.ensures.value c.put_last-after.ensures.taken c.put_last-after.ensures.home c.put_last-after.ensures.filed c.set_bit.ensures.set c.set_bit.ensures.others
    _ c.put_last-after.ensures.moves
    (elim c.if-row-tick.branch [
      | then-row-tick w ↦ inl (w.if-row-tick.true, w.moved-is)
      | else-row-tick w ↦ inr (w.if-row-tick.false, w.moved-is)
    ])

pub returns-clause-circles : goal.returns-clause-circles
returns-clause-circles c = scattered_circles _ _ _ _ _ _ _ _ c.loop-index.invariant (omega arith)

pub returns-clause-opened : goal.returns-clause-opened
returns-clause-opened c = scattered _ _ _ _ _ _ _ _ c.loop-index.invariant (omega arith)

pub returns-clause-occupied : goal.returns-clause-occupied
returns-clause-occupied c =
    scattered_bits _ _ _ _ _ _ _ _ c.loop-index.invariant (omega arith) _ c.clear_bit.ensures.cleared c.clear_bit.ensures.others
