use Rattle.std.proofs.Common.{◌≡◌, ◌*◌, None, is_some, true, refl, sym, ap, ◌∙◌, subst, arith}
use Rattle.dq_core.specs.Slots.{filled_row, shown}
use Rattle.dq_core.specs.Cells.{cell_at, filled_cell}
use Rattle.dq_core.proofs.SlotRows.{free_is, takes_given, taken_is, none_open, room_kept}
use Rattle.dq_core.proofs.CellRows.{read_cell, rows_at, rows_changed, fill_inside, filled_cells, filled_deferred, takes_others, slots_of}
use Rattle.dq_core.proofs.DeferredCells.{deferred_of_values, values_at, values_set, emptied_noted}
use Rattle.dq_core.proofs.DeferredCounts.{fill_displaced}
use Rattle.dq_core.proofs.slots.Slots.fill.Goals as goal

pub returns-in_default-clause-filled : goal.returns-in_default-clause-filled
returns-in_default-clause-filled g c =
    (rw (← c.self.view_is) (none_open c.self.invariant.0 c.in_default.ensures.0), refl, ap (λ s. shown s) c.self.view_is)

pub invariant_of-self-2 : goal.invariant_of-self-2
invariant_of-self-2 g c =
    let s = c.self.invariant.0 in
    let a = c.self.invariant.3 in
    let i = c.in-Some.index in
    let takes = c.in-Some.ensures in
    let given = takes_given _ _ _ _ i takes in
    let t = taken_is s _ _ i given in
    let r = read_cell c.self.inside.cells.items i c.index_mut-cell.result.now (fill_inside s a _ _ i takes) c.index_mut-cell.ensures.value in
    rw (c.fill-displaced.ensures.filled, ← r)
    (filled_cells s a _ _ i takes c.args.value, room_kept c.self.inside.cells.items i _ _ _ c.self.invariant.1 (ap (λ n. 64 * n) (sym given.waits_room)), room_kept c.self.inside.cells.items i _ _ _ c.self.invariant.2 refl, filled_deferred s a _ _ i takes c.args.value, emptied_noted c.self.invariant.4 i (filled_cell (cell_at c.self.inside.cells.items i) c.args.value) _ _ refl (fill_inside s a _ _ i takes) (takes_others _ _ _ _ i takes) (λ j ne. refl) (λ one. absurd (omega (arith, t.2, one))) (λ one. one))

pub returns-clause-filled : goal.returns-clause-filled
returns-clause-filled g c =
    let cells = c.self.inside.cells.items in
    let s = c.self.invariant.0 in
    let a = c.self.invariant.3 in
    let i = c.in-Some.index in
    let takes = c.in-Some.ensures in
    let t = taken_is s _ _ i (takes_given _ _ _ _ i takes) in
    let r = read_cell cells i c.index_mut-cell.result.now (fill_inside s a _ _ i takes) c.index_mut-cell.ensures.value in
    rw (← c.self.view_is, c.fill-displaced.ensures.filled, ← r)
    (t.0, t.1, ap (λ rs. slots_of c.self.inside.last rs) (rows_changed cells i (λ r. filled_row r c.args.value) (filled_cell (cell_at cells i) c.args.value) refl))

pub returns-clause-deferred : goal.returns-clause-deferred
returns-clause-deferred g c =
    let cells = c.self.inside.cells.items in
    let s = c.self.invariant.0 in
    let a = c.self.invariant.3 in
    let i = c.in-Some.index in
    let takes = c.in-Some.ensures in
    let t = taken_is s _ _ i (takes_given _ _ _ _ i takes) in
    let r = read_cell cells i c.index_mut-cell.result.now (fill_inside s a _ _ i takes) c.index_mut-cell.ensures.value in
    let held : c.index_mut-cell.result.now.row.held ≡ None = sym (ap (λ c. c.row.held) r) ∙ sym (ap (λ q. q.held) (rows_at cells i)) ∙ (free_is _ _ t.1).0 in
    let first = c.fill-displaced.ensures.displaced held ∙ sym (ap (λ c. c.deferred) r) ∙ sym (values_at cells i) in
    rw (← c.self.view_is, c.fill-displaced.ensures.filled, ← r)
    (first, ap (λ vs. deferred_of_values c.self.inside.drops vs) (values_set cells i (filled_cell (cell_at cells i) c.args.value)))

pub returns-clause-displaced : goal.returns-clause-displaced
returns-clause-displaced g c = λ on some.
    let cells = c.self.inside.cells.items in
    let v = c.self.invariant in
    let i = c.in-Some.index in
    let takes = c.in-Some.ensures in
    let t = taken_is v.0 _ _ i (takes_given _ _ _ _ i takes) in
    let r = read_cell cells i c.index_mut-cell.result.now (fill_inside v.0 v.3 _ _ i takes) c.index_mut-cell.ensures.value in
    let held : c.index_mut-cell.result.now.row.held ≡ None = sym (ap (λ c. c.row.held) r) ∙ sym (ap (λ q. q.held) (rows_at cells i)) ∙ (free_is _ _ t.1).0 in
    let first = c.fill-displaced.ensures.displaced held ∙ sym (ap (λ c. c.deferred) r) ∙ sym (values_at cells i) in
    let was = rw (← c.self.view_is) at on in
    rw (← c.self.view_is) (fill_displaced v.0 v.3 v.4 v.1 v.2 _ _ i takes was (subst (λ o. is_some o ≡ true) first some))
