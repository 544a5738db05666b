use Rattle.std.proofs.Common.{◌≡◌, true, ap, refl, ◌∙◌}
use Rattle.dq_core.specs.Slots.{is_held, row_at}
use Rattle.dq_core.specs.Values.{revalued_row}
use Rattle.dq_core.specs.Cells.{rows_of, cell_at, revalued_cell}
use Rattle.dq_core.proofs.SlotRows.{room_kept}
use Rattle.dq_core.proofs.CellRows.{read_cell, rows_at, rows_changed, inside_cells, revalued_cells, held_deferred, slots_of}
use Rattle.dq_core.proofs.DeferredCells.{deferred_of_values, same_noted, values_kept}
use Rattle.dq_core.proofs.slots.Slots.with_value.Goals as goal

pub invariant_of-self : goal.invariant_of-self
invariant_of-self g c =
    let cells = c.self.inside.cells.items in
    let i = c.args.index in
    let s = c.self.invariant.0 in
    let a = c.self.invariant.3 in
    let h : is_held (row_at (rows_of cells) i) ≡ true = rw (ap (λ s. s.rows) c.self.view_is) c.requires.held in
    let r = read_cell cells i c.index_mut-cell.result.now (inside_cells s a i h) c.index_mut-cell.ensures.value in
    let m = c.with_value.ensures in
    let x = revalued_cell (cell_at cells i) m.1 in
    rw (m.4, ← r) (revalued_cells s a i h m.1, room_kept cells i _ _ _ c.self.invariant.1 refl, room_kept cells i _ _ _ c.self.invariant.2 refl, held_deferred s a i h x, same_noted c.self.invariant.4 i x refl (inside_cells s a i h))

pub returns-clause-changes : goal.returns-clause-changes
returns-clause-changes g c =
    let cells = c.self.inside.cells.items in
    let i = c.args.index in
    let h : is_held (row_at (rows_of cells) i) ≡ true = rw (ap (λ s. s.rows) c.self.view_is) c.requires.held in
    let r = read_cell cells i c.index_mut-cell.result.now (inside_cells c.self.invariant.0 c.self.invariant.3 i h) c.index_mut-cell.ensures.value in
    let m = c.with_value.ensures in
    let x = revalued_cell (cell_at cells i) m.1 in
    rw (← c.self.view_is) (
      m.0,
      m.1,
      ap (λ r. r.held) (rows_at cells i) ∙ ap (λ c. c.row.held) r ∙ m.2,
      m.3,
      rw (m.4, ← r) (ap (λ rs. slots_of c.self.inside.last rs) (rows_changed cells i (λ r. revalued_row r m.1) x refl)),
    )

pub returns-clause-deferred : goal.returns-clause-deferred
returns-clause-deferred g c =
    let cells = c.self.inside.cells.items in
    let i = c.args.index in
    let h : is_held (row_at (rows_of cells) i) ≡ true = rw (ap (λ s. s.rows) c.self.view_is) c.requires.held in
    let r = read_cell cells i c.index_mut-cell.result.now (inside_cells c.self.invariant.0 c.self.invariant.3 i h) c.index_mut-cell.ensures.value in
    let m = c.with_value.ensures in
    rw (← c.self.view_is, m.4, ← r)
    (ap (λ vs. deferred_of_values c.self.inside.drops vs) (values_kept cells i (revalued_cell (cell_at cells i) m.1) refl))
