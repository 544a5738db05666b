use Rattle.std.proofs.Common.{◌≡◌, ◌<◌, true, ap, refl}
use Rattle.dq_core.specs.Slots.{is_held, row_at, raised_row}
use Rattle.dq_core.specs.Cells.{rows_of, cell_at, raised_cell}
use Rattle.dq_core.proofs.SlotRows.{room_kept}
use Rattle.dq_core.proofs.CellRows.{read_cell, rows_changed, inside_cells, raised_cells, held_deferred, slots_of}
use Rattle.dq_core.proofs.DeferredCells.{deferred_of_values, same_noted, values_kept}
use Rattle.dq_core.proofs.slots.Slots.raise.Goals as goal

pub invariant_of-self : goal.invariant_of-self
invariant_of-self g c =
    let cells = c.self.inside.cells.items in
    let i = c.args.index in
    let s = c.self.invariant.0 in
    let a = c.self.invariant.3 in
    let h : is_held (row_at (rows_of cells) i) ≡ true = rw (ap (λ s. s.rows) c.self.view_is) c.requires.held in
    let left : (row_at (rows_of cells) i).stamp < c.self.inside.last = rw (ap (λ s. s.rows) c.self.view_is, ap (λ s. s.last_stamp) c.self.view_is) c.requires.left in
    let r = read_cell cells i c.index_mut-cell.result.now (inside_cells s a i h) c.index_mut-cell.ensures.value in
    rw (c.raise.ensures, ← r) (raised_cells s a i h left, room_kept cells i _ _ _ c.self.invariant.1 refl, room_kept cells i _ _ _ c.self.invariant.2 refl, held_deferred s a i h (raised_cell (cell_at cells i)), same_noted c.self.invariant.4 i (raised_cell (cell_at cells i)) refl (inside_cells s a i h))

pub returns-clause-raised : goal.returns-clause-raised
returns-clause-raised g c =
    let cells = c.self.inside.cells.items in
    let i = c.args.index in
    let h : is_held (row_at (rows_of cells) i) ≡ true = rw (ap (λ s. s.rows) c.self.view_is) c.requires.held in
    let r = read_cell cells i c.index_mut-cell.result.now (inside_cells c.self.invariant.0 c.self.invariant.3 i h) c.index_mut-cell.ensures.value in
    rw (← c.self.view_is, c.raise.ensures, ← r)
    (ap (λ rs. slots_of c.self.inside.last rs) (rows_changed cells i (λ r. raised_row r) (raised_cell (cell_at cells i)) refl))

pub returns-clause-deferred : goal.returns-clause-deferred
returns-clause-deferred g c =
    let cells = c.self.inside.cells.items in
    let i = c.args.index in
    let h : is_held (row_at (rows_of cells) i) ≡ true = rw (ap (λ s. s.rows) c.self.view_is) c.requires.held in
    let r = read_cell cells i c.index_mut-cell.result.now (inside_cells c.self.invariant.0 c.self.invariant.3 i h) c.index_mut-cell.ensures.value in
    rw (← c.self.view_is, c.raise.ensures, ← r)
    (ap (λ vs. deferred_of_values c.self.inside.drops vs) (values_kept cells i (raised_cell (cell_at cells i)) refl))
