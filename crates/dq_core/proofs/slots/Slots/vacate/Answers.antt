use Rattle.std.proofs.Common.{◌≡◌, true, arith, ap, refl, sym, ◌∙◌}
use Rattle.dq_core.specs.Slots.{is_held, row_at, vacated_row}
use Rattle.dq_core.specs.Cells.{rows_of, cell_at, vacated_cell}
use Rattle.dq_core.proofs.SlotRows.{gives_free, room_kept}
use Rattle.dq_core.proofs.CellRows.{read_cell, rows_at, rows_changed, inside_cells, freed_cells, worn_cells, held_deferred, slots_of}
use Rattle.dq_core.proofs.DeferredCells.{values_kept, emptied_noted, deferred_of_values}
use Rattle.dq_core.proofs.slots.Slots.vacate.Goals as goal
use Rattle.dq_core.proofs.slots.Slots.vacate.Goals.{then-stamp-self, else-stamp-self}

pub invariant_of-self : goal.invariant_of-self
invariant_of-self g c =
    let cells = c.self.inside.cells.items in
    let i = c.args.index in
    let s = c.self.invariant.0 in
    let a = c.self.invariant.3 in
    let n = c.self.invariant.4 in
    let h : is_held (row_at (rows_of cells) i) ≡ true = rw (ap (λ s. s.rows) c.self.view_is) c.requires in
    let r = read_cell cells i c.index_mut-cell.result.now (inside_cells s a i h) c.index_mut-cell.ensures.value in
    let same = ap (λ c. c.row.stamp) r in
    let here = ap (λ r. r.stamp) (rows_at cells i) in
    let kept = ap (λ c. c.row.stamp) c.vacate-held.ensures.vacated in
    elim c.if-stamp-self.branch [
      | then-stamp-self w ↦ rw (w.self-inside-is, c.vacate-held.ensures.vacated, ← r) (freed_cells s a i h (vacated_cell (cell_at cells i)) refl w.give.new.self _ (omega arith) (gives_free _ _ _ i w.give.ensures), room_kept cells i _ _ _ c.self.invariant.1 refl, room_kept cells i _ _ _ c.self.invariant.2 refl, held_deferred s a i h (vacated_cell (cell_at cells i)), emptied_noted n i (vacated_cell (cell_at cells i)) _ _ refl (inside_cells s a i h) (λ j ne. refl) (λ j ne. refl) (λ one. one) (λ one. one))
      | else-stamp-self w ↦ rw (w.self-inside-is, c.vacate-held.ensures.vacated, ← r) (worn_cells s a i h (vacated_cell (cell_at cells i)) refl (omega arith), room_kept cells i _ _ _ c.self.invariant.1 refl, room_kept cells i _ _ _ c.self.invariant.2 refl, held_deferred s a i h (vacated_cell (cell_at cells i)), emptied_noted n i (vacated_cell (cell_at cells i)) _ _ refl (inside_cells s a i h) (λ j ne. refl) (λ j ne. refl) (λ one. one) (λ one. one))
    ]

pub returns-clause-vacated : goal.returns-clause-vacated
returns-clause-vacated g c =
    let cells = c.self.inside.cells.items in
    let i = c.args.index in
    let h : is_held (row_at (rows_of cells) i) ≡ true = rw (ap (λ s. s.rows) c.self.view_is) c.requires in
    let r = read_cell cells i c.index_mut-cell.result.now (inside_cells c.self.invariant.0 c.self.invariant.3 i h) c.index_mut-cell.ensures.value in
    let is = ap (λ rs. slots_of c.self.inside.last rs) (rows_changed cells i (λ r. vacated_row r) (vacated_cell (cell_at cells i)) refl) in
    elim c.if-stamp-self.branch [
      | then-stamp-self w ↦ rw (w.self-inside-is, ← c.self.view_is, c.vacate-held.ensures.vacated, ← r) is
      | else-stamp-self w ↦ rw (w.self-inside-is, ← c.self.view_is, c.vacate-held.ensures.vacated, ← r) is
    ]

pub returns-clause-deferred : goal.returns-clause-deferred
returns-clause-deferred g c =
    let cells = c.self.inside.cells.items in
    let i = c.args.index in
    let h : is_held (row_at (rows_of cells) i) ≡ true = rw (ap (λ s. s.rows) c.self.view_is) c.requires in
    let r = read_cell cells i c.index_mut-cell.result.now (inside_cells c.self.invariant.0 c.self.invariant.3 i h) c.index_mut-cell.ensures.value in
    let none = ap (λ c. c.deferred) r ∙ c.vacate-held.ensures.none in
    let is = ap (λ vs. deferred_of_values c.self.inside.drops vs) (values_kept cells i (vacated_cell (cell_at cells i)) (sym none)) in
    elim c.if-stamp-self.branch [
      | then-stamp-self w ↦ rw (w.self-inside-is, ← c.self.view_is, c.vacate-held.ensures.vacated, ← r) is
      | else-stamp-self w ↦ rw (w.self-inside-is, ← c.self.view_is, c.vacate-held.ensures.vacated, ← r) is
    ]
