use Rattle.std.proofs.Common.{◌≡◌, ◌*◌, true, arith, ap, refl, ◌∙◌, sym}
use Rattle.dq_core.specs.Slots.{is_held, row_at, vacated_row}
use Rattle.dq_core.specs.Cells.{rows_of, cell_at, deferred_cell}
use Rattle.dq_core.proofs.SlotRows.{room_kept}
use Rattle.dq_core.proofs.CellRows.{read_cell, rows_at, rows_changed, inside_cells, freed_cells, worn_cells, more_deferred, more_worn_deferred, if_room, slots_of}
use Rattle.dq_core.proofs.DeferredCells.{deferred_noted, deferred_worn_noted}
use Rattle.dq_core.proofs.Settings.{some_held, sets_one, deferred_of_held}
use Rattle.dq_core.proofs.slots.Slots.defer.Goals as goal
use Rattle.dq_core.proofs.slots.Slots.defer.Goals.{then-stamp-self, else-stamp-self}

pub invariant_of-self : goal.invariant_of-self
invariant_of-self g c =
    let cells = c.self.inside.cells.items in
    let i = c.args.index in
    let s = c.self.invariant.0 in
    let a = c.self.invariant.3 in
    let n = c.self.invariant.4 in
    let h : is_held (row_at (rows_of cells) i) ≡ true = rw (ap (λ s. s.rows) c.self.view_is) c.requires in
    let inside = inside_cells s a i h in
    let r = read_cell cells i c.index_mut-cell.result.now inside c.index_mut-cell.ensures.value in
    let same = ap (λ c. c.row.stamp) r in
    let here = ap (λ r. r.stamp) (rows_at cells i) in
    let kept = ap (λ c. c.row.stamp) c.defer.ensures in
    elim c.if-stamp-self.branch [
      | then-stamp-self w ↦ rw (w.self-inside-is, c.defer.ensures, ← r) (freed_cells s a i h (deferred_cell (cell_at cells i)) refl _ _ (omega arith) w.defer_slot.ensures.gives, room_kept cells i _ _ _ c.self.invariant.1 (ap (λ n. 64 * n) w.defer_slot.ensures.gives.waits_room), room_kept cells i _ _ _ c.self.invariant.2 refl, more_deferred s a i h _ _ w.defer_slot.ensures.waits, deferred_noted n i (deferred_cell (cell_at cells i)) _ inside w.defer_slot.ensures.waits)
      | else-stamp-self w ↦ rw (w.self-inside-is, c.defer.ensures, ← r) (worn_cells s a i h (deferred_cell (cell_at cells i)) refl (omega arith), room_kept cells i _ _ _ c.self.invariant.1 refl, room_kept cells i _ _ _ c.self.invariant.2 (ap (λ n. 64 * n) (if_room _ _ i _ w.mark.ensures)), more_worn_deferred s a i h _ _ w.mark.ensures (omega arith), deferred_worn_noted n i (deferred_cell (cell_at cells i)) _ inside w.mark.ensures)
    ]

pub returns-clause-vacated : goal.returns-clause-vacated
returns-clause-vacated g c =
    let cells = c.self.inside.cells.items in
    let i = c.args.index in
    let h : is_held (row_at (rows_of cells) i) ≡ true = rw (ap (λ s. s.rows) c.self.view_is) c.requires in
    let r = read_cell cells i c.index_mut-cell.result.now (inside_cells c.self.invariant.0 c.self.invariant.3 i h) c.index_mut-cell.ensures.value in
    let is = ap (λ rs. slots_of c.self.inside.last rs) (rows_changed cells i (λ r. vacated_row r) (deferred_cell (cell_at cells i)) refl) in
    elim c.if-stamp-self.branch [
      | then-stamp-self w ↦ rw (w.self-inside-is, ← c.self.view_is, c.defer.ensures, ← r) is
      | else-stamp-self w ↦ rw (w.self-inside-is, ← c.self.view_is, c.defer.ensures, ← r) is
    ]

pub returns-clause-deferred : goal.returns-clause-deferred
returns-clause-deferred g c =
    let cells = c.self.inside.cells.items in
    let i = c.args.index in
    let h : is_held (row_at (rows_of cells) i) ≡ true = rw (ap (λ s. s.rows) c.self.view_is) c.requires in
    let inside = inside_cells c.self.invariant.0 c.self.invariant.3 i h in
    let r = read_cell cells i c.index_mut-cell.result.now inside c.index_mut-cell.ensures.value in
    let held = some_held (row_at (rows_of cells) i).held h in
    let there = sym (ap (λ q. q.held) (rows_at cells i)) ∙ held.1 in
    let is = sets_one c.self.inside.drops cells i (deferred_cell (cell_at cells i)) inside held.0 held.1 refl (deferred_of_held (cell_at cells i) held.0 there) in
    elim c.if-stamp-self.branch [
      | then-stamp-self w ↦ rw (w.self-inside-is, ← c.self.view_is, c.defer.ensures, ← r) is
      | else-stamp-self w ↦ rw (w.self-inside-is, ← c.self.view_is, c.defer.ensures, ← r) is
    ]
