use Rattle.std.proofs.Common.{◌≡◌, ◌*◌, ◌<◌, ◌≤◌, false, length, arith, ap, refl}
use Rattle.dq_core.specs.Slots.{is_held, row_at, unused}
use Rattle.dq_core.specs.Cells.{rows_of, cell_at, forgotten_cell}
use Rattle.dq_core.proofs.SlotRows.{room_kept}
use Rattle.dq_core.proofs.CellRows.{read_cell, rows_at, rows_length, rows_changed, forgotten_worn, forgotten_free, forgotten_deferred, still_deferred, kept, slots_of}
use Rattle.dq_core.proofs.DeferredCells.{deferred_of_values, forgotten_noted, same_noted, values_kept}
use Rattle.dq_core.proofs.Renewing.{worn_not_free}
use Rattle.dq_core.proofs.slots.Slots.forget_at.Goals as goal

pub invariant_of-self : goal.invariant_of-self
invariant_of-self g c =
    let cells = c.self.inside.cells.items in
    let i = c.args.index in
    let s = c.self.invariant.0 in
    let a = c.self.invariant.3 in
    let h : is_held (row_at (rows_of cells) i) ≡ false = rw (ap (λ s. s.rows) c.self.view_is) c.requires.empty in
    let in_rows : i < length (rows_of cells) = rw (ap (λ s. s.rows) c.self.view_is) c.requires.in_range in
    let inside : i < length cells = omega (arith, in_rows, rows_length cells) in
    let r = read_cell cells i c.index_mut-cell.result.now inside c.index_mut-cell.ensures.value in
    let same = ap (λ c. c.row.stamp) r in
    let at = c.stamp.ensures in
    let here = ap (λ r. r.stamp) (rows_at cells i) in
    let over : c.self.inside.last ≤ (row_at (rows_of cells) i).stamp = omega arith in
    let gone = c.remove-waits.ensures in
    rw (c.forget.ensures, ← r) (forgotten_worn s a i inside h _ _ over c.renew_slot.ensures.gives, room_kept cells i _ _ _ c.self.invariant.1 (ap (λ n. 64 * n) c.renew_slot.ensures.gives.waits_room), room_kept cells i _ _ _ c.self.invariant.2 (ap (λ n. 64 * n) gone.removed.2.0), forgotten_deferred s a i inside h _ _ c.remove-waits.result (λ is. gone.waited.0 is) over c.renew_slot.ensures.waits gone.removed, forgotten_noted c.self.invariant.4 i (forgotten_cell (cell_at cells i)) _ _ c.remove-waits.result (kept s a i inside h) inside (worn_not_free s i in_rows over).3 (λ is. gone.waited.0 is) (λ one. gone.waited.1 one) c.renew_slot.ensures.waits gone.removed)

pub invariant_of-self-else-was_worn : goal.invariant_of-self-else-was_worn
invariant_of-self-else-was_worn g c =
    let cells = c.self.inside.cells.items in
    let i = c.args.index in
    let s = c.self.invariant.0 in
    let a = c.self.invariant.3 in
    let h : is_held (row_at (rows_of cells) i) ≡ false = rw (ap (λ s. s.rows) c.self.view_is) c.requires.empty in
    let in_rows : i < length (rows_of cells) = rw (ap (λ s. s.rows) c.self.view_is) c.requires.in_range in
    let inside : i < length cells = omega (arith, in_rows, rows_length cells) in
    let r = read_cell cells i c.index_mut-cell.result.now inside c.index_mut-cell.ensures.value in
    let same = ap (λ c. c.row.stamp) r in
    let at = c.stamp.ensures in
    let here = ap (λ r. r.stamp) (rows_at cells i) in
    let left : (row_at (rows_of cells) i).stamp < c.self.inside.last = omega arith in
    rw (c.forget.ensures, ← r) (forgotten_free s a i inside h left, room_kept cells i _ _ _ c.self.invariant.1 refl, room_kept cells i _ _ _ c.self.invariant.2 refl, still_deferred s a i inside h left, same_noted c.self.invariant.4 i (forgotten_cell (cell_at cells i)) (kept s a i inside h) inside)

pub returns-then-was_worn-clause-forgotten : goal.returns-then-was_worn-clause-forgotten
returns-then-was_worn-clause-forgotten g c =
    let cells = c.self.inside.cells.items in
    let i = c.args.index in
    let in_rows : i < length (rows_of cells) = rw (ap (λ s. s.rows) c.self.view_is) c.requires.in_range in
    let r = read_cell cells i c.index_mut-cell.result.now (omega (arith, in_rows, rows_length cells)) c.index_mut-cell.ensures.value in
    rw (← c.self.view_is, c.forget.ensures, ← r)
    (ap (λ rs. slots_of c.self.inside.last rs) (rows_changed cells i (λ r. unused) (forgotten_cell (cell_at cells i)) refl))

pub returns-else-was_worn-clause-forgotten : goal.returns-else-was_worn-clause-forgotten
returns-else-was_worn-clause-forgotten g c =
    let cells = c.self.inside.cells.items in
    let i = c.args.index in
    let in_rows : i < length (rows_of cells) = rw (ap (λ s. s.rows) c.self.view_is) c.requires.in_range in
    let r = read_cell cells i c.index_mut-cell.result.now (omega (arith, in_rows, rows_length cells)) c.index_mut-cell.ensures.value in
    rw (← c.self.view_is, c.forget.ensures, ← r)
    (ap (λ rs. slots_of c.self.inside.last rs) (rows_changed cells i (λ r. unused) (forgotten_cell (cell_at cells i)) refl))

pub returns-then-was_worn-clause-deferred : goal.returns-then-was_worn-clause-deferred
returns-then-was_worn-clause-deferred g c =
    let cells = c.self.inside.cells.items in
    let i = c.args.index in
    let h : is_held (row_at (rows_of cells) i) ≡ false = rw (ap (λ s. s.rows) c.self.view_is) c.requires.empty in
    let in_rows : i < length (rows_of cells) = rw (ap (λ s. s.rows) c.self.view_is) c.requires.in_range in
    let inside : i < length cells = omega (arith, in_rows, rows_length cells) in
    let r = read_cell cells i c.index_mut-cell.result.now inside c.index_mut-cell.ensures.value in
    rw (← c.self.view_is, c.forget.ensures, ← r)
    (ap (λ vs. deferred_of_values c.self.inside.drops vs) (values_kept cells i (forgotten_cell (cell_at cells i)) (kept c.self.invariant.0 c.self.invariant.3 i inside h)))

pub returns-else-was_worn-clause-deferred : goal.returns-else-was_worn-clause-deferred
returns-else-was_worn-clause-deferred g c =
    let cells = c.self.inside.cells.items in
    let i = c.args.index in
    let h : is_held (row_at (rows_of cells) i) ≡ false = rw (ap (λ s. s.rows) c.self.view_is) c.requires.empty in
    let in_rows : i < length (rows_of cells) = rw (ap (λ s. s.rows) c.self.view_is) c.requires.in_range in
    let inside : i < length cells = omega (arith, in_rows, rows_length cells) in
    let r = read_cell cells i c.index_mut-cell.result.now inside c.index_mut-cell.ensures.value in
    rw (← c.self.view_is, c.forget.ensures, ← r)
    (ap (λ vs. deferred_of_values c.self.inside.drops vs) (values_kept cells i (forgotten_cell (cell_at cells i)) (kept c.self.invariant.0 c.self.invariant.3 i inside h)))
