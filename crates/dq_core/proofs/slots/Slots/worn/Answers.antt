use Rattle.std.proofs.Common.{arith}
use Rattle.dq_core.proofs.SlotRows.{worn_count}
use Rattle.dq_core.proofs.CellRows.{rows_length}
use Rattle.dq_core.proofs.slots.Slots.worn.Goals as goal

pub overflow_sub-result-2 : goal.overflow_sub-result-2
overflow_sub-result-2 g c =
    let w = worn_count c.self.invariant.0 in
    omega (arith, w, rows_length c.self.inside.cells.items, c.len.ensures)

pub returns : goal.returns
returns g c =
    let w = worn_count c.self.invariant.0 in
    rw (← c.self.view_is) (omega (arith, w, rows_length c.self.inside.cells.items, c.len.ensures))
