use Rattle.std.proofs.Common.{◌<◌, length, ap, arith}
use Rattle.dq_core.proofs.SlotRows.{row_is}
use Rattle.dq_core.proofs.CellRows.{read_cell, rows_at, rows_length}
use Rattle.dq_core.proofs.slots.SlotsBeside.once_read.Goals as goal

pub once_read-requires : goal.once_read-requires
once_read-requires g c =
    let cells = c.self.inside.cells.items in
    let inside : c.args.index < length cells = let size = c.len.ensures in let past = c.if-index-len.false in omega (arith, size, past) in
    let r = read_cell cells c.args.index c.index-cell.result.now inside c.index-cell.ensures in
    let row = row_is c.self.invariant.0.slots c.args.index (omega (arith, inside, rows_length cells)) in
    let bound = c.self.invariant.0.slots.bound in
    let stamp = ap (λ r. r.stamp) (rows_at cells c.args.index) in
    rw (← r) (omega (arith, row.bound, bound, stamp))
