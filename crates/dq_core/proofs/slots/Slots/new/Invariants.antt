use Rattle.std.proofs.Common.{◌≡◌, ◌≤◌, replicate, vec_capacity}
use Rattle.dq_core.specs.FreeSlots.{room_of}
use Rattle.dq_core.specs.Cells.{unused_cell}
use Rattle.dq_core.proofs.SlotRows.{AreFirstFree}
use Rattle.dq_core.proofs.slots.Slots.new.Given as goal

abbrev pub invariant-loop-index : goal.invariant-loop-index
invariant-loop-index g l = record {
  cells : l.cells.items ≡ replicate l.index unused_cell;
  freed : AreFirstFree l.index l.free;
  cells_room : l.capacity ≤ vec_capacity l.cells;
  room : l.capacity ≤ room_of l.free;
}
