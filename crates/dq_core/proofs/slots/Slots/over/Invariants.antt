use Rattle.std.proofs.Common.{◌≡◌, ℕ, ◌≤◌, None, length, vec_capacity}
use Rattle.dq_core.specs.FreeSlots.{room_of}
use Rattle.dq_core.specs.Cells.{rows_of, cell_at}
use Rattle.dq_core.specs.Words.{StillBegun}
use Rattle.dq_core.proofs.Folds.{IsNewRow}
use Rattle.dq_core.proofs.slots.Slots.over.Given as goal

abbrev pub invariant-loop-index : goal.invariant-loop-index
invariant-loop-index g l = record {
  known : g.W.Words.known l.words ≡ g.W.Words.known l.fn.words;
  counts : g.W.Words.counts l.words ≡ g.W.Words.counts l.fn.words;
  origin : g.W.Words.origin l.words ≡ g.W.Words.origin l.fn.words;
  begun : StillBegun g.W.Words.begun l.fn.words l.words;
  rows : IsNewRow l.last (g.W.Words.known l.fn.words) l.index (rows_of l.cells.items) l.free l.free_count;
  few : l.free_count ≤ l.index;
  end : l.capacity ≡ length (g.W.Words.known l.fn.words);
  deferred : (i : ℕ) → (cell_at l.cells.items i).deferred ≡ None;
  cells_room : l.capacity ≤ vec_capacity l.cells;
  room : l.capacity ≤ room_of l.free;
}
