use Rattle.std.proofs.Common.{◌≡◌, ℕ, ◌<◌, length, false}
use Rattle.dq_core.specs.Slots.{row_at, is_held, unused}
use Rattle.dq_core.proofs.slots.Slots.forget.Given as goal

abbrev pub invariant-loop-index : goal.invariant-loop-index
invariant-loop-index g l = record {
  end : l.index-end ≡ length l.fn.self.rows;
  size : length l.self.rows ≡ length l.fn.self.rows;
  last : l.self.last_stamp ≡ l.fn.self.last_stamp;
  before : (i : ℕ) → i < l.index → row_at l.self.rows i ≡ unused;
  deferred : l.self.deferred ≡ l.fn.self.deferred;
  none : (i : ℕ) → is_held (row_at l.self.rows i) ≡ false;
}
