use Rattle.std.proofs.Common.{◌≡◌, length}
use Rattle.dq_wheel.specs.Rows.{AreAlone}
use Rattle.dq_wheel.proofs.lists.lone_rows.Given as goal

abbrev pub invariant-loop-at : goal.invariant-loop-at
invariant-loop-at g l = (length l.rows.items ≡ l.at) × AreAlone l.fn.capacity l.rows.items
