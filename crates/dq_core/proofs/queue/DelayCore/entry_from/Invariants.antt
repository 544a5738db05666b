use Rattle.std.proofs.Common.{◌≤◌}
use Rattle.dq_core.specs.Readers.{NoneBetween}
use Rattle.dq_core.proofs.queue.DelayCore.entry_from.Given as goal

abbrev pub invariant-loop-index : goal.invariant-loop-index
invariant-loop-index g l = (l.first ≤ l.index) × NoneBetween l.self l.first l.index
