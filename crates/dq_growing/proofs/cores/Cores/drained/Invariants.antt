use Rattle.std.proofs.Common.{ℕ, ◌<◌}
use Rattle.dq_growing.specs.Cores.{HasDrained}
use Rattle.dq_growing.proofs.cores.Cores.drained.Given as goal

abbrev pub invariant-loop-at : goal.invariant-loop-at
invariant-loop-at g l = (i : ℕ) (c : _) → i < l.at → ¬ HasDrained l.self i c
