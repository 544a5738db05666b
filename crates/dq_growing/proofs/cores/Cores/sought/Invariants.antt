use Rattle.std.proofs.Common.{◌≡◌}
use Rattle.dq_growing.proofs.cores.Cores.sought.Given as goal

abbrev pub invariant-loop : goal.invariant-loop
invariant-loop g l = l.self ≡ l.fn.self
