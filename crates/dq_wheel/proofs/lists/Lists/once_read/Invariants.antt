use Rattle.std.specs.Prelude.{◌≡◌}
use Rattle.dq_wheel.proofs.lists.Lists.once_read.Given as goal

abbrev pub invariant-loop-turn : goal.invariant-loop-turn
invariant-loop-turn g l = l.same ≡ l.fn.number
