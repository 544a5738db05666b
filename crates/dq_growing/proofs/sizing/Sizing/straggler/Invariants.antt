use Rattle.dq_growing.specs.Sizing.{NoStraggler}
use Rattle.dq_growing.proofs.sizing.Sizing.straggler.Given as goal

abbrev pub invariant-loop-at : goal.invariant-loop-at
invariant-loop-at g l = NoStraggler l.store l.at
