use Rattle.dq_growing.specs.Sizing.{NoneNeedless}
use Rattle.dq_growing.proofs.sizing.Sizing.needless.Given as goal

abbrev pub invariant-loop-at : goal.invariant-loop-at
invariant-loop-at g l = NoneNeedless l.self l.cores l.at
