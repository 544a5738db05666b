use Rattle.dq_growing.specs.Polls.{TellsLeastBelow}
use Rattle.dq_growing.proofs.cores.Cores.least.Given as goal

abbrev pub invariant-loop-at : goal.invariant-loop-at
invariant-loop-at g l = TellsLeastBelow l.self.cores l.at l.least
