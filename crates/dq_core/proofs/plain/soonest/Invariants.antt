use Rattle.dq_core.proofs.Searches.{IsSoonestOf}
use Rattle.dq_core.proofs.plain.soonest.Given as goal

abbrev pub invariant-loop-index : goal.invariant-loop-index
invariant-loop-index g l = IsSoonestOf l.entries l.index l.first l.deadline
