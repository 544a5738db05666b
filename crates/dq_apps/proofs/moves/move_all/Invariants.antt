use Rattle.std.specs.List.{count_by}
use Rattle.dq_apps.specs.TimerTable.{is_set}
use Rattle.dq_apps.specs.Moves.{HaveMoved}
use Rattle.dq_apps.proofs.moves.move_all.Given as goal

abbrev pub invariant-loop : goal.invariant-loop
invariant-loop g l = HaveMoved g.K.PartialEq.eq l.initial.stock.entries l.initial.worn.slots l.initial.fresh l.stock.entries l.worn.slots l.fresh

abbrev pub decreases-loop : goal.decreases-loop
decreases-loop g l = count_by is_set l.worn.slots
