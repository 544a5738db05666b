use Rattle.dq_wheel.specs.Rows.{entry_homes}
use Rattle.dq_wheel.proofs.Opening.{waiting}
use Rattle.dq_wheel.proofs.Scattering.{IsScattering}
use Rattle.dq_wheel.proofs.lists.scatter.Given as goal

abbrev pub invariant-loop-index : goal.invariant-loop-index
invariant-loop-index l =
    IsScattering l.capacity l.tick l.list l.index l.fn.rows l.rows l.maps l.made

abbrev pub decreases-loop-index : goal.decreases-loop-index
decreases-loop-index l = waiting l.list (entry_homes l.capacity l.rows)
