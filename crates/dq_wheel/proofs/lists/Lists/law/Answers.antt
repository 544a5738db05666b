use Rattle.std.proofs.Common.{ap}
use Rattle.dq_wheel.proofs.Walks.{list_of_circles}
use Rattle.dq_wheel.proofs.lists.Lists.law.Goals as goal

pub returns-clause-lists : goal.returns-clause-lists
returns-clause-lists g c p p_in =
    rw (← ap (λ w. w.next) c.self.view_is)
    (list_of_circles _ _ _ _ _ c.self.invariant.0 (ap (λ w. w.homes) c.self.view_is) p p_in)

pub returns-clause-bits : goal.returns-clause-bits
returns-clause-bits g c =
    rw (← ap (λ w. w.maps) c.self.view_is, ← ap (λ w. w.homes) c.self.view_is) c.self.invariant.1
