use Rattle.std.proofs.Common.{ap}
use Rattle.dq_wheel.proofs.Shown.{closed_circles, closed_filed, closed_homes}
use Rattle.dq_wheel.proofs.lists.Lists.close.Goals as goal

pub invariant_of-self : goal.invariant_of-self
invariant_of-self g c = (
  closed_circles _ _ _ _ c.self.invariant.0 _ _ c.self.view_is c.requires,
  rw (closed_homes _ _ _ _ c.self.invariant.0 _ _ c.self.view_is c.requires) (rw (ap (λ w. w.homes) c.self.view_is) at c.self.invariant.1),
)

pub returns-clause-homes : goal.returns-clause-homes
returns-clause-homes g c = closed_homes _ _ _ _ c.self.invariant.0 _ _ c.self.view_is c.requires

pub returns-clause-filed : goal.returns-clause-filed
returns-clause-filed g c = closed_filed _ _ _ _ c.self.invariant.0 _ _ c.self.view_is c.requires
