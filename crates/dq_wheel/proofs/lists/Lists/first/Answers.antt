use Rattle.std.proofs.Common.{ap}
use Rattle.dq_wheel.proofs.Shown.{first_told}
use Rattle.dq_wheel.proofs.lists.Lists.first.Goals as goal

pub returns : goal.returns
returns g c = first_told _ _ _ _ _ (ap (λ w. w.homes) c.self.view_is) ((rw c.deref.ensures.value at c.first_of.ensures) _ c.self.invariant.0)
