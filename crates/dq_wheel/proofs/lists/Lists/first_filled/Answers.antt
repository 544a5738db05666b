use Rattle.std.proofs.Common.{ap}
use Rattle.dq_wheel.proofs.Occupancy.{first_filled, none_filled}
use Rattle.dq_wheel.proofs.lists.Lists.first_filled.Goals as goal

pub returns : goal.returns
returns g c =
    rw (← ap (λ w. w.homes) c.self.view_is) (first_filled _ _ c.self.invariant.1 c.args.own c.in_ok-list.list (rw c.in_ok-list.was at c.first_list.ensures))

pub returns-in_err-list : goal.returns-in_err-list
returns-in_err-list g c = rw (c.from_residual.ensures, ← ap (λ w. w.homes) c.self.view_is) (none_filled _ _ c.self.invariant.1 (rw c.in_err-list.was at c.first_list.ensures))
