use Rattle.std.proofs.Common.{ap}
use Rattle.dq_wheel.proofs.Places.{seen_occupied}
use Rattle.dq_wheel.proofs.wheel.Wheel.occupancy.Goals as goal

pub returns : goal.returns
returns g c =
    seen_occupied _ _ _ _ _ _ c.self.invariant.0 (ap (λ w. w.filing) c.self.view_is) _ _ c.requires
    (rw c.due_list.ensures.value at c.map_without.ensures)
