use Rattle.std.proofs.Common.{ap}
use Rattle.dq_wheel.proofs.Lawful.{seen_due}
use Rattle.dq_wheel.proofs.wheel.Wheel.first_open.Goals as goal

pub returns : goal.returns
returns g c =
    let stands = rw c.due_list.ensures.value at c.in-Some.ensures in
    let due = seen_due _ _ _ _ _ _ c.self.invariant.0 (ap (λ w. w.filing) c.self.view_is) _ stands.0 stands.1 in
    record { due = due.1; in_range = due.0 }
