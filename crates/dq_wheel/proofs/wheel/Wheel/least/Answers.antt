use Rattle.std.proofs.Common.{ap}
use Rattle.dq_wheel.proofs.Wakes.{none_due}
use Rattle.dq_wheel.proofs.Passing.{seen_least_due, seen_least, seen_none}
use Rattle.dq_wheel.proofs.wheel.Wheel.least.Goals as goal

pub returns-in-Some : goal.returns-in-Some
returns-in-Some g c = seen_least_due _ _ _ _ c.self.invariant.0 _ _ (ap (λ w. w.filing) c.self.view_is) _
    (rw c.due_list.ensures.value at c.in-Some.ensures)

pub returns-in_default-first_filled : goal.returns-in_default-first_filled
returns-in_default-first_filled g c =
    seen_none _ _ _ _ c.self.invariant.0 _ _ (ap (λ w. w.filing) c.self.view_is) c.in_default-first_filled.ensures

pub returns : goal.returns
returns g c =
    let first = rw c.digit.ensures at c.in-Some-first_filled.ensures in
    seen_least _ _ _ _ c.self.invariant.0 _ _ (ap (λ w. w.filing) c.self.view_is) _ first.0 first.1 first.2
    (none_due _ _ _ _ c.self.invariant.0 (rw c.due_list.ensures.value at c.in_default.ensures)) _ c.least_in.ensures
