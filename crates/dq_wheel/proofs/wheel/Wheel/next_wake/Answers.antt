use Rattle.std.proofs.Common.{ap}
use Rattle.dq_wheel.proofs.Wakes.{first_wake, none_filed}
use Rattle.dq_wheel.proofs.wheel.Wheel.next_wake.Goals as goal

pub returns-in-Some : goal.returns-in-Some
returns-in-Some g c =
    let first = rw c.digit.ensures at c.in-Some.ensures in
    rw (← ap (λ w. w.filing.tick) c.self.view_is, ← ap (λ w. w.filing.filed) c.self.view_is, c.start_of.ensures)
    (first_wake _ _ _ _ c.self.invariant.0 _ first.0 first.1 first.2)

pub returns-in-None : goal.returns-in-None
returns-in-None g c =
    rw (← ap (λ w. w.filing.filed) c.self.view_is)
    (none_filed _ _ _ _ c.self.invariant.0 c.in-None.ensures)
