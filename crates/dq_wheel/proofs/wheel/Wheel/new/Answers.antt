use Rattle.std.proofs.Common.{arith}
use Rattle.dq_wheel.proofs.Lawful.{lawful_fresh, seen_fresh}
use Rattle.dq_wheel.proofs.wheel.Wheel.new.Goals as goal

pub invariant_of-result : goal.invariant_of-result
invariant_of-result g c =
    let made = c.in_ok-lists.ensures in
    (lawful_fresh _ _ _ _ (omega arith) (omega arith) made.1 made.2 made.0, rw made.3 tt)

pub returns : goal.returns
returns g c =
    let made = c.in_ok-lists.ensures in
    (omega arith, omega arith, seen_fresh _ _ _ made.1 made.2)
