use Rattle.std.proofs.Common.{◌≡◌, ◌+◌, ◌∙◌, ap, arith, get_or, Some}
use Rattle.dq_ticks.specs.Digits.{digit_of}
use Rattle.dq_wheel.specs.State.{filed_at}
use Rattle.dq_wheel.specs.Filed.{filed_ticks}
use Rattle.dq_wheel.proofs.Lawful.{seen_due}
use Rattle.dq_wheel.proofs.Wakes.{stands_due}
use Rattle.dq_wheel.proofs.wheel.Wheel.next_due.Goals as goal

pub after-requires-clause-linked : goal.after-requires-clause-linked
after-requires-clause-linked g c =
    let due : filed_at (filed_ticks c.self.inside.lists.filed) c.args.index ≡ Some c.self.inside.tick = rw (← ap (λ w. w.filing) c.self.view_is) at c.requires.due in
    let stands = stands_due _ _ _ _ c.self.invariant.0 c.args.index due in
    let there : get_or c.self.inside.lists.homes c.args.index 0 ≡ digit_of c.self.inside.tick 0 + 1 = stands.1 in
    omega arith

pub returns : goal.returns
returns g c =
    let due : filed_at (filed_ticks c.self.inside.lists.filed) c.args.index ≡ Some c.self.inside.tick = rw (← ap (λ w. w.filing) c.self.view_is) at c.requires.due in
    let stands = stands_due _ _ _ _ c.self.invariant.0 c.args.index due in
    let beside = c.in-Some.ensures in
    let now = seen_due _ _ _ _ _ _ c.self.invariant.0 (ap (λ w. w.filing) c.self.view_is) _ beside.0 (beside.1 ∙ stands.1) in
    record { due = now.1; in_range = now.0; other = beside.2 }
