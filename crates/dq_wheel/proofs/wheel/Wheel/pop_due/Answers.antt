use Rattle.std.proofs.Common.{ap}
use Rattle.dq_wheel.proofs.Lawful.{lawful_unlinked, seen_unlinked, seen_due}
use Rattle.dq_wheel.proofs.Changes.{has_unlinked}
use Rattle.dq_wheel.proofs.Wakes.{none_due}
use Rattle.dq_wheel.proofs.Passing.{seen_none_due}
use Rattle.dq_wheel.proofs.wheel.Wheel.pop_due.Goals as goal

pub invariant_of-self-2 : goal.invariant_of-self-2
invariant_of-self-2 g c =
    let put = c.in-Some.ensures in
    rw (put.1, put.2, put.3, put.4)
    (lawful_unlinked _ _ _ _ _ _ c.self.invariant.0 (ap (λ w. w.filing) c.self.view_is) _ c.in-Some.ensures.0.0, c.self.invariant.1)

pub returns-in_default : goal.returns-in_default
returns-in_default g c =
    let seen = ap (λ w. w.filing) c.self.view_is in
    let empty = rw c.due_list.ensures.value at c.in_default.ensures.0 in
    let none = seen_none_due _ _ _ _ c.self.invariant.0 _ _ seen (none_due _ _ _ _ c.self.invariant.0 empty) in
    record {
      due = tt;
      loose = tt;
      others = tt;
      none = none;
      tick = ap (λ w. w.filing.tick) c.self.view_is;
      exact = (rw c.in_default.ensures.1 c.self.view_is, none);
    }

pub returns : goal.returns
returns g c =
    let seen = ap (λ w. w.filing) c.self.view_is in
    let stands = rw c.due_list.ensures.value at c.in-Some.ensures.0 in
    let due = seen_due _ _ _ _ _ _ c.self.invariant.0 seen _ stands.0 stands.1 in
    let exact = seen_unlinked _ _ _ _ _ seen c.in-Some.index in
    let now = has_unlinked _ _ _ due.0 exact in
    rw (c.in-Some.ensures.2, c.in-Some.ensures.3) (record {
      due = due.1;
      loose = now.loose;
      others = now.others;
      none = tt;
      tick = now.tick;
      exact = (due.0, due.1, exact);
    })
