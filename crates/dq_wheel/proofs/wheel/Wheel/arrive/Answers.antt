use Rattle.std.proofs.Common.{ap, arith, refl}
use Rattle.dq_wheel.proofs.Arriving.{comes_earlier, hang_arrives, lawful_arrival, low_arrives, no_due_list, none_before_arrival, unnamed_arrival}
use Rattle.dq_wheel.proofs.Going.{begins_after, lawful_at_limit, lawful_open, low_opened, none_before_limit, none_before_open, reaches_limit, starts_past}
use Rattle.dq_wheel.proofs.wheel.Wheel.arrive.Goals as goal

pub invariant_of-self : goal.invariant_of-self
invariant_of-self g c =
    rw (c.close.ensures.homes, c.close.ensures.filed, c.close.ensures.moves, c.close.ensures.shut) (
      lawful_at_limit _ _ _ _ c.self.invariant.0 _ _ (ap (λ w. w.filing) c.self.view_is) c.requires.none_due _ c.requires.not_before c.requires.in_range (omega arith)
          (starts_past _ _ _ _ c.self.invariant.0 _ _ (ap (λ w. w.filing) c.self.view_is) c.requires.none_due _ c.requires.not_before c.requires.in_range (omega arith) c.in_default.ensures),
      tt,
    )

pub returns-in_default-clause-none_before : goal.returns-in_default-clause-none_before
returns-in_default-clause-none_before g c =
    rw c.close.ensures.filed
    (none_before_limit _ _ _ _ c.self.invariant.0 _ _ (ap (λ w. w.filing) c.self.view_is) c.requires.none_due _ c.requires.not_before c.requires.in_range (omega arith)
    (starts_past _ _ _ _ c.self.invariant.0 _ _ (ap (λ w. w.filing) c.self.view_is) c.requires.none_due _ c.requires.not_before c.requires.in_range (omega arith) c.in_default.ensures))

pub returns-in_default-clause-way : goal.returns-in_default-clause-way
returns-in_default-clause-way g c =
    rw (c.close.ensures.filed, c.close.ensures.moves)
    (reaches_limit _ _ _ _ c.self.invariant.0 _ _ (ap (λ w. w.filing) c.self.view_is) c.requires.none_due _ c.requires.not_before c.requires.in_range (omega arith)
    (starts_past _ _ _ _ c.self.invariant.0 _ _ (ap (λ w. w.filing) c.self.view_is) c.requires.none_due _ c.requires.not_before c.requires.in_range (omega arith) c.in_default.ensures))

pub close-requires-then-list-lt-SLOTS : goal.close-requires-then-list-lt-SLOTS
close-requires-then-list-lt-SLOTS g c =
    no_due_list _ _ _ _ c.self.invariant.0 _ _ (ap (λ w. w.filing) c.self.view_is) c.requires.none_due

pub hang-requires-clause-free : goal.hang-requires-clause-free
hang-requires-clause-free g c =
    no_due_list _ _ _ _ c.self.invariant.0 _ _ (ap (λ w. w.filing) c.self.view_is) c.requires.none_due

pub invariant_of-self-then-list-lt-SLOTS : goal.invariant_of-self-then-list-lt-SLOTS
invariant_of-self-then-list-lt-SLOTS g c =
    rw (c.close-then-list-lt-SLOTS.ensures.homes, c.close-then-list-lt-SLOTS.ensures.filed, c.close-then-list-lt-SLOTS.ensures.moves, c.close-then-list-lt-SLOTS.ensures.shut) (
      lawful_open _ _ _ _ c.self.invariant.0 _ _ (ap (λ w. w.filing) c.self.view_is) c.requires.none_due _ c.requires.not_before c.requires.in_range (omega arith)
          _ _ _ refl c.in-Some.ensures.0 c.in-Some.ensures.1 _ _ _
          (low_opened _ _ _ _ c.self.invariant.0 _ _ (ap (λ w. w.filing) c.self.view_is) c.requires.none_due _ c.requires.not_before c.requires.in_range (omega arith)
          _ _ _ refl c.in-Some.ensures.0 c.in-Some.ensures.1 c.if-list-lt-SLOTS.true),
      tt,
    )

pub returns-then-list-lt-SLOTS-clause-none_before : goal.returns-then-list-lt-SLOTS-clause-none_before
returns-then-list-lt-SLOTS-clause-none_before g c =
    rw c.close-then-list-lt-SLOTS.ensures.filed
    (none_before_open _ _ _ _ c.self.invariant.0 _ _ (ap (λ w. w.filing) c.self.view_is) c.requires.none_due _ c.requires.not_before c.requires.in_range (omega arith)
    _ _ _ refl c.in-Some.ensures.0 c.in-Some.ensures.1 _ _ _
    (low_opened _ _ _ _ c.self.invariant.0 _ _ (ap (λ w. w.filing) c.self.view_is) c.requires.none_due _ c.requires.not_before c.requires.in_range (omega arith)
    _ _ _ refl c.in-Some.ensures.0 c.in-Some.ensures.1 c.if-list-lt-SLOTS.true))

pub returns-then-list-lt-SLOTS-clause-way : goal.returns-then-list-lt-SLOTS-clause-way
returns-then-list-lt-SLOTS-clause-way g c =
    rw (c.close-then-list-lt-SLOTS.ensures.filed, c.close-then-list-lt-SLOTS.ensures.moves)
    (low_arrives _ _ _ _ c.self.invariant.0 _ _ (ap (λ w. w.filing) c.self.view_is) c.requires.none_due
    _ _ _ refl c.in-Some.ensures.0 c.in-Some.ensures.1 c.if-list-lt-SLOTS.true _ c.in-Some.ensures.2)

pub returns-then-list-lt-SLOTS-clause-onward : goal.returns-then-list-lt-SLOTS-clause-onward
returns-then-list-lt-SLOTS-clause-onward g c below =
    begins_after _ _ _ _ c.self.invariant.0 _ _ (ap (λ w. w.filing) c.self.view_is) c.requires.none_due _ c.requires.not_before c.requires.in_range (omega arith)
    _ _ _ refl c.in-Some.ensures.0 c.in-Some.ensures.1

pub returns-else-list-lt-SLOTS-clause-onward : goal.returns-else-list-lt-SLOTS-clause-onward
returns-else-list-lt-SLOTS-clause-onward g c below =
    begins_after _ _ _ _ c.self.invariant.0 _ _ (ap (λ w. w.filing) c.self.view_is) c.requires.none_due _ c.requires.not_before c.requires.in_range (omega arith)
    _ _ _ refl c.in-Some.ensures.0 c.in-Some.ensures.1

pub invariant_of-self-else-list-lt-SLOTS : goal.invariant_of-self-else-list-lt-SLOTS
invariant_of-self-else-list-lt-SLOTS g c =
    rw (c.hang.ensures.homes, c.hang.ensures.filed, c.hang.ensures.moves, c.hang.ensures.opened) (
      lawful_arrival _ _ _ _ c.self.invariant.0 _ _ (ap (λ w. w.filing) c.self.view_is) c.requires.none_due
          _ _ _ refl c.in-Some.ensures.0 c.in-Some.ensures.1 (omega (arith, c.if-list-lt-SLOTS.false)),
      unnamed_arrival _ _ _ _ c.self.invariant.0 _ _ (ap (λ w. w.filing) c.self.view_is) c.requires.none_due
          _ _ _ refl c.in-Some.ensures.0 c.in-Some.ensures.1 (omega (arith, c.if-list-lt-SLOTS.false)),
    )

pub returns-else-list-lt-SLOTS-clause-none_before : goal.returns-else-list-lt-SLOTS-clause-none_before
returns-else-list-lt-SLOTS-clause-none_before g c =
    rw c.hang.ensures.filed
    (none_before_arrival _ _ _ _ c.self.invariant.0 _ _ (ap (λ w. w.filing) c.self.view_is) c.requires.none_due
    _ _ _ refl c.in-Some.ensures.0 c.in-Some.ensures.1 (omega (arith, c.if-list-lt-SLOTS.false)))

pub returns-else-list-lt-SLOTS-clause-earlier : goal.returns-else-list-lt-SLOTS-clause-earlier
returns-else-list-lt-SLOTS-clause-earlier g c =
    rw c.hang.ensures.filed
    (comes_earlier _ _ _ _ c.self.invariant.0 _ _ (ap (λ w. w.filing) c.self.view_is) c.requires.none_due
    _ _ _ refl c.in-Some.ensures.0 c.in-Some.ensures.1)

pub returns-else-list-lt-SLOTS-clause-way : goal.returns-else-list-lt-SLOTS-clause-way
returns-else-list-lt-SLOTS-clause-way g c =
    rw (c.hang.ensures.filed, c.hang.ensures.moves)
    (hang_arrives _ _ _ _ c.self.invariant.0 _ _ (ap (λ w. w.filing) c.self.view_is) c.requires.none_due
    _ _ _ refl c.in-Some.ensures.0 c.in-Some.ensures.1 _ c.in-Some.ensures.2)

pub close-requires : goal.close-requires
close-requires g c = no_due_list _ _ _ _ c.self.invariant.0 _ _ (ap (λ w. w.filing) c.self.view_is) c.requires.none_due
