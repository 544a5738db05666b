use Rattle.std.proofs.Common.{ap, arith, refl}
use Rattle.dq_wheel.proofs.Arriving.{no_due_list}
use Rattle.dq_wheel.proofs.Going.{begins_after, lawful_at_limit, lawful_open, low_opened, low_reaches, may_open, none_before_limit, none_before_open, open_reaches, reaches_limit, starts_past}
use Rattle.dq_wheel.proofs.wheel.Wheel.advance_reading.Goals as goal

pub invariant_of-self : goal.invariant_of-self
invariant_of-self g c =
    rw (c.close.ensures.homes, c.close.ensures.filed, c.close.ensures.moves, c.close.ensures.shut) (
      lawful_at_limit _ _ _ _ c.self.invariant.0 _ _ (ap (λ w. w.filing) c.self.view_is) c.requires.none_due _ c.requires.not_before c.requires.in_range (omega arith)
          (starts_past _ _ _ _ c.self.invariant.0 _ _ (ap (λ w. w.filing) c.self.view_is) c.requires.none_due _ c.requires.not_before c.requires.in_range (omega arith) c.in_default.ensures),
      tt,
    )

pub returns-in_default-clause-way : goal.returns-in_default-clause-way
returns-in_default-clause-way g c =
    rw (c.close.ensures.filed, c.close.ensures.moves)
    (reaches_limit _ _ _ _ c.self.invariant.0 _ _ (ap (λ w. w.filing) c.self.view_is) c.requires.none_due _ c.requires.not_before c.requires.in_range (omega arith)
    (starts_past _ _ _ _ c.self.invariant.0 _ _ (ap (λ w. w.filing) c.self.view_is) c.requires.none_due _ c.requires.not_before c.requires.in_range (omega arith) c.in_default.ensures))

pub returns-in_default-clause-none_before : goal.returns-in_default-clause-none_before
returns-in_default-clause-none_before g c =
    rw c.close.ensures.filed
    (none_before_limit _ _ _ _ c.self.invariant.0 _ _ (ap (λ w. w.filing) c.self.view_is) c.requires.none_due _ c.requires.not_before c.requires.in_range (omega arith)
    (starts_past _ _ _ _ c.self.invariant.0 _ _ (ap (λ w. w.filing) c.self.view_is) c.requires.none_due _ c.requires.not_before c.requires.in_range (omega arith) c.in_default.ensures))

pub invariant_of-self-then-list-lt-SLOTS : goal.invariant_of-self-then-list-lt-SLOTS
invariant_of-self-then-list-lt-SLOTS g c =
    rw (c.close-then-list-lt-SLOTS.ensures.homes, c.close-then-list-lt-SLOTS.ensures.filed, c.close-then-list-lt-SLOTS.ensures.moves, c.close-then-list-lt-SLOTS.ensures.shut) (
      lawful_open _ _ _ _ c.self.invariant.0 _ _ (ap (λ w. w.filing) c.self.view_is) c.requires.none_due _ c.requires.not_before c.requires.in_range (omega arith)
          _ _ _ refl c.in-Some.ensures.0 c.in-Some.ensures.1 _ _ _
          (low_opened _ _ _ _ c.self.invariant.0 _ _ (ap (λ w. w.filing) c.self.view_is) c.requires.none_due _ c.requires.not_before c.requires.in_range (omega arith)
          _ _ _ refl c.in-Some.ensures.0 c.in-Some.ensures.1 c.if-list-lt-SLOTS.true),
      tt,
    )

pub returns-then-list-lt-SLOTS-clause-way : goal.returns-then-list-lt-SLOTS-clause-way
returns-then-list-lt-SLOTS-clause-way g c =
    rw (c.close-then-list-lt-SLOTS.ensures.filed, c.close-then-list-lt-SLOTS.ensures.moves)
    (low_reaches _ _ _ _ c.self.invariant.0 _ _ (ap (λ w. w.filing) c.self.view_is) c.requires.none_due _ c.requires.not_before c.requires.in_range (omega arith)
    _ _ _ refl c.in-Some.ensures.0 c.in-Some.ensures.1 c.if-list-lt-SLOTS.true c.in-Some.ensures.2)

pub returns-then-list-lt-SLOTS-clause-none_before : goal.returns-then-list-lt-SLOTS-clause-none_before
returns-then-list-lt-SLOTS-clause-none_before g c =
    rw c.close-then-list-lt-SLOTS.ensures.filed
    (none_before_open _ _ _ _ c.self.invariant.0 _ _ (ap (λ w. w.filing) c.self.view_is) c.requires.none_due _ c.requires.not_before c.requires.in_range (omega arith)
    _ _ _ refl c.in-Some.ensures.0 c.in-Some.ensures.1 _ _ _
    (low_opened _ _ _ _ c.self.invariant.0 _ _ (ap (λ w. w.filing) c.self.view_is) c.requires.none_due _ c.requires.not_before c.requires.in_range (omega arith)
    _ _ _ refl c.in-Some.ensures.0 c.in-Some.ensures.1 c.if-list-lt-SLOTS.true))

pub returns-then-list-lt-SLOTS-clause-onward : goal.returns-then-list-lt-SLOTS-clause-onward
returns-then-list-lt-SLOTS-clause-onward g c below =
    begins_after _ _ _ _ c.self.invariant.0 _ _ (ap (λ w. w.filing) c.self.view_is) c.requires.none_due _ c.requires.not_before c.requires.in_range (omega arith)
    _ _ _ refl c.in-Some.ensures.0 c.in-Some.ensures.1

pub open-made-requires-clause-can_go : goal.open-made-requires-clause-can_go
open-made-requires-clause-can_go g c =
    rw c.once_read-tick.ensures (may_open _ _ _ _ c.self.invariant.0 _ _ (ap (λ w. w.filing) c.self.view_is) c.requires.none_due _ c.requires.not_before c.requires.in_range (omega arith)
    _ _ _ refl c.in-Some.ensures.0 c.in-Some.ensures.1 (omega (arith, c.if-list-lt-SLOTS.false)))

pub invariant_of-self-2 : goal.invariant_of-self-2
invariant_of-self-2 g c =
    rw (c.open-made.ensures.filed, c.open-made.ensures.shut) (
      (lawful_open _ _ _ _ c.self.invariant.0 _ _ (ap (λ w. w.filing) c.self.view_is) c.requires.none_due _ c.requires.not_before c.requires.in_range (omega arith)
          _ _ _ refl c.in-Some.ensures.0 c.in-Some.ensures.1 _ _ _ (rw c.once_read-tick.ensures at c.open-made.ensures.opened)),
      tt,
    )

pub returns-clause-way : goal.returns-clause-way
returns-clause-way g c =
    rw (c.open-made.ensures.filed, c.saturating_add-self-inside.ensures)
    (open_reaches _ _ _ _ c.self.invariant.0 _ _ (ap (λ w. w.filing) c.self.view_is) c.requires.none_due _ c.requires.not_before c.requires.in_range (omega arith)
    _ _ _ refl c.in-Some.ensures.0 c.in-Some.ensures.1 _ _ _ (rw c.once_read-tick.ensures at c.open-made.ensures.opened) c.in-Some.ensures.2)

pub returns-clause-none_before : goal.returns-clause-none_before
returns-clause-none_before g c =
    rw c.open-made.ensures.filed
    (none_before_open _ _ _ _ c.self.invariant.0 _ _ (ap (λ w. w.filing) c.self.view_is) c.requires.none_due _ c.requires.not_before c.requires.in_range (omega arith)
    _ _ _ refl c.in-Some.ensures.0 c.in-Some.ensures.1 _ _ _ (rw c.once_read-tick.ensures at c.open-made.ensures.opened))

pub returns-clause-onward : goal.returns-clause-onward
returns-clause-onward g c below =
    begins_after _ _ _ _ c.self.invariant.0 _ _ (ap (λ w. w.filing) c.self.view_is) c.requires.none_due _ c.requires.not_before c.requires.in_range (omega arith)
    _ _ _ refl c.in-Some.ensures.0 c.in-Some.ensures.1

pub close-requires-then-list-lt-SLOTS : goal.close-requires-then-list-lt-SLOTS
close-requires-then-list-lt-SLOTS g c = no_due_list _ _ _ _ c.self.invariant.0 _ _ (ap (λ w. w.filing) c.self.view_is) c.requires.none_due

pub open-made-requires-clause-free : goal.open-made-requires-clause-free
open-made-requires-clause-free g c = no_due_list _ _ _ _ c.self.invariant.0 _ _ (ap (λ w. w.filing) c.self.view_is) c.requires.none_due

pub close-requires : goal.close-requires
close-requires g c = no_due_list _ _ _ _ c.self.invariant.0 _ _ (ap (λ w. w.filing) c.self.view_is) c.requires.none_due
