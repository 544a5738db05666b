use Rattle.std.proofs.Common.{◌∙◌, ap, arith, refl, take}
use Rattle.std.proofs.lemmas.List.{with_items_is}
use Rattle.dq_wheel.proofs.Shown.{moves_now, open_circles, open_filed, open_homes, plain_filed, plain_homes, seen_circles}
use Rattle.dq_wheel.proofs.lists.Lists.open.Goals as goal

pub scatter-requires-clause-circles : goal.scatter-requires-clause-circles
scatter-requires-clause-circles g c = rw c.deref_mut.ensures.value (open_circles _ _ _ _ c.self.invariant.0 _ _ c.self.view_is c.requires.free)

pub scatter-requires-clause-occupied : goal.scatter-requires-clause-occupied
scatter-requires-clause-occupied g c =
    rw (c.deref_mut.ensures.value, open_homes _ _ _ _ c.self.invariant.0 _ _ c.self.view_is c.requires.free) (rw (ap (λ w. w.homes) c.self.view_is) at c.self.invariant.1)

pub scatter-requires-clause-can_go : goal.scatter-requires-clause-can_go
scatter-requires-clause-can_go g c =
    rw (
      c.deref_mut.ensures.value,
      open_homes _ _ _ _ c.self.invariant.0 _ _ c.self.view_is c.requires.free,
      open_filed _ _ _ _ c.self.invariant.0 _ _ c.self.view_is c.requires.free,
      moves_now _ _ _ _ c.self.invariant.0 _ _ c.self.view_is,
    ) c.requires.can_go

pub invariant_of-self : goal.invariant_of-self
invariant_of-self g c =
    rw (with_items_is c.self.inside.rows c.scatter.new.rows (omega arith)) (
      seen_circles _ _ _ refl c.scatter.ensures.circles,
      rw (plain_homes c.self.inside.capacity _ c.scatter.new.rows refl) c.scatter.ensures.occupied,
    )

pub returns-clause-opened : goal.returns-clause-opened
returns-clause-opened g c =
    rw (with_items_is c.self.inside.rows c.scatter.new.rows (omega arith), plain_homes c.self.inside.capacity _ c.scatter.new.rows refl)
    (rw (
      c.deref_mut.ensures.value,
      open_homes _ _ _ _ c.self.invariant.0 _ _ c.self.view_is c.requires.free,
      open_filed _ _ _ _ c.self.invariant.0 _ _ c.self.view_is c.requires.free,
      moves_now _ _ _ _ c.self.invariant.0 _ _ c.self.view_is,
    )
    at c.scatter.ensures.opened)

pub returns-clause-filed : goal.returns-clause-filed
returns-clause-filed g c =
    rw (with_items_is c.self.inside.rows c.scatter.new.rows (omega arith))
    (plain_filed c.self.inside.capacity _ c.scatter.new.rows refl c.self.inside.since
    ∙ (ap (take c.self.inside.capacity) (rw c.deref_mut.ensures.value at c.scatter.ensures.filed)
    ∙ open_filed _ _ _ _ c.self.invariant.0 _ _ c.self.view_is c.requires.free))
