use Rattle.dq_wheel.proofs.Shown.{home_told, home_few}
use Rattle.dq_wheel.proofs.lists.Lists.home.Goals as goal

pub returns-then-is_open-clause-value : goal.returns-then-is_open-clause-value
returns-then-is_open-clause-value g c =
    home_told _ _ _ _ c.self.invariant.0 _ _ c.self.view_is _ _ _ c.requires
    (rw c.deref.ensures.value at c.row_at-home.ensures.home) (rw c.if-is_open.true at c.is_open.ensures.home)

pub returns-else-is_open-clause-value : goal.returns-else-is_open-clause-value
returns-else-is_open-clause-value g c =
    home_told _ _ _ _ c.self.invariant.0 _ _ c.self.view_is _ _ _ c.requires
    (rw c.deref.ensures.value at c.row_at-home.ensures.home) (rw c.if-is_open.false at c.is_open.ensures.home)

pub returns-else-is_open-clause-small : goal.returns-else-is_open-clause-small
returns-else-is_open-clause-small g c =
    home_few _ _ _ _ c.self.invariant.0 _ _ c.self.view_is _ _ _ c.requires
    (rw c.deref.ensures.value at c.row_at-home.ensures.home) (rw c.if-is_open.false at c.is_open.ensures.home)
