use Rattle.std.proofs.Common.{ap}
use Rattle.dq_wheel.proofs.Shown.{after_seen}
use Rattle.dq_wheel.proofs.lists.Lists.after.Goals as goal

pub returns-then-after-self : goal.returns-then-after-self
returns-then-after-self g c =
    after_seen _ _ _ c.self.invariant.0 _ _ _ (ap (λ w. w.homes) c.self.view_is) c.requires.index_in c.requires.linked
    (rw c.deref.ensures.value at c.row_at-after.ensures.next) c.if-after-self.true
