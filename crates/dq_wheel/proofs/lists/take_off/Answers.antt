use Rattle.dq_wheel.proofs.Taken.{circles_taken}
use Rattle.dq_wheel.proofs.lists.take_off.Goals as goal

pub returns-clause-taken : goal.returns-clause-taken
returns-clause-taken c =
    rw (c.set_prev.ensures.next, c.set_next.ensures.next, c.set_prev.ensures.prev, c.set_next.ensures.prev, c.set_prev.ensures.home, c.set_next.ensures.home, c.row_at-first.ensures.next)
    (circles_taken _ _ _ _ _ c.requires.circles c.requires.list_in)
