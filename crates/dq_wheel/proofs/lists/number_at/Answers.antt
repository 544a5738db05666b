use Rattle.dq_wheel.proofs.Shown.{number_shown}
use Rattle.dq_wheel.proofs.lists.number_at.Goals as goal

pub returns-then-is_open : goal.returns-then-is_open
returns-then-is_open c =
    number_shown _ _ _ _ _ _ _ c.requires c.row_at-row.ensures.home c.row_at-row.ensures.filed
    (rw c.if-is_open.true at (c.is_open.ensures.number c.args.since c.row_at-row.result.filed))

pub returns-else-is_open : goal.returns-else-is_open
returns-else-is_open c =
    number_shown _ _ _ _ _ _ _ c.requires c.row_at-row.ensures.home c.row_at-row.ensures.filed
    (rw c.if-is_open.false at (c.is_open.ensures.number c.args.since c.row_at-row.result.filed))
