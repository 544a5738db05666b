use Rattle.dq_wheel.proofs.Numbers.{start_lowest}
use Rattle.dq_wheel.proofs.lists.start_of.Goals as goal

pub returns-then-list-lt-SLOTS : goal.returns-then-list-lt-SLOTS
returns-then-list-lt-SLOTS c = start_lowest _ _ c.if-list-lt-SLOTS.true
