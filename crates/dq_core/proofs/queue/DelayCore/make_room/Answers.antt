use Rattle.dq_core.proofs.Dropped.{makes_room}
use Rattle.dq_core.proofs.queue.DelayCore.make_room.Goals as goal

pub returns-then-needs_drop-clause-room : goal.returns-then-needs_drop-clause-room
returns-then-needs_drop-clause-room g c = makes_room _ _ _ _ c.take_displaced.ensures.takes
