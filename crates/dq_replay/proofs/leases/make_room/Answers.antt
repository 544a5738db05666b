use Rattle.dq_replay.proofs.Roomy.{swept_roomy}
use Rattle.dq_replay.proofs.leases.make_room.Goals as goal

pub returns-then-len-capacity : goal.returns-then-len-capacity
returns-then-len-capacity g c = swept_roomy _ _ c.sweep.result c.law-then-len-capacity.ensures.shard c.sweep.ensures.same c.sweep.ensures.sweeps c.requires.few
