use Rattle.dq_replay.proofs.Refused.{insert_room}
use Rattle.dq_replay.proofs.KeyCalls.{inserted_new}
use Rattle.dq_replay.proofs.leases.link.Goals as goal

pub unreachable-requires : goal.unreachable-requires
unreachable-requires g c = insert_room c.args.queue.now c.args.when _ c.law.ensures.shard c.requires.tick c.requires.room c.requires.stamps c.in-Err.ensures.inserts.0

pub returns : goal.returns
returns g c = inserted_new _ _ c.args.name c.args.when c.in-Ok.key c.in-Ok.ensures.same c.in-Ok.ensures.inserts
