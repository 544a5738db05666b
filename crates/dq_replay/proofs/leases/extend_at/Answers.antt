use Rattle.dq_replay.proofs.KeyRefused.{extend_live}
use Rattle.dq_replay.proofs.KeyCalls.{extend_changed}
use Rattle.dq_replay.proofs.leases.extend_at.Goals as goal

pub unreachable-requires : goal.unreachable-requires
unreachable-requires g c = extend_live c.args.queue.now c.args.key.now c.args.when _ c.law.ensures.shard c.requires.tick c.requires.live c.in-Err.ensures.extends.0

pub returns : goal.returns
returns g c = λ name d live. let e = c.in-Ok.ensures.extends in extend_changed _ _ c.args.key.now c.args.when _ name d c.law.ensures.shard c.in-Ok.ensures.same e.deadline e.step live
