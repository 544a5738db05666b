use Rattle.dq_replay.proofs.KeyRefused.{cancel_live}
use Rattle.dq_replay.proofs.KeyCalls.{cancel_changed}
use Rattle.dq_replay.proofs.leases.cancel_at.Goals as goal

pub unreachable-requires : goal.unreachable-requires
unreachable-requires g c = cancel_live c.args.queue.now c.args.key.now _ c.law.ensures.shard c.requires c.in-Err.ensures.cancels.0

pub returns : goal.returns
returns g c = λ name d live. let e = c.in-Ok.ensures.cancels in cancel_changed _ _ c.args.key.now _ name d c.law.ensures.shard c.in-Ok.ensures.same e.deadline e.step live
