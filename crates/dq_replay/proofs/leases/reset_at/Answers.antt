use Rattle.dq_replay.proofs.Refused.{reset_live}
use Rattle.dq_replay.proofs.KeyCalls.{reset_changed}
use Rattle.dq_replay.proofs.leases.reset_at.Goals as goal

pub unreachable-requires : goal.unreachable-requires
unreachable-requires g c = reset_live _ _ c.args.key.now c.args.when _ c.law.ensures.shard c.requires.tick c.requires.stamps c.requires.live (rw c.entry.ensures at c.in-Err.ensures.resets)

pub returns : goal.returns
returns g c = λ name d live. reset_changed _ _ c.args.key.now _ c.args.when name d c.in-Ok.ensures.same (rw c.entry.ensures at c.in-Ok.ensures.resets) live
