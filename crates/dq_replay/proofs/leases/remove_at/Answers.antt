use Rattle.dq_replay.proofs.Refused.{find_live}
use Rattle.dq_replay.proofs.KeyCalls.{remove_changed}
use Rattle.dq_replay.proofs.leases.remove_at.Goals as goal

pub unreachable-requires : goal.unreachable-requires
unreachable-requires g c = find_live _ _ c.args.key.now _ c.requires (rw c.entry.ensures at c.in-Err.ensures.removes)

pub returns : goal.returns
returns g c = λ name d live. remove_changed _ _ c.args.key.now c.in-Ok.removed name d c.in-Ok.ensures.same (rw c.entry.ensures at c.in-Ok.ensures.removes) live
