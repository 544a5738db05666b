use Rattle.dq_replay.proofs.Refused.{find_live}
use Rattle.dq_replay.proofs.KeyCalls.{deadline_told}
use Rattle.dq_replay.proofs.leases.deadline_at.Goals as goal

pub unreachable-requires : goal.unreachable-requires
unreachable-requires g c = find_live _ _ c.args.key.now _ c.requires (rw c.entry.ensures at c.in-Err.ensures.tells)

pub returns : goal.returns
returns g c = λ name d live. deadline_told _ _ c.args.key.now _ name d c.in-Ok.ensures.same (rw c.entry.ensures at c.in-Ok.ensures.tells) live
