use Rattle.std.proofs.Common.{length}
use Rattle.dq_replay.proofs.Expiry.{IsExpiring}
use Rattle.dq_replay.proofs.leases.Leases.tick.Given as goal

abbrev pub invariant-loop-lease : goal.invariant-loop-lease
invariant-loop-lease g l = IsExpiring l.initial.self l.now l.due.items l.self

abbrev pub decreases-loop-lease : goal.decreases-loop-lease
decreases-loop-lease g l = length l.self.live
