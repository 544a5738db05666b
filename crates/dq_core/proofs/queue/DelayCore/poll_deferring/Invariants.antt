use Rattle.std.proofs.Common.{◌≡◌, None}
use Rattle.dq_core.specs.Deferring.{DefersValues}
use Rattle.dq_core.specs.Calls.{work}
use Rattle.dq_core.specs.Words.{StillBegun}
use Rattle.dq_core.proofs.Steps.{IsOnWay}
use Rattle.dq_core.proofs.queue.DelayCore.poll_deferring.Given as goal

-- the tick is noted, and the poll is on its way over the same words, where all is begun that was
abbrev pub invariant-steps : goal.invariant-steps
invariant-steps g l =
    IsOnWay g.W.Words.shared l.fn.self l.tick l.self
    × (g.W.Words.origin l.self.words ≡ g.W.Words.origin l.fn.self.words)
    × StillBegun g.W.Words.begun l.fn.self.words l.self.words
    × DefersValues l.fn.self None l.self

abbrev pub decreases-steps : goal.decreases-steps
decreases-steps g l = work l.self
