use Rattle.std.proofs.Common.{◌≡◌, ◌+◌, ◌-◌, ◌≤◌, None}
use Rattle.dq_core.specs.Deferring.{DefersValues}
use Rattle.dq_core.specs.Words.{StillBegun}
use Rattle.dq_core.specs.Pieces.{IfDue}
use Rattle.dq_core.proofs.PieceSteps.{IsOnLooks}
use Rattle.dq_core.proofs.queue.DelayCore.settle_more.Given as goal

-- each look so far, of at most so many, settled its index, over the same words; and the next one is due
abbrev pub invariant-loop-made : goal.invariant-loop-made
invariant-loop-made g l =
    (l.made ≤ l.most) × IsOnLooks g.W.Words.shared l.fn.self l.made l.self
    × (g.W.Words.origin l.self.words ≡ g.W.Words.origin l.fn.self.words)
    × StillBegun g.W.Words.begun l.fn.self.words l.self.words
    × (g.W.Words.steps l.self.words ≤ g.W.Words.steps l.fn.self.words + l.made)
    × IfDue l.self.wheel.filing l.next
    × DefersValues l.fn.self None l.self

-- each turn makes a look
abbrev pub decreases-loop-made : goal.decreases-loop-made
decreases-loop-made g l = l.most - l.made
