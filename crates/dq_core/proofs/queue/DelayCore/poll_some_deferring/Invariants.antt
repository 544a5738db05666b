use Rattle.std.proofs.Common.{◌≡◌, ◌+◌, ◌-◌, ◌≤◌, None}
use Rattle.dq_core.specs.Deferring.{DefersValues}
use Rattle.dq_core.specs.Words.{StillBegun}
use Rattle.dq_core.proofs.PieceSteps.{IsOnPiece}
use Rattle.dq_core.proofs.queue.DelayCore.poll_some_deferring.Given as goal

-- the tick is noted, and each step so far, of at most so many, left one step less, over the same words, where all is begun that was
abbrev pub invariant-loop-made : goal.invariant-loop-made
invariant-loop-made g l =
    (l.made ≤ l.most) × IsOnPiece g.W.Words.shared l.fn.self l.tick l.made l.self
    × (g.W.Words.origin l.self.words ≡ g.W.Words.origin l.fn.self.words)
    × StillBegun g.W.Words.begun l.fn.self.words l.self.words
    × (g.W.Words.steps l.self.words ≤ g.W.Words.steps l.fn.self.words + l.made)
    × DefersValues l.fn.self None l.self

-- each turn makes a step at least
abbrev pub decreases-loop-made : goal.decreases-loop-made
decreases-loop-made g l = l.most - l.made
