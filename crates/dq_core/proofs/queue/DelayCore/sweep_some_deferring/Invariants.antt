use Rattle.std.proofs.Common.{◌≡◌, ◌+◌, ◌≤◌, None}
use Rattle.dq_core.specs.Deferring.{DefersValues}
use Rattle.dq_core.specs.Words.{StillBegun}
use Rattle.dq_core.proofs.Leaving.{IsSweeping}
use Rattle.dq_core.proofs.queue.DelayCore.sweep_some_deferring.Given as goal

abbrev pub invariant-loop-index : goal.invariant-loop-index
invariant-loop-index g l =
    (l.index ≤ l.end) × IsSweeping g.W.Words.shared l.fn.self l.first l.index l.reaped l.self
    × (g.W.Words.origin l.self.words ≡ g.W.Words.origin l.fn.self.words)
    × StillBegun g.W.Words.begun l.fn.self.words l.self.words
    × (g.W.Words.steps l.self.words + l.first ≤ g.W.Words.steps l.fn.self.words + l.index)
    × DefersValues l.fn.self None l.self
