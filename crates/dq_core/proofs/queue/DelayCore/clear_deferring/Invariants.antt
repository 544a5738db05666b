use Rattle.std.proofs.Common.{◌≡◌, None, length}
use Rattle.dq_core.specs.Deferring.{DefersValues}
use Rattle.dq_core.proofs.Clearing.{IsOnClear}
use Rattle.dq_core.specs.Words.{StillBegun}
use Rattle.dq_core.proofs.queue.DelayCore.clear_deferring.Given as goal

abbrev pub invariant-loop-index : goal.invariant-loop-index
invariant-loop-index g l = (l.index-end ≡ length l.fn.self.slots.rows) × IsOnClear g.W.Words.shared l.fn.self l.index l.removed l.self × (g.W.Words.origin l.self.words ≡ g.W.Words.origin l.fn.self.words) × StillBegun g.W.Words.begun l.fn.self.words l.self.words × DefersValues l.fn.self None l.self
