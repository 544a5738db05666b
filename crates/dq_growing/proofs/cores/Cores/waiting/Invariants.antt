use Rattle.std.proofs.Common.{◌≡◌, ℕ, ◌<◌}
use Rattle.dq_core.specs.Deferring.{waiting_in}
use Rattle.dq_growing.specs.Cores.{IsCoreAt}
use Rattle.dq_growing.proofs.cores.Cores.waiting.Given as goal

abbrev pub invariant-loop-at : goal.invariant-loop-at
invariant-loop-at g l = (i : ℕ) (c : _) → i < l.at → IsCoreAt l.self.cores i c → waiting_in c.deferred ≡ 0
