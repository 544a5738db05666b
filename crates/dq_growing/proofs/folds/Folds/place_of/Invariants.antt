use Rattle.std.proofs.Common.{ℕ, ◌<◌}
use Rattle.dq_growing.specs.Sizing.{IsFoldedAt}
use Rattle.dq_growing.proofs.folds.Folds.place_of.Given as goal

abbrev pub invariant-loop-at : goal.invariant-loop-at
invariant-loop-at g l = (i : ℕ) (f : _) → i < l.at → ¬ IsFoldedAt l.self i l.capacity f
