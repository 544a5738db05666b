use Rattle.std.proofs.Common.{◌≡◌}
use Rattle.dq_growing.proofs.Sizes.{slots_below}
use Rattle.dq_growing.proofs.sizing.slots.Given as goal

abbrev pub invariant-loop-at : goal.invariant-loop-at
invariant-loop-at g l = l.slots ≡ slots_below l.cores l.at
