use Rattle.std.proofs.Common.{◌≡◌}
use Rattle.dq_growing.proofs.Sizes.{linked_below}
use Rattle.dq_growing.proofs.sizing.linked.Given as goal

abbrev pub invariant-loop-at : goal.invariant-loop-at
invariant-loop-at g l = l.linked ≡ linked_below l.cores l.at
