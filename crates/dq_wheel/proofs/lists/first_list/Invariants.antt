use Rattle.std.proofs.Common.{◌≢◌, ℕ, ◌*◌, ◌<◌}
use Rattle.dq_wheel.specs.Walks.{bit_of}
use Rattle.dq_wheel.proofs.lists.first_list.Given as goal

abbrev pub invariant-loop-level : goal.invariant-loop-level
invariant-loop-level l = (p : ℕ) → p < 64 * l.level → bit_of l.maps p ≢ 1
