use Rattle.std.proofs.Common.{◌≡◌, length}
use Rattle.dq_c.specs.Many.{ComeOut, KeepsFrom}
use Rattle.dq_c.specs.Owner.{SameQueue}
use Rattle.dq_c.proofs.many.fill.Given as goal

abbrev pub invariant-loop-taken : goal.invariant-loop-taken
invariant-loop-taken l =
    (length l.outs ≡ length l.fn.outs) × (l.taken-end ≡ length l.fn.outs) × SameQueue l.fn.core l.core
    × ComeOut l.fn.core l.fn.tick l.taken l.outs l.core × KeepsFrom l.taken l.fn.outs l.outs
