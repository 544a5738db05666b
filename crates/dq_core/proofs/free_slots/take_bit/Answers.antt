use Rattle.std.proofs.Common.{get_or, arith}
use Rattle.std.specs.Int.Width.{w64}
use Rattle.std.proofs.lemmas.Nat.Bits.{bit_at-trailing_zeros}
use Rattle.dq_core.proofs.FreeBits.{was_one, is_zero, others_stay, taken_summed, emptied_summed}
use Rattle.dq_core.proofs.free_slots.take_bit.Goals as goal
use Rattle.dq_core.proofs.free_slots.take_bit.Goals.{then-left-eq0, else-left-eq0}

pub returns-clause-was_set : goal.returns-clause-was_set
returns-clause-was_set c =
    let b = bit_at-trailing_zeros w64 (get_or c.args.bits.now c.args.word 0) (omega arith) (omega arith) in
    was_one c.args.bits.now c.args.word _ b.0 b.1

pub returns-clause-cleared : goal.returns-clause-cleared
returns-clause-cleared c =
    let b = bit_at-trailing_zeros w64 (get_or c.args.bits.now c.args.word 0) (omega arith) (omega arith) in
    is_zero c.args.bits.now c.args.word _ b.0 (omega arith)

pub returns-clause-others : goal.returns-clause-others
returns-clause-others c =
    let b = bit_at-trailing_zeros w64 (get_or c.args.bits.now c.args.word 0) (omega arith) (omega arith) in
    others_stay c.args.bits.now c.args.word _ b.0 (omega arith)

pub returns-clause-summed : goal.returns-clause-summed
returns-clause-summed c =
    elim c.if-left-eq0.branch [
      | then-left-eq0 w ↦ rw w.summary-is (emptied_summed c.args.bits.now c.args.summary.now c.args.word _ (omega arith) (omega arith) w.if-left-eq0.true c.requires.summed)
      | else-left-eq0 w ↦ rw w.summary-is (taken_summed c.args.bits.now c.args.summary.now c.args.word _ (omega arith) c.requires.filled (omega arith) c.requires.summed)
    ]
