use Rattle.std.proofs.Common.{get_or, arith}
use Rattle.std.specs.Int.Width.{w64}
use Rattle.std.proofs.lemmas.Nat.Bits.{bit_at-trailing_zeros}
use Rattle.dq_core.proofs.FreeBits.{was_one}
use Rattle.dq_core.proofs.free_slots.lowest_bit.Goals as goal

pub returns : goal.returns
returns c =
    let b = bit_at-trailing_zeros w64 (get_or c.args.bits.now c.args.word 0) (omega arith) (omega arith) in
    was_one c.args.bits.now c.args.word _ b.0 b.1
