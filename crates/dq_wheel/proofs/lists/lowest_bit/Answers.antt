use Rattle.std.proofs.Common.{arith}
use Rattle.std.specs.Int.Width.{w64}
use Rattle.std.proofs.lemmas.Nat.Bits.{bit_at-trailing_zeros}
use Rattle.dq_wheel.proofs.lists.lowest_bit.Goals as goal

pub returns-else-bits-eq0 : goal.returns-else-bits-eq0
returns-else-bits-eq0 c = bit_at-trailing_zeros w64 c.args.bits (omega arith) (omega arith)
