use Rattle.std.proofs.Common.{arith}
use Rattle.dq_wheel.proofs.Bits.{bit_is_cleared, bit_stays_cleared}
use Rattle.dq_wheel.proofs.lists.clear_bit.Goals as goal

pub returns-clause-cleared : goal.returns-clause-cleared
returns-clause-cleared c = bit_is_cleared c.args.maps.now c.args.list (omega arith)

pub returns-clause-others : goal.returns-clause-others
returns-clause-others c p d = bit_stays_cleared c.args.maps.now c.args.list p (omega arith) d
