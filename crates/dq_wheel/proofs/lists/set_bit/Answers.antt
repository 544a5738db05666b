use Rattle.std.proofs.Common.{arith}
use Rattle.dq_wheel.proofs.Bits.{bit_is_set, bit_stays_set}
use Rattle.dq_wheel.proofs.lists.set_bit.Goals as goal

pub returns-clause-set : goal.returns-clause-set
returns-clause-set c = bit_is_set c.args.maps.now c.args.list (omega arith)

pub returns-clause-others : goal.returns-clause-others
returns-clause-others c p d = bit_stays_set c.args.maps.now c.args.list p (omega arith) d
