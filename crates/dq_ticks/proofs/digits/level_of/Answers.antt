use Rattle.std.proofs.Common.{arith}
use Rattle.dq_ticks.proofs.Bits.{level_by_bit}
use Rattle.dq_ticks.proofs.digits.level_of.Goals as goal

pub returns : goal.returns
returns c =
    level_by_bit c.args.now c.args.when c.ilog2.result c.min.result (omega arith) (omega arith)
    c.ilog2.ensures.power_le
    c.ilog2.ensures.next_power_gt
    (omega arith)
