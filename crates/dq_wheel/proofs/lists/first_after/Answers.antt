use Rattle.std.proofs.Common.{arith}
use Rattle.dq_wheel.proofs.Bits.{after_found, lowest_is_first}
use Rattle.dq_wheel.proofs.lists.first_after.Goals as goal

pub returns-in-Some : goal.returns-in-Some
returns-in-Some c =
    after_found c.args.bits c.args.own (omega arith) c.requires c.in-Some.ahead c.in-Some.ensures.1 c.in-Some.ensures.2

pub returns-in-None : goal.returns-in-None
returns-in-None c =
    lowest_is_first c.args.bits c.args.own (omega arith) c.requires _ c.in-None.ensures c.lowest_bit-in-None.ensures
