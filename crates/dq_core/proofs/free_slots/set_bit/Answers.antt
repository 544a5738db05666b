use Rattle.std.proofs.Common.{arith}
use Rattle.dq_wheel.proofs.Bits.{bit_is_set, bit_stays_set}
use Rattle.dq_core.proofs.FreeBits.{set_summed, added_summed}
use Rattle.dq_core.proofs.free_slots.set_bit.Goals as goal

pub returns-then-held-eq0-clause-set : goal.returns-then-held-eq0-clause-set
returns-then-held-eq0-clause-set c = bit_is_set c.args.bits.now c.args.index (omega arith)

pub returns-then-held-eq0-clause-others : goal.returns-then-held-eq0-clause-others
returns-then-held-eq0-clause-others c i d = bit_stays_set c.args.bits.now c.args.index i (omega arith) d

pub returns-then-held-eq0-clause-summed : goal.returns-then-held-eq0-clause-summed
returns-then-held-eq0-clause-summed c = set_summed c.args.bits.now c.args.summary.now c.args.index (omega arith) (omega arith) c.requires.summed

pub returns-else-held-eq0-clause-set : goal.returns-else-held-eq0-clause-set
returns-else-held-eq0-clause-set c = bit_is_set c.args.bits.now c.args.index (omega arith)

pub returns-else-held-eq0-clause-others : goal.returns-else-held-eq0-clause-others
returns-else-held-eq0-clause-others c i d = bit_stays_set c.args.bits.now c.args.index i (omega arith) d

pub returns-else-held-eq0-clause-summed : goal.returns-else-held-eq0-clause-summed
returns-else-held-eq0-clause-summed c = added_summed c.args.bits.now c.args.summary.now c.args.index (omega arith) (omega arith) c.requires.summed
