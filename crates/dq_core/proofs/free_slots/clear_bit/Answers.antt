use Rattle.std.proofs.Common.{get_or, ◌/◌, ◌%◌, arith}
use Rattle.dq_wheel.proofs.Bits.{bit_is_cleared, bit_stays_cleared}
use Rattle.dq_core.proofs.FreeBits.{bit_in_word, taken_summed, emptied_summed}
use Rattle.dq_core.proofs.free_slots.clear_bit.Goals as goal

pub returns-then-left-eq0-clause-others : goal.returns-then-left-eq0-clause-others
returns-then-left-eq0-clause-others c i d = bit_stays_cleared c.args.bits.now c.args.index i (omega arith) d

pub returns-then-left-eq0-clause-summed : goal.returns-then-left-eq0-clause-summed
returns-then-left-eq0-clause-summed c = emptied_summed c.args.bits.now c.args.summary.now (c.args.index / 64) _ (omega arith) (omega arith) c.if-left-eq0.true c.requires.summed

pub returns-else-left-eq0-clause-cleared : goal.returns-else-left-eq0-clause-cleared
returns-else-left-eq0-clause-cleared c = bit_is_cleared c.args.bits.now c.args.index (omega arith)

pub returns-else-left-eq0-clause-others : goal.returns-else-left-eq0-clause-others
returns-else-left-eq0-clause-others c i d = bit_stays_cleared c.args.bits.now c.args.index i (omega arith) d

pub returns-else-left-eq0-clause-summed : goal.returns-else-left-eq0-clause-summed
returns-else-left-eq0-clause-summed c =
    taken_summed c.args.bits.now c.args.summary.now (c.args.index / 64) _ (omega arith) (bit_in_word (get_or c.args.bits.now (c.args.index / 64) 0) (c.args.index % 64) c.requires.set) (omega arith) c.requires.summed
