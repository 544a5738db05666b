use Rattle.std.proofs.Common.{sym, ◌∙◌, rules}
use Rattle.dq_replay.proofs.Digits.{digits_stop, digits_end}
use Rattle.dq_replay.proofs.command.digits.Goals as goal

pub returns-in-None : goal.returns-in-None
returns-in-None c = sym (c.loop-byte.invariant.same ∙ digits_stop c.args.token.now c.loop-byte.value c.loop-byte.byte-index c.loop-byte-test.true c.in-None.ensures.none)

pub returns : goal.returns
returns c = sym (c.loop-byte.invariant.same ∙ digits_end c.args.token.now c.loop-byte.value c.loop-byte.byte-index (search rules) c.loop-byte.invariant.small)
