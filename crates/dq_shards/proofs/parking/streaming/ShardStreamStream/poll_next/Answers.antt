use Rattle.std.proofs.Common.{◌≡◌, Bool, true, false}
use Rattle.dq_shards.proofs.parking.streaming.ShardStreamStream.poll_next.Goals as goal

true_false : (b : Bool) → b ≡ true → b ≡ false → ⊥
true_false b is not = cc

pub returns-clause-registered : goal.returns-clause-registered
returns-clause-registered g c = c.poll_place-answer.ensures.registered

pub returns-clause-over : goal.returns-clause-over
returns-clause-over g c = λ ended. absurd (true_false c.args.self.now.ended ended c.if-self.false)

pub returns-clause-kept : goal.returns-clause-kept
returns-clause-kept g c = c.poll_place-answer.ensures.kept

pub returns-then-self-clause-polls : goal.returns-then-self-clause-polls
returns-then-self-clause-polls g c = λ going. absurd (true_false c.args.self.now.ended c.if-self.true going)
