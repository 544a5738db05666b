use Rattle.std.proofs.Common.{◌<◌, Ok, subst}
use Rattle.dq_core.specs.declared.outcomes.Piece.TheVariants.{Answer}
use Rattle.dq_shards.specs.Changes.{ShardPollsSome, OnNumbered}
use Rattle.dq_shards.proofs.queue.SharedDelayQueue.poll_through.Goals as goal

pub returns-in-Ok-Answer-clause-answers : goal.returns-in-Ok-Answer-clause-answers
returns-in-Ok-Answer-clause-answers g c =
    let last = subst (λ piece. (c.args.shard < c.args.self.now) × OnNumbered {T = g.row.T.Denot} c.args.shard (λ old r new. ShardPollsSome old c.args.tick c.get.result r new) (Ok piece)) c.in-Ok-Answer.field-0-is c.in-Ok-Answer.ensures.answers in
    subst (λ steps. (c.args.shard < c.args.self.now) × OnNumbered {T = g.row.T.Denot} c.args.shard (λ old r new. ShardPollsSome old c.args.tick steps r new) (Ok (Answer c.in-Ok-Answer.turn))) c.get.ensures.value last
