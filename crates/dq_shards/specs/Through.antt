-- A poll in pieces, each under a lock of its own, to its answer.
use Rattle.std.specs.Prelude.{ℕ, Result, Ok, Err}
use Rattle.dq_core.specs.declared.errors.CoreError.{CoreError}
use Rattle.dq_core.specs.declared.outcomes.Piece.TheVariants.{Answer}
use Rattle.dq_core.specs.declared.outcomes.Turn.{Turn}
use Rattle.dq_shards.specs.Shard.{ShardView}
use Rattle.dq_shards.specs.Changes.{ShardPollsSome}

module _ {T : Type 0} where
  -- what the last piece does: it comes to the answer, or its tick is refused
  abbrev pub AnswersThrough :
      ShardView T → ℕ → ℕ → Result (Turn T) CoreError → ShardView T → Type 0
  AnswersThrough old tick most (Ok turn) new = ShardPollsSome old tick most (Ok (Answer turn)) new
  AnswersThrough old tick most (Err e) new = ShardPollsSome old tick most (Err e) new
