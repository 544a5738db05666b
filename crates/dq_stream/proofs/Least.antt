-- What is given is least and in force.
use Rattle.std.proofs.Common.{ℕ, ◌∙◌, Option, Some, None, Ok}
use Rattle.dq_core.specs.declared.outcomes.Expired.{Expired}
use Rattle.dq_core.specs.declared.outcomes.Piece.TheVariants.{Answer as Answered}
use Rattle.dq_core.specs.declared.outcomes.Turn.TheVariants.{Out}
use Rattle.dq_shards.specs.Streaming.{PollsBy}
use Rattle.dq_shards.specs.Shard.{ShardView, IsShard}
use Rattle.dq_shards.specs.Changes.{Changes}
use Rattle.dq_shards.specs.Endings.{OutsAreInForce, PieceOutsAreInForce, IsOutInForce}
use Rattle.dq_stream.specs.Endings.{ItemsAreInForce}
use Rattle.dq_shards.proofs.Streamed.{least_due}

module _ (T : Type 0) (outs : OutsAreInForce T) (pieces : PieceOutsAreInForce T) where
  in_force : (most : Option ℕ) (old new : ShardView T) (tick : ℕ) (x : Expired T) → IsShard new
      → PollsBy most old.core tick (Ok (Answered (Out x))) new.core → Changes old new → IsOutInForce new x
  in_force None old new tick x after polls keeps = outs old new tick x after (polls, keeps)
  in_force (Some most) old new tick x after polls keeps = pieces old new tick most x after (polls, keeps)

  -- whatever entry is given was least and in force
  pub items : ItemsAreInForce T
  items number shards x (most, tick, old, new, before, at, after, (polls, keeps, none)) =
      let start : ShardView T = record old { parked = None } in
      (new, keeps.0.0 ∙ at, (after, in_force most start new tick x after polls keeps, (least_due most start.core new.core tick x polls).2))
