use Rattle.std.proofs.Common.{◌≡◌, ◌≤◌, vec_len}
use Rattle.std.specs.Prelude.{vec_capacity}
use Rattle.dq_shards.proofs.parking.row.Row.new.Given as goal

abbrev pub invariant-loop-shard : goal.invariant-loop-shard
invariant-loop-shard g l = (vec_len l.waiting ≡ l._shard) × (vec_len l.shards ≤ vec_capacity l.waiting)
