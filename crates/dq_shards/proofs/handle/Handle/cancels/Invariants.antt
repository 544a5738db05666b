use Rattle.std.proofs.Common.{◌≡◌, ◌≤◌, ◌+◌, ◌*◌, drop}
use Rattle.dq_words.specs.Counts.{most_begins}
use Rattle.dq_shards.specs.Handles.{all_cancels}
use Rattle.dq_shards.proofs.handle.Handle.cancels.Given as goal

abbrev pub invariant-loop-shard : goal.invariant-loop-shard
invariant-loop-shard g l =
    (all_cancels l.self ≡ l.cancels + all_cancels (drop l.shard l.self))
    × (l.cancels ≤ l.shard * most_begins)
