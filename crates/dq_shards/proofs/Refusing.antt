-- Why no handle is made.
use Rattle.std.proofs.Common.{ℕ, ◌<◌, Err, subst}
use Rattle.dq_words.specs.declared.keeper.WordsError.{WordsError}
use Rattle.dq_shards.specs.declared.errors.QueueError.{QueueError}
use Rattle.dq_shards.specs.declared.errors.QueueError.TheVariants.{Core, Unknown, TooManyHandles}
use Rattle.dq_shards.specs.Changes.{OnNumbered, ShardIssues}
use Rattle.dq_shards.specs.Issuing.{QueueHandles, IsHandleRefused}

-- a handle is refused as the caller of a shard is
pub handle_refused : (T : Type 0) (n shard : ℕ) (r : WordsError) (e : QueueError) → shard < n
    → OnNumbered {T = T} shard ShardIssues (Err r) → IsHandleRefused r e → QueueHandles T n (Err e)
handle_refused T n shard r (Core e) inside some why = why.1
handle_refused T n shard r Unknown inside some why = why
handle_refused T n shard r (TooManyHandles limit) inside some why =
    let P : WordsError → Type 0 = λ f. OnNumbered {T = T} shard ShardIssues (Err f) in (shard, inside, subst P why some)
