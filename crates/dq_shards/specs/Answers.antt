-- What a queue of shards answers: of a shard behind its lock no more is known than its number, and
-- what every shard keeps.
use Rattle.std.specs.Prelude.{◌≡◌, ℕ, ◌<◌, ◌≤◌, ◌%◌, ◌⊎◌, Result, Ok, Err}
use Rattle.dq_ticks.specs.declared.TheConstants.{CAPACITY_LIMIT, LAST_STAMP}
use Rattle.dq_ticks.specs.declared.keys.Key.{Key}
use Rattle.dq_core.specs.declared.errors.CoreError.{CoreError}
use Rattle.dq_core.specs.declared.errors.CoreError.TheVariants.{BadConfig, NoMemory}
use Rattle.dq_core.specs.Ranges.{IsLastStamp}
use Rattle.dq_core.specs.WordRows.{IsCapacity}
use Rattle.dq_shards.specs.declared.errors.TheConstants.{SHARD_LIMIT}
use Rattle.dq_shards.specs.declared.errors.BadQueueNumber.{BadQueueNumber}
use Rattle.dq_shards.specs.declared.errors.BadQueueNumber.TheVariants.{BadShards, BadCapacity}
use Rattle.dq_shards.specs.declared.errors.BadQueueNumber.TheVariants.{BadLastStamp}
use Rattle.dq_shards.specs.declared.errors.QueueConfig.{QueueConfig}
use Rattle.dq_shards.specs.declared.errors.QueueError.{QueueError}
use Rattle.dq_shards.specs.declared.errors.QueueError.TheVariants.{Core, Unknown, TooManyHandles}
use Rattle.dq_shards.specs.Shard.{ShardView}
use Rattle.dq_shards.specs.Changes.{OnNumbered, ShardInserts}

-- the numbers of a configuration are in their ranges
abbrev pub IsQueueConfig : QueueConfig → Type 0
IsQueueConfig c =
    (0 < c.shards) × (c.shards ≤ SHARD_LIMIT)
    × (0 < c.capacity) × (c.capacity ≤ CAPACITY_LIMIT)
    × (0 < c.last_stamp) × (c.last_stamp ≤ LAST_STAMP)

-- so many shards may a queue have
abbrev pub IsShardCount : ℕ → Type 0
IsShardCount n = (0 < n) × (n ≤ SHARD_LIMIT)

-- the number is the first of a configuration's that is out of its range
abbrev pub IsBadQueueNumber : QueueConfig → BadQueueNumber → Type 0
IsBadQueueNumber c (BadShards n) = (n ≡ c.shards) × (¬ IsShardCount n)
IsBadQueueNumber c (BadCapacity n) =
    (n ≡ c.capacity) × IsShardCount c.shards × (¬ IsCapacity n)
IsBadQueueNumber c (BadLastStamp n) =
    (n ≡ c.last_stamp) × IsShardCount c.shards × IsCapacity c.capacity × (¬ IsLastStamp n)

-- a queue is made exactly where they are, but where memory is refused
abbrev pub QueueIsMade : QueueConfig → Result ℕ QueueError → Type 0
QueueIsMade config (Ok shards) = IsQueueConfig config × (shards ≡ config.shards)
QueueIsMade config (Err e) =
    ((e ≡ Core BadConfig) × ¬ IsQueueConfig config)
    ⊎ ((e ≡ Core NoMemory) × IsQueueConfig config)

-- an answer whose refusal dropped the value, with the value put back
abbrev pub with_value_handed_back :
    {T : Type 0} → T → Result Key QueueError → Result Key (QueueError × T)
with_value_handed_back value (Ok k) = Ok k
with_value_handed_back value (Err e) = Err (e, value)

module _ {T : Type 0} where
  -- A call on a shard, of which there are some. It is refused as unknown exactly out of range;
  -- else it answers what the state of that number does.
  abbrev pub OnShard :
      {R : Type 0} → ℕ → ℕ → (ShardView T → R → ShardView T → Type 0)
      → Result R QueueError → Type 0
  OnShard shards shard gives (Ok r) = (shard < shards) × OnNumbered {T = T} shard gives r
  OnShard shards shard gives (Err e) = (e ≡ Unknown) × (shards ≤ shard)

  -- the same for a call that the state may refuse
  abbrev pub OnShardOr :
      {R : Type 0} → ℕ → ℕ → (ShardView T → Result R CoreError → ShardView T → Type 0)
      → Result R QueueError → Type 0
  OnShardOr shards shard gives (Ok r) = (shard < shards) × OnNumbered {T = T} shard gives (Ok r)
  OnShardOr shards shard gives (Err Unknown) = shards ≤ shard
  OnShardOr shards shard gives (Err (Core e)) =
      (shard < shards) × OnNumbered {T = T} shard gives (Err e)
  OnShardOr shards shard gives (Err (TooManyHandles limit)) = ⊥

  -- what the insert of the state of that number answers to a value and its deadline
  abbrev pub InsertsAt : ℕ → T → ℕ → Result Key (CoreError × T) → Type 0
  InsertsAt number value when result =
      OnNumbered {T = T} number (λ old r new. ShardInserts old value when r new) result

  -- an insert by a route is that of the state whose number is the route modulo the number of shards
  abbrev pub QueueInserts : ℕ → ℕ → T → ℕ → Result Key (QueueError × T) → Type 0
  QueueInserts shards route value when (Ok key) = InsertsAt (route % shards) value when (Ok key)
  QueueInserts shards route value when (Err (Core e, v)) =
      InsertsAt (route % shards) value when (Err (e, v))
  QueueInserts shards route value when (Err (Unknown, v)) = ⊥
  QueueInserts shards route value when (Err (TooManyHandles limit, v)) = ⊥
