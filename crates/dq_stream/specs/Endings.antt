-- How the entries that a stream gives ended.
use Rattle.std.specs.Prelude.{◌≡◌, ℕ, Ok}
use Rattle.dq_core.specs.declared.outcomes.Expired.{Expired}
use Rattle.dq_core.specs.Core.{machine}
use Rattle.dq_core.specs.Machine.{NoneLiveBefore}
use Rattle.dq_shards.specs.EachPoll.{IsGiven}
use Rattle.dq_shards.specs.Items.{StreamItem}
use Rattle.dq_shards.specs.Shard.{ShardView, IsShard}
use Rattle.dq_shards.specs.Changes.{Changes}
use Rattle.dq_shards.specs.Endings.{IsOutInForce}

-- an entry that a stream of the shard of that number gives, or why it gives none
abbrev pub IsExpiredItem : {T : Type 0} → ℕ → ℕ → StreamItem T → Type 0
IsExpiredItem {T} number shards x =
    IsGiven (λ (s : ShardView T). s.core) (λ s t. Changes s t) (λ s. s.parked)
    (λ s p. record s { parked = p }) (λ wake. wake) (λ s. IsShard s)
    (λ s place places. s.core.shard ≡ place) number shards x

-- The entry came out of a shard: it ended as expired at its deadline in force, not after the noted
-- tick, and no live entry of the shard has an earlier deadline.
abbrev pub IsLeastInForce : {T : Type 0} → ShardView T → Expired T → Type 0
IsLeastInForce s x =
    IsShard s × IsOutInForce s x × NoneLiveBefore (machine s.core) x.deadline

-- whatever entry a stream gives came so out of the shard of its number
abbrev pub ItemsAreInForce : Type 0 → Type 0
ItemsAreInForce T =
    (number shards : ℕ) (x : Expired T) → IsExpiredItem number shards (Ok x)
    → (s : ShardView T) × (s.core.shard ≡ number) × IsLeastInForce s x
