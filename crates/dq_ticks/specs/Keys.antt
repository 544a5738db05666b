-- What entries and keys are named by.
use Rattle.std.specs.Prelude.{◌≡◌, ℕ, ◌+◌, ◌*◌, ◌<◌, ◌==◌, ◌↔◌, Bool, true}
use Rattle.std.specs.Ordering.{eq_of_both, nat_cmp, on, then_cmp}
use Rattle.std.specs.declared.cmp.Ordering.{Ordering}
use Rattle.dq_ticks.specs.Units.{half_unit, index_count, shard_count, stamp_count}

-- an entry: its shard, its index there, and the stamp of its birth
pub record EntryName : Type 0 where
  pub shard : ℕ
  pub index : ℕ
  pub born : ℕ

-- an entry, and the stamp at which it is meant
pub record KeyName : Type 0 where
  pub entry : EntryName
  pub stamp : ℕ

-- an entry of a queue of shards: the queue's number, the shard's place in it, and the entry there
pub record QueueEntryName : Type 0 where
  pub queue : ℕ
  pub shard : ℕ
  pub entry : EntryName

-- such an entry, and the stamp that it had when the key was made
pub record QueueKeyName : Type 0 where
  pub named : QueueEntryName
  pub stamp : ℕ

-- the numbers of such a key fit what it keeps them in
pub record FitsQueueKey (k : QueueKeyName) : Type 0 where
  pub queue : k.named.queue < half_unit
  pub core : k.named.entry.shard < half_unit
  pub shard : k.named.shard < shard_count
  pub index : k.named.entry.index < index_count
  pub born : k.named.entry.born < stamp_count
  pub stamp : k.stamp < stamp_count

-- the number of a key's queue and of the entry's own shard
abbrev pub core_part : QueueKeyName → ℕ
core_part k = k.named.queue * half_unit + k.named.entry.shard

-- the number of the rest of the entry's name: the stamp isn't in it
abbrev pub entry_part : QueueKeyName → ℕ
entry_part k = (k.named.shard * index_count + k.named.entry.index) * stamp_count + k.named.entry.born

-- keys have the same two numbers
abbrev pub are_equal : QueueKeyName → QueueKeyName → Bool
are_equal = eq_of_both (on core_part ◌==◌) (on entry_part ◌==◌)

-- the order of keys: by the first number, and then by the second
abbrev pub key_order : QueueKeyName → QueueKeyName → Ordering
key_order = then_cmp (on core_part nat_cmp) (on entry_part nat_cmp)

-- keys are equal exactly where they name one entry of one queue, whatever their stamps
abbrev pub EqualKeysNameOneEntry : Type 0
EqualKeysNameOneEntry =
    (k l : QueueKeyName) → FitsQueueKey k → FitsQueueKey l →
    (are_equal k l ≡ true) ↔ (k.named ≡ l.named)
