-- No public clause cites this module.
-- The leases of a queue: the names that its machine has live, in order, and the keys under which
-- they are found.
use Rattle.std.specs.Prelude.{◌≡◌, ℕ, List, [], ◌∷◌, Option, Some, None, bytes_eq, if◌then◌else◌}
use Rattle.std.specs.Map.{lookup}
use Rattle.dq_ticks.specs.Keys.{KeyName}
use Rattle.dq_core.specs.Machine.{TableRow, Machine, table_at}
use Rattle.dq_core.specs.Machine.{Entry}
use Rattle.dq_replay.specs.declared.session.Lease.{Lease}
use Rattle.dq_replay.specs.Script.{lease, with_lease}

-- a linked name with its deadline in force, none where it is cancelled
abbrev pub lease_by : List ℕ → Option ℕ → Option Lease
lease_by name None = None
lease_by name (Some deadline) = Some (lease name deadline)

abbrev pub lease_of : Option (Entry (List ℕ)) → Option Lease
lease_of None = None
lease_of (Some e) = lease_by e.value e.due

abbrev pub with_lease_if : Option Lease → List Lease → List Lease
with_lease_if None live = live
with_lease_if (Some e) live = with_lease e live

-- the live names of the slots, in order
abbrev pub live_of : List (TableRow (List ℕ)) → List Lease
live_of [] = []
live_of (s ∷ ss) = with_lease_if (lease_of s.entry) (live_of ss)

-- a slot without an entry
abbrev pub vacant : TableRow (List ℕ)
vacant = record { stamp = 0; entry = None }

-- an entry that is linked and live
abbrev pub live_lease : ℕ → List ℕ → ℕ → Entry (List ℕ)
live_lease born name deadline = record { born = born; value = name; due = Some deadline }

-- the key of the entry that was born at that stamp at slot i, at the slot's present stamp
abbrev pub key_at : ℕ → Machine (List ℕ) → ℕ → ℕ → KeyName
key_at shard m i born = record {
  entry = record { shard = shard; index = i; born = born };
  stamp = (table_at m i).stamp;
}

-- the key of a name among names with their keys
abbrev pub key_of : List (List ℕ × KeyName) → List ℕ → Option KeyName
key_of names name = lookup (bytes_eq name) names

-- each live name is found under the key of its entry, and no other name is found
pub record AreKeyed (shard : ℕ) (m : Machine (List ℕ)) (keys : List ℕ → Option KeyName)
    : Type 0 where
  pub found : (i born : ℕ) (name : List ℕ) (d : ℕ)
      → (table_at m i).entry ≡ Some (live_lease born name d)
      → keys name ≡ Some (key_at shard m i born)
  pub live : (name : List ℕ) (k : KeyName) → keys name ≡ Some k
      → (d : ℕ) × ((table_at m k.entry.index).entry ≡ Some (live_lease k.entry.born name d))
      × (k ≡ key_at shard m k.entry.index k.entry.born)

-- names with their keys, and for how many more there is room
pub record NameTable : Type 0 where
  pub entries : List (List ℕ × KeyName)
  pub spare : ℕ

-- the key that a table has for a name
abbrev pub found_in : NameTable → List ℕ → Option KeyName
found_in t name = key_of t.entries name

-- a table in which that name has that key, or none, and each other name what it had
abbrev pub IsPutIn : NameTable → List ℕ → Option KeyName → NameTable → Type 0
IsPutIn t name key u = (q : List ℕ) → found_in u q ≡ (if bytes_eq name q then key else found_in t q)

-- one if there is a key
abbrev pub one_if : Option KeyName → ℕ
one_if None = 0
one_if (Some key) = 1
