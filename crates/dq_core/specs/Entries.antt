-- The live entries of a queue, one after the other.
use Rattle.std.specs.Prelude.{◌≡◌, ℕ, ◌+◌, ◌==◌, Bool, List, [], ◌∷◌, Option, Some, None, filter}
use Rattle.std.specs.List.{cons_option}
use Rattle.dq_ticks.specs.declared.keys.Key.{Key}
use Rattle.dq_core.specs.Machine.{Entry, TableRow, table_at}
use Rattle.dq_core.specs.Core.{Core, machine}

-- a live entry as it is listed: its key, its deadline in force, and its value
pub record Listed (T : Type 0) : Type 0 where
  pub key : Key
  pub deadline : ℕ
  pub value : T

-- an entry of slot i under the stamp s, listed where it has a deadline in force
abbrev pub listed_until : {T : Type 0} → ℕ → ℕ → ℕ → Entry T → Option ℕ → Option (Listed T)
listed_until shard i s e None = None
listed_until shard i s e (Some d) = Some (record {
  key = record { entry = record { shard = shard; index = i; born = e.born }; stamp = s };
  deadline = d;
  value = e.value;
})

-- what is listed of slot i: the entry that is linked there, where it is live
abbrev pub listed_of : {T : Type 0} → ℕ → ℕ → ℕ → Option (Entry T) → Option (Listed T)
listed_of shard i s None = None
listed_of shard i s (Some e) = listed_until shard i s e e.due

-- what is listed of the slots from i on
abbrev pub listed_from : {T : Type 0} → ℕ → ℕ → List (TableRow T) → List (Listed T)
listed_from shard i [] = []
listed_from shard i (r ∷ rs) =
    cons_option (listed_of shard i r.stamp r.entry) (listed_from shard (i + 1) rs)

-- the live entries of a queue, by their slots
abbrev pub live_entries : {T W : Type 0} → Core T W → List (Listed T)
live_entries c = listed_from c.shard 0 (machine c).table

-- the live entry of slot i, none where no live entry is linked there
abbrev pub live_entry : {T W : Type 0} → Core T W → ℕ → Option (Listed T)
live_entry c i = listed_of c.shard i (table_at (machine c) i).stamp (table_at (machine c) i).entry

-- whether it is listed of slot i
abbrev pub is_of : {T : Type 0} → ℕ → Listed T → Bool
is_of i x = x.key.entry.index == i

-- Of each slot the list has its live entry, once, and nothing else.
abbrev pub ListsEachOnce : {T W : Type 0} → Core T W → List (Listed T) → Type 0
ListsEachOnce c xs = (i : ℕ) → filter (is_of i) xs ≡ cons_option (live_entry c i) []
