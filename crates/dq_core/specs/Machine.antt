-- The queue machine: a table with a row for each slot, the wheel's tick and the noted tick, and its
-- events.
use Rattle.std.specs.Prelude.{◌≡◌, ℕ, ◌+◌, ◌<◌, ◌≤◌, max, nat_le, Bool, true, false, List, [], ◌∷◌}
use Rattle.std.specs.Prelude.{Option, Some, None, slice_index_or, slice_set, length, filter}
use Rattle.std.specs.List.{AllByRecursion}

-- an entry of the table: its birth stamp, its value, and its deadline in force, none where it is
-- cancelled
pub record Entry (T : Type 0) : Type 0 where
  pub born : ℕ
  pub value : T
  pub due : Option ℕ

-- a row of the table: a slot's present stamp, and the entry that is linked there
pub record TableRow (T : Type 0) : Type 0 where
  pub stamp : ℕ
  pub entry : Option (Entry T)

-- the table, the wheel's tick and the noted tick
pub record Machine (T : Type 0) : Type 0 where
  pub tick : ℕ
  pub noted : ℕ
  pub table : List (TableRow T)

-- What may come to a queue; Step says when, and what is left then. The owner's four events on a
-- linked entry name it by its birth stamp, which stays while it is linked. The two of callers go by
-- the slot's present stamp, as their key has it: a reset raises it, so older keys are stale.
pub data Event (T : Type 0) : Type 0 where
  -- the owner says how late it is
  Note : (tick : ℕ) → Event T
  -- the wheel goes on to a tick that no live deadline lies before
  Pass : (tick : ℕ) → Event T
  -- an entry comes to a slot, under its next stamp
  Insert : (slot : ℕ) → (value : T) → (when : ℕ) → Event T
  -- a live entry gets another deadline, and its slot the next stamp
  Reset : (slot born when : ℕ) → Event T
  -- a caller raises the deadline of a live entry
  Extend : (slot stamp when : ℕ) → Event T
  -- a caller ends a live entry, which stays linked
  Cancel : (slot stamp : ℕ) → Event T
  -- the owner takes a live entry out
  Remove : (slot born : ℕ) → Event T
  -- the owner drops a cancelled entry
  Reap : (slot born : ℕ) → Event T
  -- a live entry comes out at its deadline, which is the wheel's tick
  Expire : (slot born at : ℕ) → Event T

-- the row of a slot; past the table's end, one that was never used
abbrev pub table_at : {T : Type 0} → Machine T → ℕ → TableRow T
table_at m i = slice_index_or m.table i (record { stamp = 0; entry = None })

-- the machine with that stamp and entry at slot i
abbrev pub put : {T : Type 0} → Machine T → ℕ → ℕ → Option (Entry T) → Machine T
put m i s e = record m { table = slice_set m.table i (record { stamp = s; entry = e }) }

-- the entry e is linked at slot i
abbrev pub Has : {T : Type 0} → Machine T → ℕ → Entry T → Type 0
Has m i e = (i < length m.table) × ((table_at m i).entry ≡ Some e)

-- no live entry has a deadline in force before t
abbrev pub NoneLiveBefore : {T : Type 0} → Machine T → ℕ → Type 0
NoneLiveBefore {T} m t =
    (i : ℕ) (e : Entry T) (d : ℕ) → (table_at m i).entry ≡ Some e → e.due ≡ Some d → t ≤ d

-- nothing is linked
abbrev pub NoneLinked : {T : Type 0} → Machine T → Type 0
NoneLinked m = (i : ℕ) → (table_at m i).entry ≡ None

-- a deadline in force is at most t; a cancelled entry has none
abbrev pub is_due_by : ℕ → Option ℕ → Bool
is_due_by t None = false
is_due_by t (Some d) = nat_le d t

-- an entry is linked, is live, and is due at t
abbrev pub is_due_entry : {T : Type 0} → ℕ → Option (Entry T) → Bool
is_due_entry t None = false
is_due_entry t (Some e) = is_due_by t e.due

-- the due filter: the rows with a live entry whose deadline in force is at most t
abbrev pub due : {T : Type 0} → Machine T → ℕ → List (TableRow T)
due m t = filter (λ s. is_due_entry t s.entry) m.table

-- a new entry, live until d
abbrev pub born_with : {T : Type 0} → ℕ → T → ℕ → Option (Entry T)
born_with s v d = Some (record { born = s; value = v; due = Some d })

-- the entry with another deadline in force, or cancelled
abbrev pub with_due : {T : Type 0} → Entry T → Option ℕ → Option (Entry T)
with_due e d = Some (record { born = e.born; value = e.value; due = d })

-- one event of the machine whose stamps end at last
abbrev pub Step : {T : Type 0} → ℕ → Machine T → Event T → Machine T → Type 0
Step last m (Note t) n = n ≡ record m { noted = max m.noted t }
Step last m (Pass t) n =
    (m.tick ≤ t) × (t ≤ m.noted) × NoneLiveBefore m t × (n ≡ record m { tick = t })
Step last m (Insert i v when) n =
    (i < length m.table) × ((table_at m i).entry ≡ None) × ((table_at m i).stamp < last)
    × (n ≡ put m i ((table_at m i).stamp + 1)
    (born_with ((table_at m i).stamp + 1) v (max when m.tick)))
Step {T} last m (Reset i b when) n =
    (e : Entry T) × (d : ℕ) × Has m i e × (e.born ≡ b) × (e.due ≡ Some d)
    × ((table_at m i).stamp < last)
    × (n ≡ put m i ((table_at m i).stamp + 1) (with_due e (Some (max when m.tick))))
Step {T} last m (Extend i s when) n =
    (e : Entry T) × (d : ℕ) × Has m i e × ((table_at m i).stamp ≡ s) × (e.due ≡ Some d)
    × (n ≡ put m i s (with_due e (Some (max when d))))
Step {T} last m (Cancel i s) n =
    (e : Entry T) × (d : ℕ) × Has m i e × ((table_at m i).stamp ≡ s) × (e.due ≡ Some d)
    × (n ≡ put m i s (with_due e None))
Step {T} last m (Remove i b) n =
    (e : Entry T) × (d : ℕ) × Has m i e × (e.born ≡ b) × (e.due ≡ Some d)
    × (n ≡ put m i (table_at m i).stamp None)
Step {T} last m (Reap i b) n =
    (e : Entry T) × Has m i e × (e.born ≡ b) × (e.due ≡ None)
    × (n ≡ put m i (table_at m i).stamp None)
Step {T} last m (Expire i b at) n =
    (e : Entry T) × Has m i e × (e.born ≡ b) × (e.due ≡ Some at) × (at ≡ m.tick) × (at ≤ m.noted)
    × NoneLiveBefore m at × (n ≡ put m i (table_at m i).stamp None)

-- a list of events, one after the other
abbrev pub Run : {T : Type 0} → ℕ → Machine T → List (Event T) → Machine T → Type 0
Run last m [] n = n ≡ m
Run {T} last m (e ∷ es) n = (k : Machine T) × Step last m e k × Run last k es n

-- what may come between a call's own events: steps of callers, where there are any
abbrev pub IsCallers : {T : Type 0} → Bool → Event T → Type 0
IsCallers shared (Extend i s when) = shared ≡ true
IsCallers shared (Cancel i s) = shared ≡ true
IsCallers shared e = ⊥

-- the events of a poll on its way: it reaps, it passes to another tick, and callers' steps come
-- between
abbrev pub IsOnTheWay : {T : Type 0} → Bool → Event T → Type 0
IsOnTheWay shared (Reap i b) = Unit {0}
IsOnTheWay shared (Pass t) = Unit {0}
IsOnTheWay shared e = IsCallers shared e

-- the events of a sweep: it reaps, and callers' steps come between
abbrev pub IsReaping : {T : Type 0} → Bool → Event T → Type 0
IsReaping shared (Reap i b) = Unit {0}
IsReaping shared e = IsCallers shared e

-- the events of a clear: it removes and reaps, and callers' steps come between
abbrev pub IsClearing : {T : Type 0} → Bool → Event T → Type 0
IsClearing shared (Reap i b) = Unit {0}
IsClearing shared (Remove i b) = Unit {0}
IsClearing shared e = IsCallers shared e

-- how many of the events are removals
abbrev pub removes : {T : Type 0} → List (Event T) → ℕ
removes [] = 0
removes ((Remove i b) ∷ es) = removes es + 1
removes (e ∷ es) = removes es

-- a run of events of one kind
abbrev pub RunOf : {T : Type 0} → (Event T → Type 0) → ℕ → Machine T → Machine T → Type 0
RunOf {T} P last m n = (es : List (Event T)) × AllByRecursion P es × Run last m es n

-- callers' steps alone, as far as the keeper learns of them
abbrev pub Callers : {T : Type 0} → Bool → ℕ → Machine T → Machine T → Type 0
Callers shared last m n = RunOf (IsCallers shared) last m n

-- over words that nobody shares no event is a caller's, so on no way of a call one comes between
abbrev pub OwnEventsAlone : Bool → Type 0 → Type 0
OwnEventsAlone shared T =
    ((e : Event T) → IsCallers shared e → ⊥)
    × ((last : ℕ) (m n : Machine T) → Callers shared last m n → n ≡ m)
