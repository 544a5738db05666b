-- The value of an entry, changed where it is.
use Rattle.std.specs.Prelude.{◌≡◌, ℕ, Option, Some, None, slice_set}
use Rattle.dq_ticks.specs.declared.keys.EntryId.{EntryId}
use Rattle.dq_core.specs.declared.slots.Held.{Held}
use Rattle.dq_core.specs.Slots.{Row, SlotRows, row_at}
use Rattle.dq_core.specs.Machine.{Entry, Machine, Has, table_at, put}
use Rattle.dq_core.specs.Core.{Core}
use Rattle.dq_core.specs.AtTheCall.{HoldsValue}
use Rattle.dq_core.specs.Calls.{IsMissing}

-- what is held, with another value
abbrev pub held_with : {T : Type 0} → Option (Held T) → T → Option (Held T)
held_with None v = None
held_with (Some h) v = Some (record { born = h.born; value = v })

-- a slot that holds what it held, with another value
abbrev pub revalued_row : {T : Type 0} → Row T → T → Row T
revalued_row r v = record r { held = held_with r.held v }

-- the slots with that value of what is held at slot i
abbrev pub revalued : {T : Type 0} → SlotRows T → ℕ → T → SlotRows T
revalued s i v = record s { rows = slice_set s.rows i (revalued_row (row_at s.rows i) v) }

-- of what slot i holds a change made another value, with that answer
abbrev pub ChangesSlot : {T R : Type 0} → (T → R → T → Type 0) → SlotRows T → ℕ → R → SlotRows T →
    Type 0
ChangesSlot {T} Makes s i a t =
    (h : Held T) × (v : T) × ((row_at s.rows i).held ≡ Some h) × Makes h.value a v
    × (t ≡ revalued s i v)

-- a queue with that value of the entry at slot i, and all else as it was
abbrev pub with_value_at : {T W : Type 0} → Core T W → ℕ → T → Core T W
with_value_at b i v = record b { slots = revalued b.slots i v }

-- of an entry's value a change made another, with that answer, and all else is as it was; no answer
-- comes, and nothing changes, exactly where the entry is missing
abbrev pub ChangesValue : {T W R : Type 0} → (T → R → T → Type 0) → Core T W → EntryId → Option R →
    Core T W → Type 0
ChangesValue Makes b id None c = IsMissing b id × (c ≡ b)
ChangesValue {T} Makes b id (Some a) c =
    (was : T) × (now : T) × HoldsValue b id was × Makes was a now
    × (c ≡ with_value_at b id.index now)

-- so in the machine: the entry that is linked there under that birth stamp has another value, and
-- its deadline as before
abbrev pub ChangesEntry : {T R : Type 0} → (T → R → T → Type 0) → Machine T → EntryId → R →
    Machine T → Type 0
ChangesEntry {T} Makes m id a n =
    (e : Entry T) × (v : T) × Has m id.index e × (e.born ≡ id.born) × Makes e.value a v
    × (n ≡ put m id.index (table_at m id.index).stamp (Some (record e { value = v })))
