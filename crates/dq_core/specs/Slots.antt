-- The fixed row of slots, and what a call makes of it.
use Rattle.std.specs.Prelude.{◌≡◌, ℕ, ◌+◌, ◌<◌, ◌≤◌, Bool, true, List, Option, Some, None, Result}
use Rattle.std.specs.Prelude.{Ok, Err, slice_index_or, slice_set, length, nat_lt, ◌&&◌, not}
use Rattle.std.specs.Prelude.{is_some, is_none}
use Rattle.std.specs.List.{count_by, All}
use Rattle.dq_core.specs.declared.slots.Held.{Held}
use Rattle.dq_ticks.specs.declared.TheConstants.{CAPACITY_LIMIT, LAST_STAMP}

-- a slot: its present stamp, and what is held there
pub record Row (T : Type 0) : Type 0 where
  pub stamp : ℕ
  pub held : Option (Held T)

-- the slots as their users see them: the last stamp, and each slot's stamp with what is held there
pub record SlotRows (T : Type 0) : Type 0 where
  pub last_stamp : ℕ
  pub rows : List (Row T)

-- what is deferred: whether freed values wait for their drop at all, and by slot the freed value
-- that lies there
pub record DeferredValues (T : Type 0) : Type 0 where
  pub drops : Bool
  pub values : List (Option T)

-- the slots with what is deferred there
pub record SlotState (T : Type 0) : Type 0 where
  pub last_stamp : ℕ
  pub rows : List (Row T)
  pub deferred : DeferredValues T

-- the slots alone
abbrev pub shown : {T : Type 0} → SlotState T → SlotRows T
shown s = record { last_stamp = s.last_stamp; rows = s.rows }

-- a slot that was never used
abbrev pub unused : {T : Type 0} → Row T
unused = record { stamp = 0; held = None }

-- the slot at an index; past the row's end, one that was never used
abbrev pub row_at : {T : Type 0} → List (Row T) → ℕ → Row T
row_at rows i = slice_index_or rows i unused

-- something is held there
abbrev pub is_held : {T : Type 0} → Row T → Bool
is_held r = is_some r.held

-- nothing is held there, and a stamp is left
abbrev pub is_free : {T : Type 0} → ℕ → Row T → Bool
is_free last r = is_none r.held && nat_lt r.stamp last

-- nothing is held there, and no stamp is left
abbrev pub is_worn : {T : Type 0} → ℕ → Row T → Bool
is_worn last r = is_none r.held && not (nat_lt r.stamp last)

-- the birth stamp of what is held at a slot, none where nothing is
abbrev pub IsBorn : {T : Type 0} → Row T → Option ℕ → Type 0
IsBorn r None = r.held ≡ None
IsBorn {T} r (Some born) = (h : Held T) × (r.held ≡ Some h) × (h.born ≡ born)

-- a slot that holds a value under its next stamp
abbrev pub filled_row : {T : Type 0} → Row T → T → Row T
filled_row r v =
    record { stamp = r.stamp + 1; held = Some (record { born = r.stamp + 1; value = v }) }

-- a slot that holds nothing, at the same stamp
abbrev pub vacated_row : {T : Type 0} → Row T → Row T
vacated_row r = record r { held = None }

-- a slot that holds what it held, under its next stamp
abbrev pub raised_row : {T : Type 0} → Row T → Row T
raised_row r = record r { stamp = r.stamp + 1 }

-- the slots with a value put in at slot i
abbrev pub filled : {T : Type 0} → SlotRows T → ℕ → T → SlotRows T
filled s i v = record s { rows = slice_set s.rows i (filled_row (row_at s.rows i) v) }

-- the slots with slot i vacated
abbrev pub vacated : {T : Type 0} → SlotRows T → ℕ → SlotRows T
vacated s i = record s { rows = slice_set s.rows i (vacated_row (row_at s.rows i)) }

-- the slots with slot i under its next stamp
abbrev pub raised : {T : Type 0} → SlotRows T → ℕ → SlotRows T
raised s i = record s { rows = slice_set s.rows i (raised_row (row_at s.rows i)) }

-- a value goes to a free slot, under that slot's next stamp; it comes back, and nothing changes,
-- exactly where no slot is free
abbrev pub IsFilled : {T : Type 0} →
    SlotRows T → T → Result (ℕ × Option T) T → SlotRows T → Type 0
IsFilled s v (Ok f) t =
    (f.0 < length s.rows) × (is_free s.last_stamp (row_at s.rows f.0) ≡ true) × (t ≡ filled s f.0 v)
IsFilled s v (Err back) t = (count_by (is_free s.last_stamp) s.rows ≡ 0) × (back ≡ v) × (t ≡ s)

-- a slot's stamp is within the last one, and what is held there was born under a stamp from 1 to
-- the present one
pub record IsRow {T : Type 0} (last : ℕ) (r : Row T) : Type 0 where
  pub bound : r.stamp ≤ last
  pub birth : (h : Held T) → r.held ≡ Some h → (0 < h.born) × (h.born ≤ r.stamp)

-- a row of slots in good order
pub record IsSlotRows {T : Type 0} (s : SlotRows T) : Type 0 where
  pub used : 0 < s.last_stamp
  pub bound : s.last_stamp ≤ LAST_STAMP
  pub size : length s.rows ≤ CAPACITY_LIMIT
  pub each : All (IsRow s.last_stamp) s.rows
