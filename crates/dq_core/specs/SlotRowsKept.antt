-- No public clause cites this module.
-- How the slots go with their free indexes, with those whose value waits for its drop, and with the
-- counts of the held and the free.
use Rattle.std.specs.Prelude.{◌≡◌, ◌≢◌, ℕ, ◌+◌, ◌≤◌, ◌⊎◌, Bool, List, Option, Some, None, length}
use Rattle.std.specs.Prelude.{nat_lt, ◌&&◌, cond}
use Rattle.std.specs.List.{count_by}
use Rattle.dq_core.specs.FreeSlots.{FreeIndexes, free_times, room_of, GivesBack}
use Rattle.dq_core.specs.Deferred.{Deferred, deferred_at, TakesDeferred}
use Rattle.dq_core.specs.Slots.{Row, row_at, is_free, is_held, IsSlotRows}

-- an index of the row whose slot is free
abbrev pub is_open : {T : Type 0} → ℕ → List (Row T) → ℕ → Bool
is_open last rows i = nat_lt i (length rows) && is_free last (row_at rows i)

-- how often an index is among those that a fill may take: the free ones, and those whose value
-- waits
abbrev pub usable_times : FreeIndexes → Deferred → ℕ → ℕ
usable_times free waiting i = free_times free i + deferred_at waiting i

-- index i is given to them, and nothing else changes
pub record GivesSlot (f : FreeIndexes) (d : Deferred) (i : ℕ) (g : FreeIndexes)
    (e : Deferred) : Type 0 where
  pub one_more : usable_times g e i ≡ usable_times f d i + 1
  pub others : (j : ℕ) → j ≢ i → usable_times g e j ≡ usable_times f d j
  pub room : length g.bits ≡ length f.bits
  pub waits_room : length e.bits ≡ length d.bits

-- the index of the next fill is taken: a free one, and only where none is free one whose value
-- waits
abbrev pub TakesSlot : FreeIndexes → Deferred → Option ℕ → FreeIndexes → Deferred → Type 0
TakesSlot f d None g e = ((i : ℕ) → usable_times f d i ≡ 0) × (g ≡ f) × (e ≡ d)
TakesSlot f d (Some i) g e =
    (GivesBack g i f × (e ≡ d))
    ⊎ (((j : ℕ) → free_times f j ≡ 0) × (g ≡ f) × TakesDeferred d (Some i) e)

-- how the free indexes, the count of held slots and that of free ones go with the slots
pub record IsSlotRowsKept {T : Type 0} (last : ℕ) (rows : List (Row T)) (free : FreeIndexes)
    (waiting : Deferred) (taken left : ℕ) : Type 0 where
  pub slots : IsSlotRows (record { last_stamp = last; rows = rows })
  -- each index may be taken once where its slot is free, and else not at all
  pub freed : (i : ℕ) → usable_times free waiting i ≡ cond (is_open last rows i) 1 0
  pub spare : left ≡ count_by (is_free last) rows
  pub counted : taken ≡ count_by is_held rows
  -- each index has its bit
  pub room : length rows ≤ room_of free
