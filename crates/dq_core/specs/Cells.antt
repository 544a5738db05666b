-- No public clause cites this module.
-- A slot as it lies in memory, with the value that is deferred there.
use Rattle.std.specs.Prelude.{◌≡◌, ℕ, zero, suc, ◌<◌, Bool, true, List, map, Option, Some, None, is_some}
use Rattle.std.specs.Prelude.{slice_index_or, slice_set, ◌⊎◌}
use Rattle.dq_core.specs.declared.slots.Held.{Held}
use Rattle.dq_core.specs.Deferred.{Deferred, deferred_at, TakesDeferred}
use Rattle.dq_core.specs.FreeSlots.{FreeIndexes, free_times, room_of, GivesBack}
use Rattle.dq_core.specs.Slots.{Row, unused, is_worn, filled_row, vacated_row, raised_row}
use Rattle.dq_core.specs.Values.{revalued_row}

-- a cell: the slot as its users see it, and what is deferred there
pub record CellRow (T : Type 0) : Type 0 where
  pub row : Row T
  pub deferred : Option T

-- what a cell holds: its value, under its birth stamp. Where that is 0 it holds nothing: a value
-- that is there was freed
abbrev pub held_of : {T : Type 0} → ℕ → Option T → Option (Held T)
held_of zero deferred = None
held_of (suc born) None = None
held_of (suc born) (Some v) = Some (record { born = suc born; value = v })

-- what is deferred in a cell: its value, where it has no birth stamp
abbrev pub deferred_of : {T : Type 0} → ℕ → Option T → Option T
deferred_of zero value = value
deferred_of (suc born) value = None

-- where there is a birth stamp there is a value
abbrev pub IsCell : {T : Type 0} → ℕ → Option T → Type 0
IsCell born value = 0 < born → is_some value ≡ true

abbrev pub cell_of : {T : Type 0} → ℕ → ℕ → Option T → CellRow T
cell_of stamp born value =
    record {
      row = record { stamp = stamp; held = held_of born value };
      deferred = deferred_of born value;
    }

-- a cell that was never used
abbrev pub unused_cell : {T : Type 0} → CellRow T
unused_cell = record { row = unused; deferred = None }

-- a cell that holds nothing, at a stamp
abbrev pub empty_cell : {T : Type 0} → ℕ → CellRow T
empty_cell stamp = record { row = record { stamp = stamp; held = None }; deferred = None }

-- what is deferred where a cell holds nothing any more
abbrev pub deferred_value : {T : Type 0} → Option (Held T) → Option T → Option T
deferred_value None deferred = deferred
deferred_value (Some h) deferred = Some h.value

-- a cell that holds a value under its next stamp, and has none deferred
abbrev pub filled_cell : {T : Type 0} → CellRow T → T → CellRow T
filled_cell c v = record { row = filled_row c.row v; deferred = None }

-- a cell whose value was taken out
abbrev pub vacated_cell : {T : Type 0} → CellRow T → CellRow T
vacated_cell c = record { row = vacated_row c.row; deferred = None }

-- a cell whose value is deferred there
abbrev pub deferred_cell : {T : Type 0} → CellRow T → CellRow T
deferred_cell c =
    record { row = vacated_row c.row; deferred = deferred_value c.row.held c.deferred }

-- a cell of which was taken out what was deferred
abbrev pub emptied_cell : {T : Type 0} → CellRow T → CellRow T
emptied_cell c = record { row = c.row; deferred = None }

-- a cell as if it had never been used, but for what is deferred
abbrev pub forgotten_cell : {T : Type 0} → CellRow T → CellRow T
forgotten_cell c = record { row = unused; deferred = deferred_value c.row.held c.deferred }

-- a cell under its next stamp
abbrev pub raised_cell : {T : Type 0} → CellRow T → CellRow T
raised_cell c = record { row = raised_row c.row; deferred = c.deferred }

-- a cell with another value of what it holds
abbrev pub revalued_cell : {T : Type 0} → CellRow T → T → CellRow T
revalued_cell c v = record { row = revalued_row c.row v; deferred = c.deferred }

-- of what a cell holds a change made another value, with that answer
abbrev pub ChangesCell : {T R : Type 0} → (T → R → T → Type 0) → CellRow T → R → CellRow T → Type 0
ChangesCell {T} Makes c a d =
    (h : Held T) × (v : T) × (c.row.held ≡ Some h) × Makes h.value a v × (d ≡ revalued_cell c v)

-- the slots that cells show
abbrev pub rows_of : {T : Type 0} → List (CellRow T) → List (Row T)
rows_of {T} cells = map (λ (c : CellRow T). c.row) cells

-- the values that are deferred in cells
abbrev pub values_of : {T : Type 0} → List (CellRow T) → List (Option T)
values_of {T} cells = map (λ (c : CellRow T). c.deferred) cells

-- the cell at an index; past the end, one that was never used
abbrev pub cell_at : {T : Type 0} → List (CellRow T) → ℕ → CellRow T
cell_at cells i = slice_index_or cells i unused_cell

-- each slot that waits has a value that is deferred there
abbrev pub AreThere : {T : Type 0} → List (CellRow T) → Deferred → Type 0
AreThere cells waiting =
    (i : ℕ) → deferred_at waiting i ≡ 1 → is_some (cell_at cells i).deferred ≡ true

-- those that wait have their values, and those that wait as worn are worn
pub record AreDeferred {T : Type 0} (last : ℕ) (cells : List (CellRow T)) (waiting worn : Deferred)
    : Type 0 where
  pub there : AreThere cells waiting
  pub worn_there : AreThere cells worn
  pub are_worn : (i : ℕ) → deferred_at worn i ≡ 1 → is_worn last (cell_at cells i).row ≡ true

-- each value that is deferred waits in its slot where values wait at all, and else none waits
pub record AreNoted {T : Type 0} (drops : Bool) (cells : List (CellRow T))
    (waiting worn : Deferred) : Type 0 where
  pub noted :
      drops ≡ true → (i : ℕ) → is_some (cell_at cells i).deferred ≡ true →
      (deferred_at waiting i ≡ 1) ⊎ (deferred_at worn i ≡ 1)
  pub dropping :
      (i : ℕ) → (deferred_at waiting i ≡ 1) ⊎ (deferred_at worn i ≡ 1) → drops ≡ true

-- a value that waits is taken out of its slot, which waits no more, and there is one fewer; none
-- comes exactly where none waits
abbrev pub TakesWaiting : {T : Type 0} →
    List (CellRow T) → Deferred → Option (ℕ × T) → List (CellRow T) → Deferred → Type 0
TakesWaiting cells d None left e = (left ≡ cells) × TakesDeferred d None e
TakesWaiting cells d (Some t) left e =
    ((cell_at cells t.0).deferred ≡ Some t.1)
    × (left ≡ slice_set cells t.0 (emptied_cell (cell_at cells t.0)))
    × TakesDeferred d (Some t.0) e

-- a slot that waits isn't among the free ones
abbrev pub AreTaken : FreeIndexes → Deferred → Type 0
AreTaken free waiting =
    (i : ℕ) → deferred_at waiting i ≡ 1 → (i < room_of free) × (free_times free i ≡ 0)

-- a value that waits is taken out of a slot, which is free then, or of a worn one where none waits
-- in another, and there is one fewer; none comes exactly where none waits
abbrev pub TakesAny : {T : Type 0} →
    List (CellRow T) → FreeIndexes → Deferred → Deferred → Option T →
    List (CellRow T) → FreeIndexes → Deferred → Deferred → Type 0
TakesAny cells f d w None left g e v =
    (d.count ≡ 0) × (w.count ≡ 0) × (left ≡ cells) × (g ≡ f) × (e ≡ d) × (v ≡ w)
TakesAny cells f d w (Some value) left g e v =
    (i : ℕ)
    × ((TakesWaiting cells d (Some (i, value)) left e × GivesBack f i g × (v ≡ w))
    ⊎ (TakesWaiting cells w (Some (i, value)) left v × (g ≡ f) × (e ≡ d) × (d.count ≡ 0)))
