-- What a change of one cell leaves of the slots, and of the values that are deferred.
use Rattle.std.proofs.Common.{◌≡◌, ◌≢◌, ℕ, zero, suc, ◌+◌, ◌-◌, ◌<◌, ◌≤◌, Bool, true, false, not, ltb, replicate, List, [], ◌∷◌, length, get_or, set, Option, Some, None, is_some, is_none, refl, sym, ap, ◌∙◌, subst, inl, inr, ⊎_elim, arith}
use Rattle.std.proofs.lemmas.List.{length-map, length-set, set-get_or, get_or-set_same, get_or-set_other, get_or_default}
use Rattle.std.proofs.lemmas.Bool.{cases_eq, le-ltb, lt-ltb, and_parts}
use Rattle.dq_core.specs.declared.slots.Held.{Held}
use Rattle.dq_core.specs.Slots.{Row, SlotRows, unused, row_at, is_held, is_free, is_worn, filled_row, vacated_row, raised_row}
use Rattle.dq_core.specs.Values.{revalued_row}
use Rattle.dq_core.specs.FreeSlots.{FreeIndexes, free_times, GivesBack}
use Rattle.dq_core.specs.Deferred.{Deferred, deferred_at, DefersIf, Undefers, TakesDeferred}
use Rattle.dq_core.specs.SlotRowsKept.{is_open, TakesSlot, GivesSlot, IsSlotRowsKept}
use Rattle.dq_core.specs.Cells.{CellRow, AreTaken, TakesAny, unused_cell, rows_of, cell_at, AreDeferred, deferred_value, filled_cell, vacated_cell, deferred_cell, emptied_cell, forgotten_cell, raised_cell, revalued_cell}
use Rattle.dq_core.proofs.SlotRows.{open_parts, free_is, taken_is, takes_given, waiting_is, not_free, held_inside, filled_is, freed_is, worn_is, raised_is, revalued_is, moved_is}
use Rattle.dq_core.proofs.Renewing.{worn_not_free, worn_forgotten, free_forgotten}

pub rows_length : {T : Type 0} (cells : List (CellRow T)) → length (rows_of cells) ≡ length cells
rows_length {T} cells = length-map cells (λ (c : CellRow T). c.row)

pub rows_at : {T : Type 0} (cells : List (CellRow T)) (i : ℕ) → row_at (rows_of cells) i ≡ (cell_at cells i).row
rows_at [] i = refl
rows_at (c ∷ cells) zero = refl
rows_at (c ∷ cells) (suc i) = rows_at cells i

rows_set : {T : Type 0} (cells : List (CellRow T)) (i : ℕ) (x : CellRow T) → rows_of (set cells i x) ≡ set (rows_of cells) i x.row
rows_set [] i x = refl
rows_set (c ∷ cells) zero x = refl
rows_set (c ∷ cells) (suc i) x = ap (λ rs. c.row ∷ rs) (rows_set cells i x)

-- the slots, where the slot of one cell changes
pub rows_changed : {T : Type 0} (cells : List (CellRow T)) (i : ℕ) (f : Row T → Row T) (x : CellRow T) → x.row ≡ f (cell_at cells i).row → rows_of (set cells i x) ≡ set (rows_of cells) i (f (row_at (rows_of cells) i))
rows_changed cells i f x is =
    rows_set cells i x ∙ ap (λ r. set (rows_of cells) i r) (is ∙ ap f (sym (rows_at cells i)))

-- what was read at an index is the cell there
pub read_cell : {T : Type 0} (cells : List (CellRow T)) (i : ℕ) (c : CellRow T) → i < length cells → c ≡ get_or cells i c → cell_at cells i ≡ c
read_cell cells i c inside read = get_or_default cells i unused_cell c inside ∙ sym read

held_not_worn : {T : Type 0} (last : ℕ) (r : Row T) → is_held r ≡ true → is_worn last r ≡ true → ⊥
held_not_worn last r held worn = no r.held held (and_parts _ _ worn).0
  where
    no : {A : Type 0} (o : Option A) → is_some o ≡ true → is_none o ≡ true → ⊥
    no None some none = cc
    no (Some x) some none = cc

-- where one cell changes, so may what waits there
deferred_set : {T : Type 0} {last : ℕ} {cells : List (CellRow T)} {d w : Deferred} → AreDeferred last cells d w → (i : ℕ) (x : CellRow T) (e v : Deferred) → i < length cells → ((j : ℕ) → j ≢ i → deferred_at e j ≡ deferred_at d j) → ((j : ℕ) → j ≢ i → deferred_at v j ≡ deferred_at w j) → (deferred_at e i ≡ 1 → is_some x.deferred ≡ true) → (deferred_at v i ≡ 1 → (is_some x.deferred ≡ true) × (is_worn last x.row ≡ true)) → AreDeferred last (set cells i x) e v
deferred_set {T} {last} {cells} {d} {w} a i x e v inside same_d same_w here_d here_w =
    let other : (j : ℕ) → j ≢ i → cell_at (set cells i x) j ≡ cell_at cells j = λ j ne. get_or-set_other cells i j x unused_cell ne in
    let same : cell_at (set cells i x) i ≡ x = get_or-set_same cells i x unused_cell inside in
    let there_by : (c : CellRow T) (y : CellRow T) → c ≡ y → is_some y.deferred ≡ true → is_some c.deferred ≡ true = λ c y is h. subst (λ (z : CellRow T). is_some z.deferred ≡ true) (sym is) h in
    let worn_by : (c : CellRow T) (y : CellRow T) → c ≡ y → is_worn last y.row ≡ true → is_worn last c.row ≡ true = λ c y is h. subst (λ (z : CellRow T). is_worn last z.row ≡ true) (sym is) h in
    let here : (j : ℕ) → j ≡ i → cell_at (set cells i x) j ≡ x = λ j is. ap (λ k. cell_at (set cells i x) k) is ∙ same in
    record {
      there = λ j one. ⊎_elim
          (λ is. there_by _ _ (here j is) (here_d (sym (ap (λ k. deferred_at e k) is) ∙ one)))
          (λ ne. there_by _ _ (other j ne) (a.there j (sym (same_d j ne) ∙ one)))
          (cases_eq j i);
      worn_there = λ j one. ⊎_elim
          (λ is. there_by _ _ (here j is) (here_w (sym (ap (λ k. deferred_at v k) is) ∙ one)).0)
          (λ ne. there_by _ _ (other j ne) (a.worn_there j (sym (same_w j ne) ∙ one)))
          (cases_eq j i);
      are_worn = λ j one. ⊎_elim
          (λ is. worn_by _ _ (here j is) (here_w (sym (ap (λ k. deferred_at v k) is) ∙ one)).1)
          (λ ne. worn_by _ _ (other j ne) (a.are_worn j (sym (same_w j ne) ∙ one)))
          (cases_eq j i);
    }

pub if_others : (d e : Deferred) (i : ℕ) (b : Bool) → DefersIf b d i e → (j : ℕ) → j ≢ i → deferred_at e j ≡ deferred_at d j
if_others d e i true more j ne = more.2.1 j ne
if_others d e i false same j ne = ap (λ x. deferred_at x j) same

pub if_room : (d e : Deferred) (i : ℕ) (b : Bool) → DefersIf b d i e → length e.bits ≡ length d.bits
if_room d e i true more = more.2.0
if_room d e i false same = ap (λ x. length x.bits) same

pub takes_others : (f g : FreeIndexes) (d e : Deferred) (i : ℕ) → TakesSlot f d (Some i) g e → (j : ℕ) → j ≢ i → deferred_at e j ≡ deferred_at d j
takes_others f g d e i takes j ne = ⊎_elim (λ t. ap (λ x. deferred_at x j) t.1) (λ t. t.2.4.1 j ne) takes

some_deferred : {T : Type 0} (o : Option (Held T)) (a : Option T) → is_some o ≡ true → is_some (deferred_value o a) ≡ true
some_deferred None a held = cc
some_deferred (Some h) a held = refl

kept_deferred : {T : Type 0} (o : Option (Held T)) (a : Option T) → is_some o ≡ false → deferred_value o a ≡ a
kept_deferred None a none = refl
kept_deferred (Some h) a none = cc

low_not_worn : {T : Type 0} (last : ℕ) (r : Row T) → r.stamp < last → is_worn last r ≡ true → ⊥
low_not_worn last r low worn = let p = (and_parts _ _ worn).1 in let t = lt-ltb r.stamp last low in no (ltb r.stamp last) t p
  where
    no : (b : Bool) → b ≡ true → not b ≡ true → ⊥
    no true is is_not = cc
    no false is is_not = cc

pub free_not_worn : {T : Type 0} (last : ℕ) (r : Row T) → is_free last r ≡ true → is_worn last r ≡ true → ⊥
free_not_worn last r free worn = low_not_worn last r (free_is last r free).1 worn

-- a cell where something is deferred is one of the row
pub deferred_inside : {T : Type 0} (cells : List (CellRow T)) (i : ℕ) → is_some (cell_at cells i).deferred ≡ true → i < length cells
deferred_inside [] i is = cc
deferred_inside (c ∷ cells) zero is = omega arith
deferred_inside (c ∷ cells) (suc i) is = let h = deferred_inside cells i is in omega arith

-- a slot that waits is free
pub waits_free : {T : Type 0} {last : ℕ} {rows : List (Row T)} {free : FreeIndexes} {waiting : Deferred} {taken spared : ℕ} → IsSlotRowsKept last rows free waiting taken spared → (i : ℕ) → deferred_at waiting i ≡ 1 → is_free last (row_at rows i) ≡ true
waits_free {last = last} {rows = rows} {free = free} s i waits =
    let sum = s.freed i in
    (open_parts last rows i (free_times free i) (is_open last rows i) refl (omega (arith, sum, waits))).1

-- the cells of slots in good order
module _ {T : Type 0} {last : ℕ} {cells : List (CellRow T)} {free : FreeIndexes} {waiting worn : Deferred} {taken spared : ℕ}
    (s : IsSlotRowsKept last (rows_of cells) free waiting taken spared) (a : AreDeferred last cells waiting worn) where
  held_row : (i : ℕ) → is_held (row_at (rows_of cells) i) ≡ true → is_held (cell_at cells i).row ≡ true
  held_row i held = subst (λ (r : Row T). is_held r ≡ true) (rows_at cells i) held

  pub inside_cells : (i : ℕ) → is_held (row_at (rows_of cells) i) ≡ true → i < length cells
  inside_cells i held = let inside = held_inside (rows_of cells) i held in omega (arith, inside, rows_length cells)

  row_held : (i : ℕ) → is_held (row_at (rows_of cells) i) ≡ true → is_worn last (cell_at cells i).row ≡ true → ⊥
  row_held i held w = held_not_worn last (cell_at cells i).row (held_row i held) w

  -- a slot that waits is free, and not worn
  pub waits_open : (i : ℕ) → deferred_at waiting i ≡ 1 → deferred_at worn i ≡ 1 → ⊥
  waits_open i one both = free_not_worn last (cell_at cells i).row (subst (λ (r : Row T). is_free last r ≡ true) (rows_at cells i) (waits_free s i one)) (a.are_worn i both)

  -- a cell that was filled
  module _ (rest : FreeIndexes) (ready : Deferred) (i : ℕ) (takes : TakesSlot free waiting (Some i) rest ready) where
    given : GivesSlot rest ready i free waiting
    given = takes_given free rest waiting ready i takes

    pub fill_inside : i < length cells
    fill_inside = let t = taken_is s rest ready i given in omega (arith, t.0, rows_length cells)

    pub filled_cells : (v : T) → IsSlotRowsKept last (rows_of (set cells i (filled_cell (cell_at cells i) v))) rest ready (taken + 1) (spared - 1)
    filled_cells v =
        subst (λ (rs : List (Row T)). IsSlotRowsKept last rs rest ready (taken + 1) (spared - 1))
        (sym (rows_changed cells i (λ r. filled_row r v) (filled_cell (cell_at cells i) v) refl)) (filled_is s rest ready i v given)

    pub filled_deferred : (v : T) → AreDeferred last (set cells i (filled_cell (cell_at cells i) v)) ready worn
    filled_deferred v =
        let t = taken_is s rest ready i given in
        deferred_set a i (filled_cell (cell_at cells i) v) ready worn fill_inside (takes_others free rest waiting ready i takes) (λ j ne. refl)
        (λ one. absurd (omega (arith, t.2, one)))
        (λ one. absurd (free_not_worn last (cell_at cells i).row (subst (λ (r : Row T). is_free last r ≡ true) (rows_at cells i) t.1) (a.are_worn i one)))

  -- a held cell whose value leaves it
  module _ (i : ℕ) (held : is_held (row_at (rows_of cells) i) ≡ true) where
    pub freed_cells : (x : CellRow T) → x.row ≡ vacated_row (cell_at cells i).row → (more : FreeIndexes) (ready : Deferred) → (row_at (rows_of cells) i).stamp < last → GivesSlot free waiting i more ready → IsSlotRowsKept last (rows_of (set cells i x)) more ready (taken - 1) (spared + 1)
    freed_cells x is more ready left g =
        subst (λ (rs : List (Row T)). IsSlotRowsKept last rs more ready (taken - 1) (spared + 1))
        (sym (rows_changed cells i (λ r. vacated_row r) x is)) (freed_is s more ready i held left g)

    pub worn_cells : (x : CellRow T) → x.row ≡ vacated_row (cell_at cells i).row → last ≤ (row_at (rows_of cells) i).stamp → IsSlotRowsKept last (rows_of (set cells i x)) free waiting (taken - 1) spared
    worn_cells x is over =
        subst (λ (rs : List (Row T)). IsSlotRowsKept last rs free waiting (taken - 1) spared)
        (sym (rows_changed cells i (λ r. vacated_row r) x is)) (worn_is s i held over)

    pub raised_cells : (row_at (rows_of cells) i).stamp < last → IsSlotRowsKept last (rows_of (set cells i (raised_cell (cell_at cells i)))) free waiting taken spared
    raised_cells left =
        subst (λ (rs : List (Row T)). IsSlotRowsKept last rs free waiting taken spared)
        (sym (rows_changed cells i (λ r. raised_row r) (raised_cell (cell_at cells i)) refl)) (raised_is s i held left)

    none_waits : deferred_at waiting i ≡ 1 → ⊥
    none_waits one = let n = not_free s i held in omega (arith, n.3, one)

    pub revalued_cells : (v : T) → IsSlotRowsKept last (rows_of (set cells i (revalued_cell (cell_at cells i) v))) free waiting taken spared
    revalued_cells v =
        subst (λ (rs : List (Row T)). IsSlotRowsKept last rs free waiting taken spared)
        (sym (rows_changed cells i (λ r. revalued_row r v) (revalued_cell (cell_at cells i) v) refl)) (revalued_is s i held v)

    -- nothing waits in a held cell, whatever is written there
    pub held_deferred : (x : CellRow T) → AreDeferred last (set cells i x) waiting worn
    held_deferred x =
        deferred_set a i x waiting worn (inside_cells i held) (λ j ne. refl) (λ j ne. refl)
        (λ one. absurd (none_waits one)) (λ one. absurd (row_held i held (a.are_worn i one)))

    deferred_some : is_some (deferred_cell (cell_at cells i)).deferred ≡ true
    deferred_some = some_deferred (cell_at cells i).row.held (cell_at cells i).deferred (held_row i held)

    pub more_deferred : (b : Bool) (ready : Deferred) → DefersIf b waiting i ready → AreDeferred last (set cells i (deferred_cell (cell_at cells i))) ready worn
    more_deferred b ready may =
        deferred_set a i (deferred_cell (cell_at cells i)) ready worn (inside_cells i held) (if_others waiting ready i b may) (λ j ne. refl)
        (λ one. deferred_some) (λ one. absurd (row_held i held (a.are_worn i one)))

    pub more_worn_deferred : (b : Bool) (more : Deferred) → DefersIf b worn i more → last ≤ (cell_at cells i).row.stamp → AreDeferred last (set cells i (deferred_cell (cell_at cells i))) waiting more
    more_worn_deferred b more may over =
        deferred_set a i (deferred_cell (cell_at cells i)) waiting more (inside_cells i held) (λ j ne. refl) (if_others worn more i b may)
        (λ one. deferred_some) (λ one. (deferred_some, rw (le-ltb (cell_at cells i).row.stamp last over) refl))

  -- a cell of which the value was taken out that was deferred
  module _ (i : ℕ) where
    pub rows_emptied : rows_of (set cells i (emptied_cell (cell_at cells i))) ≡ rows_of cells
    rows_emptied = rows_changed cells i (λ r. r) (emptied_cell (cell_at cells i)) refl ∙ set-get_or (rows_of cells) i unused

    pub taken_cells : (more : FreeIndexes) (ready : Deferred) → TakesDeferred waiting (Some i) ready → GivesBack free i more → IsSlotRowsKept last (rows_of (set cells i (emptied_cell (cell_at cells i)))) more ready taken spared
    taken_cells more ready t g =
        subst (λ (rs : List (Row T)). IsSlotRowsKept last rs more ready taken spared) (sym rows_emptied) (moved_is s more ready i t g)

    pub taken_deferred : (ready : Deferred) → TakesDeferred waiting (Some i) ready → AreDeferred last (set cells i (emptied_cell (cell_at cells i))) ready worn
    taken_deferred ready t =
        deferred_set a i (emptied_cell (cell_at cells i)) ready worn (deferred_inside cells i (a.there i t.1)) (λ j ne. t.4.1 j ne) (λ j ne. refl)
        (λ one. absurd (omega (arith, t.3, one))) (λ one. absurd (waits_open i t.1 one))

    pub worn_taken : IsSlotRowsKept last (rows_of (set cells i (emptied_cell (cell_at cells i)))) free waiting taken spared
    worn_taken = subst (λ (rs : List (Row T)). IsSlotRowsKept last rs free waiting taken spared) (sym rows_emptied) s

    pub worn_deferred : (more : Deferred) → TakesDeferred worn (Some i) more → AreDeferred last (set cells i (emptied_cell (cell_at cells i))) waiting more
    worn_deferred more t =
        deferred_set a i (emptied_cell (cell_at cells i)) waiting more (deferred_inside cells i (a.worn_there i t.1)) (λ j ne. refl) (λ j ne. t.4.1 j ne)
        (λ one. absurd (waits_open i one t.1)) (λ one. absurd (omega (arith, t.3, one)))

  -- a slot that waits isn't among the free ones
  pub waiting_taken : AreTaken free waiting
  waiting_taken i one = let w = waiting_is s i one in (w.1, w.2)

  -- whichever value was taken out that was deferred
  pub any_taken : (r : Option T) (left : List (CellRow T)) (g : FreeIndexes) (e v : Deferred) → TakesAny cells free waiting worn r left g e v → IsSlotRowsKept last (rows_of left) g e taken spared × AreDeferred last left e v × (rows_of left ≡ rows_of cells) × (length left ≡ length cells) × (length e.bits ≡ length waiting.bits) × (length v.bits ≡ length worn.bits)
  any_taken None left g e v t = rw (t.2, t.3, t.4, t.5) (s, a, refl, refl, refl, refl)
  any_taken (Some x) left g e v (i, inl t) =
      rw (t.0.1, t.2) (taken_cells i g e t.0.2 t.1, taken_deferred i e t.0.2, rows_emptied i, length-set cells i (emptied_cell (cell_at cells i)), t.0.2.4.0, refl)
  any_taken (Some x) left g e v (i, inr t) =
      rw (t.0.1, t.1, t.2) (worn_taken i, worn_deferred i v t.0.2, rows_emptied i, length-set cells i (emptied_cell (cell_at cells i)), refl, t.0.2.4.0)

  -- a cell that is as if it had never been used, but for what is deferred
  module _ (i : ℕ) (inside : i < length cells) (none : is_held (row_at (rows_of cells) i) ≡ false) where
    rows_inside : i < length (rows_of cells)
    rows_inside = omega (arith, inside, rows_length cells)

    pub kept : (forgotten_cell (cell_at cells i)).deferred ≡ (cell_at cells i).deferred
    kept = kept_deferred (cell_at cells i).row.held (cell_at cells i).deferred (subst (λ (r : Row T). is_held r ≡ false) (rows_at cells i) none)

    pub forgotten_worn : (more : FreeIndexes) (ready : Deferred) → last ≤ (row_at (rows_of cells) i).stamp → GivesSlot free waiting i more ready → IsSlotRowsKept last (rows_of (set cells i (forgotten_cell (cell_at cells i)))) more ready taken (spared + 1)
    forgotten_worn more ready over g =
        subst (λ (rs : List (Row T)). IsSlotRowsKept last rs more ready taken (spared + 1))
        (sym (rows_changed cells i (λ r. unused) (forgotten_cell (cell_at cells i)) refl)) (worn_forgotten s more ready i rows_inside none over g)

    pub forgotten_free : (row_at (rows_of cells) i).stamp < last → IsSlotRowsKept last (rows_of (set cells i (forgotten_cell (cell_at cells i)))) free waiting taken spared
    forgotten_free left =
        subst (λ (rs : List (Row T)). IsSlotRowsKept last rs free waiting taken spared)
        (sym (rows_changed cells i (λ r. unused) (forgotten_cell (cell_at cells i)) refl)) (free_forgotten s i rows_inside none left)

    pub forgotten_deferred : (ready less : Deferred) (waits : Bool) → (waits ≡ true → deferred_at worn i ≡ 1) → last ≤ (row_at (rows_of cells) i).stamp → DefersIf waits waiting i ready → Undefers worn i less → AreDeferred last (set cells i (forgotten_cell (cell_at cells i))) ready less
    forgotten_deferred ready less waits waited over defers removed =
        deferred_set a i (forgotten_cell (cell_at cells i)) ready less inside (if_others waiting ready i waits defers) (λ j ne. removed.2.1 j ne)
        (λ one. rw kept (there waits waited defers one)) (λ one. absurd (omega (arith, removed.0, one)))
      where
        there : (b : Bool) → (b ≡ true → deferred_at worn i ≡ 1) → DefersIf b waiting i ready → deferred_at ready i ≡ 1 → is_some (cell_at cells i).deferred ≡ true
        there true was d one = a.worn_there i (was refl)
        there false was d one =
            let n = worn_not_free s i rows_inside over in
            let same = ap (λ x. deferred_at x i) d in
            absurd (omega (arith, n.3, one, same))

    pub still_deferred : (row_at (rows_of cells) i).stamp < last → AreDeferred last (set cells i (forgotten_cell (cell_at cells i))) waiting worn
    still_deferred left =
        let low : (cell_at cells i).row.stamp < last = subst (λ (r : Row T). r.stamp < last) (rows_at cells i) left in
        deferred_set a i (forgotten_cell (cell_at cells i)) waiting worn inside (λ j ne. refl) (λ j ne. refl)
        (λ one. rw kept (a.there i one))
        (λ one. absurd (low_not_worn last (cell_at cells i).row low (a.are_worn i one)))

-- where none waits, whatever the cells are
pub none_deferred : {T : Type 0} (last : ℕ) (cells : List (CellRow T)) (d w : Deferred) → ((i : ℕ) → deferred_at d i ≡ 0) → ((i : ℕ) → deferred_at w i ≡ 0) → AreDeferred last cells d w
none_deferred last cells d w none_d none_w = record {
  there = λ i one. absurd (omega (arith, none_d i, one));
  worn_there = λ i one. absurd (omega (arith, none_w i, one));
  are_worn = λ i one. absurd (omega (arith, none_w i, one));
}

pub rows_replicate : {T : Type 0} (n : ℕ) → rows_of (replicate n (unused_cell {T = T})) ≡ replicate n unused
rows_replicate zero = refl
rows_replicate {T} (suc n) = ap (λ (rs : List (Row T)). unused ∷ rs) (rows_replicate n)

-- slots of a last stamp
abbrev pub slots_of : {T : Type 0} → ℕ → List (Row T) → SlotRows T
slots_of last rows = record { last_stamp = last; rows = rows }
