-- What calls defer, one after the other.
use Rattle.std.proofs.Common.{◌≡◌, ◌≢◌, ℕ, ◌<◌, Bool, true, List, length, set, Option, Some, None, is_some, refl, sym, ap, ◌∙◌, subst, inl, inr, ⊎_elim}
use Rattle.std.proofs.lemmas.List.{get_or-set_same, get_or-set_other}
use Rattle.std.proofs.lemmas.Bool.{cases_eq}
use Rattle.dq_core.specs.declared.slots.Held.{Held}
use Rattle.dq_core.specs.Slots.{Row, DeferredValues, unused, row_at, vacated_row}
use Rattle.dq_core.specs.Cells.{CellRow, unused_cell, rows_of, cell_at, deferred_value, deferred_cell}
use Rattle.dq_core.specs.Deferring.{deferred_value_at, IsDeferredAt, IsOutBeside, DefersValuesBut}
use Rattle.dq_core.proofs.SlotRows.{held_inside}
use Rattle.dq_core.proofs.CellRows.{rows_at}
use Rattle.dq_core.proofs.DeferredCells.{deferred_in, values_at}

-- nothing changes
pub stays : {T : Type 0} (rows : List (Row T)) (a : DeferredValues T) → DefersValuesBut rows a None rows a
stays rows a = record { drops = refl; others = λ i ne. inl (refl, refl); came = λ i e. cc }

pub stays_as : {T : Type 0} (rows rows' : List (Row T)) (a b : DeferredValues T) → rows' ≡ rows → b ≡ a → DefersValuesBut rows a None rows' b
stays_as rows rows' a b er eb = rw (er, eb) (stays rows a)

none_or : {A : Type 0} (o : Option A) (x : A) (P : Type 0) → o ≡ None → o ≡ Some x → P
none_or None x P none some = cc
none_or (Some y) x P none some = cc

deferred_then : {T : Type 0} (r s t : Row T) (a b c : Option T) → IsDeferredAt r a s b → IsDeferredAt s b t c → IsDeferredAt r a t c
deferred_then r s t a b c first second =
    ⊎_elim
    (λ same. ⊎_elim
    (λ again. inl (again.0 ∙ same.0, again.1 ∙ same.1))
    (λ gone. inr (gone.0, sym same.0 ∙ gone.1, gone.2, gone.3))
    second)
    (λ gone. ⊎_elim
    (λ again. inr (gone.0, gone.1, again.0 ∙ gone.2, again.1 ∙ gone.3))
    (λ twice. none_or s.held twice.0 _ gone.2 twice.1)
    second)
    first

came_then : {T : Type 0} (r s t : Row T) (a b c : Option T) → IsDeferredAt r a s b → IsOutBeside s b t c → IsOutBeside r a t c
came_then r s t a b c first out =
    ⊎_elim
    (λ same. (out.0, sym same.0 ∙ out.1, out.2, out.3 ∙ same.1))
    (λ gone. none_or s.held out.0 _ gone.2 out.1)
    first

-- what a call defers before another
pub sets_then : {T : Type 0} {rows rows' rows'' : List (Row T)} {a b c : DeferredValues T} {out : Option ℕ} → DefersValuesBut rows a None rows' b → DefersValuesBut rows' b out rows'' c → DefersValuesBut rows a out rows'' c
sets_then {T} {rows} {rows'} {rows''} {a} {b} {c} {out} first second =
    let before : (i : ℕ) → IsDeferredAt (row_at rows i) (deferred_value_at a i) (row_at rows' i) (deferred_value_at b i) = λ i. first.others i (λ e. cc) in
    record {
      drops = second.drops ∙ first.drops;
      others = λ i ne. deferred_then (row_at rows i) (row_at rows' i) (row_at rows'' i) (deferred_value_at a i) (deferred_value_at b i) (deferred_value_at c i) (before i) (second.others i ne);
      came = λ i e. came_then (row_at rows i) (row_at rows' i) (row_at rows'' i) (deferred_value_at a i) (deferred_value_at b i) (deferred_value_at c i) (before i) (second.came i e);
    }

abbrev number : Option ℕ → ℕ
number None = 0
number (Some x) = x

module _ {T : Type 0} (drops : Bool) (cells : List (CellRow T)) (i : ℕ) (x : CellRow T) (inside : i < length cells) where
  there : cell_at (set cells i x) i ≡ x
  there = get_or-set_same cells i x unused_cell inside

  elsewhere : (j : ℕ) → j ≢ i → cell_at (set cells i x) j ≡ cell_at cells j
  elsewhere j ne = get_or-set_other cells i j x unused_cell ne

  other_row : (j : ℕ) → j ≢ i → row_at (rows_of (set cells i x)) j ≡ row_at (rows_of cells) j
  other_row j ne = rows_at (set cells i x) j ∙ ap (λ (c : CellRow T). c.row) (elsewhere j ne) ∙ sym (rows_at cells j)

  other_deferred : (j : ℕ) → j ≢ i → deferred_value_at (deferred_in drops (set cells i x)) j ≡ deferred_value_at (deferred_in drops cells) j
  other_deferred j ne = values_at (set cells i x) j ∙ ap (λ (c : CellRow T). c.deferred) (elsewhere j ne) ∙ sym (values_at cells j)

  this_row : row_at (rows_of (set cells i x)) i ≡ x.row
  this_row = rows_at (set cells i x) i ∙ ap (λ (c : CellRow T). c.row) there

  this_deferred : deferred_value_at (deferred_in drops (set cells i x)) i ≡ x.deferred
  this_deferred = values_at (set cells i x) i ∙ ap (λ (c : CellRow T). c.deferred) there

  -- the value of one slot is deferred there
  pub sets_one : (h : Held T) → (row_at (rows_of cells) i).held ≡ Some h → x.row.held ≡ None → x.deferred ≡ Some h.value → DefersValuesBut (rows_of cells) (deferred_in drops cells) None (rows_of (set cells i x)) (deferred_in drops (set cells i x))
  sets_one h held none is = record {
    drops = refl;
    others = λ j ne. ⊎_elim
        (λ (e : j ≡ i). subst (λ k. IsDeferredAt (row_at (rows_of cells) k) (deferred_value_at (deferred_in drops cells) k) (row_at (rows_of (set cells i x)) k) (deferred_value_at (deferred_in drops (set cells i x)) k)) (sym e)
        (inr (h, held, ap (λ (r : Row T). r.held) this_row ∙ none, this_deferred ∙ is)))
        (λ (d : j ≢ i). inl (ap (λ (r : Row T). r.held) (other_row j d), other_deferred j d))
        (cases_eq j i);
    came = λ j e. cc;
  }

-- the value of one slot came out
pub comes_out : {T : Type 0} (rows rows' : List (Row T)) (a b : DeferredValues T) (i : ℕ) (h : Held T) → (row_at rows i).held ≡ Some h → rows' ≡ set rows i (vacated_row (row_at rows i)) → b ≡ a → DefersValuesBut rows a (Some i) rows' b
comes_out {T} rows rows' a b i h held er eb =
    let inside = held_inside rows i (ap is_some held) in
    rw (er, eb)
    (record {
      drops = refl;
      others = λ j ne. let d : j ≢ i = λ e. ne (ap (λ k. Some k) (sym e)) in inl (ap (λ (r : Row T). r.held) (get_or-set_other rows i j (vacated_row (row_at rows i)) unused d), refl);
      came = λ j e.
          subst (λ k. IsOutBeside (row_at rows k) (deferred_value_at a k) (row_at (set rows i (vacated_row (row_at rows i))) k) (deferred_value_at a k)) (ap number e)
          (h, held, ap (λ (r : Row T). r.held) (get_or-set_same rows i (vacated_row (row_at rows i)) unused inside), refl);
    })

pub some_held : {A : Type 0} (o : Option A) → is_some o ≡ true → (x : A) × (o ≡ Some x)
some_held None some = cc
some_held (Some x) some = (x, refl)

-- what is deferred where a cell holds nothing any more
pub deferred_of_held : {T : Type 0} (c : CellRow T) (h : Held T) → c.row.held ≡ Some h → (deferred_cell c).deferred ≡ Some h.value
deferred_of_held {T} c h held = ap (λ (o : Option (Held T)). deferred_value o c.deferred) held
