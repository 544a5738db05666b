-- A change at one slot: what it leaves of the slots and of their counts.
use Rattle.std.proofs.Common.{◌≡◌, ◌≢◌, ℕ, ◌+◌, ◌<◌, Bool, true, false, cond, ◌&&◌, nat_lt, List, length, get_or, set, Option, Some, None, is_some, is_none, refl, sym, ap, subst, inl, inr, arith}
use Rattle.std.specs.List.{count_by, sum_by}
use Rattle.std.proofs.lemmas.List.{length-set, get_or-set_other, get_or_past}
use Rattle.std.proofs.lemmas.List.Sums.{sum_by-set}
use Rattle.std.proofs.lemmas.Bool.{and_parts, ltb-true, cases_eq, false≢true, cases_lt}
use Rattle.dq_ticks.specs.declared.words.Parts.{Parts}
use Rattle.dq_core.specs.declared.slots.Held.{Held}
use Rattle.dq_core.specs.Words.{word_at, never}
use Rattle.dq_core.specs.Slots.{Row, unused, row_at, is_held, is_free}
use Rattle.dq_core.specs.Core.{IsSlot, AreSlots}

-- the lists differ at one place at most
pub record Changed {A : Type 0} (xs ys : List A) (i : ℕ) (d : A) : Type 0 where
  pub size : length ys ≡ length xs
  pub other : (j : ℕ) → j ≢ i → get_or ys j d ≡ get_or xs j d

pub changed_same : {A : Type 0} (xs : List A) (i : ℕ) (d : A) → Changed xs xs i d
changed_same xs i d = record { size = refl; other = λ j ne. refl }

pub changed_set : {A : Type 0} (xs : List A) (i : ℕ) (a d : A) → Changed xs (set xs i a) i d
changed_set xs i a d = record { size = length-set xs i a; other = λ j ne. get_or-set_other xs i j a d ne }

-- the slots, where one slot changes
pub slots_change : {T : Type 0} (tick noted last : ℕ) (rows rows' : List (Row T)) (known known' : List Parts) (filed filed' : List (Option ℕ)) (i : ℕ) → AreSlots tick noted last rows known filed → Changed rows rows' i unused → Changed known known' i never → Changed filed filed' i None → IsSlot tick noted last (row_at rows' i) (word_at known' i) (get_or filed' i None) → AreSlots tick noted last rows' known' filed'
slots_change tick noted last rows rows' known known' filed filed' i old cr ck cf new j inside =
    elim (cases_eq j i) [
      | inl same ↦
          let P : ℕ → Type 0 = λ k. IsSlot tick noted last (row_at rows' k) (word_at known' k) (get_or filed' k None) in
          subst P (sym same) new
      | inr ne ↦
          let size = cr.size in
          let still : j < length rows = omega arith in
          let P : Row _ → Type 0 = λ r. IsSlot tick noted last r (word_at known' j) (get_or filed' j None) in
          let Q : Parts → Type 0 = λ w. IsSlot tick noted last (row_at rows j) w (get_or filed' j None) in
          let R : Option ℕ → Type 0 = λ f. IsSlot tick noted last (row_at rows j) (word_at known j) f in
          subst P (sym (cr.other j ne)) (subst Q (sym (ck.other j ne)) (subst R (sym (cf.other j ne)) (old j still)))
    ]

free_by : {T : Type 0} (last stamp : ℕ) (o : Option (Held T)) → (is_none o && nat_lt stamp last) ≡ true → (o ≡ None) × (stamp < last)
free_by last stamp None h = (refl, ltb-true stamp last (and_parts true (nat_lt stamp last) h).1)
free_by last stamp (Some x) h = absurd (false≢true (and_parts false (nat_lt stamp last) h).0)

-- what a free slot is
pub free_is : {T : Type 0} (last : ℕ) (r : Row T) → is_free last r ≡ true → (r.held ≡ None) × (r.stamp < last)
free_is last r h = free_by last r.stamp r.held h

held_by : {T : Type 0} (o : Option (Held T)) → is_some o ≡ true → (h : Held T) × (o ≡ Some h)
held_by None e = absurd (false≢true e)
held_by (Some h) e = (h, refl)

-- what a held slot is
pub held_is : {T : Type 0} (r : Row T) → is_held r ≡ true → (h : Held T) × (r.held ≡ Some h)
held_is r e = held_by r.held e

-- how a count of slots changes at a write
pub count_set : {T : Type 0} (p : Row T → Bool) (rows : List (Row T)) (i : ℕ) (r : Row T) → i < length rows → count_by p (set rows i r) + cond (p (row_at rows i)) 1 0 ≡ count_by p rows + cond (p r) 1 0
count_set p rows i r inside = sum_by-set (λ x. cond (p x) 1 0) rows i r unused inside

-- how the sum of the stamps changes at a write
pub stamps_set : {T : Type 0} (rows : List (Row T)) (i : ℕ) (r : Row T) → i < length rows → sum_by (λ x. x.stamp) (set rows i r) + (row_at rows i).stamp ≡ sum_by (λ x. x.stamp) rows + r.stamp
stamps_set rows i r inside = sum_by-set (λ x. x.stamp) rows i r unused inside

-- what a test adds to a count
abbrev pub one : Bool → ℕ
one b = cond b 1 0

-- a slot that is held counts once, and one that isn't doesn't
pub one_held : {T : Type 0} (o : Option (Held T)) (h : Held T) → o ≡ Some h → one (is_some o) ≡ 1
one_held o h e = ap (λ x. one (is_some x)) e

pub none_held : {T : Type 0} (o : Option (Held T)) → o ≡ None → one (is_some o) ≡ 0
none_held o e = ap (λ x. one (is_some x)) e

-- a slot that holds something is one of the row
pub held_inside : {T : Type 0} (rows : List (Row T)) (i : ℕ) (h : Held T) → (row_at rows i).held ≡ Some h → i < length rows
held_inside rows i h e =
    elim (cases_lt i (length rows)) [
      | inl inside ↦ inside
      | inr past ↦
          let gone : (row_at rows i).held ≡ None = ap (λ r. r.held) (get_or_past rows i unused past) in
          cc
    ]
