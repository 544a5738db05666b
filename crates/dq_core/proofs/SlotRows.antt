use Rattle.std.proofs.Common.{◌≡◌, ◌≢◌, ℕ, ◌+◌, ◌-◌, ◌*◌, ◌<◌, ◌≤◌, zero, suc, Bool, true, false, cond, not, ◌&&◌, ltb, replicate, List, [], ◌∷◌, length, get_or, set, Option, Some, None, is_some, is_none, refl, sym, ◌∙◌, ap, subst, ⊎_elim, arith}
use Rattle.std.specs.List.{count_by}
use Rattle.std.proofs.lemmas.List.{get_or-set_same, get_or-set_other, length-set, get_or_default, length-replicate, get_or-replicate, get_or_past}
use Rattle.std.proofs.lemmas.List.Sums.{sum_by-set, sum_by-cons, sum_by-le}
use Rattle.std.proofs.lemmas.List.Elements.{All-set, All-get_or, All-replicate, All-from_get_or}
use Rattle.std.proofs.lemmas.Bool.{and_parts, and_left, and_right, cases_eq, cases_lt, lt-ltb, le-ltb, ltb-true}
use Rattle.dq_core.specs.declared.slots.Held.{Held}
use Rattle.dq_ticks.specs.declared.TheConstants.{CAPACITY_LIMIT, LAST_STAMP}
use Rattle.dq_core.specs.Slots.{Row, SlotRows, unused, row_at, is_held, is_free, is_worn, IsRow, IsSlotRows, filled_row, vacated_row, raised_row}
use Rattle.dq_core.specs.Values.{held_with, revalued_row}
use Rattle.dq_core.specs.FreeSlots.{FreeIndexes, free_times, room_of, GivesBack}
use Rattle.dq_core.specs.Deferred.{Deferred, deferred_at, Defers, TakesDeferred}
use Rattle.dq_core.specs.SlotRowsKept.{is_open, usable_times, GivesSlot, TakesSlot, IsSlotRowsKept}

-- one where the test holds
abbrev one : Bool → ℕ
one b = cond b 1 0

-- how a count changes at a write
pub count_set : {T : Type 0} (p : Row T → Bool) (rows : List (Row T)) (i : ℕ) (r : Row T) → i < length rows → count_by p (set rows i r) + one (p (row_at rows i)) ≡ count_by p rows + one (p r)
count_set p rows i r inside = sum_by-set (λ x. cond (p x) 1 0) rows i r unused inside

-- of the three tests exactly one passes
one_of_three : (held left : Bool) → one (not held && left) + one (not held && not left) + one held ≡ 1
one_of_three true left = refl
one_of_three false true = refl
one_of_three false false = refl

held_or_none : {A : Type 0} (o : Option A) → is_none o ≡ not (is_some o)
held_or_none None = refl
held_or_none (Some x) = refl

row_is_one : {T : Type 0} (last : ℕ) (r : Row T) → one (is_free last r) + one (is_worn last r) + one (is_held r) ≡ 1
row_is_one last r =
    let P : Bool → Type 0 = λ none. one (none && ltb r.stamp last) + one (none && not (ltb r.stamp last)) + one (is_some r.held) ≡ 1 in
    subst P (sym (held_or_none r.held)) (one_of_three (is_some r.held) (ltb r.stamp last))

-- each slot is free, worn or held
pub parted : {T : Type 0} (last : ℕ) (rows : List (Row T)) → count_by (is_free last) rows + count_by (is_worn last) rows + count_by is_held rows ≡ length rows
parted last [] = refl
parted last (r ∷ rows) =
    omega (arith, parted last rows, row_is_one last r, sum_by-cons (λ x. one (is_free last x)) r rows, sum_by-cons (λ x. one (is_worn last x)) r rows, sum_by-cons (λ x. one (is_held x)) r rows)

pub open_parts : {T : Type 0} (last : ℕ) (rows : List (Row T)) (i n : ℕ) (b : Bool) → is_open last rows i ≡ b → n + 1 ≡ one b → (i < length rows) × (is_free last (row_at rows i) ≡ true) × (n ≡ 0)
open_parts last rows i n true is e = let p = and_parts _ _ is in (ltb-true _ _ (p.0), p.1, omega arith)
open_parts last rows i n false is e = absurd (omega arith)

-- the index that was taken is that of a free slot, and is free no more
pub taken_is : {T : Type 0} {last : ℕ} {rows : List (Row T)} {free : FreeIndexes} {waiting : Deferred} {taken spared : ℕ} → IsSlotRowsKept last rows free waiting taken spared → (rest : FreeIndexes) (ready : Deferred) (i : ℕ) → GivesSlot rest ready i free waiting → (i < length rows) × (is_free last (row_at rows i) ≡ true) × (usable_times rest ready i ≡ 0)
taken_is {last = last} {rows = rows} s rest ready i g =
    open_parts last rows i (usable_times rest ready i) (is_open last rows i) refl (sym g.one_more ∙ s.freed i)

pub open_other : {T : Type 0} (last : ℕ) (rows : List (Row T)) (i : ℕ) (r : Row T) (j : ℕ) → j ≢ i → is_open last (set rows i r) j ≡ is_open last rows j
open_other last rows i r j ne = rw (length-set rows i r, get_or-set_other rows i j r unused ne)

pub open_same : {T : Type 0} (last : ℕ) (rows : List (Row T)) (i : ℕ) (r : Row T) → i < length rows → is_open last (set rows i r) i ≡ is_free last r
open_same last rows i r inside =
    rw (length-set rows i r, get_or-set_same rows i r unused inside, lt-ltb i (length rows) inside)

none_is : {A : Type 0} (o : Option A) → is_none o ≡ true → o ≡ None
none_is None e = refl
none_is (Some x) e = cc

-- what a free slot is
pub free_is : {T : Type 0} (last : ℕ) (r : Row T) → is_free last r ≡ true → (r.held ≡ None) × (r.stamp < last)
free_is last r is = let p = and_parts _ _ is in (none_is r.held p.0, ltb-true _ _ p.1)

some_is : {A : Type 0} (o : Option A) → is_some o ≡ true → (x : A) × (o ≡ Some x)
some_is None e = cc
some_is (Some x) e = (x, refl)

-- what a held slot is
pub held_is : {T : Type 0} (r : Row T) → is_held r ≡ true → (h : Held T) × (r.held ≡ Some h)
held_is r is = some_is r.held is

some_not_none : {A : Type 0} (o : Option A) → is_some o ≡ true → is_none o ≡ false
some_not_none None e = cc
some_not_none (Some x) e = refl

held_not_free : {T : Type 0} (last : ℕ) (r : Row T) → is_held r ≡ true → is_free last r ≡ false
held_not_free last r is = and_left _ _ (some_not_none r.held is)

-- a held slot is one of the row
pub held_inside : {T : Type 0} (rows : List (Row T)) (i : ℕ) → is_held (row_at rows i) ≡ true → i < length rows
held_inside [] i is = cc
held_inside (r ∷ rows) zero is = omega arith
held_inside (r ∷ rows) (suc i) is = let h = held_inside rows i is in omega arith

-- the slot at an index of the row is in good order
pub row_is : {T : Type 0} {s : SlotRows T} → IsSlotRows s → (i : ℕ) → i < length s.rows → IsRow s.last_stamp (row_at s.rows i)
row_is {s = s} g i inside = All-get_or (IsRow s.last_stamp) s.rows i unused inside g.each

-- a row stays in good order where one slot changes to one in good order
pub slot_rows_set : {T : Type 0} {last : ℕ} {rows : List (Row T)} → IsSlotRows (record { last_stamp = last; rows = rows }) → (i : ℕ) (r : Row T) → IsRow last r → IsSlotRows (record { last_stamp = last; rows = set rows i r })
slot_rows_set {last = last} {rows = rows} g i r good =
    record { used = g.used; bound = g.bound; size = rw (length-set rows i r) g.size; each = All-set (IsRow last) rows i r good g.each }

filled_good : {T : Type 0} (last : ℕ) (r : Row T) (v : T) → r.stamp < last → IsRow last (filled_row r v)
filled_good last r v left =
    record { bound = omega arith; birth = λ h e. let b : h.born ≡ r.stamp + 1 = sym (ap born_of e) in (omega arith, omega arith) }
  where
    born_of : {T : Type 0} → Option (Held T) → ℕ
    born_of None = 0
    born_of (Some h) = h.born

-- after a free slot was filled
pub filled_is : {T : Type 0} {last : ℕ} {rows : List (Row T)} {free : FreeIndexes} {waiting : Deferred} {taken spared : ℕ} → IsSlotRowsKept last rows free waiting taken spared → (rest : FreeIndexes) (ready : Deferred) (i : ℕ) (v : T) → GivesSlot rest ready i free waiting → IsSlotRowsKept last (set rows i (filled_row (row_at rows i) v)) rest ready (taken + 1) (spared - 1)
filled_is {T = T} {last = last} {rows = rows} {free = free} {waiting = waiting} {taken = taken} s rest ready i v g =
    let t = taken_is s rest ready i g in
    let r : Row T = row_at rows i in
    let f = free_is last r t.1 in
    let frees = count_set (is_free last) rows i (filled_row r v) t.0 in
    let helds = count_set is_held rows i (filled_row r v) t.0 in
    let was_free : one (is_free last r) ≡ 1 = ap one t.1 in
    let was_held : one (is_held r) ≡ 0 = ap (λ o. one (is_some o)) f.0 in
    record {
      slots = slot_rows_set s.slots i (filled_row r v) (filled_good last r v f.1);
      freed = λ j. ⊎_elim
          (λ same. subst (λ k. usable_times rest ready k ≡ one (is_open last (set rows i (filled_row r v)) k)) (sym same) (t.2 ∙ sym (ap one (open_same last rows i (filled_row r v) t.0))))
          (λ ne. sym (g.others j ne) ∙ s.freed j ∙ sym (ap one (open_other last rows i (filled_row r v) j ne)))
          (cases_eq j i);
      spare = let k = s.spare in omega arith;
      counted = let k = s.counted in omega arith;
      room = let k = s.room in let l = g.room in rw (length-set rows i (filled_row r v)) (omega arith);
    }

-- where a slot is held, another write that leaves it held changes neither the free indexes nor the counts
pub rewritten_is : {T : Type 0} {last : ℕ} {rows : List (Row T)} {free : FreeIndexes} {waiting : Deferred} {taken spared : ℕ} → IsSlotRowsKept last rows free waiting taken spared → (i : ℕ) → is_held (row_at rows i) ≡ true → (w : Row T) → is_held w ≡ true → IsRow last w → IsSlotRowsKept last (set rows i w) free waiting taken spared
rewritten_is {T = T} {last = last} {rows = rows} {free = free} {waiting = waiting} {taken = taken} s i held w still good =
    let inside = held_inside rows i held in
    let r : Row T = row_at rows i in
    let frees = count_set (is_free last) rows i w inside in
    let helds = count_set is_held rows i w inside in
    let was_free : one (is_free last r) ≡ 0 = ap one (held_not_free last r held) in
    let now_free : one (is_free last w) ≡ 0 = ap one (held_not_free last w still) in
    let was_held : one (is_held r) ≡ 1 = ap one held in
    let now_held : one (is_held w) ≡ 1 = ap one still in
    record {
      slots = slot_rows_set s.slots i w good;
      freed = λ j. ⊎_elim
          (λ same. subst (λ k. usable_times free waiting k ≡ one (is_open last (set rows i w) k)) (sym same) (s.freed i ∙ ap one (and_right (ltb i (length rows)) _ (held_not_free last r held)) ∙ sym now_free ∙ sym (ap one (open_same last rows i w inside))))
          (λ ne. s.freed j ∙ sym (ap one (open_other last rows i w j ne)))
          (cases_eq j i);
      spare = let k = s.spare in omega arith;
      counted = let k = s.counted in omega arith;
      room = rw (length-set rows i w) s.room;
    }

pub raised_is : {T : Type 0} {last : ℕ} {rows : List (Row T)} {free : FreeIndexes} {waiting : Deferred} {taken spared : ℕ} → IsSlotRowsKept last rows free waiting taken spared → (i : ℕ) → is_held (row_at rows i) ≡ true → (row_at rows i).stamp < last → IsSlotRowsKept last (set rows i (raised_row (row_at rows i))) free waiting taken spared
raised_is {rows = rows} s i held left =
    let good = row_is s.slots i (held_inside rows i held) in
    rewritten_is s i held (raised_row (row_at rows i)) held (record { bound = omega arith; birth = λ h e. let b = good.birth h e in (b.0, omega arith) })

-- what is held with another value is held still, under the same birth stamp
pub still_held : {T : Type 0} (o : Option (Held T)) (v : T) → is_some (held_with o v) ≡ is_some o
still_held None v = refl
still_held (Some h) v = refl

held_born : {T : Type 0} (o : Option (Held T)) (v : T) (h : Held T) → held_with o v ≡ Some h → (k : Held T) × (o ≡ Some k) × (k.born ≡ h.born)
held_born None v h e = cc
held_born {T} (Some k) v h e = (k, refl, ap (born_or k) e)
  where
    born_or : {T : Type 0} → Held T → Option (Held T) → ℕ
    born_or k None = k.born
    born_or k (Some h) = h.born

pub revalued_is : {T : Type 0} {last : ℕ} {rows : List (Row T)} {free : FreeIndexes} {waiting : Deferred} {taken spared : ℕ} → IsSlotRowsKept last rows free waiting taken spared → (i : ℕ) → is_held (row_at rows i) ≡ true → (v : T) → IsSlotRowsKept last (set rows i (revalued_row (row_at rows i) v)) free waiting taken spared
revalued_is {T = T} {last = last} {rows = rows} s i held v =
    let r : Row T = row_at rows i in
    let good = row_is s.slots i (held_inside rows i held) in
    rewritten_is s i held (revalued_row r v) (still_held r.held v ∙ held)
    (record { bound = good.bound; birth = λ h e. let k = held_born r.held v h e in let b = good.birth k.0 k.1 in let same = k.2 in (omega (arith, b.0, same), omega (arith, b.1, same)) })

-- an index whose slot is held has its bit, and is not free
pub not_free : {T : Type 0} {last : ℕ} {rows : List (Row T)} {free : FreeIndexes} {waiting : Deferred} {taken spared : ℕ} → IsSlotRowsKept last rows free waiting taken spared → (i : ℕ) → is_held (row_at rows i) ≡ true → (i < room_of free) × (usable_times free waiting i ≡ 0) × (free_times free i ≡ 0) × (deferred_at waiting i ≡ 0)
not_free {last = last} {rows = rows} s i held =
    let inside = held_inside rows i held in
    let k = s.room in
    let none = s.freed i ∙ ap one (and_right (ltb i (length rows)) _ (held_not_free last (row_at rows i) held)) in
    (omega arith, none, omega (arith, none), omega (arith, none))

vacated_good : {T : Type 0} (last : ℕ) (r : Row T) → IsRow last r → IsRow last (vacated_row r)
vacated_good last r good = record { bound = good.bound; birth = λ h e. cc }

-- a held slot that is vacated at the last stamp is worn
pub worn_is : {T : Type 0} {last : ℕ} {rows : List (Row T)} {free : FreeIndexes} {waiting : Deferred} {taken spared : ℕ} → IsSlotRowsKept last rows free waiting taken spared → (i : ℕ) → is_held (row_at rows i) ≡ true → last ≤ (row_at rows i).stamp → IsSlotRowsKept last (set rows i (vacated_row (row_at rows i))) free waiting (taken - 1) spared
worn_is {T = T} {last = last} {rows = rows} {free = free} {waiting = waiting} {taken = taken} s i held over =
    let inside = held_inside rows i held in
    let r : Row T = row_at rows i in
    let frees = count_set (is_free last) rows i (vacated_row r) inside in
    let helds = count_set is_held rows i (vacated_row r) inside in
    let was_free : one (is_free last r) ≡ 0 = ap one (held_not_free last r held) in
    let was_held : one (is_held r) ≡ 1 = ap one held in
    let now_free : one (is_free last (vacated_row r)) ≡ 0 = ap one (le-ltb r.stamp last over) in
    record {
      slots = slot_rows_set s.slots i (vacated_row r) (vacated_good last r (row_is s.slots i inside));
      freed = λ j. ⊎_elim
          (λ same. subst (λ k. usable_times free waiting k ≡ one (is_open last (set rows i (vacated_row r)) k)) (sym same) (s.freed i ∙ ap one (and_right (ltb i (length rows)) _ (held_not_free last r held)) ∙ sym now_free ∙ sym (ap one (open_same last rows i (vacated_row r) inside))))
          (λ ne. s.freed j ∙ sym (ap one (open_other last rows i (vacated_row r) j ne)))
          (cases_eq j i);
      spare = let k = s.spare in omega arith;
      counted = let k = s.counted in omega arith;
      room = rw (length-set rows i (vacated_row r)) s.room;
    }

-- a held slot that is vacated below the last stamp is free
pub freed_is : {T : Type 0} {last : ℕ} {rows : List (Row T)} {free : FreeIndexes} {waiting : Deferred} {taken spared : ℕ} → IsSlotRowsKept last rows free waiting taken spared → (more : FreeIndexes) (deferred : Deferred) (i : ℕ) → is_held (row_at rows i) ≡ true → (row_at rows i).stamp < last → GivesSlot free waiting i more deferred → IsSlotRowsKept last (set rows i (vacated_row (row_at rows i))) more deferred (taken - 1) (spared + 1)
freed_is {T = T} {last = last} {rows = rows} {free = free} {waiting = waiting} {taken = taken} s more deferred i held left g =
    let inside = held_inside rows i held in
    let r : Row T = row_at rows i in
    let frees = count_set (is_free last) rows i (vacated_row r) inside in
    let helds = count_set is_held rows i (vacated_row r) inside in
    let was_free : one (is_free last r) ≡ 0 = ap one (held_not_free last r held) in
    let was_held : one (is_held r) ≡ 1 = ap one held in
    let now_free : one (is_free last (vacated_row r)) ≡ 1 = ap one (lt-ltb r.stamp last left) in
    let before = not_free s i held in
    record {
      slots = slot_rows_set s.slots i (vacated_row r) (vacated_good last r (row_is s.slots i inside));
      freed = λ j. ⊎_elim
          (λ same. subst (λ k. usable_times more deferred k ≡ one (is_open last (set rows i (vacated_row r)) k)) (sym same) (g.one_more ∙ ap (λ n. n + 1) before.1 ∙ sym now_free ∙ sym (ap one (open_same last rows i (vacated_row r) inside))))
          (λ ne. g.others j ne ∙ s.freed j ∙ sym (ap one (open_other last rows i (vacated_row r) j ne)))
          (cases_eq j i);
      spare = let k = s.spare in omega arith;
      counted = let k = s.counted in omega arith;
      room = let k = s.room in let l = g.room in rw (length-set rows i (vacated_row r)) (omega arith);
    }

-- where no index is free, no slot is
pub none_open : {T : Type 0} {last : ℕ} {rows : List (Row T)} {free : FreeIndexes} {waiting : Deferred} {taken spared : ℕ} → IsSlotRowsKept last rows free waiting taken spared → ((i : ℕ) → usable_times free waiting i ≡ 0) → count_by (is_free last) rows ≡ 0
none_open {T = T} {last = last} {rows = rows} s none =
    let all = sum_by-le (λ r. one (is_free last r)) 0 rows (All-from_get_or (λ r. one (is_free last r) ≤ 0) rows unused (λ i inside.
    let shut : one (ltb i (length rows) && is_free last (row_at rows i)) ≡ 0 = sym (s.freed i) ∙ none i in
    let zero : one (is_free last (row_at rows i)) ≡ 0 = rw (lt-ltb i (length rows) inside) at shut in
    omega arith)) in
    omega (arith, all)

-- the slots that are worn are those that are neither held nor free
pub worn_count : {T : Type 0} {last : ℕ} {rows : List (Row T)} {free : FreeIndexes} {waiting : Deferred} {taken spared : ℕ} → IsSlotRowsKept last rows free waiting taken spared → (spared + taken ≤ length rows) × (length rows - taken - spared ≡ count_by (is_worn last) rows)
worn_count {last = last} {rows = rows} s =
    let all = parted last rows in
    let a = s.spare in
    let b = s.counted in
    (omega arith, omega arith)

-- a row of which one slot changes has the room that it had
pub room_kept : {A : Type 0} (rows : List A) (i : ℕ) (r : A) (n m : ℕ) → length rows ≤ n → m ≡ n → length (set rows i r) ≤ m
room_kept rows i r n m room same = rw (length-set rows i r) (omega (arith, room, same))

-- a slot that is freed may be taken once more
pub gives_free : (free more : FreeIndexes) (waiting : Deferred) (i : ℕ) → GivesBack free i more → GivesSlot free waiting i more waiting
gives_free free more waiting i g =
    record {
      one_more = omega (arith, g.one_more);
      others = λ j ne. ap (λ n. n + deferred_at waiting j) (g.others j ne);
      room = g.room;
      waits_room = refl;
    }

-- what is taken for a fill was one that may be
pub takes_given : (free rest : FreeIndexes) (waiting ready : Deferred) (i : ℕ) → TakesSlot free waiting (Some i) rest ready → GivesSlot rest ready i free waiting
takes_given free rest waiting ready i =
    ⊎_elim
    (λ t. rw t.1 (gives_free rest free waiting i t.0))
    (λ t. rw t.1 (took_waiting free waiting ready i t.2))
  where
    took_waiting : (free : FreeIndexes) (waiting ready : Deferred) (i : ℕ) → TakesDeferred waiting (Some i) ready → GivesSlot free ready i free waiting
    took_waiting free waiting ready i t =
        record {
          one_more = omega (arith, t.1, t.3);
          others = λ j ne. ap (λ n. free_times free j + n) (sym (t.4.1 j ne));
          room = refl;
          waits_room = sym t.4.0;
        }

-- a slot whose value waits is one of the row, and not among the free ones
pub waiting_is : {T : Type 0} {last : ℕ} {rows : List (Row T)} {free : FreeIndexes} {waiting : Deferred} {taken spared : ℕ} → IsSlotRowsKept last rows free waiting taken spared → (i : ℕ) → deferred_at waiting i ≡ 1 → (i < length rows) × (i < room_of free) × (free_times free i ≡ 0)
waiting_is {last = last} {rows = rows} {free = free} s i waits =
    let sum = s.freed i in
    let p = open_parts last rows i (free_times free i) (is_open last rows i) refl (omega (arith, sum, waits)) in
    let k = s.room in
    (p.0, omega (arith, k, p.0), p.2)

-- a slot whose value was taken out is free
pub moved_is : {T : Type 0} {last : ℕ} {rows : List (Row T)} {free : FreeIndexes} {waiting : Deferred} {taken spared : ℕ} → IsSlotRowsKept last rows free waiting taken spared → (more : FreeIndexes) (ready : Deferred) (i : ℕ) → TakesDeferred waiting (Some i) ready → GivesBack free i more → IsSlotRowsKept last rows more ready taken spared
moved_is {last = last} {rows = rows} {free = free} {waiting = waiting} s more ready i t g =
    record {
      slots = s.slots;
      freed = λ j. ⊎_elim
          (λ same. rw same (omega (arith, s.freed i, g.one_more, t.1, t.3)))
          (λ ne. omega (arith, s.freed j, g.others j ne, t.4.1 j ne))
          (cases_eq j i);
      spare = s.spare;
      counted = s.counted;
      room = omega (arith, s.room, g.room);
    }

-- the indexes below n are free, and no others
abbrev pub AreFirstFree : ℕ → FreeIndexes → Type 0
AreFirstFree n free = (i : ℕ) → free_times free i ≡ one (ltb i n)

-- where no index is free, none is among the first
pub first_none : (free : FreeIndexes) → ((i : ℕ) → free_times free i ≡ 0) → AreFirstFree 0 free
first_none free none i = none i ∙ sym (ap one (le-ltb i 0 (omega arith)))

-- the next index is not free yet
pub first_next : (n : ℕ) (free : FreeIndexes) → AreFirstFree n free → free_times free n ≡ 0
first_next n free s = s n ∙ ap one (le-ltb n n (omega arith))

-- one more index of a new row is freed
pub first_more : (n : ℕ) (free more : FreeIndexes) → AreFirstFree n free → GivesBack free n more → AreFirstFree (n + 1) more
first_more n free more s g i =
    ⊎_elim
    (λ same. rw same (g.one_more ∙ ap (λ m. m + 1) (first_next n free s) ∙ sym (ap one (lt-ltb n (n + 1) (omega arith)))))
    (λ ne. g.others i ne ∙ s i ∙ ap one (⊎_elim
    (λ below. lt-ltb i n below ∙ sym (lt-ltb i (n + 1) (omega arith)))
    (λ above. le-ltb i n above ∙ sym (le-ltb i (n + 1) (omega arith)))
    (cases_lt i n)))
    (cases_eq i n)

count_replicate : {T : Type 0} (p : Row T → Bool) (r : Row T) (m : ℕ) → one (p r) ≡ m → (n : ℕ) → count_by p (replicate n r) ≡ n * m
count_replicate p r m is zero = omega arith
count_replicate p r m is (suc n) =
    let rest = count_replicate p r m is n in
    let more = sum_by-cons (λ x. one (p x)) r (replicate n r) in
    omega arith

unused_at : {T : Type 0} (n i : ℕ) → row_at (replicate n (unused {T = T})) i ≡ unused
unused_at {T = T} n i =
    ⊎_elim
    (λ inside. get_or-replicate n i unused unused inside)
    (λ past. get_or_past (replicate n unused) i unused (rw (length-replicate n (unused {T = T})) past))
    (cases_lt i n)

and_true : (b : Bool) → b && true ≡ b
and_true true = refl
and_true false = refl

-- a new row
pub new_is : {T : Type 0} (last n : ℕ) (rows : List (Row T)) (free : FreeIndexes) (waiting : Deferred) → 0 < last → last ≤ LAST_STAMP → n ≤ CAPACITY_LIMIT → rows ≡ replicate n unused → AreFirstFree n free → ((i : ℕ) → deferred_at waiting i ≡ 0) → n ≤ room_of free → IsSlotRowsKept last rows free waiting 0 n
new_is {T = T} last n rows free waiting used bound size are s none room =
    let left : is_free last (unused {T = T}) ≡ true = lt-ltb 0 last used in
    let good : IsRow last (unused {T = T}) = record { bound = omega arith; birth = λ h e. cc } in
    subst (λ rs. IsSlotRowsKept last rs free waiting 0 n) (sym are)
    (record {
      slots = record { used = used; bound = bound; size = rw (length-replicate n (unused {T = T})) size; each = All-replicate (IsRow last) n unused good };
      freed = λ i. let all : usable_times free waiting i ≡ one (ltb i n) = omega (arith, s i, none i) in all ∙ rw (length-replicate n (unused {T = T}), unused_at {T = T} n i, left, and_true (ltb i n)) refl;
      spare = let b = count_replicate (is_free last) (unused {T = T}) 1 (ap one left) n in omega arith;
      counted = let b = count_replicate is_held (unused {T = T}) 0 refl n in omega arith;
      room = rw (length-replicate n (unused {T = T})) room;
    })
