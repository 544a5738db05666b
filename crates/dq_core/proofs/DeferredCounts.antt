-- How many values wait, by the bits of their slots.
use Rattle.std.proofs.Common.{◌≡◌, ◌≢◌, ◌⊎◌, ℕ, zero, suc, ◌+◌, ◌<◌, ◌≤◌, Bool, true, false, cond, List, [], ◌∷◌, length, get_or, Option, Some, None, is_some, refl, sym, ap, ◌∙◌, subst, inl, inr, ⊎_elim, arith}
use Rattle.std.specs.Prelude.{if◌then◌else◌}
use Rattle.std.specs.List.{count_by}
use Rattle.std.proofs.lemmas.List.Sums.{sum_by-cons}
use Rattle.std.proofs.lemmas.Bool.{cases_eq, lt-ltb, le-ltb, ltb-true, and_parts}
use Rattle.dq_wheel.specs.Walks.{bit_of}
use Rattle.dq_core.specs.Slots.{Row, unused, row_at, is_free}
use Rattle.dq_core.specs.FreeSlots.{FreeIndexes}
use Rattle.dq_core.specs.Deferred.{Deferred, deferred_at, defers_room, bits_below, sum_below}
use Rattle.dq_core.specs.SlotRowsKept.{is_open, TakesSlot, IsSlotRowsKept}
use Rattle.dq_core.specs.Cells.{CellRow, TakesAny, TakesWaiting, rows_of, values_of, cell_at, AreDeferred, AreNoted, emptied_cell}
use Rattle.dq_core.specs.Deferring.{deferred_value_at, with_deferred, waiting_in, WillDisplace, TakesDeferredValue, TakesDisplaced}
use Rattle.dq_core.proofs.DeferredBits.{bits_most}
use Rattle.dq_core.proofs.SlotRows.{count_set, taken_is, takes_given, waiting_is}
use Rattle.dq_core.proofs.CellRows.{slots_of, rows_length, rows_at, deferred_inside, waits_free, waits_open, free_not_worn}
use Rattle.dq_core.proofs.DeferredCells.{deferred_in, deferred_of_values, values_length, values_at, values_set}

abbrev one : Bool → ℕ
one b = cond b 1 0

below_shift : (f : ℕ → ℕ) (n : ℕ) → sum_below f (suc n) ≡ f 0 + sum_below (λ j. f (suc j)) n
below_shift f zero = omega arith
below_shift f (suc n) = let rest = below_shift f n in omega (arith, rest)

-- a sum over the places of a list is one over the list
below_list : {A : Type 0} (p : A → Bool) (xs : List A) (d : A) → sum_below (λ j. one (p (get_or xs j d))) (length xs) ≡ count_by p xs
below_list p [] d = refl
below_list {A} p (x ∷ xs) d =
    let a : sum_below (λ j. one (p (get_or (x ∷ xs) j d))) (suc (length xs)) ≡ one (p x) + sum_below (λ j. one (p (get_or xs j d))) (length xs) = below_shift (λ j. one (p (get_or (x ∷ xs) j d))) (length xs) in
    let b = sum_by-cons (λ (y : A). one (p y)) x xs in
    let rest = below_list p xs d in
    omega (arith, a, b, rest)

below_as : (f g : ℕ → ℕ) (n : ℕ) → ((j : ℕ) → j < n → g j ≡ f j) → sum_below g n ≡ sum_below f n
below_as f g zero same = refl
below_as f g (suc n) same =
    let rest = below_as f g n (λ j inside. same j (omega (arith, inside))) in
    let here = same n (omega arith) in
    omega (arith, rest, here)

below_le : (f g : ℕ → ℕ) (n : ℕ) → ((j : ℕ) → j < n → f j ≤ g j) → sum_below f n ≤ sum_below g n
below_le f g zero le = omega arith
below_le f g (suc n) le =
    let rest = below_le f g n (λ j inside. le j (omega (arith, inside))) in
    let here = le n (omega arith) in
    omega (arith, rest, here)

below_add : (f g : ℕ → ℕ) (n : ℕ) → sum_below (λ j. f j + g j) n ≡ sum_below f n + sum_below g n
below_add f g zero = refl
below_add f g (suc n) = let rest = below_add f g n in omega (arith, rest)

below_past : (f : ℕ → ℕ) (n m : ℕ) → n ≤ m → ((j : ℕ) → n ≤ j → f j ≡ 0) → sum_below f m ≡ sum_below f n
below_past f n zero le none = let z : zero ≡ n = omega (arith, le) in ap (λ k. sum_below f k) z
below_past f n (suc m) le none =
    ⊎_elim
    (λ (e : n ≡ suc m). ap (λ k. sum_below f k) (sym e))
    (λ (ne : n ≢ suc m).
    let rest = below_past f n m (omega (arith, le, ne)) none in
    let here = none m (omega (arith, le, ne)) in
    omega (arith, rest, here))
    (cases_eq n (suc m))

-- where a lesser function has no lesser sum it is the same
below_eq : (f g : ℕ → ℕ) (n : ℕ) → ((j : ℕ) → j < n → f j ≤ g j) → sum_below g n ≤ sum_below f n → (j : ℕ) → j < n → g j ≤ f j
below_eq f g zero le sum j inside = absurd (omega (arith, inside))
below_eq f g (suc n) le sum j inside =
    let before : (k : ℕ) → k < n → f k ≤ g k = λ k small. le k (omega (arith, small)) in
    let rest = below_le f g n before in
    let here = le n (omega arith) in
    ⊎_elim
    (λ (e : j ≡ n). let fj : f j ≡ f n = ap f e in let gj : g j ≡ g n = ap g e in omega (arith, fj, gj, rest, here, sum))
    (λ (ne : j ≢ n). below_eq f g n before (omega (arith, rest, here, sum)) j (omega (arith, ne, inside)))
    (cases_eq j n)

below_none : (f : ℕ → ℕ) (n : ℕ) → ((j : ℕ) → f j ≡ 0) → sum_below f n ≡ 0
below_none f zero none = refl
below_none f (suc n) none = let rest = below_none f n none in let here = none n in omega (arith, rest, here)

-- how many slots are free, by their indexes
free_sum : {T : Type 0} (last : ℕ) (rows : List (Row T)) → sum_below (λ j. one (is_open last rows j)) (length rows) ≡ count_by (is_free last) rows
free_sum {T} last rows =
    below_as (λ j. one (is_free last (row_at rows j))) (λ j. one (is_open last rows j)) (length rows) (λ j inside. rw (lt-ltb j (length rows) inside) refl)
    ∙ below_list (is_free last) rows unused

module _ {T : Type 0} {last : ℕ} {drops : Bool} {cells : List (CellRow T)} {free : FreeIndexes} {d w : Deferred} {taken spared : ℕ}
    (s : IsSlotRowsKept last (rows_of cells) free d taken spared) (a : AreDeferred last cells d w) (n : AreNoted drops cells d w) where
  zero_by : (b : ℕ) → b ≤ 1 → (b ≡ 1 → ⊥) → b ≡ 0
  zero_by b most not = ⊎_elim (λ e. absurd (not e)) (λ ne. omega (arith, most, ne)) (cases_eq b 1)

  no_waiting : (i : ℕ) → (deferred_at d i ≡ 1 → ⊥) → deferred_at d i ≡ 0
  no_waiting i not = zero_by (deferred_at d i) (bits_most d.bits i) not

  no_worn : (i : ℕ) → (deferred_at w i ≡ 1 → ⊥) → deferred_at w i ≡ 0
  no_worn i not = zero_by (deferred_at w i) (bits_most w.bits i) not

  inside_not : (i : ℕ) → length cells ≤ i → is_some (cell_at cells i).deferred ≡ true → ⊥
  inside_not i past some = let inside = deferred_inside cells i some in absurd (omega (arith, inside, past))

  waiting_past : (i : ℕ) → length cells ≤ i → deferred_at d i ≡ 0
  waiting_past i past = no_waiting i (λ e. inside_not i past (a.there i e))

  worn_past : (i : ℕ) → length cells ≤ i → deferred_at w i ≡ 0
  worn_past i past = no_worn i (λ e. inside_not i past (a.worn_there i e))

  module _ (on : drops ≡ true) (i : ℕ) where
    bit_by : (b : Bool) → is_some (cell_at cells i).deferred ≡ b → deferred_at d i + deferred_at w i ≡ one b
    bit_by true some =
        ⊎_elim
        (λ e. let z = no_worn i (λ both. waits_open s a i e both) in omega (arith, e, z))
        (λ e. let z = no_waiting i (λ both. waits_open s a i both e) in omega (arith, e, z))
        (n.noted on i some)
    bit_by false none =
        let x = no_waiting i (λ e. let some = a.there i e in cc) in
        let y = no_worn i (λ e. let some = a.worn_there i e in cc) in
        omega (arith, x, y)

    bit_sum : deferred_at d i + deferred_at w i ≡ one (is_some (get_or (values_of cells) i None))
    bit_sum = bit_by (is_some (cell_at cells i).deferred) refl ∙ ap (λ (o : Option T). one (is_some o)) (sym (values_at cells i))

  module _ (room_d : length cells ≤ defers_room d) (room_w : length cells ≤ defers_room w) where
    total_by : (b : Bool) → drops ≡ b → bits_below d.bits (defers_room d) + bits_below w.bits (defers_room w) ≡ (if b then count_by is_some (values_of cells) else 0)
    total_by true on =
        let p = below_past (bit_of d.bits) (length cells) (defers_room d) room_d waiting_past in
        let q = below_past (bit_of w.bits) (length cells) (defers_room w) room_w worn_past in
        let both = below_add (bit_of d.bits) (bit_of w.bits) (length cells) in
        let same = below_as (λ j. one (is_some (get_or (values_of cells) j None))) (λ j. bit_of d.bits j + bit_of w.bits j) (length cells) (λ j inside. bit_sum on j) in
        let list = ap (λ m. sum_below (λ j. one (is_some (get_or (values_of cells) j None))) m) (sym (values_length cells)) ∙ below_list is_some (values_of cells) None in
        omega (arith, p, q, both, same, list)
    total_by false off =
        let no : (i : ℕ) → (deferred_at d i ≡ 1) ⊎ (deferred_at w i ≡ 1) → ⊥ = λ i waits. let on = n.dropping i waits in cc in
        let x = below_none (bit_of d.bits) (defers_room d) (λ i. no_waiting i (λ e. no i (inl e))) in
        let y = below_none (bit_of w.bits) (defers_room w) (λ i. no_worn i (λ e. no i (inr e))) in
        omega (arith, x, y)

    -- as many values wait as are counted
    pub all_wait : d.count ≡ bits_below d.bits (defers_room d) → w.count ≡ bits_below w.bits (defers_room w) → d.count + w.count ≡ waiting_in (deferred_in drops cells)
    all_wait cd cw = let t = total_by drops refl in omega (arith, cd, cw, t)

    deferred_is : (i : ℕ) (x : T) → (cell_at cells i).deferred ≡ Some x → deferred_value_at (deferred_in drops cells) i ≡ Some x
    deferred_is i x is = values_at cells i ∙ is

    -- what is taken out was deferred there
    pub took_deferred : (q : Deferred) (x : T) (i : ℕ) (left : List (CellRow T)) (e : Deferred) → TakesWaiting cells q (Some (i, x)) left e → (deferred_value_at (deferred_in drops cells) i ≡ Some x) × (deferred_in drops left ≡ with_deferred (deferred_in drops cells) i None)
    took_deferred q x i left e t = (
      deferred_is i x t.0,
      ap (λ cs. deferred_in drops cs) t.1 ∙ ap (λ vs. deferred_of_values drops vs) (values_set cells i (emptied_cell (cell_at cells i))),
    )

    pub takes_one : d.count ≡ bits_below d.bits (defers_room d) → w.count ≡ bits_below w.bits (defers_room w) → (r : Option T) (left : List (CellRow T)) (g : FreeIndexes) (e v : Deferred) → TakesAny cells free d w r left g e v → TakesDeferredValue (deferred_in drops cells) r (deferred_in drops left)
    takes_one cd cw None left g e v t =
        let all = all_wait cd cw in (omega (arith, all, t.0, t.1), ap (λ cs. deferred_in drops cs) t.2)
    takes_one cd cw (Some x) left g e v (i, inl t) = (
      n.dropping i (inl t.0.2.1),
      (i, (took_deferred d x i left e t.0).0, (took_deferred d x i left e t.0).1),
    )
    takes_one cd cw (Some x) left g e v (i, inr t) = (
      n.dropping i (inr t.0.2.1),
      (i, (took_deferred w x i left v t.0).0, (took_deferred w x i left v t.0).1),
    )

    waiting_sum : d.count ≡ bits_below d.bits (defers_room d) → d.count ≡ sum_below (bit_of d.bits) (length cells)
    waiting_sum cd = cd ∙ below_past (bit_of d.bits) (length cells) (defers_room d) room_d waiting_past

    open_sum : sum_below (λ j. one (is_open last (rows_of cells) j)) (length cells) ≡ count_by (is_free last) (rows_of cells)
    open_sum = ap (λ m. sum_below (λ j. one (is_open last (rows_of cells) j)) m) (sym (rows_length cells)) ∙ free_sum last (rows_of cells)

    bits_open : (i : ℕ) → bit_of d.bits i ≤ one (is_open last (rows_of cells) i)
    bits_open i = let f = s.freed i in omega (arith, f)

    waits_by : (on : drops ≡ true) (i : ℕ) → is_free last (row_at (rows_of cells) i) ≡ true → is_some (deferred_value_at (deferred_in drops cells) i) ≡ true → deferred_at d i ≡ 1
    waits_by on i left some =
        ⊎_elim (λ e. e)
        (λ e. absurd (free_not_worn last (cell_at cells i).row (subst (λ (r : Row T). is_free last r ≡ true) (rows_at cells i) left) (a.are_worn i e)))
        (n.noted on i (subst (λ (o : Option T). is_some o ≡ true) (values_at cells i) some))

    open_by : WillDisplace (slots_of last (rows_of cells)) (deferred_in drops cells) → (i : ℕ) (b : Bool) → is_open last (rows_of cells) i ≡ b → one b ≤ bit_of d.bits i
    open_by c i true is =
        let p = and_parts _ _ is in
        let e = waits_by c.0 i p.1 (c.2 i (ltb-true _ _ p.0) p.1) in
        omega (arith, e)
    open_by c i false is = omega arith

    -- where a value waits in each slot that is left, as many wait as are left
    pub displaced_count : d.count ≡ bits_below d.bits (defers_room d) → WillDisplace (slots_of last (rows_of cells)) (deferred_in drops cells) → (0 < spared) × (spared ≤ d.count)
    displaced_count cd c =
        let le = below_le (λ j. one (is_open last (rows_of cells) j)) (bit_of d.bits) (length cells) (λ j inside. open_by c j (is_open last (rows_of cells) j) refl) in
        let sum = waiting_sum cd in
        let left = open_sum in
        let spare = s.spare in
        let some = c.1 in
        (omega (arith, spare, some), omega (arith, le, sum, left, spare))

    -- where as many wait as are left, a value waits in each slot that is left
    pub count_displaced : d.count ≡ bits_below d.bits (defers_room d) → spared ≤ d.count → (i : ℕ) → deferred_at d i ≡ 1 → 0 < d.count → WillDisplace (slots_of last (rows_of cells)) (deferred_in drops cells)
    count_displaced cd all i waits some =
        let sum = waiting_sum cd in
        let left = open_sum in
        let spare = s.spare in
        let le = below_le (bit_of d.bits) (λ j. one (is_open last (rows_of cells) j)) (length cells) (λ j inside. bits_open j) in (
          n.dropping i (inl waits),
          omega (arith, sum, left, le, some),
          λ j inside is_left.
              let small : j < length cells = let size = rows_length cells in omega (arith, size, inside) in
              let opens : one (is_open last (rows_of cells) j) ≡ 1 = rw (lt-ltb j (length (rows_of cells)) inside, is_left) refl in
              let same = below_eq (bit_of d.bits) (λ k. one (is_open last (rows_of cells) k)) (length cells) (λ k k_in. bits_open k) (omega (arith, sum, left, spare, all)) j small in
              let most = bits_most d.bits j in
              let e : deferred_at d j ≡ 1 = omega (arith, opens, same, most) in
              subst (λ (o : Option T). is_some o ≡ true) (sym (values_at cells j)) (a.there j e),
        )

    -- what is taken out where as many wait as are left was in a slot that is left
    pub takes_displaced : d.count ≡ bits_below d.bits (defers_room d) → 0 < d.count → spared ≤ d.count → (r : Option T) (left : List (CellRow T)) (g : FreeIndexes) (e v : Deferred) → TakesAny cells free d w r left g e v → TakesDisplaced (slots_of last (rows_of cells)) (deferred_in drops cells) r (deferred_in drops left)
    takes_displaced cd some all None left g e v t = absurd (omega (arith, t.0, some))
    takes_displaced cd some all (Some x) left g e v (i, inl t) =
        let waits = t.0.2.1 in
        let took = took_deferred d x i left e t.0 in
        (count_displaced cd all i waits some, (i, (waiting_is s i waits).0, waits_free s i waits, took.0, took.1))
    takes_displaced cd some all (Some x) left g e v (i, inr t) = absurd (omega (arith, t.3, some))

    -- the value that a fill finds deferred is one that waits where each slot that is left has one
    pub fill_displaced : (rest : FreeIndexes) (ready : Deferred) (i : ℕ) → TakesSlot free d (Some i) rest ready → drops ≡ true → is_some (deferred_value_at (deferred_in drops cells) i) ≡ true → WillDisplace (slots_of last (rows_of cells)) (deferred_in drops cells)
    fill_displaced rest ready i takes on some =
        let t = taken_is s rest ready i (takes_given free rest d ready i takes) in
        let waits = waits_by on i t.1 some in
        let freed = s.freed i in
        ⊎_elim
        (λ gives.
        let more = gives.0.one_more in
        let most : one (is_open last (rows_of cells) i) ≤ 1 = one_most (is_open last (rows_of cells) i) in
        absurd (omega (arith, waits, freed, more, most)))
        (λ none. (
          on,
          some_free i t.0 t.1,
          λ j inside is_left.
              let f = s.freed j in
              let opens : one (is_open last (rows_of cells) j) ≡ 1 = rw (lt-ltb j (length (rows_of cells)) inside, is_left) refl in
              let z = none.0 j in
              let e : deferred_at d j ≡ 1 = omega (arith, f, opens, z) in
              subst (λ (o : Option T). is_some o ≡ true) (sym (values_at cells j)) (a.there j e),
        ))
        takes
      where
        one_most : (b : Bool) → one b ≤ 1
        one_most true = omega arith
        one_most false = omega arith

        some_free : (k : ℕ) → k < length (rows_of cells) → is_free last (row_at (rows_of cells) k) ≡ true → 0 < count_by (is_free last) (rows_of cells)
        some_free k inside is_left =
            let r : Row T = record { stamp = last; held = None } in
            let c = count_set (is_free last) (rows_of cells) k r inside in
            let was : one (is_free last (row_at (rows_of cells) k)) ≡ 1 = ap one is_left in
            let now : one (is_free last r) ≡ 0 = ap one (le-ltb last last (omega arith)) in
            omega (arith, c, was, now)
