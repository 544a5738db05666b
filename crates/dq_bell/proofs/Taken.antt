-- What those that rise leave, and what the lead's change does to the places in line.

use Rattle.std.proofs.Common.{◌≡◌, ◌≢◌, ℕ, zero, suc, ◌+◌, ◌<◌, ◌≤◌, ◌==◌, if◌then◌else◌, Bool, true, false, true≢false, Option, None, Some, List, [], ◌∷◌, length, get_or, set, refl, sym, ap, ◌∙◌, subst, arith}
use Rattle.std.proofs.lemmas.List.{get_or-set_other, get_or-set_same, length-set}
use mathlib.Core.Logic.{dite}
use native.Mathlib.Decide.{ℕ_discrete}
use Rattle.dq_bell.specs.Rolls.{RollState, IsRoll, StandsInLine, first_in, LeavesRoll, MakesFirst, HasExchanged}
use Rattle.dq_bell.specs.Lines.{sleeping}
use Rattle.dq_bell.proofs.Lined.{awake_there}

-- one that sleeps is taken out
pub one_less : (s : List Bool) (i : ℕ) → get_or s i false ≡ true → sleeping (set s i false) + 1 ≡ sleeping s
one_less [] i h = absurd (true≢false (sym h))
one_less (true ∷ s) zero h = refl
one_less (false ∷ s) zero h = absurd (true≢false (sym h))
one_less (true ∷ s) (suc i) h = ap (λ n. n + 1) (one_less s i h)
one_less (false ∷ s) (suc i) h = one_less s i h

-- one that is awake is taken out
pub none_less : (s : List Bool) (i : ℕ) → get_or s i false ≡ false → sleeping (set s i false) ≡ sleeping s
none_less [] i h = refl
none_less (true ∷ s) zero h = absurd (true≢false h)
none_less (false ∷ s) zero h = refl
none_less (true ∷ s) (suc i) h = ap (λ n. n + 1) (none_less s i h)
none_less (false ∷ s) (suc i) h = none_less s i h

-- what was taken out was counted
pub count_on : (s : List Bool) (i : ℕ) (b : Bool) (n n2 m : ℕ) → b ≡ get_or s i false → (b ≡ true → n2 ≡ n + 1) → (b ≡ false → n2 ≡ n)
    → n + sleeping s ≡ m → n2 + sleeping (set s i false) ≡ m
count_on s i true n n2 m is one none h = (let a = one_less s i (sym is) in let b = one refl in omega arith)
count_on s i false n n2 m is one none h = (let a = none_less s i (sym is) in let b = none refl in omega arith)

-- those before an index are awake, and then that one
pub up_to : (s : List Bool) (n : ℕ) → ((i : ℕ) → i < n → get_or s i false ≡ false)
    → (i : ℕ) → i < n + 1 → get_or (set s n false) i false ≡ false
up_to s n h i lt =
    dite (ℕ_discrete i n)
    (λ e. let P : ℕ → Type 0 = λ a. get_or (set s n false) a false ≡ false in subst P (sym e) (awake_there s n))
    (λ ne. get_or-set_other s n i false false ne ∙ h i (omega arith))

pub from_on : (s : List Bool) (n m : ℕ) → n < m → ((i : ℕ) → m ≤ i → get_or s i false ≡ false)
    → (i : ℕ) → m ≤ i → get_or (set s n false) i false ≡ false
from_on s n m lt h i le = get_or-set_other s n i false false (λ e. absurd (omega arith)) ∙ h i le

abbrev value : Option ℕ → ℕ
value None = 0
value (Some x) = x

is_some_value : (count x f : ℕ) → (if count == 0 then None else Some x) ≡ Some f → (0 < count) × (x ≡ f)
is_some_value count x f h = grind arith

some_value : (count x : ℕ) → 0 < count → (if count == 0 then None else Some x) ≡ Some x
some_value count x h = grind arith

abbrev pub roll_of : List ℕ → List ℕ → ℕ → RollState
roll_of indexes places count = record { indexes = indexes; places = places; count = count }

-- the first and one behind it exchange their places
module _ (ix pl ix2 pl2 : List ℕ) (n i f : ℕ) (roll : IsRoll ix pl n) (first : first_in (roll_of ix pl n) ≡ Some f)
    (behind : StandsInLine (roll_of ix pl n) i) (ne : f ≢ i) (x : HasExchanged ix pl 0 (get_or pl i 0) ix2 pl2) where
  i_in : i < length ix
  i_in = let a = behind.0 in let b = roll.size in omega arith

  i_back : get_or ix (get_or pl i 0) 0 ≡ i
  i_back = roll.forth i i_in

  f_at : get_or ix 0 0 ≡ f
  f_at = (is_some_value n (get_or ix 0 0) f first).1

  some_in : 0 < n
  some_in = (is_some_value n (get_or ix 0 0) f first).0

  f_in : f < length ix
  f_in = let P : ℕ → Type 0 = λ a. a < length ix in subst P f_at (roll.index_in 0 (let a = some_in in let b = roll.few in omega arith))

  f_back : get_or pl f 0 ≡ 0
  f_back = let P : ℕ → Type 0 = λ a. get_or pl a 0 ≡ 0 in subst P f_at (roll.back 0 (let a = some_in in let b = roll.few in omega arith))

  place_f : get_or pl2 f 0 ≡ get_or pl i 0
  place_f = let P : ℕ → Type 0 = λ a. get_or pl2 a 0 ≡ get_or pl i 0 in subst P f_at x.place_here

  place_i : get_or pl2 i 0 ≡ 0
  place_i = let P : ℕ → Type 0 = λ a. get_or pl2 a 0 ≡ 0 in subst P i_back x.place_there

  place_else : (j : ℕ) → j ≢ f → j ≢ i → get_or pl2 j 0 ≡ get_or pl j 0
  place_else j jf ji = x.else_place j (λ e. jf (e ∙ f_at)) (λ e. ji (e ∙ i_back))

  i_first : first_in (roll_of ix2 pl2 n) ≡ Some i
  i_first = some_value n (get_or ix2 0 0) some_in ∙ ap (λ (a : ℕ). Some a) (x.here ∙ i_back)

  stay_in : (j : ℕ) → StandsInLine (roll_of ix pl n) j → StandsInLine (roll_of ix2 pl2 n) j
  stay_in j h = (
    (let a = x.size2 in let b = h.0 in omega arith),
    dite (ℕ_discrete j f)
        (λ e. rw e (let a = place_f in let b = behind.1 in omega arith))
        (λ jf. dite (ℕ_discrete j i)
        (λ e. rw e (let a = place_i in let b = some_in in omega arith))
        (λ ji. let a = place_else j jf ji in let b = h.1 in omega arith)),
  )

  stay_out : (j : ℕ) → StandsInLine (roll_of ix2 pl2 n) j → StandsInLine (roll_of ix pl n) j
  stay_out j h = (
    (let a = x.size2 in let b = h.0 in omega arith),
    dite (ℕ_discrete j f)
        (λ e. rw e (let a = f_back in let b = some_in in omega arith))
        (λ jf. dite (ℕ_discrete j i)
        (λ e. rw e (behind.1))
        (λ ji. let a = place_else j jf ji in let b = h.1 in omega arith)),
  )

  pub stays_roll : IsRoll ix2 pl2 0 → IsRoll ix2 pl2 n
  stays_roll r = record {
    size = r.size;
    few = let a = x.size in let b = roll.few in omega arith;
    index_in = r.index_in;
    place_in = r.place_in;
    back = r.back;
    forth = r.forth;
  }

  led : (g : ℕ) → first_in (roll_of ix pl n) ≡ Some g → StandsInLine (roll_of ix2 pl2 n) g
  led g h =
      let same : f ≡ g = ap value (sym first ∙ h) in
      let P : ℕ → Type 0 = λ a. StandsInLine (roll_of ix2 pl2 n) a in
      subst P same (stay_in f ((let a = f_in in let b = roll.size in omega arith), let a = f_back in let b = some_in in omega arith))

  pub makes_first : MakesFirst (roll_of ix pl n) i (roll_of ix2 pl2 n)
  makes_first = record { first = i_first; stay = stay_in; none_more = stay_out; led = led; size = x.size2 }

-- an element doesn't depend on what stands past the end
pub any_default : (l : List ℕ) (i d e : ℕ) → i < length l → get_or l i d ≡ get_or l i e
any_default [] i d e h = absurd (omega arith)
any_default (x ∷ l) zero d e h = refl
any_default (x ∷ l) (suc i) d e h = any_default l i d e (omega arith)

-- one in line exchanges its place with the last one, and the line is shorter by one
module _ (ix pl ix2 pl2 : List ℕ) (n m i : ℕ) (roll : IsRoll ix pl n) (more : n ≡ m + 1)
    (stands : StandsInLine (roll_of ix pl n) i) (x : HasExchanged ix pl (get_or pl i 0) m ix2 pl2) where
  last_in : m < length ix
  last_in = let a = roll.few in omega arith

  inside : i < length ix
  inside = let a = stands.0 in let b = roll.size in omega arith

  at_place : get_or ix (get_or pl i 0) 0 ≡ i
  at_place = roll.forth i inside

  goes_last : get_or pl2 i 0 ≡ m
  goes_last = let P : ℕ → Type 0 = λ a. get_or pl2 a 0 ≡ m in subst P at_place x.place_here

  last_place : get_or pl (get_or ix m 0) 0 ≡ m
  last_place = roll.back m last_in

  at_most_last : get_or pl i 0 ≢ m → get_or pl i 0 < m
  at_most_last ne = let a = stands.1 in omega arith

  -- the last one comes forward
  comes_forward : get_or ix m 0 ≢ i → get_or pl2 (get_or ix m 0) 0 < m
  comes_forward ne =
      let b = at_most_last (λ e. ne (ap (λ a. get_or ix a 0) (sym e) ∙ at_place)) in
      let a = x.place_there in omega arith

  stays_at : (j : ℕ) → j ≢ i → j ≢ get_or ix m 0 → get_or pl2 j 0 ≡ get_or pl j 0
  stays_at j ji jl = x.else_place j (λ e. ji (e ∙ at_place)) jl

  not_last : (j : ℕ) → j < length ix → j ≢ get_or ix m 0 → get_or pl j 0 ≢ m
  not_last j lt jl e = jl (sym (roll.forth j lt) ∙ ap (λ a. get_or ix a 0) e)

  others_stay : (j : ℕ) → j ≢ i → StandsInLine (roll_of ix pl n) j → StandsInLine (roll_of ix2 pl2 m) j
  others_stay j ji h = (
    (let a = x.size2 in let b = h.0 in omega arith),
    dite (ℕ_discrete j (get_or ix m 0))
        (λ e. rw e (comes_forward (λ y. ji (e ∙ y))))
        (λ jl. let a = stays_at j ji jl in let b = not_last j (let c = h.0 in let d = roll.size in omega arith) jl in let c = h.1 in omega arith),
  )

  no_other : (j : ℕ) → j ≢ i → StandsInLine (roll_of ix2 pl2 m) j → StandsInLine (roll_of ix pl n) j
  no_other j ji h = (
    (let a = x.size2 in let b = h.0 in omega arith),
    dite (ℕ_discrete j (get_or ix m 0))
        (λ e. rw e (let a = last_place in omega arith))
        (λ jl. let a = stays_at j ji jl in let c = h.1 in omega arith),
  )

  first_was : first_in (roll_of ix pl n) ≡ Some (get_or ix 0 0)
  first_was = some_value n (get_or ix 0 0) (omega arith)

  keeps_first : first_in (roll_of ix pl n) ≢ Some i → first_in (roll_of ix2 pl2 m) ≡ first_in (roll_of ix pl n)
  keeps_first ne =
      let not_at : 0 ≢ get_or pl i 0 = λ e. ne (first_was ∙ ap (λ (a : ℕ). Some a) (ap (λ a. get_or ix a 0) e ∙ at_place)) in
      let some_stay : 0 < m = (let a = stands.1 in omega arith) in
      some_value m (get_or ix2 0 0) some_stay ∙ (ap (λ (a : ℕ). Some a) (x.else_index 0 not_at (omega arith)) ∙ sym first_was)

  stood : (p : ℕ) → p < n → StandsInLine (roll_of ix pl n) (get_or ix p 0)
  stood p lt =
      let p_in : p < length ix = (let a = roll.few in omega arith) in
      ((let a = roll.index_in p p_in in let b = roll.size in omega arith), (let a = roll.back p p_in in omega arith))

  comes_next : (j : ℕ) → first_in (roll_of ix2 pl2 m) ≡ Some j → StandsInLine (roll_of ix pl n) j
  comes_next j h =
      let f = is_some_value m (get_or ix2 0 0) j h in
      let P : ℕ → Type 0 = λ a. StandsInLine (roll_of ix pl n) a in
      subst P f.1
      (dite (ℕ_discrete 0 (get_or pl i 0))
      (λ e. let Q : ℕ → Type 0 = λ a. StandsInLine (roll_of ix pl n) a in
      subst Q (sym (ap (λ a. get_or ix2 a 0) e ∙ x.here)) (stood m (omega arith)))
      (λ ne. let Q : ℕ → Type 0 = λ a. StandsInLine (roll_of ix pl n) a in
      subst Q (sym (x.else_index 0 ne (let a = f.0 in omega arith))) (stood 0 (omega arith))))

  pub leaves_roll : LeavesRoll (roll_of ix pl n) i (roll_of ix2 pl2 m)
  leaves_roll = record {
    is_out = λ h. (let a = h.1 in let b = goes_last in omega arith);
    others = λ j ji. (others_stay j ji, no_other j ji);
    first = keeps_first;
    next = comes_next;
    size = x.size2;
    emptier = more;
  }

  pub shorter_roll : IsRoll ix2 pl2 0 → IsRoll ix2 pl2 m
  shorter_roll r = record {
    size = r.size;
    few = let a = x.size in let b = roll.few in omega arith;
    index_in = r.index_in;
    place_in = r.place_in;
    back = r.back;
    forth = r.forth;
  }

-- two places exchange their indexes
module _ (ix pl : List ℕ) (p q : ℕ) (roll : IsRoll ix pl 0) (p_in : p < length ix) (q_in : q < length ix) where
  abbrev swapped : List ℕ
  swapped = set (set ix p (get_or ix q 0)) q (get_or ix p 0)

  abbrev moved : List ℕ
  moved = set (set pl (get_or ix p 0) q) (get_or ix q 0) p

  swapped_size : length swapped ≡ length ix
  swapped_size = length-set (set ix p (get_or ix q 0)) q (get_or ix p 0) ∙ length-set ix p (get_or ix q 0)

  moved_size : length moved ≡ length pl
  moved_size = length-set (set pl (get_or ix p 0) q) (get_or ix q 0) p ∙ length-set pl (get_or ix p 0) q

  q_there : get_or swapped q 0 ≡ get_or ix p 0
  q_there = get_or-set_same (set ix p (get_or ix q 0)) q (get_or ix p 0) 0 (let a = length-set ix p (get_or ix q 0) in omega arith)

  p_here : get_or swapped p 0 ≡ get_or ix q 0
  p_here =
      dite (ℕ_discrete p q)
      (λ e. ap (λ a. get_or swapped a 0) e ∙ (q_there ∙ ap (λ a. get_or ix a 0) e))
      (λ ne. get_or-set_other (set ix p (get_or ix q 0)) q p (get_or ix p 0) 0 ne ∙ get_or-set_same ix p (get_or ix q 0) 0 p_in)

  else_there : (r : ℕ) → r ≢ p → r ≢ q → get_or swapped r 0 ≡ get_or ix r 0
  else_there r rp rq =
      get_or-set_other (set ix p (get_or ix q 0)) q r (get_or ix p 0) 0 rq ∙ get_or-set_other ix p r (get_or ix q 0) 0 rp

  one_in : get_or ix p 0 < length pl
  one_in = let a = roll.index_in p p_in in let b = roll.size in omega arith

  other_in : get_or ix q 0 < length pl
  other_in = let a = roll.index_in q q_in in let b = roll.size in omega arith

  other_moves : get_or moved (get_or ix q 0) 0 ≡ p
  other_moves = get_or-set_same (set pl (get_or ix p 0) q) (get_or ix q 0) p 0 (let a = length-set pl (get_or ix p 0) q in let b = other_in in omega arith)

  one_moves : get_or moved (get_or ix p 0) 0 ≡ q
  one_moves =
      dite (ℕ_discrete (get_or ix p 0) (get_or ix q 0))
      (λ e. ap (λ a. get_or moved a 0) e ∙ (other_moves ∙ (sym (roll.back p p_in) ∙ (ap (λ a. get_or pl a 0) e ∙ roll.back q q_in))))
      (λ ne. get_or-set_other (set pl (get_or ix p 0) q) (get_or ix q 0) (get_or ix p 0) p 0 ne ∙ get_or-set_same pl (get_or ix p 0) q 0 one_in)

  none_moves : (i : ℕ) → i ≢ get_or ix p 0 → i ≢ get_or ix q 0 → get_or moved i 0 ≡ get_or pl i 0
  none_moves i ip iq =
      get_or-set_other (set pl (get_or ix p 0) q) (get_or ix q 0) i p 0 iq ∙ get_or-set_other pl (get_or ix p 0) i q 0 ip

  pub exchanges : HasExchanged ix pl p q swapped moved
  exchanges = record {
    size = swapped_size;
    size2 = moved_size;
    here = p_here;
    there = q_there;
    else_index = else_there;
    place_here = one_moves;
    place_there = other_moves;
    else_place = none_moves;
  }

  -- what holds of the index at each place that was
  index_in_too : (r : ℕ) → r < length ix → get_or swapped r 0 < length ix
  index_in_too r lt =
      dite (ℕ_discrete r p)
      (λ e. rw e (let a = p_here in let b = roll.index_in q q_in in omega arith))
      (λ rp. dite (ℕ_discrete r q)
      (λ e. rw e (let a = q_there in let b = roll.index_in p p_in in omega arith))
      (λ rq. let a = else_there r rp rq in let b = roll.index_in r lt in omega arith))

  place_in_too : (i : ℕ) → i < length ix → get_or moved i 0 < length ix
  place_in_too i lt =
      dite (ℕ_discrete i (get_or ix p 0))
      (λ e. rw e (let a = one_moves in omega arith))
      (λ ip. dite (ℕ_discrete i (get_or ix q 0))
      (λ e. rw e (let a = other_moves in omega arith))
      (λ iq. let a = none_moves i ip iq in let b = roll.place_in i lt in omega arith))

  back_too : (r : ℕ) → r < length ix → get_or moved (get_or swapped r 0) 0 ≡ r
  back_too r lt =
      dite (ℕ_discrete r p)
      (λ e. rw (e, p_here) other_moves)
      (λ rp. dite (ℕ_discrete r q)
      (λ e. rw (e, q_there) one_moves)
      (λ rq. let same = λ (j : ℕ) (lt2 : j < length ix) (e : get_or ix r 0 ≡ get_or ix j 0). sym (roll.back r lt) ∙ (ap (λ a. get_or pl a 0) e ∙ roll.back j lt2) in
      ap (λ a. get_or moved a 0) (else_there r rp rq)
      ∙ (none_moves (get_or ix r 0) (λ e. rp (same p p_in e)) (λ e. rq (same q q_in e)) ∙ roll.back r lt)))

  forth_too : (i : ℕ) → i < length ix → get_or swapped (get_or moved i 0) 0 ≡ i
  forth_too i lt =
      dite (ℕ_discrete i (get_or ix p 0))
      (λ e. ap (λ a. get_or swapped (get_or moved a 0) 0) e ∙ (ap (λ a. get_or swapped a 0) one_moves ∙ (q_there ∙ sym e)))
      (λ ip. dite (ℕ_discrete i (get_or ix q 0))
      (λ e. ap (λ a. get_or swapped (get_or moved a 0) 0) e ∙ (ap (λ a. get_or swapped a 0) other_moves ∙ (p_here ∙ sym e)))
      (λ iq. let same = λ (j : ℕ) (e : get_or pl i 0 ≡ j). sym (roll.forth i lt) ∙ ap (λ a. get_or ix a 0) e in
      ap (λ a. get_or swapped a 0) (none_moves i ip iq)
      ∙ (else_there (get_or pl i 0) (λ e. ip (same p e)) (λ e. iq (same q e)) ∙ roll.forth i lt)))

  pub exchanged_roll : IsRoll swapped moved 0
  exchanged_roll = record {
    size = moved_size ∙ (roll.size ∙ sym swapped_size);
    few = omega arith;
    index_in = λ r lt. let a = swapped_size in let b = index_in_too r (omega arith) in omega arith;
    place_in = λ i lt. let a = swapped_size in let b = place_in_too i (omega arith) in omega arith;
    back = λ r lt. back_too r (let a = swapped_size in omega arith);
    forth = λ i lt. forth_too i (let a = swapped_size in omega arith);
  }
