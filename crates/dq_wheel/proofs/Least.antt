-- The least of a list, as one walks it.

use Rattle.std.proofs.Common.{◌≡◌, ℕ, zero, suc, ◌+◌, ◌<◌, ◌≤◌, List, [], ◌∷◌, length, get_or, take, refl, sym, arith, ◌∙◌, ap, ◌⊎◌, inl, inr}
use Rattle.dq_wheel.specs.Circle.{Node, IsCircles}
use Rattle.dq_wheel.specs.Walks.{IsWalk, occurrences}
use Rattle.dq_wheel.specs.Lists.{IsLeastIn}
use Rattle.dq_wheel.proofs.Links.{same_or_not}
use Rattle.dq_wheel.proofs.Rows.{first_stands, capacity_is, seen_home}
use Rattle.dq_wheel.proofs.Walks.{occurrences_same, occurrences_other, walked, walked_le, walked_met}
use Rattle.dq_wheel.specs.declared.TheConstants.{LISTS}

-- how many of the numbers below n stand in xs, each as often as it does
total : ℕ → List ℕ → ℕ
total zero xs = 0
total (suc n) xs = occurrences n xs + total n xs

total_nil : (n : ℕ) → total n [] ≡ 0
unfolding total
total_nil zero = refl
total_nil (suc n) = omega (arith, total_nil n)

total_above : (n y : ℕ) (ys : List ℕ) → n ≤ y → total n (y ∷ ys) ≡ total n ys
unfolding total
total_above zero y ys le = refl
total_above (suc n) y ys le =
    let here : occurrences n (y ∷ ys) ≡ occurrences n ys = occurrences_other n y ys (λ e. omega arith) in
    let below : total n (y ∷ ys) ≡ total n ys = total_above n y ys (omega arith) in
    omega arith

total_below : (n y : ℕ) (ys : List ℕ) → y < n → total n (y ∷ ys) ≡ 1 + total n ys
unfolding total
total_below zero y ys lt = absurd (omega arith)
total_below (suc n) y ys lt =
    elim (same_or_not y n) [
      | inl e ↦
          let here : occurrences n (y ∷ ys) ≡ 1 + occurrences n ys = occurrences_same n y ys e in
          let below : total n (y ∷ ys) ≡ total n ys = total_above n y ys (omega arith) in
          omega arith
      | inr d ↦
          let here : occurrences n (y ∷ ys) ≡ occurrences n ys = occurrences_other n y ys d in
          let below : total n (y ∷ ys) ≡ 1 + total n ys = total_below n y ys (omega arith) in
          omega arith
    ]

total_le : (n : ℕ) (xs : List ℕ) → ((i : ℕ) → i < n → occurrences i xs ≤ 1) → total n xs ≤ n
unfolding total
total_le zero xs once = omega arith
total_le (suc n) xs once =
    let here : occurrences n xs ≤ 1 = once n (omega arith) in
    let below : total n xs ≤ n = total_le n xs (λ i i_in. once i (omega arith)) in
    omega arith

length_total : (cap head : ℕ) (next : ℕ → ℕ) (x : ℕ) (xs : List ℕ) → IsWalk cap next head x xs → length xs ≡ total cap xs
length_total cap head next x [] w = sym (total_nil cap)
length_total cap head next x (y ∷ ys) w =
    let rest : length ys ≡ total cap ys = length_total cap head next (next y) ys w.2 in
    let more : total cap (y ∷ ys) ≡ 1 + total cap ys = total_below cap y ys w.1 in
    omega arith

walk_step : (cap head : ℕ) (next : ℕ → ℕ) (x : ℕ) (xs : List ℕ) → cap ≤ head → x < cap → IsWalk cap next head x xs →
    (ys : List ℕ) × (xs ≡ x ∷ ys) × IsWalk cap next head (next x) ys
walk_step cap head next x [] high low w = absurd (omega arith)
walk_step cap head next x (y ∷ ys) high low w = (ys, ap (λ z. z ∷ ys) (sym w.0), rw w.0 w.2)

walk_end : (cap head : ℕ) (next : ℕ → ℕ) (x : ℕ) (xs : List ℕ) → cap ≤ x → IsWalk cap next head x xs → xs ≡ []
walk_end cap head next x [] high w = refl
walk_end cap head next x (y ∷ ys) high w = let low : y < cap = w.1 in let e : x ≡ y = w.0 in absurd (omega arith)

no_length : (xs : List ℕ) → length xs ≡ 0 → xs ≡ []
no_length [] e = refl
no_length (y ∷ ys) e = absurd (omega arith)

-- after some turns: the rest of the walk, and the best of what the walk has met
pub record IsLeastSoFar (cap : ℕ) (next homes keys : List ℕ) (p turn at best : ℕ) : Type 0 where
  pub best_in : best < cap
  pub best_home : get_or homes best 0 ≡ p + 1
  pub at_in : at < cap + LISTS
  pub at_home : get_or homes at 0 ≡ p + 1
  pub rest : List ℕ
  pub walk : IsWalk cap (λ x. get_or next x 0) (cap + p) at rest
  pub fuel : length rest + turn ≤ cap
  pub least : (i : ℕ) → i < cap → get_or homes i 0 ≡ p + 1 → occurrences i rest ≡ 0 → get_or keys best 0 ≤ get_or keys i 0

module _ (cap : ℕ) (next prev homes : List ℕ) (r : IsCircles cap next prev homes) (keys : List ℕ) (p : ℕ) (p_in : p < LISTS) where
  pub least_init : (first : ℕ) → first ≡ get_or next (cap + p) 0 → first < cap → IsLeastSoFar cap next homes keys p 0 first first
  least_init first first_is first_in =
      let w = walked cap LISTS _ _ _ r.rank r.circle p p_in in
      let stands : get_or homes first 0 ≡ p + 1 = rw first_is (first_stands cap next prev homes r p p_in) in
      record {
        best_in = first_in;
        best_home = stands;
        at_in = omega arith;
        at_home = stands;
        rest = w.0;
        walk = rw first_is w.1;
        fuel =
            let len : length w.0 ≡ total cap w.0 = length_total cap (cap + p) _ _ w.0 w.1 in
            let le : total cap w.0 ≤ cap = total_le cap w.0 (λ i i_in. walked_le cap LISTS _ _ _ r.rank r.circle p p_in i i_in) in
            omega arith;
        least = λ i i_in h none.
            let met : occurrences i w.0 ≡ 1 = walked_met cap LISTS _ _ _ r.rank r.circle p p_in i i_in h in
            absurd (omega arith);
      }

  -- one turn more: better is the better of best and at
  pub least_more : (turn at best better : ℕ) → IsLeastSoFar cap next homes keys p turn at best → at < cap →
      (better ≡ best) ⊎ (better ≡ at) → get_or keys better 0 ≤ get_or keys best 0 → get_or keys better 0 ≤ get_or keys at 0 →
      IsLeastSoFar cap next homes keys p (turn + 1) (get_or next at 0) better
  least_more turn at best better s at_low either best_le at_le =
      let step = walk_step cap (cap + p) _ at s.rest (omega arith) at_low s.walk in
      let at_home : get_or homes at 0 ≡ p + 1 = s.at_home in
      let node : Node (cap + LISTS) (λ x. get_or next x 0) (λ x. get_or prev x 0) (λ x. get_or homes x 0) at = r.circle.node at s.at_in (omega arith) in
      let len : length s.rest ≡ suc (length step.0) = ap length step.1 in
      let fuel : length s.rest + turn ≤ cap = s.fuel in
      record {
        best_in = elim either [ inl e ↦ rw e s.best_in | inr e ↦ rw e at_low ];
        best_home = elim either [ inl e ↦ rw e s.best_home | inr e ↦ rw e at_home ];
        at_in = node.next_in;
        at_home = node.next_home ∙ at_home;
        rest = step.0;
        walk = step.2;
        fuel = omega arith;
        least = λ i i_in h none.
            elim (same_or_not at i) [
              | inl e ↦ rw (← e) at_le
              | inr d ↦
                  let before : occurrences i s.rest ≡ 0 = ap (occurrences i) step.1 ∙ (occurrences_other i at step.0 d ∙ none) in
                  let le : get_or keys best 0 ≤ get_or keys i 0 = s.least i i_in h before in
                  omega arith
            ];
      }

  pub least_end : (turn at best : ℕ) → IsLeastSoFar cap next homes keys p turn at best → (cap ≤ at) ⊎ (cap ≤ turn) →
      (i : ℕ) → i < cap → get_or homes i 0 ≡ p + 1 → get_or keys best 0 ≤ get_or keys i 0
  least_end turn at best s over i i_in h =
      let done : s.rest ≡ [] =
      elim over [
        | inl high ↦ walk_end cap (cap + p) _ at s.rest high s.walk
        | inr spent ↦ let fuel : length s.rest + turn ≤ cap = s.fuel in no_length s.rest (omega arith)
      ] in
      s.least i i_in h (ap (occurrences i) done)

  -- the end, as callers see it
  pub least_seen : (now now_keys : List ℕ) → take cap homes ≡ now → take cap keys ≡ now_keys → (turn at best : ℕ) →
      IsLeastSoFar cap next homes keys p turn at best → (cap ≤ at) ⊎ (cap ≤ turn) → IsLeastIn now now_keys p best
  least_seen now now_keys now_is keys_is turn at best s over =
      let len : length now ≡ cap = capacity_is cap homes now (omega (arith, r.homes_len)) now_is in
      let inside : best < cap = s.best_in in (
        (omega arith, seen_home cap homes now best now_is inside ∙ s.best_home),
        λ y y_stands.
            let y_in : y < cap = rw len at y_stands.0 in
            rw (seen_home cap keys now_keys best keys_is inside, seen_home cap keys now_keys y keys_is y_in)
            (least_end turn at best s over y y_in (sym (seen_home cap homes now y now_is y_in) ∙ y_stands.1)),
      )
