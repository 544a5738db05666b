-- The walk along a list.

use Rattle.std.proofs.Common.{◌≡◌, ◌≢◌, ℕ, zero, suc, ◌+◌, ◌<◌, ◌≤◌, List, [], ◌∷◌, length, take, refl, sym, arith, ◌∙◌, ap, inl, inr, cond, eqb}
use Rattle.dq_wheel.specs.Circle.{Node, Circle, IsCircles}
use Rattle.dq_wheel.specs.Walks.{IsWalk, occurrences}
use Rattle.dq_wheel.specs.Lists.{IsListOf}
use Rattle.dq_wheel.proofs.Links.{same_or_not, nat_le_or_lt, first_home, first_in, head_is, before_entry}
use Rattle.dq_wheel.proofs.Rows.{capacity_is, seen_home}
use Rattle.dq_wheel.specs.declared.TheConstants.{LISTS}

pub occurrences_same : (i y : ℕ) (ys : List ℕ) → y ≡ i → occurrences i (y ∷ ys) ≡ 1 + occurrences i ys
occurrences_same i y ys e = grind arith

pub occurrences_other : (i y : ℕ) (ys : List ℕ) → y ≢ i → occurrences i (y ∷ ys) ≡ occurrences i ys
occurrences_other i y ys d = grind arith

-- 1 where a home is the one that is asked for
abbrev mark : ℕ → ℕ → ℕ
mark h q = cond (eqb h q) 1 0

pub one_at : (h q : ℕ) → h ≡ q → mark h q ≡ 1
one_at h q e = grind arith

pub none_at : (h q : ℕ) → h ≢ q → mark h q ≡ 0
none_at h q d = grind arith

-- a bound on the ranks of the first n numbers
rank_bound : (rank : ℕ → ℕ) (n : ℕ) → (b : ℕ) × ((x : ℕ) → x < n → rank x ≤ b)
rank_bound rank zero = (0, λ x x_in. omega arith)
rank_bound rank (suc n) =
    let below = rank_bound rank n in (
      below.0 + rank n,
      λ x x_in. elim (same_or_not x n) [ inl e ↦ rw e (omega arith) | inr d ↦ omega (arith, below.1 x (omega arith)) ],
    )

module _ (cap lists : ℕ) (next prev home rank : ℕ → ℕ) (circle : Circle cap lists next prev home rank) (p : ℕ) (p_in : p < lists) where
  node_of : (x : ℕ) → x < cap + lists → home x ≡ p + 1 → Node (cap + lists) next prev home x
  node_of x x_in h = circle.node x x_in (omega arith)

  rises : (x : ℕ) → x < cap → home x ≡ p + 1 → next x < cap → rank x < rank (next x)
  rises x x_in h after_in =
      let node : Node (cap + lists) next prev home x = node_of x (omega arith) h in
      let falls : rank (prev (next x)) < rank (next x) = circle.falls (next x) after_in (omega (arith, node.next_home)) in
      rw node.back at falls

  after_home : (x : ℕ) → x < cap → home x ≡ p + 1 → home (next x) ≡ p + 1
  after_home x x_in h = (node_of x (omega arith) h).next_home ∙ h

  after_below : (x : ℕ) → x < cap → home x ≡ p + 1 → next x < cap + lists
  after_below x x_in h = (node_of x (omega arith) h).next_in

  walk_from : (b : ℕ) → ((x : ℕ) → x < cap → rank x ≤ b) → (fuel x : ℕ) → x < cap + lists → home x ≡ p + 1 →
      (x < cap → b < rank x + fuel) → (xs : List ℕ) × IsWalk cap next (cap + p) x xs
  walk_from b bound zero x x_in h more =
      elim (nat_le_or_lt cap x) [
        | inl high ↦ ([], head_is cap lists next prev home rank circle p p_in x high x_in h)
        | inr low ↦ let le : rank x ≤ b = bound x low in let lt : b < rank x + 0 = more low in absurd (omega arith)
      ]
  walk_from b bound (suc fuel) x x_in h more =
      elim (nat_le_or_lt cap x) [
        | inl high ↦ ([], head_is cap lists next prev home rank circle p p_in x high x_in h)
        | inr low ↦
            let lt : b < rank x + suc fuel = more low in
            let rest = walk_from b bound fuel (next x) (after_below x low h) (after_home x low h)
            (λ after_in. let r : rank x < rank (next x) = rises x low h after_in in omega arith) in
            (x ∷ rest.0, (refl, low, rest.1))
      ]

  -- what stands elsewhere isn't met
  strange : (i : ℕ) → home i ≢ p + 1 → (x : ℕ) (xs : List ℕ) → home x ≡ p + 1 → IsWalk cap next (cap + p) x xs → occurrences i xs ≡ 0
  strange i d x [] h w = refl
  strange i d x (y ∷ ys) h w =
      let y_home : home y ≡ p + 1 = rw w.0 at h in
      occurrences_other i y ys (λ e. d (rw e at y_home)) ∙ strange i d (next y) ys (after_home y w.1 y_home) w.2

  -- what came before isn't met
  passed : (i x : ℕ) (xs : List ℕ) → home x ≡ p + 1 → (x < cap → rank i < rank x) → IsWalk cap next (cap + p) x xs → occurrences i xs ≡ 0
  passed i x [] h before w = refl
  passed i x (y ∷ ys) h before w =
      let y_home : home y ≡ p + 1 = rw w.0 at h in
      let lt : rank i < rank y = rw w.0 at (before (rw w.0 w.1)) in
      occurrences_other i y ys (λ e. let same : rank y ≡ rank i = ap rank e in omega arith)
      ∙ passed i (next y) ys (after_home y w.1 y_home) (λ after_in. let r : rank y < rank (next y) = rises y w.1 y_home after_in in omega arith) w.2

  -- an entry at the front is met once
  front : (i x : ℕ) (xs : List ℕ) → home x ≡ p + 1 → x ≡ i → i < cap → IsWalk cap next (cap + p) x xs → occurrences i xs ≡ 1
  front i x [] h e i_in w = omega arith
  front i x (y ∷ ys) h e i_in w =
      let y_home : home y ≡ p + 1 = rw w.0 at h in
      let y_is : y ≡ i = sym w.0 ∙ e in
      let rest : occurrences i ys ≡ 0 = passed i (next y) ys (after_home y w.1 y_home)
      (λ after_in. let r : rank y < rank (next y) = rises y w.1 y_home after_in in let same : rank y ≡ rank i = ap rank y_is in omega arith) w.2 in
      occurrences_same i y ys y_is ∙ ap (λ n. 1 + n) rest

  -- what follows an entry that is met is met
  follows : (u i x : ℕ) (xs : List ℕ) → home x ≡ p + 1 → next u ≡ i → i < cap → rank u < rank i → IsWalk cap next (cap + p) x xs →
      occurrences u xs ≡ 1 → occurrences i xs ≡ 1
  follows u i x [] h link i_in lt w met = omega arith
  follows u i x (y ∷ ys) h link i_in lt w met =
      let y_home : home y ≡ p + 1 = rw w.0 at h in
      let rest_home : home (next y) ≡ p + 1 = after_home y w.1 y_home in
      elim (same_or_not y u) [
        | inl e ↦
            let not_i : y ≢ i = λ f. let same : rank u ≡ rank i = ap rank (sym e ∙ f) in omega arith in
            occurrences_other i y ys not_i ∙ front i (next y) ys rest_home (ap next e ∙ link) i_in w.2
        | inr d ↦
            let met_later : occurrences u ys ≡ 1 = sym (occurrences_other u y ys d) ∙ met in
            let not_i : y ≢ i = λ f.
            let none : occurrences u ys ≡ 0 = passed u (next y) ys rest_home
            (λ after_in. let r : rank y < rank (next y) = rises y w.1 y_home after_in in let same : rank y ≡ rank i = ap rank f in omega arith) w.2 in
            omega arith in
            occurrences_other i y ys not_i ∙ follows u i (next y) ys rest_home link i_in lt w.2 met_later
      ]

  -- each entry of the list is met once
  met_by_rank : (xs : List ℕ) → IsWalk cap next (cap + p) (next (cap + p)) xs → (r i : ℕ) → rank i < r → i < cap → home i ≡ p + 1 → occurrences i xs ≡ 1
  met_by_rank xs w zero i lt i_in h = absurd (omega arith)
  met_by_rank xs w (suc r) i lt i_in h =
      let start_home : home (next (cap + p)) ≡ p + 1 = first_home cap lists next prev home rank circle p p_in in
      let node : Node (cap + lists) next prev home i = node_of i (omega arith) h in
      let forth : next (prev i) ≡ i = node.forth in
      let falls : rank (prev i) < rank i = circle.falls i i_in (omega arith) in
      elim (same_or_not (prev i) (cap + p)) [
        | inl e ↦ let at_head : next (cap + p) ≡ i = rw e at forth in front i (next (cap + p)) xs start_home at_head i_in w
        | inr d ↦
            let b = before_entry cap lists next prev home rank circle p p_in i i_in h d in
            follows (prev i) i (next (cap + p)) xs start_home forth i_in falls w (met_by_rank xs w r (prev i) (omega arith) b.0 b.1)
      ]

  -- the list that one walks from the head
  pub walked : (xs : List ℕ) × IsWalk cap next (cap + p) (next (cap + p)) xs
  walked =
      let b = rank_bound rank cap in
      walk_from b.0 b.1 (suc b.0) (next (cap + p)) (first_in cap lists next prev home rank circle p p_in)
      (first_home cap lists next prev home rank circle p p_in) (λ _. omega arith)

  pub walked_once : (i : ℕ) → i < cap → occurrences i walked.0 ≡ cond (eqb (home i) (p + 1)) 1 0
  walked_once i i_in =
      elim (same_or_not (home i) (p + 1)) [
        | inl h ↦ met_by_rank walked.0 walked.1 (suc (rank i)) i (omega arith) i_in h ∙ sym (one_at (home i) (p + 1) h)
        | inr d ↦ strange i d (next (cap + p)) walked.0 (first_home cap lists next prev home rank circle p p_in) walked.1 ∙ sym (none_at (home i) (p + 1) d)
      ]

  pub walked_met : (i : ℕ) → i < cap → home i ≡ p + 1 → occurrences i walked.0 ≡ 1
  walked_met i i_in h = walked_once i i_in ∙ one_at (home i) (p + 1) h

  pub walked_le : (i : ℕ) → i < cap → occurrences i walked.0 ≤ 1
  walked_le i i_in =
      elim (same_or_not (home i) (p + 1)) [
        | inl h ↦ omega (arith, walked_met i i_in h)
        | inr d ↦ omega (arith, walked_once i i_in ∙ none_at (home i) (p + 1) d)
      ]

pub list_of_circles : (cap : ℕ) (next prev homes now : List ℕ) → IsCircles cap next prev homes → take cap homes ≡ now → (p : ℕ) → p < LISTS → IsListOf next now p
list_of_circles cap next prev homes now r now_is p p_in =
    let len : length now ≡ cap = capacity_is cap homes now (omega (arith, r.homes_len)) now_is in
    let w = walked cap LISTS _ _ _ r.rank r.circle p p_in in
    record {
      list = w.0;
      walk = rw len w.1;
      once = λ i i_in.
          let i_cap : i < cap = omega arith in
          walked_once cap LISTS _ _ _ r.rank r.circle p p_in i i_cap ∙ ap (λ h. cond (eqb h (p + 1)) 1 0) (sym (seen_home cap homes now i now_is i_cap));
    }
