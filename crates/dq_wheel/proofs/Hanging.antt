-- A whole circle is hung on another head.

use Rattle.std.proofs.Common.{◌≡◌, ◌≢◌, ℕ, ◌+◌, ◌<◌, ◌≤◌, arith, eqb, ◌∙◌, cond, inl, inr, ap, sym}
use Rattle.dq_wheel.specs.Circle.{Node, Circle}
use Rattle.dq_wheel.proofs.Links.{same_or_not, nat_le_or_lt, head_is, first_home, first_in, last_home, last_in}

-- the ranks stay, but one head has that of another
abbrev pub rank_as : ℕ → ℕ → (ℕ → ℕ) → ℕ → ℕ
rank_as onto from rank x = cond (eqb x onto) (rank from) (rank x)

as_there : (onto from : ℕ) (rank : ℕ → ℕ) (x : ℕ) → x ≡ onto → rank_as onto from rank x ≡ rank from
as_there onto from rank x is = grind arith

as_elsewhere : (onto from : ℕ) (rank : ℕ → ℕ) (x : ℕ) → x ≢ onto → rank_as onto from rank x ≡ rank x
as_elsewhere onto from rank x other = grind arith

-- list p hangs on the head of list d, which is empty
module _ (cap lists : ℕ) (next prev home rank : ℕ → ℕ) (circle : Circle cap lists next prev home rank) (p d : ℕ) (p_in : p < lists) (d_in : d < lists)
    (two : p ≢ d) (free : (x : ℕ) → x < cap → home x ≢ d + 1) (some : next (cap + p) ≢ cap + p)
    (next2 prev2 home2 : ℕ → ℕ)
    (next_last : next2 (prev (cap + p)) ≡ cap + d) (next_onto : next2 (cap + d) ≡ next (cap + p)) (next_from : next2 (cap + p) ≡ cap + p)
    (next_o : (x : ℕ) → x ≢ prev (cap + p) → x ≢ cap + d → x ≢ cap + p → next2 x ≡ next x)
    (prev_first : prev2 (next (cap + p)) ≡ cap + d) (prev_onto : prev2 (cap + d) ≡ prev (cap + p)) (prev_from : prev2 (cap + p) ≡ cap + p)
    (prev_o : (x : ℕ) → x ≢ next (cap + p) → x ≢ cap + d → x ≢ cap + p → prev2 x ≡ prev x)
    (home_hung : (x : ℕ) → x < cap → home x ≡ p + 1 → home2 x ≡ d + 1)
    (home_low : (x : ℕ) → x < cap → home x ≢ p + 1 → home2 x ≡ home x)
    (home_high : (x : ℕ) → cap ≤ x → home2 x ≡ home x)
  where
    from_home : home (cap + p) ≡ p + 1
    from_home = circle.head_home p p_in

    onto_home : home (cap + d) ≡ d + 1
    onto_home = circle.head_home d d_in

    from_node : Node (cap + lists) next prev home (cap + p)
    from_node = circle.node (cap + p) (omega arith) (omega (arith, from_home))

    -- the first and the last of the list are entries
    entry : (x : ℕ) → x < cap + lists → home x ≡ p + 1 → x ≢ cap + p → x < cap
    entry x x_in h other =
        elim (nat_le_or_lt cap x) [
          | inl high ↦ absurd (other (head_is cap lists next prev home rank circle p p_in x high x_in h))
          | inr low ↦ low
        ]

    first_low : next (cap + p) < cap
    first_low = entry (next (cap + p)) (first_in cap lists next prev home rank circle p p_in) (first_home cap lists next prev home rank circle p p_in) some

    last_other : prev (cap + p) ≢ cap + p
    last_other e = some (ap next (sym e) ∙ from_node.forth)

    last_low : prev (cap + p) < cap
    last_low = entry (prev (cap + p)) (last_in cap lists next prev home rank circle p p_in) (last_home cap lists next prev home rank circle p p_in) last_other

    -- what stands in another list or in none isn't touched
    apart_node : (x : ℕ) → x < cap + lists → 0 < home x → home x ≢ p + 1 → home x ≢ d + 1 → Node (cap + lists) next2 prev2 home2 x
    apart_node x x_in on other away =
        let node : Node (cap + lists) next prev home x = circle.node x x_in on in
        let first_h : home (next (cap + p)) ≡ p + 1 = first_home cap lists next prev home rank circle p p_in in
        let last_h : home (prev (cap + p)) ≡ p + 1 = last_home cap lists next prev home rank circle p p_in in
        let stays : (y : ℕ) → home y ≢ p + 1 → home2 y ≡ home y = λ y e. elim (nat_le_or_lt cap y) [ inl high ↦ home_high y high | inr low ↦ home_low y low e ] in
        let next_other : home (next x) ≢ p + 1 = λ e. other (sym node.next_home ∙ e) in
        let prev_other : home (prev x) ≢ p + 1 = λ e. other (sym node.prev_home ∙ e) in
        let next_away : home (next x) ≢ d + 1 = λ e. away (sym node.next_home ∙ e) in
        let prev_away : home (prev x) ≢ d + 1 = λ e. away (sym node.prev_home ∙ e) in
        let next_is : (y : ℕ) → home y ≢ p + 1 → home y ≢ d + 1 → next2 y ≡ next y =
        λ y e f. next_o y (λ s. e (ap home s ∙ last_h)) (λ s. f (ap home s ∙ onto_home)) (λ s. e (ap home s ∙ from_home)) in
        let prev_is : (y : ℕ) → home y ≢ p + 1 → home y ≢ d + 1 → prev2 y ≡ prev y =
        λ y e f. prev_o y (λ s. e (ap home s ∙ first_h)) (λ s. f (ap home s ∙ onto_home)) (λ s. e (ap home s ∙ from_home)) in
        record {
          next_in = rw (next_is x other away) node.next_in;
          prev_in = rw (prev_is x other away) node.prev_in;
          next_home = rw (next_is x other away, stays (next x) next_other, stays x other) node.next_home;
          prev_home = rw (prev_is x other away, stays (prev x) prev_other, stays x other) node.prev_home;
          back = rw (next_is x other away, prev_is (next x) next_other next_away) node.back;
          forth = rw (prev_is x other away, next_is (prev x) prev_other prev_away) node.forth;
        }

    -- an entry of the list
    hung_node : (x : ℕ) → x < cap → home x ≡ p + 1 → Node (cap + lists) next2 prev2 home2 x
    hung_node x x_in h =
        let node : Node (cap + lists) next prev home x = circle.node x (omega arith) (omega arith) in
        let here : home2 x ≡ d + 1 = home_hung x x_in h in
        let next_h : home (next x) ≡ p + 1 = node.next_home ∙ h in
        let prev_h : home (prev x) ≡ p + 1 = node.prev_home ∙ h in
        let onto_here : home2 (cap + d) ≡ d + 1 = home_high (cap + d) (omega arith) ∙ onto_home in
        let after : (next2 x < cap + lists) × (home2 (next2 x) ≡ d + 1) × (prev2 (next2 x) ≡ x) =
        elim (same_or_not x (prev (cap + p))) [
          | inl e ↦
              let is : next2 x ≡ cap + d = ap next2 e ∙ next_last in
              rw is (omega arith, onto_here, prev_onto ∙ sym e)
          | inr other ↦
              let is : next2 x ≡ next x = next_o x other (λ s. omega arith) (λ s. omega arith) in
              let not_head : next x ≢ cap + p = λ s. other (sym node.back ∙ ap prev s) in
              let low : next x < cap = entry (next x) node.next_in next_h not_head in
              let not_first : next x ≢ next (cap + p) =
              λ s. let same : x ≡ cap + p = sym node.back ∙ (ap prev s ∙ from_node.back) in omega arith in
              let back : prev2 (next x) ≡ prev (next x) = prev_o (next x) not_first (λ s. omega arith) not_head in
              rw is (node.next_in, home_hung (next x) low next_h, back ∙ node.back)
        ] in
        let before : (prev2 x < cap + lists) × (home2 (prev2 x) ≡ d + 1) × (next2 (prev2 x) ≡ x) =
        elim (same_or_not x (next (cap + p))) [
          | inl e ↦
              let is : prev2 x ≡ cap + d = ap prev2 e ∙ prev_first in
              rw is (omega arith, onto_here, next_onto ∙ sym e)
          | inr other ↦
              let is : prev2 x ≡ prev x = prev_o x other (λ s. omega arith) (λ s. omega arith) in
              let not_head : prev x ≢ cap + p = λ s. other (sym node.forth ∙ ap next s) in
              let low : prev x < cap = entry (prev x) node.prev_in prev_h not_head in
              let not_last : prev x ≢ prev (cap + p) =
              λ s. let same : x ≡ cap + p = sym node.forth ∙ (ap next s ∙ from_node.forth) in omega arith in
              let forth : next2 (prev x) ≡ next (prev x) = next_o (prev x) not_last (λ s. omega arith) not_head in
              rw is (node.prev_in, home_hung (prev x) low prev_h, forth ∙ node.forth)
        ] in
        record {
          next_in = after.0;
          prev_in = before.0;
          next_home = after.1 ∙ sym here;
          prev_home = before.1 ∙ sym here;
          back = after.2;
          forth = before.2;
        }

    onto_node : Node (cap + lists) next2 prev2 home2 (cap + d)
    onto_node =
        let here : home2 (cap + d) ≡ d + 1 = home_high (cap + d) (omega arith) ∙ onto_home in
        record {
          next_in = rw next_onto (omega (arith, first_low));
          prev_in = rw prev_onto (omega (arith, last_low));
          next_home = rw next_onto (home_hung (next (cap + p)) first_low (first_home cap lists next prev home rank circle p p_in) ∙ sym here);
          prev_home = rw prev_onto (home_hung (prev (cap + p)) last_low (last_home cap lists next prev home rank circle p p_in) ∙ sym here);
          back = rw next_onto prev_first;
          forth = rw prev_onto next_last;
        }

    freed_node : Node (cap + lists) next2 prev2 home2 (cap + p)
    freed_node =
        record {
          next_in = rw next_from (omega arith);
          prev_in = rw prev_from (omega arith);
          next_home = ap home2 next_from;
          prev_home = ap home2 prev_from;
          back = ap prev2 next_from ∙ prev_from;
          forth = ap next2 prev_from ∙ next_from;
        }

    -- a head that is neither of the two stands in a third list
    hung_nodes : (x : ℕ) → x < cap + lists → 0 < home2 x → Node (cap + lists) next2 prev2 home2 x
    hung_nodes x x_in on =
        elim (nat_le_or_lt cap x) [
          | inl high ↦
              let same : home2 x ≡ home x = home_high x high in
              elim (same_or_not x (cap + p)) [
                | inl e ↦ rw e freed_node
                | inr not_from ↦
                    elim (same_or_not x (cap + d)) [
                      | inl e ↦ rw e onto_node
                      | inr not_onto ↦
                          apart_node x x_in (omega arith)
                          (λ h. not_from (head_is cap lists next prev home rank circle p p_in x high x_in h))
                          (λ h. not_onto (head_is cap lists next prev home rank circle d d_in x high x_in h))
                    ]
              ]
          | inr low ↦
              elim (same_or_not (home x) (p + 1)) [
                | inl h ↦ hung_node x low h
                | inr other ↦ let same : home2 x ≡ home x = home_low x low other in apart_node x x_in (omega arith) other (free x low)
              ]
        ]

    abbrev pub hung_rank : ℕ → ℕ
    hung_rank = rank_as (cap + d) (cap + p) rank

    rank_onto : (x : ℕ) → x ≡ cap + d → hung_rank x ≡ rank (cap + p)
    rank_onto x is = as_there (cap + d) (cap + p) rank x is

    rank_other : (x : ℕ) → x ≢ cap + d → hung_rank x ≡ rank x
    rank_other x other = as_elsewhere (cap + d) (cap + p) rank x other

    hung_falls : (x : ℕ) → x < cap → 0 < home2 x → hung_rank (prev2 x) < hung_rank x
    hung_falls x x_in on =
        let own : hung_rank x ≡ rank x = rank_other x (λ s. omega arith) in
        let linked : 0 < home x =
        elim (same_or_not (home x) (p + 1)) [ inl h ↦ omega arith | inr other ↦ let same : home2 x ≡ home x = home_low x x_in other in omega arith ] in
        let falls : rank (prev x) < rank x = circle.falls x x_in linked in
        let node : Node (cap + lists) next prev home x = circle.node x (omega arith) linked in
        elim (same_or_not x (next (cap + p))) [
          | inl e ↦
              let is : prev2 x ≡ cap + d = ap prev2 e ∙ prev_first in
              let was : prev x ≡ cap + p = ap prev e ∙ from_node.back in
              let head : hung_rank (prev2 x) ≡ rank (cap + p) = rank_onto (prev2 x) is in
              let before : rank (cap + p) < rank x = rw was at falls in
              omega arith
          | inr other ↦
              let is : prev2 x ≡ prev x = prev_o x other (λ s. omega arith) (λ s. omega arith) in
              let not_onto : prev x ≢ cap + d = λ s. free x x_in (sym node.prev_home ∙ (ap home s ∙ onto_home)) in
              let same : hung_rank (prev2 x) ≡ rank (prev x) = ap hung_rank is ∙ rank_other (prev x) not_onto in
              omega arith
        ]

    pub hung : Circle cap lists next2 prev2 home2 hung_rank
    hung =
        record {
          head_home = λ q q_in. home_high (cap + q) (omega arith) ∙ circle.head_home q q_in;
          home_le = λ x x_in.
              elim (same_or_not (home x) (p + 1)) [
                | inl h ↦ rw (home_hung x x_in h) (omega arith)
                | inr other ↦ rw (home_low x x_in other) (circle.home_le x x_in)
              ];
          node = hung_nodes;
          falls = hung_falls;
        }
