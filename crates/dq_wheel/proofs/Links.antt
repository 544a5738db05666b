-- What a link and an unlink leave of the circular lists.

use Rattle.std.proofs.Common.{◌≡◌, ◌≢◌, ℕ, zero, suc, ◌+◌, ◌-◌, ◌<◌, ◌≤◌, arith, eqb, ◌∙◌, cond, ◌⊎◌, inl, inr}
use Rattle.dq_wheel.specs.Circle.{Node, Circle}

-- two numbers are one or not
pub same_or_not : (x y : ℕ) → (x ≡ y) ⊎ (x ≢ y)
same_or_not x y = grind arith

-- one of two numbers is not above the other
pub nat_le_or_lt : (x y : ℕ) → (x ≤ y) ⊎ (y < x)
nat_le_or_lt x y = grind arith

module _ (cap lists : ℕ) (next prev home rank : ℕ → ℕ) (circle : Circle cap lists next prev home rank) (i : ℕ) (i_in : i < cap) where
  -- i is linked at the end of list p
  module _ (p last : ℕ) (p_in : p < lists) (loose : home i ≡ 0) (last_is : last ≡ prev (cap + p))
      (next2 prev2 home2 : ℕ → ℕ)
      (next_i : next2 i ≡ cap + p) (next_last : next2 last ≡ i) (next_o : (x : ℕ) → x ≢ i → x ≢ last → next2 x ≡ next x)
      (prev_i : prev2 i ≡ last) (prev_head : prev2 (cap + p) ≡ i) (prev_o : (x : ℕ) → x ≢ i → x ≢ cap + p → prev2 x ≡ prev x)
      (home_i : home2 i ≡ p + 1) (home_o : (x : ℕ) → x ≢ i → home2 x ≡ home x)
    where
      own_head : home (cap + p) ≡ p + 1
      own_head = circle.head_home p p_in

      head_node : Node (cap + lists) next prev home (cap + p)
      head_node = circle.node (cap + p) (omega arith) (omega (arith, own_head))

      last_stands : home last ≡ p + 1
      last_stands = rw last_is (head_node.prev_home ∙ own_head)

      -- an entry or a head that stood in a list
      other_node : (x : ℕ) → x < cap + lists → 0 < home2 x → x ≢ i → Node (cap + lists) next2 prev2 home2 x
      other_node x x_in on x_not_i =
          let h : home2 x ≡ home x = home_o x x_not_i in
          let node : Node (cap + lists) next prev home x = circle.node x x_in (omega arith) in
          let next_home : home (next x) ≡ home x = node.next_home in
          let prev_home : home (prev x) ≡ home x = node.prev_home in
          let next_not_i : next x ≢ i = λ e. grind arith in
          let prev_not_i : prev x ≢ i = λ e. grind arith in
          let on_last : last < cap + lists = rw last_is head_node.prev_in in
          record {
            next_in = grind arith;
            prev_in = grind arith;
            next_home = grind arith;
            prev_home = grind arith;
            back = grind arith;
            forth = grind arith;
          }

      own_node : Node (cap + lists) next2 prev2 home2 i
      own_node =
          record {
            next_in = grind arith;
            prev_in = grind arith;
            next_home = grind arith;
            prev_home = grind arith;
            back = grind arith;
            forth = grind arith;
          }

      linked_node : (x : ℕ) → x < cap + lists → 0 < home2 x → Node (cap + lists) next2 prev2 home2 x
      linked_node x x_in on =
          elim (same_or_not x i) [
            | inl e ↦ rw e own_node
            | inr d ↦ other_node x x_in on d
          ]

      -- the new rank: i comes after the last
      abbrev pub rank2 : ℕ → ℕ
      rank2 x = cond (eqb x i) (suc (rank last)) (rank x)

      rank2_i : rank2 i ≡ suc (rank last)
      rank2_i = grind arith

      rank2_o : (x : ℕ) → x ≢ i → rank2 x ≡ rank x
      rank2_o x d = grind arith

      linked_falls : (x : ℕ) → x < cap → 0 < home2 x → rank2 (prev2 x) < rank2 x
      linked_falls x x_in on =
          elim (same_or_not x i) [
            | inl e ↦
                let d : last ≢ i = λ l. grind arith in
                rw (e, prev_i, rank2_i, rank2_o last d) (omega arith)
            | inr d ↦
                let h : home2 x ≡ home x = home_o x d in
                let node : Node (cap + lists) next prev home x = circle.node x (omega arith) (omega arith) in
                let prev_not_i : prev x ≢ i = λ e. grind (arith, node.prev_home) in
                let falls : rank (prev x) < rank x = circle.falls x x_in (omega arith) in
                rw (prev_o x d (omega arith), rank2_o (prev x) prev_not_i, rank2_o x d) falls
          ]

      pub linked : Circle cap lists next2 prev2 home2 rank2
      linked =
          record {
            head_home = λ q q_in. rw (home_o (cap + q) (λ e. omega arith)) (circle.head_home q q_in);
            home_le = λ x x_in. elim (same_or_not x i) [ inl e ↦ rw (e, home_i) (omega arith) | inr d ↦ rw (home_o x d) (circle.home_le x x_in) ];
            node = linked_node;
            falls = linked_falls;
          }

  -- i is taken out of its list
  module _ (before after : ℕ) (on_i : 0 < home i) (before_is : before ≡ prev i) (after_is : after ≡ next i)
      (next2 prev2 home2 : ℕ → ℕ)
      (next_before : next2 before ≡ after) (next_o : (x : ℕ) → x ≢ before → next2 x ≡ next x)
      (prev_after : prev2 after ≡ before) (prev_o : (x : ℕ) → x ≢ after → prev2 x ≡ prev x)
      (home_i : home2 i ≡ 0) (home_o : (x : ℕ) → x ≢ i → home2 x ≡ home x)
    where
      i_node : Node (cap + lists) next prev home i
      i_node = circle.node i (omega arith) on_i

      before_not_i : before ≢ i
      before_not_i e = let falls : rank (prev i) < rank i = circle.falls i i_in on_i in grind arith

      after_not_i : after ≢ i
      after_not_i e = let back : prev (next i) ≡ i = i_node.back in grind (arith, before_not_i)

      kept_node : (x : ℕ) → x < cap + lists → 0 < home2 x → x ≢ i → Node (cap + lists) next2 prev2 home2 x
      kept_node x x_in on x_not_i =
          let h : home2 x ≡ home x = home_o x x_not_i in
          let node : Node (cap + lists) next prev home x = circle.node x x_in (omega arith) in
          let at_i : Node (cap + lists) next prev home i = i_node in
          let b : before ≢ i = before_not_i in
          let a : after ≢ i = after_not_i in
          record {
            next_in = grind arith;
            prev_in = grind arith;
            next_home = grind arith;
            prev_home = grind arith;
            back = grind arith;
            forth = grind arith;
          }

      unlinked_node : (x : ℕ) → x < cap + lists → 0 < home2 x → Node (cap + lists) next2 prev2 home2 x
      unlinked_node x x_in on = kept_node x x_in on (λ e. grind arith)

      unlinked_falls : (x : ℕ) → x < cap → 0 < home2 x → rank (prev2 x) < rank x
      unlinked_falls x x_in on =
          let x_not_i : x ≢ i = λ e. grind arith in
          let h : home2 x ≡ home x = home_o x x_not_i in
          let falls : rank (prev x) < rank x = circle.falls x x_in (omega arith) in
          let falls_i : rank (prev i) < rank i = circle.falls i i_in on_i in
          let back : prev (next i) ≡ i = i_node.back in
          elim (same_or_not x after) [
            | inl e ↦ grind arith
            | inr d ↦ grind arith
          ]

      pub unlinked : Circle cap lists next2 prev2 home2 rank
      unlinked =
          record {
            head_home = λ q q_in. rw (home_o (cap + q) (λ e. omega arith)) (circle.head_home q q_in);
            home_le = λ x x_in. elim (same_or_not x i) [ inl e ↦ rw (e, home_i) (omega arith) | inr d ↦ rw (home_o x d) (circle.home_le x x_in) ];
            node = unlinked_node;
            falls = unlinked_falls;
          }

-- the first of a list
module _ (cap lists : ℕ) (next prev home rank : ℕ → ℕ) (circle : Circle cap lists next prev home rank) (p : ℕ) (p_in : p < lists) where
  first_node : Node (cap + lists) next prev home (cap + p)
  first_node = circle.node (cap + p) (omega arith) (omega (arith, circle.head_home p p_in))

  -- what follows the head stands in the list
  pub first_home : home (next (cap + p)) ≡ p + 1
  first_home = first_node.next_home ∙ circle.head_home p p_in

  pub first_in : next (cap + p) < cap + lists
  first_in = first_node.next_in

  -- what the head follows stands in the list
  pub last_home : home (prev (cap + p)) ≡ p + 1
  last_home = first_node.prev_home ∙ circle.head_home p p_in

  pub last_in : prev (cap + p) < cap + lists
  last_in = first_node.prev_in

  -- the first follows the head
  pub first_back : prev (next (cap + p)) ≡ cap + p
  first_back = first_node.back

  -- a head in the list is its own
  pub head_is : (x : ℕ) → cap ≤ x → x < cap + lists → home x ≡ p + 1 → x ≡ cap + p
  head_is x low high h =
      let own : home (cap + (x - cap)) ≡ x - cap + 1 = circle.head_home (x - cap) (omega arith) in
      let e : cap + (x - cap) ≡ x = omega arith in
      let own2 : home x ≡ x - cap + 1 = rw e at own in
      omega arith

  -- what comes before an entry of the list is an entry, or the head
  pub before_entry : (x : ℕ) → x < cap → home x ≡ p + 1 → prev x ≢ cap + p → (prev x < cap) × (home (prev x) ≡ p + 1)
  before_entry x x_in h d =
      let node : Node (cap + lists) next prev home x = circle.node x (omega arith) (omega arith) in
      let prev_home : home (prev x) ≡ p + 1 = node.prev_home ∙ h in
      elim (nat_le_or_lt cap (prev x)) [
        | inl high ↦ absurd (d (head_is (prev x) high node.prev_in prev_home))
        | inr low ↦ (low, prev_home)
      ]

  -- where a head follows itself, no entry stands in the list
  none_by_rank : cap ≤ next (cap + p) → (r x : ℕ) → rank x < r → x < cap → home x ≡ p + 1 → ⊥
  none_by_rank e zero x low x_in h = omega arith
  none_by_rank e (suc r) x low x_in h =
      let node : Node (cap + lists) next prev home x = circle.node x (omega arith) (omega arith) in
      let falls : rank (prev x) < rank x = circle.falls x x_in (omega arith) in
      elim (same_or_not (prev x) (cap + p)) [
        | inl d ↦ let forth : next (prev x) ≡ x = node.forth in grind arith
        | inr d ↦ let b = before_entry x x_in h d in none_by_rank e r (prev x) (omega arith) b.0 b.1
      ]

  pub none_in : cap ≤ next (cap + p) → (x : ℕ) → x < cap → home x ≡ p + 1 → ⊥
  none_in e x = none_by_rank e (suc (rank x)) x (omega arith)

-- the neighbours of an entry that stands in a list
module _ (cap lists : ℕ) (next prev home rank : ℕ → ℕ) (circle : Circle cap lists next prev home rank) (i : ℕ) (i_in : i < cap) (on : 0 < home i) where
  here : Node (cap + lists) next prev home i
  here = circle.node i (omega arith) on

  pub before_in : prev i < cap + lists
  before_in = here.prev_in

  pub after_in : next i < cap + lists
  after_in = here.next_in
