-- A list that is taken off its head, put back entry by entry into other lists.

use Rattle.std.proofs.Common.{◌≡◌, ◌≢◌, ℕ, ◌+◌, ◌<◌, ◌≤◌, List, [], ◌∷◌, get_or, set, refl, sym, arith, ◌∙◌, ap, inl, inr, cond, eqb, nat_lt, if◌then◌else◌, ◌&&◌, ◌==◌}
use Rattle.std.proofs.Math.ListN.{length-set}
use Rattle.std.proofs.lemmas.List.{get_or-set_same, get_or-set_other}
use Rattle.std.proofs.lemmas.Bool.Decides.{nat_tests}
use Rattle.dq_wheel.specs.Circle.{Node, Circle, IsCircles, IsTakenOff, home_but}
use Rattle.dq_wheel.specs.Walks.{IsWalk, occurrences}
use Rattle.dq_wheel.specs.declared.TheConstants.{LISTS}
use Rattle.dq_wheel.proofs.Links.{same_or_not, nat_le_or_lt, head_is, last_home, last_in, linked}
use Rattle.dq_wheel.proofs.Rows.{set_first, set_second, set_others}
use Rattle.dq_wheel.proofs.Walks.{occurrences_same, occurrences_other, one_at, none_at, walked, walked_once}

but_here : (cap p : ℕ) (homes : List ℕ) (x : ℕ) → x < cap → get_or homes x 0 ≡ p + 1 → home_but cap p homes x ≡ 0
but_here cap p homes x low here = grind (arith, nat_tests)

but_other : (cap p : ℕ) (homes : List ℕ) (x : ℕ) → get_or homes x 0 ≢ p + 1 → home_but cap p homes x ≡ get_or homes x 0
but_other cap p homes x other = grind (arith, nat_tests)

but_head : (cap p : ℕ) (homes : List ℕ) (x : ℕ) → cap ≤ x → home_but cap p homes x ≡ get_or homes x 0
but_head cap p homes x high = grind (arith, nat_tests)

-- the head of a list stands alone, and its entries count as loose
module _ (cap lists : ℕ) (next prev home rank : ℕ → ℕ) (circle : Circle cap lists next prev home rank) (p : ℕ) (p_in : p < lists)
    (next2 prev2 home2 : ℕ → ℕ)
    (next_head : next2 (cap + p) ≡ cap + p) (next_o : (x : ℕ) → x ≢ cap + p → next2 x ≡ next x)
    (prev_head : prev2 (cap + p) ≡ cap + p) (prev_o : (x : ℕ) → x ≢ cap + p → prev2 x ≡ prev x)
    (home_out : (x : ℕ) → x < cap → home x ≡ p + 1 → home2 x ≡ 0)
    (home_o : (x : ℕ) → home x ≢ p + 1 → home2 x ≡ home x) (home_high : (x : ℕ) → cap ≤ x → home2 x ≡ home x)
  where
    -- what stands elsewhere is not the head
    apart : (x : ℕ) → home x ≢ p + 1 → x ≢ cap + p
    apart x d e = d (rw e (circle.head_home p p_in))

    elsewhere : (x : ℕ) → x < cap + lists → 0 < home2 x → x ≢ cap + p → home x ≢ p + 1
    elsewhere x x_in on d here =
        elim (nat_le_or_lt cap x) [
          | inl high ↦ d (head_is cap lists next prev home rank circle p p_in x high x_in here)
          | inr low ↦ omega (arith, home_out x low here)
        ]

    other_node : (x : ℕ) → x < cap + lists → 0 < home2 x → x ≢ cap + p → Node (cap + lists) next2 prev2 home2 x
    other_node x x_in on d =
        let other : home x ≢ p + 1 = elsewhere x x_in on d in
        let same : home2 x ≡ home x = home_o x other in
        let node : Node (cap + lists) next prev home x = circle.node x x_in (omega arith) in
        let next_other : home (next x) ≢ p + 1 = λ e. other (sym node.next_home ∙ e) in
        let prev_other : home (prev x) ≢ p + 1 = λ e. other (sym node.prev_home ∙ e) in
        record {
          next_in = rw (next_o x d) node.next_in;
          prev_in = rw (prev_o x d) node.prev_in;
          next_home = rw (next_o x d, home_o (next x) next_other, same) node.next_home;
          prev_home = rw (prev_o x d, home_o (prev x) prev_other, same) node.prev_home;
          back = rw (next_o x d, prev_o (next x) (apart (next x) next_other)) node.back;
          forth = rw (prev_o x d, next_o (prev x) (apart (prev x) prev_other)) node.forth;
        }

    head_node : Node (cap + lists) next2 prev2 home2 (cap + p)
    head_node =
        record {
          next_in = rw next_head (omega arith);
          prev_in = rw prev_head (omega arith);
          next_home = ap home2 next_head;
          prev_home = ap home2 prev_head;
          back = ap prev2 next_head ∙ prev_head;
          forth = ap next2 prev_head ∙ next_head;
        }

    pub taken_off : Circle cap lists next2 prev2 home2 rank
    taken_off =
        record {
          head_home = λ q q_in. home_high (cap + q) (omega arith) ∙ circle.head_home q q_in;
          home_le = λ x x_in.
              elim (same_or_not (home x) (p + 1)) [
                | inl here ↦ omega (arith, home_out x x_in here)
                | inr other ↦ rw (home_o x other) (circle.home_le x x_in)
              ];
          node = λ x x_in on.
              elim (same_or_not x (cap + p)) [
                | inl e ↦ rw e head_node
                | inr d ↦ other_node x x_in on d
              ];
          falls = λ x x_in on.
              let d : x ≢ cap + p = λ e. omega arith in
              let same : home2 x ≡ home x = home_o x (elsewhere x (omega arith) on d) in
              rw (prev_o x d) (circle.falls x x_in (omega arith));
        }

-- circles with the same homes are the same circles
pub circle_by : (cap lists : ℕ) (next prev home home2 rank : ℕ → ℕ) → Circle cap lists next prev home rank →
    ((x : ℕ) → x < cap + lists → home2 x ≡ home x) → Circle cap lists next prev home2 rank
circle_by cap lists next prev home home2 rank circle same =
    record {
      head_home = λ p p_in. same (cap + p) (omega arith) ∙ circle.head_home p p_in;
      home_le = λ x x_in. rw (same x (omega arith)) (circle.home_le x x_in);
      node = λ x x_in on.
          let node : Node (cap + lists) next prev home x = circle.node x x_in (omega (arith, same x x_in)) in
          record {
            next_in = node.next_in;
            prev_in = node.prev_in;
            next_home = same (next x) node.next_in ∙ node.next_home ∙ sym (same x x_in);
            prev_home = same (prev x) node.prev_in ∙ node.prev_home ∙ sym (same x x_in);
            back = node.back;
            forth = node.forth;
          };
      falls = λ x x_in on. circle.falls x x_in (omega (arith, same x (omega arith)));
    }

-- what is met in the rest of a walk is met in the walk
met_more : (i y : ℕ) (ys : List ℕ) → 0 < occurrences i ys → 0 < occurrences i (y ∷ ys)
met_more i y ys met =
    elim (same_or_not y i) [
      | inl e ↦ omega (arith, occurrences_same i y ys e)
      | inr d ↦ omega (arith, occurrences_other i y ys d)
    ]

-- a walk stays, where what follows its entries stays
walk_kept : (cap : ℕ) (next next2 : ℕ → ℕ) (head x : ℕ) (ys : List ℕ) →
    ((y : ℕ) → y < cap → 0 < occurrences y ys → next2 y ≡ next y) → IsWalk cap next head x ys → IsWalk cap next2 head x ys
walk_kept cap next next2 head x [] same w = w
walk_kept cap next next2 head x (y ∷ ys) same w =
    let rest : IsWalk cap next2 head (next y) ys = walk_kept cap next next2 head (next y) ys (λ z z_in met. same z z_in (met_more z y ys met)) w.2 in
    (w.0, w.1, rw (same y w.1 (omega (arith, occurrences_same y y ys refl))) rest)

-- list p is taken off its head
pub circles_taken : (cap : ℕ) (next prev homes : List ℕ) (p : ℕ) → IsCircles cap next prev homes → p < LISTS →
    IsTakenOff cap p (get_or next (cap + p) 0) (set next (cap + p) (cap + p)) (set prev (cap + p) (cap + p)) homes
circles_taken cap next prev homes p r p_in =
    let w = walked cap LISTS _ _ _ r.rank r.circle p p_in in
    record {
      small = r.small;
      next_len = simp length-set r.next_len;
      prev_len = simp length-set r.prev_len;
      homes_len = r.homes_len;
      rank = r.rank;
      circle = taken_off cap LISTS (λ x. get_or next x 0) (λ x. get_or prev x 0) (λ x. get_or homes x 0) r.rank r.circle p p_in
          (λ x. get_or (set next (cap + p) (cap + p)) x 0) (λ x. get_or (set prev (cap + p) (cap + p)) x 0) (home_but cap p homes)
          (get_or-set_same next (cap + p) (cap + p) 0 (omega (arith, r.next_len))) (λ x. get_or-set_other next (cap + p) x (cap + p) 0)
          (get_or-set_same prev (cap + p) (cap + p) 0 (omega (arith, r.prev_len))) (λ x. get_or-set_other prev (cap + p) x (cap + p) 0)
          (but_here cap p homes) (but_other cap p homes) (but_head cap p homes);
      list = w.0;
      walk = walk_kept cap (λ x. get_or next x 0) (λ x. get_or (set next (cap + p) (cap + p)) x 0) (cap + p) (get_or next (cap + p) 0) w.0
          (λ y y_in met. get_or-set_other next (cap + p) y (cap + p) 0 (λ e. omega arith)) w.1;
      once = walked_once cap LISTS _ _ _ r.rank r.circle p p_in;
    }

-- what is met stands in the list
met_stands : (n h q : ℕ) → n ≡ cond (eqb h q) 1 0 → 0 < n → h ≡ q
met_stands n h q is met =
    elim (same_or_not h q) [
      | inl e ↦ e
      | inr d ↦ absurd (omega (arith, is ∙ none_at h q d))
    ]

met_front : (cap : ℕ) (next : ℕ → ℕ) (head x : ℕ) (ys : List ℕ) → x ≢ head → IsWalk cap next head x ys → 0 < occurrences x ys
met_front cap next head x [] d w = absurd (d w)
met_front cap next head x (y ∷ ys) d w = omega (arith, occurrences_same x y ys (sym w.0))

-- the entry at the front stands in the list that was taken off
pub stands_first : (cap p i : ℕ) (next prev homes : List ℕ) → IsTakenOff cap p i next prev homes → i < cap → get_or homes i 0 ≡ p + 1
stands_first cap p i next prev homes t i_in =
    met_stands _ _ _ (t.once i i_in) (met_front cap (λ x. get_or next x 0) (cap + p) i t.list (omega arith) t.walk)

-- it is put at the end of another list
module _ (cap p i to last after : ℕ) (next prev homes : List ℕ) (t : IsTakenOff cap p i next prev homes) (i_in : i < cap)
    (to_in : to < LISTS) (away : to ≢ p) (last_is : last ≡ get_or prev (cap + to) 0) (after_is : after ≡ get_or next i 0) where
  abbrev next2 : List ℕ
  next2 = set (set next i (cap + to)) last i

  abbrev prev2 : List ℕ
  prev2 = set (set prev i last) (cap + to) i

  abbrev homes2 : List ℕ
  homes2 = set homes i (to + 1)

  stands_here : get_or homes i 0 ≡ p + 1
  stands_here = stands_first cap p i next prev homes t i_in

  last_stands : home_but cap p homes last ≡ to + 1
  last_stands = rw last_is (last_home cap LISTS _ _ _ t.rank t.circle to to_in)

  pub last_below : last < cap + LISTS
  last_below = rw last_is (last_in cap LISTS _ _ _ t.rank t.circle to to_in)

  loose : home_but cap p homes i ≡ 0
  loose = but_here cap p homes i i_in stands_here

  last_apart : i ≢ last
  last_apart e = let h : home_but cap p homes last ≡ 0 = rw e at loose in omega (arith, last_stands)

  homes_here : get_or homes2 i 0 ≡ to + 1
  homes_here = get_or-set_same homes i (to + 1) 0 (omega (arith, t.homes_len))

  homes_other : (x : ℕ) → x ≢ i → get_or homes2 x 0 ≡ get_or homes x 0
  homes_other x d = get_or-set_other homes i x (to + 1) 0 d

  but_i : home_but cap p homes2 i ≡ to + 1
  but_i = but_other cap p homes2 i (λ e. away (omega (arith, homes_here))) ∙ homes_here

  but_o : (x : ℕ) → x ≢ i → home_but cap p homes2 x ≡ home_but cap p homes x
  but_o x d = ap (λ h. if nat_lt x cap && (h == p + 1) then 0 else h) (homes_other x d)

  module _ (ys : List ℕ) (w : IsWalk cap (λ x. get_or next x 0) (cap + p) (get_or next i 0) ys)
      (once : (j : ℕ) → j < cap → occurrences j (i ∷ ys) ≡ cond (eqb (get_or homes j 0) (p + 1)) 1 0) where
    not_again : occurrences i ys ≡ 0
    not_again = omega (arith, once i i_in ∙ one_at _ _ stands_here, occurrences_same i i ys refl)

    rest_apart : (z : ℕ) → z < cap → 0 < occurrences z ys → z ≢ last
    rest_apart z z_in met e =
        let stands : get_or homes z 0 ≡ p + 1 = met_stands _ _ _ (once z z_in) (met_more z i ys met) in
        let none : home_but cap p homes last ≡ 0 = rw (← e) (but_here cap p homes z z_in stands) in
        omega (arith, last_stands)

    rest_walk : IsWalk cap (λ x. get_or next2 x 0) (cap + p) after ys
    rest_walk =
        rw after_is (walk_kept cap (λ x. get_or next x 0) (λ x. get_or next2 x 0) (cap + p) (get_or next i 0) ys
        (λ z z_in met. set_others next i last (cap + to) i z (λ e. absurd (omega (arith, ap (λ n. occurrences n ys) e, not_again))) (rest_apart z z_in met)) w)

    rest_once : (j : ℕ) → j < cap → occurrences j ys ≡ cond (eqb (get_or homes2 j 0) (p + 1)) 1 0
    rest_once j j_in =
        elim (same_or_not j i) [
          | inl e ↦ rw e (not_again ∙ sym (none_at (get_or homes2 i 0) (p + 1) (λ h. away (omega (arith, homes_here)))))
          | inr d ↦
              sym (occurrences_other j i ys (λ e. d (sym e))) ∙ once j j_in
              ∙ ap (λ h. cond (eqb h (p + 1)) 1 0) (sym (homes_other j d))
        ]

    rest : IsTakenOff cap p after next2 prev2 homes2
    rest =
        record {
          small = t.small;
          next_len = simp length-set t.next_len;
          prev_len = simp length-set t.prev_len;
          homes_len = simp length-set t.homes_len;
          rank = _;
          circle = linked cap LISTS (λ x. get_or next x 0) (λ x. get_or prev x 0) (home_but cap p homes) t.rank t.circle i i_in to last to_in loose last_is
              (λ x. get_or next2 x 0) (λ x. get_or prev2 x 0) (home_but cap p homes2)
              (set_first next i last (cap + to) i (omega (arith, t.next_len)) last_apart) (set_second next i last (cap + to) i (omega (arith, t.next_len, last_below)))
              (set_others next i last (cap + to) i)
              (set_first prev i (cap + to) last i (omega (arith, t.prev_len)) (λ e. omega arith)) (set_second prev i (cap + to) last i (omega (arith, t.prev_len)))
              (set_others prev i (cap + to) last i)
              but_i but_o;
          list = ys;
          walk = rest_walk;
          once = rest_once;
        }

  rest_of : (xs : List ℕ) → IsWalk cap (λ x. get_or next x 0) (cap + p) i xs →
      ((j : ℕ) → j < cap → occurrences j xs ≡ cond (eqb (get_or homes j 0) (p + 1)) 1 0) → IsTakenOff cap p after next2 prev2 homes2
  rest_of [] w once = absurd (omega arith)
  rest_of (y ∷ ys) w once = rest ys (rw w.0 w.2) (rw w.0 once)

  pub put_last : IsTakenOff cap p after next2 prev2 homes2
  put_last = rest_of t.list t.walk t.once

-- nothing is left of the list that was taken off
module _ (cap p at : ℕ) (next prev homes : List ℕ) (t : IsTakenOff cap p at next prev homes) (high : cap ≤ at) where
  ended : (xs : List ℕ) → IsWalk cap (λ x. get_or next x 0) (cap + p) at xs → xs ≡ []
  ended [] w = refl
  ended (y ∷ ys) w = absurd (omega (arith, w.0, w.1))

  pub none_left : (i : ℕ) → i < cap → get_or homes i 0 ≢ p + 1
  none_left i i_in here =
      let none : occurrences i t.list ≡ 0 = ap (λ xs. occurrences i xs) (ended t.list t.walk) in
      omega (arith, t.once i i_in ∙ one_at _ _ here)

  pub circles_back : IsCircles cap next prev homes
  circles_back =
      record {
        small = t.small;
        next_len = t.next_len;
        prev_len = t.prev_len;
        homes_len = t.homes_len;
        rank = t.rank;
        circle = circle_by cap LISTS _ _ (home_but cap p homes) (λ x. get_or homes x 0) t.rank t.circle
            (λ x x_in. elim (nat_le_or_lt cap x) [
              | inl up ↦ sym (but_head cap p homes x up)
              | inr low ↦ sym (but_other cap p homes x (none_left x low))
            ]);
      }
