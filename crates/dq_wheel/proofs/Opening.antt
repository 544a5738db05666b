-- A list that is opened, index by index.

use Rattle.std.proofs.Common.{◌≡◌, ◌≢◌, ℕ, ◌+◌, ◌<◌, ◌≤◌, List, [], ◌∷◌, length, get_or, set, sum, refl, sym, arith, ◌∙◌, ap, ◌⊎◌, inl, inr, cond, eqb}
use Rattle.std.specs.List.{sum_by}
use Rattle.std.proofs.Math.ListN.{length-set}
use Rattle.std.proofs.lemmas.List.{get_or-set_same, get_or-set_other}
use Rattle.std.proofs.lemmas.List.Sums.{sum_by-set, sum_by-cons}
use Rattle.dq_wheel.specs.Lists.{StandsIn, IsListEmpty}
use Rattle.dq_wheel.specs.Walks.{bit_of}
use Rattle.dq_wheel.specs.Maps.{IsOccupied, IsOccupiedBut}
use Rattle.dq_wheel.specs.Homes.{list_number, home_after, moves_after, IsOpened}
use Rattle.dq_wheel.proofs.Links.{same_or_not}
use Rattle.dq_wheel.proofs.Occupancy.{but_one, bit_linked}

-- 1 where an index stands in list p
abbrev pub waits : ℕ → ℕ → ℕ
waits p h = cond (eqb h (p + 1)) 1 0

-- how many stand in list p
unfoldable pub waiting : ℕ → List ℕ → ℕ
waiting p homes = sum_by (waits p) homes

waits_there : (p h : ℕ) → h ≡ p + 1 → waits p h ≡ 1
waits_there p h e = grind arith

waits_elsewhere : (p h : ℕ) → h ≢ p + 1 → waits p h ≡ 0
waits_elsewhere p h d = grind arith

waits_le : (p h : ℕ) → waits p h ≤ 1
waits_le p h = elim (same_or_not h (p + 1)) [ inl e ↦ omega (arith, waits_there p h e) | inr d ↦ omega (arith, waits_elsewhere p h d) ]

waiting_le : (p : ℕ) (homes : List ℕ) → waiting p homes ≤ length homes
unfolding waiting
waiting_le p [] = omega arith
waiting_le p (h ∷ homes) = omega (arith, sum_by-cons (waits p) h homes, waits_le p h, waiting_le p homes)

pub home_after_there : (e p f h : ℕ) → h ≡ p + 1 → home_after e p f h ≡ list_number e f + 1
home_after_there e p f h is = grind arith

pub home_after_elsewhere : (e p f h : ℕ) → h ≢ p + 1 → home_after e p f h ≡ h
home_after_elsewhere e p f h is = grind arith

pub moves_after_due : (e p f h m : ℕ) → h ≡ p + 1 → e ≡ f → moves_after e p f h m ≡ m
moves_after_due e p f h m is due = grind arith

pub moves_after_moved : (e p f h m : ℕ) → h ≡ p + 1 → e ≢ f → moves_after e p f h m ≡ m + 1
moves_after_moved e p f h m is later = grind arith

pub moves_after_elsewhere : (e p f h m : ℕ) → h ≢ p + 1 → moves_after e p f h m ≡ m
moves_after_elsewhere e p f h m is = grind arith

-- an index waits in the opened list, or was placed again
abbrev IsTurn : ℕ → ℕ → ℕ → ℕ → ℕ → ℕ → ℕ → Type 0
IsTurn e p f home moves home2 moves2 =
    ((home ≡ p + 1) × (home2 ≡ p + 1) × (moves2 ≡ moves))
    ⊎ ((home2 ≢ p + 1) × (home2 ≡ home_after e p f home) × (moves2 ≡ moves_after e p f home moves))

-- after some turns
pub record IsOpening (e p : ℕ) (filed homes moves homes2 moves2 maps : List ℕ) (made : ℕ) : Type 0 where
  pub size : length homes2 ≡ length homes
  pub moves_size : length moves2 ≡ length homes
  pub each : (i : ℕ) → i < length homes → IsTurn e p (get_or filed i 0) (get_or homes i 0) (get_or moves i 0) (get_or homes2 i 0) (get_or moves2 i 0)
  pub occupied : IsOccupiedBut p maps homes2
  pub sum : sum moves2 ≡ sum moves + made
  pub few : made + waiting p homes2 ≤ length homes

pub opening_init : (e p : ℕ) (filed homes moves maps : List ℕ) → length moves ≡ length homes → IsOccupied maps homes →
    IsOpening e p filed homes moves homes moves maps 0
opening_init e p filed homes moves maps size ok =
    record {
      size = refl;
      moves_size = size;
      each = λ i i_in.
          elim (same_or_not (get_or homes i 0) (p + 1)) [
            | inl h ↦ inl (h, h, refl)
            | inr d ↦ inr (d, sym (home_after_elsewhere e p _ _ d), sym (moves_after_elsewhere e p _ _ _ d))
          ];
      occupied = but_one maps homes p ok;
      sum = omega arith;
      few = omega (arith, waiting_le p homes);
    }

module _ (e p : ℕ) (filed homes moves homes2 moves2 maps : List ℕ) (made : ℕ) (s : IsOpening e p filed homes moves homes2 moves2 maps made)
    (i to : ℕ) (stands : StandsIn homes2 p i) (to_is : to ≡ list_number e (get_or filed i 0)) where
  home_was : get_or homes i 0 ≡ p + 1
  home_was = elim (s.each i (rw s.size at stands.0)) [ inl w ↦ w.0 | inr w ↦ absurd (w.0 stands.1) ]

  -- it stood in the opened list from the first
  pub stood : StandsIn homes p i
  stood = (rw s.size at stands.0, home_was)

  pub moves_were : get_or moves2 i 0 ≡ get_or moves i 0
  moves_were = elim (s.each i (rw s.size at stands.0)) [ inl w ↦ w.2 | inr w ↦ absurd (w.0 stands.1) ]

  module _ (elsewhere : to ≢ p) where
    abbrev pub homes3 : List ℕ
    homes3 = set homes2 i (to + 1)

    home_now : get_or homes3 i 0 ≡ to + 1
    home_now = get_or-set_same homes2 i (to + 1) 0 stands.0

    home_else : (j : ℕ) → j ≢ i → get_or homes3 j 0 ≡ get_or homes2 j 0
    home_else j d = get_or-set_other homes2 i j (to + 1) 0 d

    fewer : waiting p homes3 + 1 ≡ waiting p homes2
    unfolding waiting
    fewer =
        let put = sum_by-set (waits p) homes2 i (to + 1) 0 stands.0 in
        let was : waits p (get_or homes2 i 0) ≡ 1 = waits_there p _ stands.1 in
        let now : waits p (to + 1) ≡ 0 = waits_elsewhere p (to + 1) (λ h. elsewhere (omega arith)) in
        omega arith

    -- one fewer waits
    pub opening_falls : waiting p homes3 < waiting p homes2
    opening_falls = omega (arith, fewer)

    module _ (maps3 moves3 : List ℕ) (made3 : ℕ) (occupied3 : IsOccupiedBut p maps3 homes3) (size3 : length moves3 ≡ length moves2)
        (moved : get_or moves3 i 0 ≡ moves_after e p (get_or filed i 0) (get_or homes i 0) (get_or moves i 0))
        (unmoved : (j : ℕ) → j ≢ i → get_or moves3 j 0 ≡ get_or moves2 j 0)
        (sum3 : sum moves3 ≡ sum moves + made3) (few3 : made3 ≤ made + 1)
      where
        pub opening_more : IsOpening e p filed homes moves homes3 moves3 maps3 made3
        opening_more =
            record {
              size = simp length-set s.size;
              moves_size = size3 ∙ s.moves_size;
              each = λ j j_in.
                  elim (same_or_not j i) [
                    | inl is ↦ rw is (inr (
                      (λ h. elsewhere (omega (arith, home_now))),
                      home_now ∙ (ap (λ n. n + 1) to_is ∙ sym (home_after_there e p _ _ home_was)),
                      moved,
                    ))
                    | inr d ↦ rw (home_else j d, unmoved j d) (s.each j j_in)
                  ];
              occupied = occupied3;
              sum = sum3;
              few = omega (arith, s.few, fewer);
            }

    -- what stands elsewhere came from elsewhere
    from_elsewhere : (q : ℕ) → q ≢ p → get_or homes2 i 0 ≢ q + 1
    from_elsewhere q d h = d (omega (arith, stands.1))

    module _ (maps3 : List ℕ) (one : bit_of maps3 to ≡ 1) (others : (q : ℕ) → q ≢ to → bit_of maps3 q ≡ bit_of maps q) where
      occupied_now : IsOccupiedBut p maps3 homes3
      occupied_now = bit_linked (λ q. q ≢ p) maps homes2 s.occupied i stands.0 maps3 to from_elsewhere one others

      -- the index is due
      pub opening_due : e ≡ get_or filed i 0 → IsOpening e p filed homes moves homes3 moves2 maps3 made
      opening_due due =
          opening_more maps3 moves2 made occupied_now refl (moves_were ∙ sym (moves_after_due e p _ _ _ home_was due)) (λ j d. refl)
          s.sum (omega arith)

      -- it goes to a list that is not the due list
      pub opening_moved : e ≢ get_or filed i 0 →
          IsOpening e p filed homes moves homes3 (set moves2 i (get_or moves2 i 0 + 1)) maps3 (made + 1)
      opening_moved later =
          let i_in : i < length moves2 = rw (s.moves_size, ← s.size) stands.0 in
          let more = sum_by-set (λ m. m) moves2 i (get_or moves2 i 0 + 1) 0 i_in in
          opening_more maps3 (set moves2 i (get_or moves2 i 0 + 1)) (made + 1) occupied_now
          (simp length-set refl)
          (get_or-set_same moves2 i (get_or moves2 i 0 + 1) 0 i_in ∙ (ap (λ m. m + 1) moves_were ∙ sym (moves_after_moved e p _ _ _ home_was later)))
          (λ j d. get_or-set_other moves2 i j (get_or moves2 i 0 + 1) 0 d) (omega (arith, s.sum, more)) (omega arith)

-- no index waits any more
pub opening_end : (e p : ℕ) (filed homes moves homes2 moves2 maps : List ℕ) (made : ℕ) → IsOpening e p filed homes moves homes2 moves2 maps made →
    IsListEmpty homes2 p → IsOpened e p filed homes moves homes2 moves2 made
opening_end e p filed homes moves homes2 moves2 maps made s empty =
    record {
      size = s.size;
      moves_size = s.moves_size;
      placed = λ i i_in. elim (s.each i i_in) [ inl w ↦ absurd (empty i (rw s.size i_in) w.1) | inr w ↦ w.1 ];
      counted = λ i i_in. elim (s.each i i_in) [ inl w ↦ absurd (empty i (rw s.size i_in) w.1) | inr w ↦ w.2 ];
      sum = s.sum;
    }
