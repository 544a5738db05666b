-- The lists of a lawful wheel, by their places.

use Rattle.std.proofs.Common.{◌≡◌, ◌≢◌, ℕ, ◌+◌, ◌-◌, ◌*◌, ◌/◌, ◌%◌, ◌<◌, ◌≤◌, ◌↔◌, List, [], ◌∷◌, length, get_or, refl, sym, arith, ◌∙◌, ap, inl, inr, Option, None, Some, cond, eqb}
use Rattle.dq_ticks.specs.Digits.{digit_of, level, IsAhead}
use Rattle.dq_wheel.specs.declared.wheel.Place.TheVariants.{Loose, Due, InSlot}
use Rattle.std.specs.Int.{bit_at}
use Rattle.dq_wheel.specs.State.{Filing, filed_at}
use Rattle.dq_wheel.specs.Filed.{filed_ticks}
use Rattle.dq_wheel.specs.Places.{place_for, IsSlotFilled, MovesFit, place_of_list}
use Rattle.dq_wheel.specs.Walks.{IsWalk, occurrences}
use Rattle.dq_wheel.specs.Lists.{IsListOf, IsListFilled}
use Rattle.dq_wheel.specs.Maps.{IsOccupied}
use Rattle.dq_wheel.specs.Homes.{list_number, place_of_home, IsAt, IsHome, IsLawfulFiling}
use Rattle.dq_wheel.specs.Lawful.{IsLawfulList, IsLawfulWheel}
use Rattle.dq_wheel.proofs.Links.{same_or_not}
use Rattle.dq_wheel.proofs.Numbers.{number_same, number_low, number_apart}
use Rattle.dq_wheel.proofs.Lawful.{filing_of, seen_in}
use Rattle.dq_wheel.proofs.Wakes.{filed_home, in_reach, list_level, list_digit}
use Rattle.dq_wheel.proofs.Walks.{occurrences_same}
use Rattle.dq_wheel.specs.declared.TheConstants.{LISTS}

slot_list : (e p : ℕ) → p ≢ digit_of e 0 → place_of_list e p ≡ InSlot (p / 64) (p % 64)
slot_list e p d = grind arith

due_list : (e p : ℕ) → p ≡ digit_of e 0 → place_of_list e p ≡ Due
due_list e p is = grind arith

due_place : (e f : ℕ) → e ≡ f → place_for e (Some f) ≡ Due
due_place e f same = grind arith

slot_place : (e f : ℕ) → e ≢ f → place_for e (Some f) ≡ InSlot (level e f) (digit_of f (level e f))
slot_place e f other = grind arith

-- the place of an index is that of its list
place_at : (e f h m p : ℕ) → IsAt e f h m → list_number e f ≡ p → place_for e (Some f) ≡ place_of_list e p
place_at e f h m p at is =
    elim (same_or_not e f) [
      | inl same ↦ due_place e f same ∙ sym (due_list e p (sym is ∙ number_same e f same))
      | inr other ↦
          let later : e ≤ f = at.not_before in
          let apart : list_number e f ≢ digit_of e 0 = number_apart e f (record { later = omega arith; near = at.near; in_range = at.in_range }) in
          slot_place e f other
          ∙ sym (slot_list e p (λ s. apart (is ∙ s))
          ∙ (ap (λ l. InSlot l (p % 64)) (list_level e f p is) ∙ ap (λ k. InSlot (level e f) k) (list_digit e f p is)))
    ]

-- the places of two lists are two
list_of_place : (e p q : ℕ) → place_of_list e p ≡ place_of_list e q → p ≡ q
list_of_place e p q same =
    elim (same_or_not p (digit_of e 0)) [
      | inl p_due ↦
          elim (same_or_not q (digit_of e 0)) [
            | inl q_due ↦ p_due ∙ sym q_due
            | inr q_slot ↦ let clash : Due ≡ InSlot (q / 64) (q % 64) = sym (due_list e p p_due) ∙ (same ∙ slot_list e q q_slot) in absurd (cc)
          ]
      | inr p_slot ↦
          elim (same_or_not q (digit_of e 0)) [
            | inl q_due ↦ let clash : InSlot (p / 64) (p % 64) ≡ Due = sym (slot_list e p p_slot) ∙ (same ∙ due_list e q q_due) in absurd (cc)
            | inr q_slot ↦
                let slots : InSlot (p / 64) (p % 64) ≡ InSlot (q / 64) (q % 64) = sym (slot_list e p p_slot) ∙ (same ∙ slot_list e q q_slot) in
                let levels : p / 64 ≡ q / 64 = cc in
                let digits : p % 64 ≡ q % 64 = cc in
                omega arith
          ]
    ]

-- where its place is that of list p it is at home there
home_of_place : (e : ℕ) (o : Option ℕ) (h m p : ℕ) → IsHome e o h m → place_for e o ≡ place_of_list e p → h ≡ p + 1
home_of_place e None h m p home is =
    elim (same_or_not p (digit_of e 0)) [
      | inl due ↦ let clash : Loose ≡ Due = is ∙ due_list e p due in absurd (cc)
      | inr slot ↦ let clash : Loose ≡ InSlot (p / 64) (p % 64) = is ∙ slot_list e p slot in absurd (cc)
    ]
home_of_place e (Some f) h m p home is =
    let at : IsAt e f h m = home in
    let number : h ≡ list_number e f + 1 = at.number in
    let same : list_number e f ≡ p = list_of_place e (list_number e f) p (sym (place_at e f h m (list_number e f) at refl) ∙ is) in
    omega arith

place_of_its_home : (e : ℕ) (o : Option ℕ) (h m p : ℕ) → IsHome e o h m → h ≡ p + 1 → place_for e o ≡ place_of_list e p
place_of_its_home e None h m p home is = let zero_home : h ≡ 0 = home.0 in absurd (omega arith)
place_of_its_home e (Some f) h m p home is = let at : IsAt e f h m = home in place_at e f h m p at (omega (arith, at.number))

home_loose : (e h : ℕ) → h ≡ 0 → place_of_home e h ≡ Loose
home_loose e h is = grind arith

home_linked : (e h : ℕ) → h ≢ 0 → place_of_home e h ≡ place_of_list e (h - 1)
home_linked e h d = grind arith

-- its home tells the place
place_by_home : (e : ℕ) (o : Option ℕ) (h m : ℕ) → IsHome e o h m → place_of_home e h ≡ place_for e o
place_by_home e None h m home = home_loose e h home.0
place_by_home e (Some f) h m home =
    let at : IsAt e f h m = home in
    let number : h ≡ list_number e f + 1 = at.number in
    home_linked e h (λ z. omega arith) ∙ sym (place_at e f h m (h - 1) at (omega arith))

-- an index whose place is a slot is at home there, and that list isn't the due list
slot_home : (e : ℕ) (o : Option ℕ) (h m L k : ℕ) → IsHome e o h m → place_for e o ≡ InSlot L k → (64 * L + k ≢ digit_of e 0) × (h ≡ 64 * L + k + 1)
slot_home e None h m L k home is = let clash : Loose ≡ InSlot L k = is in absurd (cc)
slot_home e (Some f) h m L k home is =
    let at : IsAt e f h m = home in
    elim (same_or_not e f) [
      | inl same ↦ let clash : Due ≡ InSlot L k = sym (due_place e f same) ∙ is in absurd (cc)
      | inr other ↦
          let slots : InSlot (level e f) (digit_of f (level e f)) ≡ InSlot L k = sym (slot_place e f other) ∙ is in
          let levels : level e f ≡ L = cc in
          let digits : digit_of f (level e f) ≡ k = cc in
          let number : list_number e f ≡ 64 * L + k = omega arith in
          let later : e ≤ f = at.not_before in
          let ahead : IsAhead e f = record { later = omega arith; near = at.near; in_range = at.in_range } in
          (λ s. number_apart e f ahead (number ∙ s), omega (arith, at.number))
    ]

-- what an index has moved fits its place
moves_fit : (e : ℕ) (o : Option ℕ) (h m : ℕ) → IsHome e o h m → MovesFit (place_for e o) m
moves_fit e None h m home = home.1
moves_fit e (Some f) h m home =
    let at : IsAt e f h m = home in
    let few : m + level e f ≤ 5 = at.few in
    elim (same_or_not e f) [
      | inl same ↦ rw (due_place e f same) (omega arith)
      | inr other ↦ rw (slot_place e f other) few
    ]

marked : (h p : ℕ) → h ≡ p + 1 → (n : ℕ) → n ≡ cond (eqb h (p + 1)) 1 0 → n ≡ 1
marked h p is n n_is = grind arith

unmarked : (h p : ℕ) → h ≢ p + 1 → (n : ℕ) → n ≡ cond (eqb h (p + 1)) 1 0 → n ≡ 0
unmarked h p d n n_is = grind arith

-- a walk that meets an index isn't empty
not_empty : (i : ℕ) (list : List ℕ) → occurrences i list ≡ 1 → list ≢ []
not_empty i list met empty = let none : occurrences i list ≡ 0 = ap (occurrences i) empty in omega arith

-- what a walk meets first is an index that it meets
first_met : (cap head : ℕ) (next : ℕ → ℕ) (x : ℕ) (list : List ℕ) → IsWalk cap next head x list → list ≢ [] →
    (i : ℕ) × (i < cap) × (occurrences i list ≢ 0)
first_met cap head next x [] w some = absurd (some refl)
first_met cap head next x (y ∷ ys) w some = (y, w.1, λ none. let met : occurrences y (y ∷ ys) ≡ 1 + occurrences y ys = occurrences_same y y ys refl in omega arith)

module _ (e : ℕ) (filed : List (Option ℕ)) (moves homes next maps : List ℕ) (ok : IsLawfulFiling e filed moves homes) (bits : IsOccupied maps homes)
    (lists : (p : ℕ) → p < LISTS → IsListOf next homes p) where
  lawful_list : (p : ℕ) → p < LISTS → IsLawfulList e filed next maps p
  lawful_list p p_in =
      let l : IsListOf next homes p = lists p p_in in
      let met : (i : ℕ) → i < length homes → get_or homes i 0 ≡ p + 1 → occurrences i l.list ≡ 1 =
      λ i i_in h. marked (get_or homes i 0) p h (occurrences i l.list) (l.once i i_in) in
      let missed : (i : ℕ) → i < length homes → get_or homes i 0 ≢ p + 1 → occurrences i l.list ≡ 0 =
      λ i i_in d. unmarked (get_or homes i 0) p d (occurrences i l.list) (l.once i i_in) in
      record {
        list = l.list;
        walk = rw ok.filed_size l.walk;
        once = λ i i_in is.
            let i_home : i < length homes = rw ok.filed_size at i_in in
            met i i_home (home_of_place e (filed_at filed i) _ _ p (ok.home i i_home) is);
        elsewhere = λ i i_in other.
            let i_home : i < length homes = rw ok.filed_size at i_in in
            missed i i_home (λ h. other (place_of_its_home e (filed_at filed i) _ _ p (ok.home i i_home) h));
        bit = (
          λ one. let full : IsListFilled homes p = bits.filled p p_in tt one in not_empty full.0 l.list (met full.0 full.1.0 full.1.1),
          λ some.
              let f = first_met (length homes) (length homes + p) _ _ l.list l.walk some in
              bits.shown p p_in tt
              (elim (same_or_not (get_or homes f.0 0) (p + 1)) [
                | inl h ↦ (f.0, (f.1, h))
                | inr d ↦ absurd (f.2 (missed f.0 f.1 d))
              ]),
        );
      }

  pub lawful_wheel : (moved : ℕ) → IsLawfulWheel (record { filing = filing_of e filed moves moved; next = next; maps = maps })
  lawful_wheel moved =
      record {
        large = rw ok.filed_size ok.large;
        small = rw ok.filed_size ok.small;
        moves_size = ok.moves_size ∙ sym ok.filed_size;
        in_range = ok.in_range;
        lists = lawful_list;
        placed = λ i f is.
            let home = filed_home e filed moves homes ok i f is in
            (list_number e f, number_low e f, place_at e f _ _ (list_number e f) home.1 refl);
        within = in_reach e filed moves homes ok;
        moves = λ i i_in. moves_fit e (filed_at filed i) _ _ (ok.home i (rw ok.filed_size at i_in));
      }

-- what callers see of places
module _ (tick moved : ℕ) (numbers moves homes : List ℕ) (now : Filing) (ok : IsLawfulFiling tick (filed_ticks numbers) moves homes)
    (now_is : filing_of tick (filed_ticks numbers) moves moved ≡ now) where
  tick_is : tick ≡ now.tick
  tick_is = ap (λ w. w.tick) now_is

  filed_is : filed_ticks numbers ≡ now.filed
  filed_is = ap (λ w. w.filed) now_is

  pub seen_place : (i : ℕ) → i < length now.filed → place_of_home tick (get_or homes i 0) ≡ place_for now.tick (filed_at now.filed i)
  seen_place i i_in =
      let i_home : i < length homes = seen_in tick moved numbers moves homes now ok now_is i i_in in
      rw (← tick_is, ← filed_is) (place_by_home tick (filed_at (filed_ticks numbers) i) _ _ (ok.home i i_home))

  slot_filled : (L k : ℕ) → L < 6 → k < 64 → (64 * L + k ≢ digit_of tick 0) × IsListFilled homes (64 * L + k) → IsSlotFilled tick (filed_ticks numbers) L k
  slot_filled L k L_in k_in (other, (i, stands)) =
      let high : (64 * L + k) / 64 ≡ L = omega arith in
      let low : (64 * L + k) % 64 ≡ k = omega arith in (
        i,
        rw ok.filed_size stands.0,
        place_of_its_home tick (filed_at (filed_ticks numbers) i) _ _ (64 * L + k) (ok.home i stands.0) stands.1
            ∙ (slot_list tick (64 * L + k) other
            ∙ (ap (λ l. InSlot l ((64 * L + k) % 64)) high ∙ ap (λ s. InSlot L s) low)),
      )

  slot_shown : (L k : ℕ) → IsSlotFilled tick (filed_ticks numbers) L k → (64 * L + k ≢ digit_of tick 0) × IsListFilled homes (64 * L + k)
  slot_shown L k (i, i_in, is) =
      let i_home : i < length homes = rw ok.filed_size at i_in in
      let home = slot_home tick (filed_at (filed_ticks numbers) i) _ _ L k (ok.home i i_home) is in
      (home.0, (i, (i_home, home.1)))

  pub seen_occupied : (bits L : ℕ) → L < 6 →
      ((k : ℕ) → k < 64 → (bit_at bits k ≡ 1) ↔ ((64 * L + k ≢ digit_of tick 0) × IsListFilled homes (64 * L + k))) →
      (k : ℕ) → k < 64 → (bit_at bits k ≡ 1) ↔ IsSlotFilled now.tick now.filed L k
  seen_occupied bits L L_in shows k k_in =
      rw (← tick_is, ← filed_is) (
        λ bit. slot_filled L k L_in k_in ((shows k k_in).0 bit),
        λ full. (shows k k_in).1 (slot_shown L k full),
      )
