-- Occupancy maps through a link and an unlink.

use Rattle.std.proofs.Common.{◌≡◌, ◌≢◌, ℕ, ◌+◌, ◌*◌, ◌/◌, ◌%◌, ◌<◌, ◌↔◌, List, length, get_or, set, map, refl, sym, arith, rules, ◌∙◌, inl, inr, Some, [], ◌∷◌, replicate}
use Rattle.std.specs.Int.{bit_at}
use Rattle.std.proofs.Math.ListN.{length-set}
use Rattle.std.proofs.lemmas.List.{get_or-set_same, get_or-set_other, get_or-map, length-map, length-replicate, get_or-replicate}
use Rattle.dq_wheel.specs.Lists.{IsListEmpty, IsListFilled}
use Rattle.dq_wheel.specs.Walks.{bit_of}
use Rattle.dq_wheel.specs.Maps.{IsOccupiedAt, IsOccupied, IsOccupiedBut, IsEarlier}
use Rattle.dq_wheel.specs.Seen.{home_seen}
use Rattle.dq_wheel.proofs.Seen.{home_there, home_elsewhere}
use Rattle.dq_wheel.proofs.Links.{same_or_not}
use Rattle.dq_wheel.specs.declared.TheConstants.{LISTS}

-- an index that goes to list p fills it
filled_there : (homes : List ℕ) (i p : ℕ) → i < length homes → IsListFilled (set homes i (p + 1)) p
filled_there homes i p i_in = (i, (rw length-set i_in, get_or-set_same homes i (p + 1) 0 i_in))

-- the lists that it neither leaves nor enters are filled as before
filled_before : (homes : List ℕ) (i v q : ℕ) → v ≢ q + 1 → i < length homes → IsListFilled (set homes i v) q → IsListFilled homes q
filled_before homes i v q d i_in (x, stands) =
    let x_in : x < length homes = rw length-set at stands.0 in
    elim (same_or_not x i) [
      | inl e ↦
          let at_i : get_or (set homes i v) i 0 ≡ q + 1 = rw e at stands.1 in
          absurd (d (sym (get_or-set_same homes i v 0 i_in) ∙ at_i))
      | inr e ↦ (x, (x_in, sym (get_or-set_other homes i x v 0 e) ∙ stands.1))
    ]

filled_after : (homes : List ℕ) (i v q : ℕ) → get_or homes i 0 ≢ q + 1 → IsListFilled homes q → IsListFilled (set homes i v) q
filled_after homes i v q d (x, stands) =
    elim (same_or_not x i) [
      | inl e ↦ let at_i : get_or homes i 0 ≡ q + 1 = rw e at stands.1 in absurd (d at_i)
      | inr e ↦ (x, (rw length-set stands.0, get_or-set_other homes i x v 0 e ∙ stands.1))
    ]

module _ (Where : ℕ → Type 0) (maps homes : List ℕ) (ok : IsOccupiedAt Where maps homes) (i : ℕ) (i_in : i < length homes) where
  -- an index goes to list p, and its bit is set; it came from no list that meets the test
  pub bit_linked : (after : List ℕ) (p : ℕ) → ((q : ℕ) → Where q → get_or homes i 0 ≢ q + 1) → bit_of after p ≡ 1 →
      ((q : ℕ) → q ≢ p → bit_of after q ≡ bit_of maps q) → IsOccupiedAt Where after (set homes i (p + 1))
  bit_linked after p from one others =
      record {
        filled = λ q q_in w bit.
            elim (same_or_not q p) [
              | inl e ↦ rw e (filled_there homes i p i_in)
              | inr d ↦ filled_after homes i (p + 1) q (from q w) (ok.filled q q_in w (sym (others q d) ∙ bit))
            ];
        shown = λ q q_in w full.
            elim (same_or_not q p) [
              | inl e ↦ rw e one
              | inr d ↦ others q d ∙ ok.shown q q_in w (filled_before homes i (p + 1) q (λ e. d (omega arith)) i_in full)
            ];
      }

-- no bit of six empty maps is 1
empty_bit : (p : ℕ) → bit_of (0 ∷ 0 ∷ 0 ∷ 0 ∷ 0 ∷ 0 ∷ []) p ≡ 0
empty_bit p = search rules

-- no list is filled
pub none_occupied : (n : ℕ) → IsOccupied (0 ∷ 0 ∷ 0 ∷ 0 ∷ 0 ∷ 0 ∷ []) (replicate n 0)
none_occupied n =
    record {
      filled = λ p p_in w bit. absurd (omega (arith, empty_bit p));
      shown = λ p p_in w full.
          let there : get_or (replicate n 0) full.0 0 ≡ p + 1 = full.1.1 in
          absurd (omega (arith, get_or-replicate {A = ℕ} n full.0 0 0 (rw length-replicate at full.1.0)));
    }

-- an index leaves list p
pub bit_left : (maps homes : List ℕ) → IsOccupied maps homes → (i p : ℕ) → i < length homes → get_or homes i 0 ≡ p + 1 → IsOccupiedBut p maps (set homes i 0)
bit_left maps homes ok i p i_in stands =
    record {
      filled = λ q q_in d bit. filled_after homes i 0 q (λ e. d (omega arith)) (ok.filled q q_in tt bit);
      shown = λ q q_in d full. ok.shown q q_in tt (filled_before homes i 0 q (λ e. omega arith) i_in full);
    }

-- the list that was left out is filled, and its bit is 1
pub bit_stays : (maps homes : List ℕ) (p : ℕ) → IsOccupiedBut p maps homes → IsListFilled homes p → bit_of maps p ≡ 1 → IsOccupied maps homes
bit_stays maps homes p ok full one =
    record {
      filled = λ q q_in w bit.
          elim (same_or_not q p) [
            | inl e ↦ rw e full
            | inr d ↦ ok.filled q q_in d bit
          ];
      shown = λ q q_in w there.
          elim (same_or_not q p) [
            | inl e ↦ rw e one
            | inr d ↦ ok.shown q q_in d there
          ];
    }

-- the list that was left out is empty, and its bit is cleared
pub bit_cleared : (maps homes after : List ℕ) (p : ℕ) → IsOccupiedBut p maps homes → IsListEmpty homes p → bit_of after p ≡ 0 →
    ((q : ℕ) → q ≢ p → bit_of after q ≡ bit_of maps q) → IsOccupied after homes
bit_cleared maps homes after p ok empty none others =
    record {
      filled = λ q q_in w bit.
          elim (same_or_not q p) [
            | inl e ↦ let one : bit_of after p ≡ 1 = rw e at bit in absurd (omega arith)
            | inr d ↦ ok.filled q q_in d (sym (others q d) ∙ bit)
          ];
      shown = λ q q_in w full.
          elim (same_or_not q p) [
            | inl e ↦ let stands : IsListFilled homes p = rw e at full in absurd (empty stands.0 stands.1.0 stands.1.1)
            | inr d ↦ others q d ∙ ok.shown q q_in d full
          ];
    }

-- one list may be left out
pub but_one : (maps homes : List ℕ) (p : ℕ) → IsOccupied maps homes → IsOccupiedBut p maps homes
but_one maps homes p ok = record { filled = λ q q_in d. ok.filled q q_in tt; shown = λ q q_in d. ok.shown q q_in tt }

-- bit k of map L, where list p shows as empty
pub occupied_without : (maps homes after : List ℕ) → IsOccupied maps homes → (p : ℕ) → bit_of after p ≡ 0 →
    ((q : ℕ) → q ≢ p → bit_of after q ≡ bit_of maps q) → (L k : ℕ) → L < 6 → k < 64 →
    (bit_at (get_or after L 0) k ≡ 1) ↔ ((64 * L + k ≢ p) × IsListFilled homes (64 * L + k))
occupied_without maps homes after ok p none others L k L_in k_in =
    let high : (64 * L + k) / 64 ≡ L = omega arith in
    let low : (64 * L + k) % 64 ≡ k = omega arith in
    let same : bit_of after (64 * L + k) ≡ bit_at (get_or after L 0) k = rw (high, low) refl in (
      λ bit.
          let other : 64 * L + k ≢ p = λ e. let one : bit_of after p ≡ 1 = rw (← e) (same ∙ bit) in omega arith in
          (other, ok.filled (64 * L + k) (omega arith) tt (sym (others (64 * L + k) other) ∙ (same ∙ bit))),
      λ full. sym same ∙ (others (64 * L + k) full.0 ∙ ok.shown (64 * L + k) (omega arith) tt full.1),
    )

module _ (maps homes : List ℕ) (ok : IsOccupied maps homes) where
  -- an index leaves a list
  pub bit_was : (i p : ℕ) → i < length homes → get_or homes i 0 ≡ p + 1 → p < LISTS → bit_of maps p ≡ 1
  bit_was i p i_in stands p_in = ok.shown p p_in tt (i, (i_in, stands))

  -- what the first bit says of the lists
  pub first_filled : (own q : ℕ) → (q < LISTS) × (bit_of maps q ≡ 1) × ((p : ℕ) → p < LISTS → bit_of maps p ≡ 1 → IsEarlier own q p) →
      (q < LISTS) × IsListFilled homes q × ((p : ℕ) → p < LISTS → IsListFilled homes p → IsEarlier own q p)
  first_filled own q found = (found.0, ok.filled q found.0 tt found.1, λ p p_in full. found.2 p p_in (ok.shown p p_in tt full))

  pub none_filled : ((p : ℕ) → p < LISTS → bit_of maps p ≢ 1) → (p : ℕ) → p < LISTS → IsListEmpty homes p
  none_filled none p p_in x x_in h = none p p_in (ok.shown p p_in tt (x, (x_in, h)))

-- a list that is filled hangs on the head of list 0
module _ (maps homes : List ℕ) (ok : IsOccupied maps homes) (p : ℕ) (above : 0 < p) (filled : IsListFilled homes p) where
  abbrev hung : List ℕ
  hung = map (home_seen (Some p)) homes

  hung_at : (x : ℕ) → x < length homes → get_or hung x 0 ≡ home_seen (Some p) (get_or homes x 0)
  hung_at x x_in = get_or-map (home_seen (Some p)) homes x 0 0 x_in

  hung_in : (x : ℕ) → x < length hung → x < length homes
  hung_in x x_in = rw (length-map homes (home_seen (Some p))) at x_in

  hung_stays : (x q : ℕ) → x < length homes → q ≢ p → get_or homes x 0 ≡ q + 1 → get_or hung x 0 ≡ q + 1
  hung_stays x q x_in d stands = hung_at x x_in ∙ (home_elsewhere p (get_or homes x 0) (λ e. d (omega arith)) ∙ stands)

  hung_came : (x q : ℕ) → x < length homes → q ≢ 0 → get_or hung x 0 ≡ q + 1 → (q ≢ p) × (get_or homes x 0 ≡ q + 1)
  hung_came x q x_in some stands =
      elim (same_or_not (get_or homes x 0) (p + 1)) [
        | inl there ↦ absurd (some (omega (arith, hung_at x x_in ∙ home_there p (get_or homes x 0) there)))
        | inr other ↦
            let same : get_or homes x 0 ≡ q + 1 = sym (hung_at x x_in ∙ home_elsewhere p (get_or homes x 0) other) ∙ stands in
            (λ e. other (omega arith), same)
      ]

  pub bit_hung : (mid after : List ℕ) → bit_of mid 0 ≡ 1 → ((q : ℕ) → q ≢ 0 → bit_of mid q ≡ bit_of maps q) → bit_of after p ≡ 0 →
      ((q : ℕ) → q ≢ p → bit_of after q ≡ bit_of mid q) → IsOccupied after hung
  bit_hung mid after one others none rest =
      record {
        filled = λ q q_in w bit.
            elim (same_or_not q p) [
              | inl e ↦ let set_bit : bit_of after p ≡ 1 = rw e at bit in absurd (omega arith)
              | inr d ↦
                  elim (same_or_not q 0) [
                    | inl e ↦
                        rw e (
                          filled.0,
                          (
                            rw (length-map homes (home_seen (Some p))) filled.1.0,
                            hung_at filled.0 filled.1.0 ∙ home_there p (get_or homes filled.0 0) filled.1.1,
                          ),
                        )
                    | inr some ↦
                        let was : IsListFilled homes q = ok.filled q q_in tt (sym (others q some) ∙ (sym (rest q d) ∙ bit)) in
                        (was.0, (rw (length-map homes (home_seen (Some p))) was.1.0, hung_stays was.0 q was.1.0 d was.1.1))
                  ]
            ];
        shown = λ q q_in w full.
            elim (same_or_not q 0) [
              | inl e ↦ rw e (rest 0 (λ z. omega arith) ∙ one)
              | inr some ↦
                  let x_in : full.0 < length homes = hung_in full.0 full.1.0 in
                  let came = hung_came full.0 q x_in some full.1.1 in
                  rest q came.0 ∙ (others q some ∙ ok.shown q q_in tt (full.0, (x_in, came.1)))
            ];
      }
