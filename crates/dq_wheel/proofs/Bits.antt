-- Bits of occupancy maps.

use Rattle.std.proofs.Common.{◌≡◌, ◌≢◌, ℕ, ◌+◌, ◌-◌, ◌*◌, ◌/◌, ◌%◌, ◌^◌, ◌<◌, ◌≤◌, List, length, get_or, set, refl, sym, arith, ◌∙◌, ap, inl, inr, Option, None, Some, MatchOption, bit_and, bit_or}
use Rattle.std.specs.Int.{bit_at}
use Rattle.std.specs.Int.Width.{w64}
use Rattle.std.proofs.lemmas.Nat.Bits.{bit_at_set_same, bit_at_set_other, bit_at_clear_same, bit_at_clear_other, bit_at-zero}
use Rattle.std.proofs.lemmas.List.{get_or-set_same, get_or-set_other}
use Rattle.std.proofs.Math.Nat.{div-div-eq-div-mul, pow-le-pow_right, div-eq_of_lt}
use Rattle.std.proofs.lemmas.Nat.{pow-add}
use Rattle.dq_wheel.specs.Walks.{bit_of}
use Rattle.dq_wheel.proofs.Links.{same_or_not, nat_le_or_lt}

-- a written map is read
written : (maps : List ℕ) (p q v : ℕ) → p / 64 < length maps → q / 64 ≡ p / 64 → bit_of (set maps (p / 64) v) q ≡ bit_at v (q % 64)
written maps p q v p_in e = ap (λ w. bit_at w (q % 64)) (ap (λ n. get_or (set maps (p / 64) v) n 0) e ∙ get_or-set_same maps (p / 64) v 0 p_in)

-- the bits of the other maps stay
elsewhere : (maps : List ℕ) (p q v : ℕ) → q / 64 ≢ p / 64 → bit_of (set maps (p / 64) v) q ≡ bit_of maps q
elsewhere maps p q v d = ap (λ w. bit_at w (q % 64)) (get_or-set_other maps (p / 64) (q / 64) v 0 d)

-- of two numbers with one quotient the remainders differ
apart : (p q : ℕ) → q ≢ p → q / 64 ≡ p / 64 → q % 64 ≢ p % 64
apart p q d e f = d (omega arith)

abbrev pub with_bit : List ℕ → ℕ → List ℕ
with_bit maps p = set maps (p / 64) (bit_or (get_or maps (p / 64) 0) (1 * 2 ^ (p % 64) % 18446744073709551616))

abbrev pub without_bit : List ℕ → ℕ → List ℕ
without_bit maps p = set maps (p / 64) (bit_and (get_or maps (p / 64) 0) (18446744073709551615 - 1 * 2 ^ (p % 64) % 18446744073709551616))

pub bit_is_set : (maps : List ℕ) (p : ℕ) → p / 64 < length maps → bit_of (with_bit maps p) p ≡ 1
bit_is_set maps p p_in = written maps p p _ p_in refl ∙ bit_at_set_same w64 (get_or maps (p / 64) 0) (p % 64) (omega arith)

pub bit_stays_set : (maps : List ℕ) (p q : ℕ) → p / 64 < length maps → q ≢ p → bit_of (with_bit maps p) q ≡ bit_of maps q
bit_stays_set maps p q p_in d =
    elim (same_or_not (q / 64) (p / 64)) [
      | inl e ↦
          written maps p q _ p_in e
          ∙ (bit_at_set_other w64 (get_or maps (p / 64) 0) (p % 64) (omega arith) (q % 64) (apart p q d e)
          ∙ ap (λ n. bit_at (get_or maps n 0) (q % 64)) (sym e))
      | inr e ↦ elsewhere maps p q _ e
    ]

pub bit_is_cleared : (maps : List ℕ) (p : ℕ) → p / 64 < length maps → bit_of (without_bit maps p) p ≡ 0
bit_is_cleared maps p p_in = written maps p p _ p_in refl ∙ bit_at_clear_same w64 (get_or maps (p / 64) 0) (p % 64) (omega arith)

pub bit_stays_cleared : (maps : List ℕ) (p q : ℕ) → p / 64 < length maps → q ≢ p → bit_of (without_bit maps p) q ≡ bit_of maps q
bit_stays_cleared maps p q p_in d =
    elim (same_or_not (q / 64) (p / 64)) [
      | inl e ↦
          written maps p q _ p_in e
          ∙ (bit_at_clear_other w64 (get_or maps (p / 64) 0) (p % 64) (omega arith) (q % 64) (omega arith) (apart p q d e)
          ∙ ap (λ n. bit_at (get_or maps n 0) (q % 64)) (sym e))
      | inr e ↦ elsewhere maps p q _ e
    ]

-- the circle: the bits behind the own one, and then the others
module _ (bits own : ℕ) (fits : bits < 18446744073709551616) (own_in : own < 64) where
  shifted : (i : ℕ) → bit_at (bits / 2 ^ own / 2) i ≡ bit_at bits (own + 1 + i)
  shifted i = ap (λ n. n % 2) (
      ap (λ n. n / 2 ^ i) (div-div-eq-div-mul bits (2 ^ own) 2)
      ∙ (div-div-eq-div-mul bits (2 ^ own * 2) (2 ^ i)
      ∙ ap (λ n. bits / n) (ap (λ n. n * 2 ^ i) (sym (pow-add 2 own 1)) ∙ sym (pow-add 2 (own + 1) i))))

  high_zero : (i : ℕ) → 64 ≤ i → bit_at bits i ≡ 0
  high_zero i high =
      let big : 2 ^ 64 ≤ 2 ^ i = pow-le-pow_right (omega arith) high in
      ap (λ n. n % 2) (div-eq_of_lt (omega arith))

  pub after_found : (k : ℕ) → bit_at (bits / 2 ^ own / 2) k ≡ 1 → ((i : ℕ) → i < k → bit_at (bits / 2 ^ own / 2) i ≡ 0) →
      (own + 1 + k < 64) × (bit_at bits (own + 1 + k) ≡ 1)
      × ((i : ℕ) → i < 64 → bit_at bits i ≡ 1 → (own + 1 + k + 63 - own) % 64 ≤ (i + 63 - own) % 64)
  after_found k one below =
      let found : bit_at bits (own + 1 + k) ≡ 1 = sym (shifted k) ∙ one in
      let inside : own + 1 + k < 64 =
      elim (nat_le_or_lt 64 (own + 1 + k)) [ inl high ↦ let zero_bit : bit_at bits (own + 1 + k) ≡ 0 = high_zero (own + 1 + k) high in absurd (omega arith) | inr low ↦ low ] in (
        inside,
        found,
        λ i i_in i_one.
            elim (nat_le_or_lt i own) [
              | inl low ↦ omega arith
              | inr high ↦
                  elim (nat_le_or_lt (own + 1 + k) i) [
                    | inl far ↦ omega arith
                    | inr near ↦
                        let j : own + 1 + (i - own - 1) ≡ i = omega arith in
                        let unset : bit_at (bits / 2 ^ own / 2) (i - own - 1) ≡ 0 = below (i - own - 1) (omega arith) in
                        let same : bit_at bits (own + 1 + (i - own - 1)) ≡ 0 = sym (shifted (i - own - 1)) ∙ unset in
                        let none : bit_at bits i ≡ 0 = rw j at same in
                        absurd (omega arith)
                  ]
            ],
      )

  pub after_none : bits / 2 ^ own / 2 ≡ 0 → (i : ℕ) → own < i → bit_at bits i ≡ 0
  after_none zero_word i high =
      let j : own + 1 + (i - own - 1) ≡ i = omega arith in
      let unset : bit_at bits (own + 1 + (i - own - 1)) ≡ 0 =
      sym (shifted (i - own - 1)) ∙ (ap (λ n. bit_at n (i - own - 1)) zero_word ∙ bit_at-zero (i - own - 1)) in
      rw j at unset

  pub around : (k : ℕ) → k < 64 → bit_at bits k ≡ 1 → ((i : ℕ) → i < k → bit_at bits i ≡ 0) → ((i : ℕ) → own < i → bit_at bits i ≡ 0) →
      (i : ℕ) → i < 64 → bit_at bits i ≡ 1 → (k + 63 - own) % 64 ≤ (i + 63 - own) % 64
  around k k_in one below above i i_in i_one =
      let k_low : k ≤ own = elim (nat_le_or_lt k own) [ inl low ↦ low | inr high ↦ let none : bit_at bits k ≡ 0 = above k high in absurd (omega arith) ] in
      let i_low : i ≤ own = elim (nat_le_or_lt i own) [ inl low ↦ low | inr high ↦ let none : bit_at bits i ≡ 0 = above i high in absurd (omega arith) ] in
      let k_le : k ≤ i = elim (nat_le_or_lt k i) [ inl le ↦ le | inr lt ↦ let none : bit_at bits i ≡ 0 = below i lt in absurd (omega arith) ] in
      omega arith

  -- where no bit stands behind the own one, the lowest is the first in the circle
  pub lowest_is_first : (o : Option ℕ) → bits / 2 ^ own / 2 ≡ 0 →
      MatchOption o (bits ≡ 0) (λ k. (k < 64) × (bit_at bits k ≡ 1) × ((i : ℕ) → i < k → bit_at bits i ≡ 0)) →
      MatchOption o (bits ≡ 0) (λ k. (k < 64) × (bit_at bits k ≡ 1) × ((i : ℕ) → i < 64 → bit_at bits i ≡ 1 → (k + 63 - own) % 64 ≤ (i + 63 - own) % 64))
  lowest_is_first None e none = none
  lowest_is_first (Some k) e found = (found.0, found.1, around k found.0 found.1 found.2 (after_none e))
