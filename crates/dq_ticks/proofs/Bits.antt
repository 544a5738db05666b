-- Digits by shifts, and the level by the highest bit in which two ticks differ.
use Rattle.std.proofs.Common.{◌≡◌, ◌≢◌, ℕ, zero, suc, ◌+◌, ◌*◌, ◌/◌, ◌%◌, ◌^◌, ◌<◌, ◌≤◌, min, bit_xor, refl, sym, ◌∙◌, ap, arith}
use Rattle.std.proofs.Math.Nat.{pow-suc, pow-le-pow_right, div-eq_of_lt}
use Rattle.std.proofs.lemmas.Nat.{pow-add, pow_pos, le-div, xor_shr, and_le_l, and_le_r}
use Rattle.std.specs.Int.Bits.{xor_add_and, xor_self}
use Rattle.dq_ticks.specs.Digits.{level}
use Rattle.dq_ticks.specs.Units.{tick_limit, top_span}
use Rattle.dq_ticks.proofs.Levels.{IsHighest, level_by, level_by_highest}

pub power_is : (n : ℕ) → 64 ^ n ≡ 2 ^ (6 * n)
power_is zero = refl
power_is (suc n) =
    let exponent : 6 * n + 6 ≡ 6 * suc n = omega arith in
    pow-suc 64 n ∙ ap (λ p. p * 64) (power_is n) ∙ sym (pow-add 2 (6 * n) 6) ∙ ap (λ k. 2 ^ k) exponent

pub shifted : (t n : ℕ) → t / 2 ^ (6 * n) ≡ t / 64 ^ n
shifted t n = ap (λ p. t / p) (sym (power_is n))

pub power_small : (n : ℕ) → n < 6 → 64 ^ n ≤ top_span
power_small n below = pow-le-pow_right {n = 64} (omega arith) {i = n} {j = 5} (omega arith)

pub power_shifted : (n : ℕ) → n < 6 → 1 * 2 ^ (6 * n) % 18446744073709551616 ≡ 64 ^ n
power_shifted n below = omega (arith, power_is n, power_small n below)

xor_none : (a b : ℕ) → bit_xor a b ≡ 0 → a ≡ b
xor_none a b none = omega (arith, xor_add_and a b, and_le_l a b, and_le_r a b)

-- the quotients of two ticks differ in what the quotient of their xor shows
xor_above : (e f n : ℕ) → bit_xor e f / 2 ^ (6 * n) ≡ bit_xor (e / 64 ^ n) (f / 64 ^ n)
xor_above e f n = xor_shr e f (6 * n) ∙ (rw (shifted e n, shifted f n))

same_quotients : (e f n : ℕ) → 2 ^ (6 * n) ≤ bit_xor e f → e / 64 ^ n ≡ f / 64 ^ n → 1 ≤ 0
same_quotients e f n high same =
    let none : bit_xor e f / 2 ^ (6 * n) ≡ 0 = xor_above e f n ∙ ap (λ q. bit_xor q (f / 64 ^ n)) same ∙ xor_self (f / 64 ^ n) in
    let some : 1 ≤ bit_xor e f / 2 ^ (6 * n) = le-div 1 (bit_xor e f) (2 ^ (6 * n)) (pow_pos (6 * n)) (omega arith) in
    omega arith

highest_bit : (e f r : ℕ) → 2 ^ r ≤ bit_xor e f → bit_xor e f < 2 * 2 ^ r → IsHighest e f (r / 6)
highest_bit e f r low high =
    let down : 2 ^ (6 * (r / 6)) ≤ 2 ^ r = pow-le-pow_right {n = 2} (omega arith) (omega arith) in
    let up : 2 ^ suc r ≤ 2 ^ (6 * suc (r / 6)) = pow-le-pow_right {n = 2} (omega arith) (omega arith) in
    record {
      differs = λ same. absurd (omega (arith, same_quotients e f (r / 6) (omega arith) same));
      agrees =
          xor_none _ _ (sym (xor_above e f (suc (r / 6))) ∙ div-eq_of_lt (omega (arith, pow-suc 2 r)));
    }

xor_apart : (e f r : ℕ) → 2 ^ r ≤ bit_xor e f → e ≢ f
xor_apart e f r low same =
    let none : bit_xor e f ≡ 0 = ap (λ t. bit_xor t f) same ∙ xor_self f in
    absurd (omega (arith, pow_pos r))

-- the level of ticks whose xor has its highest bit at place r
pub level_by_bit : (e f r n : ℕ) → e < tick_limit → f < tick_limit → 2 ^ r ≤ bit_xor e f → bit_xor e f < 2 * 2 ^ r → n ≡ min (r / 6) 5 → (e ≢ f) × (n < 6) × (n ≡ level e f)
level_by_bit e f r n e_in f_in low high is =
    let level_is : min 5 (r / 6) ≡ level e f =
    level_by e f (min 5 (r / 6)) e_in f_in (level_by_highest e f (r / 6) (highest_bit e f r low high)) in
    (xor_apart e f r low, omega arith, omega arith)
