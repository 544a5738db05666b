-- Levels by quotients: two ticks differ in what stands from their level up, and agree in what stands above it.
use Rattle.std.proofs.Common.{◌≡◌, ◌≢◌, ℕ, zero, suc, ◌+◌, ◌-◌, ◌/◌, ◌%◌, ◌^◌, ◌<◌, ◌≤◌, inl, inr, min, refl, sym, ◌∙◌, ap, subst, arith}
use Rattle.std.proofs.Math.Nat.{pow-suc, div-one, div-div-eq-div-mul, one-le-pow, div-eq_of_lt}
use Rattle.std.proofs.lemmas.Nat.{pow-add}
use Rattle.std.proofs.lemmas.Bool.{cases_eq, cases_lt}
use Rattle.std.proofs.lemmas.Bool.Decides.{nat_tests}
use Rattle.dq_ticks.specs.Digits.{digit_of, highest_differing, level}
use Rattle.dq_ticks.specs.Units.{tick_limit}

pub power_pos : (n : ℕ) → 0 < 64 ^ n
power_pos n = omega (arith, one-le-pow n 64 (omega arith))

pub above_zero : (t : ℕ) → t / 64 ^ 0 ≡ t
above_zero t = div-one t

pub above_suc : (t n : ℕ) → t / 64 ^ suc n ≡ t / 64 ^ n / 64
above_suc t n = rw (pow-suc 64 n) (sym (div-div-eq-div-mul t (64 ^ n) 64))

pub above_add : (t i j : ℕ) → t / 64 ^ (i + j) ≡ t / 64 ^ i / 64 ^ j
above_add t i j = rw (pow-add 64 i j) (sym (div-div-eq-div-mul t (64 ^ i) (64 ^ j)))

-- ticks that agree from a place up agree from each higher place up
pub same_above : (e f i j : ℕ) → i ≤ j → e / 64 ^ i ≡ f / 64 ^ i → e / 64 ^ j ≡ f / 64 ^ j
same_above e f i j le same =
    let at : i + (j - i) ≡ j = omega arith in
    let P : ℕ → Type 0 = λ n. e / 64 ^ n ≡ f / 64 ^ n in
    subst P at (above_add e i (j - i) ∙ ap (λ q. q / 64 ^ (j - i)) same ∙ sym (above_add f i (j - i)))

-- L is the level at which f stands, seen from e
pub record IsLevel (e f L : ℕ) : Type 0 where
  pub small : L ≤ 5
  pub differs : e / 64 ^ L ≢ f / 64 ^ L
  pub agrees : L < 5 → e / 64 ^ suc L ≡ f / 64 ^ suc L

-- a level is no lower than another
pub not_lower : (e f L M : ℕ) → IsLevel e f L → IsLevel e f M → L < M → ⊥
not_lower e f L M at other below =
    let agrees : e / 64 ^ suc L ≡ f / 64 ^ suc L = at.agrees (omega (arith, other.small)) in
    other.differs (same_above e f (suc L) M (omega arith) agrees)

pub level_only : (e f L M : ℕ) → IsLevel e f L → IsLevel e f M → L ≡ M
level_only e f L M at other =
    elim (cases_lt L M) [
      | inl below ↦ absurd (not_lower e f L M at other below)
      | inr above ↦
          elim (cases_lt M L) [
            | inl below ↦ absurd (not_lower e f M L other at below)
            | inr le ↦ omega arith
          ]
    ]

pub highest_lower : (n e f : ℕ) → digit_of e n ≡ digit_of f n → highest_differing (suc n) e f ≡ highest_differing n e f
highest_lower n e f same = grind (arith, nat_tests)

pub highest_here : (n e f : ℕ) → digit_of e n ≢ digit_of f n → highest_differing (suc n) e f ≡ n
highest_here n e f apart = grind (arith, nat_tests)

-- n is the highest place in which e and f differ
pub record IsHighest (e f n : ℕ) : Type 0 where
  pub differs : e / 64 ^ n ≢ f / 64 ^ n
  pub agrees : e / 64 ^ suc n ≡ f / 64 ^ suc n

pub digits_make : (a b : ℕ) → a / 64 ≡ b / 64 → a % 64 ≡ b % 64 → a ≡ b
digits_make a b high low = omega arith

pub highest_is : (n e f : ℕ) → e ≢ f → e / 64 ^ n ≡ f / 64 ^ n → IsHighest e f (highest_differing n e f)
highest_is zero e f apart same = absurd (apart (sym (above_zero e) ∙ same ∙ above_zero f))
highest_is (suc n) e f apart same =
    let high : e / 64 ^ n / 64 ≡ f / 64 ^ n / 64 = sym (above_suc e n) ∙ same ∙ above_suc f n in
    let P : ℕ → Type 0 = λ h. IsHighest e f h in
    elim (cases_eq (digit_of e n) (digit_of f n)) [
      | inl digits ↦ subst P (sym (highest_lower n e f digits)) (highest_is n e f apart (digits_make _ _ high digits))
      | inr digits ↦
          subst P (sym (highest_here n e f digits)) (record { differs = λ eq. digits (ap (λ q. q % 64) eq); agrees = same })
    ]

pub level_by_highest : (e f h : ℕ) → IsHighest e f h → IsLevel e f (min 5 h)
level_by_highest e f h highest =
    let P : ℕ → Type 0 = λ L. IsLevel e f L in
    elim (cases_lt h 5) [
      | inl below ↦
          let is : h ≡ min 5 h = omega arith in
          subst P is (record { small = omega arith; differs = highest.differs; agrees = λ _. highest.agrees })
      | inr top ↦
          let is : 5 ≡ min 5 h = omega arith in
          subst P is (record {
            small = omega arith;
            differs = λ same. highest.differs (same_above e f 5 h top same);
            agrees = λ below. absurd (omega arith);
          })
    ]

pub high_none : (t : ℕ) → t < tick_limit → t / 64 ^ 7 ≡ 0
high_none t small = div-eq_of_lt small

level_min : (e f : ℕ) → level e f ≡ min 5 (highest_differing 7 e f)
unfolding level
level_min e f = refl

pub level_is : (e f : ℕ) → e < tick_limit → f < tick_limit → e ≢ f → IsLevel e f (level e f)
level_is e f e_in f_in apart =
    let P : ℕ → Type 0 = λ L. IsLevel e f L in
    let highest : IsHighest e f (highest_differing 7 e f) = highest_is 7 e f apart (high_none e e_in ∙ sym (high_none f f_in)) in
    subst P (sym (level_min e f)) (level_by_highest e f (highest_differing 7 e f) highest)

-- a place at which two ticks differ, and above which they agree, is the level
pub level_by : (e f L : ℕ) → e < tick_limit → f < tick_limit → IsLevel e f L → L ≡ level e f
level_by e f L e_in f_in at =
    level_only e f L (level e f) at (level_is e f e_in f_in (λ eq. at.differs (ap (λ t. t / 64 ^ L) eq)))

pub level_small : (e f : ℕ) → level e f < 6
level_small e f = omega (arith, level_min e f)

highest_same : (n e : ℕ) → highest_differing n e e ≡ 0
highest_same zero e = refl
highest_same (suc n) e = highest_lower n e e refl ∙ highest_same n e

pub level_same : (e : ℕ) → level e e ≡ 0
level_same e = level_min e e ∙ ap (λ h. min 5 h) (highest_same 7 e)
