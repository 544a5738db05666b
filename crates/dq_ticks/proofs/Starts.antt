-- Digits tell ticks apart, and a slot starts at the tick that its digit names.
use Rattle.std.proofs.Common.{◌≡◌, ◌≢◌, ℕ, zero, suc, ◌+◌, ◌-◌, ◌*◌, ◌/◌, ◌%◌, ◌^◌, ◌<◌, ◌≤◌, inl, inr, refl, sym, ◌∙◌, ap, subst, arith, if◌then◌else◌, nat_lt, ◌==◌}
use Rattle.std.proofs.Math.Nat.{pow-suc, mul_assoc, mul_comm, mul-div_cancel}
use Rattle.std.proofs.lemmas.Nat.{pow-add}
use Rattle.std.proofs.lemmas.Bool.{cases_eq}
use Rattle.std.proofs.lemmas.Bool.Decides.{nat_tests}
use Rattle.dq_ticks.specs.Digits.{digit_of, highest_differing, start}
use Rattle.dq_ticks.specs.Places.{IsLapStart}
use Rattle.dq_ticks.specs.Units.{lap, tick_limit, top_span}
use Rattle.dq_ticks.proofs.Levels.{above_suc, above_zero, digits_make, high_none, highest_here, highest_lower, power_pos, same_above}
use Rattle.dq_ticks.proofs.Laws.{rejoin, start_low, start_top}

digits_tell : (n e f : ℕ) → e / 64 ^ n ≡ f / 64 ^ n → ((i : ℕ) → i < n → digit_of e i ≡ digit_of f i) → e ≡ f
digits_tell zero e f high low = sym (above_zero e) ∙ high ∙ above_zero f
digits_tell (suc n) e f high low =
    let here : e / 64 ^ n ≡ f / 64 ^ n =
    digits_make (e / 64 ^ n) (f / 64 ^ n) (sym (above_suc e n) ∙ high ∙ above_suc f n) (low n (omega arith)) in
    digits_tell n e f here (λ i below. low i (omega (arith, below)))

pub digits_tell_ticks : (e f : ℕ) → e < tick_limit → f < tick_limit → ((i : ℕ) → i < 7 → digit_of e i ≡ digit_of f i) → e ≡ f
digits_tell_ticks e f e_in f_in same = digits_tell 7 e f (high_none e e_in ∙ sym (high_none f f_in)) same

-- what is said of the highest place h
abbrev pub IsHighestOf : ℕ → ℕ → ℕ → ℕ → ℕ → Type 0
IsHighestOf n e f i h = (i ≤ h) × (h < n) × (digit_of e h ≢ digit_of f h)

pub highest_differs : (n e f i : ℕ) → i < n → digit_of e i ≢ digit_of f i → IsHighestOf n e f i (highest_differing n e f)
highest_differs zero e f i below apart = absurd (omega arith)
highest_differs (suc n) e f i below apart =
    let P : ℕ → Type 0 = λ h. IsHighestOf (suc n) e f i h in
    elim (cases_eq (digit_of e n) (digit_of f n)) [
      | inl same ↦
          let Q : ℕ → Type 0 = λ j. digit_of e j ≡ digit_of f j in
          let other : i ≢ n = λ is. apart (subst Q (sym is) same) in
          let less : i < n = omega (arith, other) in
          let rest : IsHighestOf n e f i (highest_differing n e f) = highest_differs n e f i less apart in
          subst P (sym (highest_lower n e f same)) (rest.0, omega (arith, rest.1), rest.2)
      | inr differ ↦ subst P (sym (highest_here n e f differ)) (omega arith, omega arith, differ)
    ]

low_digit : (m i d : ℕ) → m * 64 ^ (i + suc d) / 64 ^ i % 64 ≡ 0
low_digit m i d =
    let parts : m * 64 ^ (i + suc d) ≡ m * 64 ^ d * 64 * 64 ^ i =
    ap (λ x. m * x) (pow-add 64 i (suc d) ∙ mul_comm (64 ^ i) (64 ^ suc d) ∙ ap (λ x. x * 64 ^ i) (pow-suc 64 d))
    ∙ sym (mul_assoc m (64 ^ d * 64) (64 ^ i)) ∙ ap (λ x. x * 64 ^ i) (sym (mul_assoc m (64 ^ d) 64)) in
    let quotient : m * 64 ^ (i + suc d) / 64 ^ i ≡ m * 64 ^ d * 64 =
    ap (λ x. x / 64 ^ i) parts ∙ mul-div_cancel (m * 64 ^ d * 64) (power_pos i) in
    omega arith

joined : (e place k : ℕ) → place < 5 → start e place k ≡ (e / 64 ^ suc place * 64 + k) * 64 ^ place
joined e place k below =
    let next : place + 1 ≡ suc place = omega arith in
    start_low e place k below
    ∙ ap (λ n. e / 64 ^ n * 64 ^ n + k * 64 ^ place) next
    ∙ ap (λ p. e / 64 ^ suc place * p + k * 64 ^ place) (pow-suc 64 place)
    ∙ rejoin (e / 64 ^ suc place) k (64 ^ place) (e / 64 ^ suc place * 64 + k) refl

by_place : (s i place k d : ℕ) → (i < place → s ≡ 0) → (i ≡ place → s ≡ k) → (place < i → s ≡ d) →
    s ≡ (if nat_lt i place then 0 else (if i == place then k else d))
by_place s i place k d lower here higher = grind (arith, nat_tests)

module _ (e place k : ℕ) (below : place < 5) (k_in : k < 64) where
  quotient_here : start e place k / 64 ^ place ≡ e / 64 ^ suc place * 64 + k
  quotient_here =
      ap (λ s. s / 64 ^ place) (joined e place k below) ∙ mul-div_cancel (e / 64 ^ suc place * 64 + k) (power_pos place)

  digit_lower : (i : ℕ) → i < place → digit_of (start e place k) i ≡ 0
  digit_lower i less =
      let d : ℕ = place - i - 1 in
      let is : place ≡ i + suc d = omega arith in
      ap (λ s. s / 64 ^ i % 64) (joined e place k below ∙ ap (λ n. (e / 64 ^ suc place * 64 + k) * 64 ^ n) is)
      ∙ low_digit (e / 64 ^ suc place * 64 + k) i d

  digit_here : digit_of (start e place k) place ≡ k
  digit_here = omega (arith, quotient_here)

  digit_higher : (i : ℕ) → place < i → digit_of (start e place k) i ≡ digit_of e i
  digit_higher i more =
      let quotient : start e place k / 64 ^ suc place ≡ e / 64 ^ suc place =
      above_suc (start e place k) place ∙ omega (arith, quotient_here) in
      ap (λ q. q % 64) (same_above (start e place k) e (suc place) i more quotient)

  pub start_digits : (i : ℕ) → digit_of (start e place k) i ≡ (if nat_lt i place then 0 else (if i == place then k else digit_of e i))
  start_digits i =
      let P : ℕ → Type 0 = λ n. digit_of (start e place k) n ≡ k in
      by_place (digit_of (start e place k) i) i place k (digit_of e i)
      (digit_lower i)
      (λ same. subst P (sym same) digit_here)
      (digit_higher i)

lap_after : (e k : ℕ) → k < 64 → e < start e 5 k
lap_after e k k_in = rw start_top (grind (arith, nat_tests))

lap_multiple : (e k : ℕ) → k < 64 → start e 5 k % top_span ≡ 0
lap_multiple e k k_in = rw start_top (grind (arith, nat_tests))

lap_digit : (e k : ℕ) → k < 64 → digit_of (start e 5 k) 5 ≡ k
lap_digit e k k_in = rw start_top (grind (arith, nat_tests))

lap_once : (e k : ℕ) → k < 64 → start e 5 k ≤ e + lap
lap_once e k k_in = rw start_top (grind (arith, nat_tests))

lap_least : (e k m : ℕ) → k < 64 → IsLapStart e k m → start e 5 k ≤ m
lap_least e k m k_in other = rw start_top (grind (arith, nat_tests, other.after, other.multiple, other.digit))

pub lap_start : (e k : ℕ) → k < 64 →
    IsLapStart e k (start e 5 k) × (start e 5 k ≤ e + lap) × ((m : ℕ) → IsLapStart e k m → start e 5 k ≤ m)
lap_start e k k_in =
    (record { after = lap_after e k k_in; multiple = lap_multiple e k k_in; digit = lap_digit e k k_in }, lap_once e k k_in, λ m other. lap_least e k m k_in other)
