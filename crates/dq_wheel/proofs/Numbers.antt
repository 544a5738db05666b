-- Lists by number against ticks.

use Rattle.std.proofs.Common.{◌≡◌, ◌≢◌, ℕ, ◌+◌, ◌*◌, ◌/◌, ◌%◌, ◌^◌, ◌<◌, sym, ap, arith, ◌∙◌, inl, inr, if◌then◌else◌, ◌==◌}
use Rattle.std.proofs.lemmas.Bool.Decides.{nat_tests}
use Rattle.dq_ticks.specs.Digits.{digit_of, level, start, IsAhead}
use Rattle.dq_ticks.proofs.Laws.{at_level, digit_below, start_low}
use Rattle.dq_ticks.proofs.Levels.{IsLevel, above_zero, above_suc, digits_make, level_by, level_same, level_small}
use Rattle.dq_ticks.specs.Units.{tick_limit}
use Rattle.dq_wheel.proofs.Links.{same_or_not}
use Rattle.dq_wheel.specs.Homes.{list_number}
use Rattle.dq_wheel.specs.declared.TheConstants.{LISTS}

-- what is filed at the tick is seen at level 0
pub level_due : (e f : ℕ) → e ≡ f → level e f ≡ 0
level_due e f same = ap (λ t. level e t) (sym same) ∙ level_same e

pub number_low : (e f : ℕ) → list_number e f < LISTS
number_low e f = omega (arith, level_small e f, digit_below f (level e f))

-- the due list has what is filed at the tick
pub number_same : (e f : ℕ) → e ≡ f → list_number e f ≡ digit_of e 0
number_same e f same =
    let flat : level e f ≡ 0 = level_due e f same in
    let number : list_number e f ≡ 64 * 0 + digit_of f 0 = ap (λ l. 64 * l + digit_of f l) flat in
    let digit : digit_of f 0 ≡ digit_of e 0 = ap (λ t. digit_of t 0) (sym same) in
    omega arith

-- what is filed at another tick of level 0 has another digit there
digits_apart : (e f : ℕ) → IsLevel e f 0 → digit_of f 0 ≢ digit_of e 0
digits_apart e f at same =
    let high : e / 64 ≡ f / 64 =
    ap (λ t. t / 64) (sym (above_zero e)) ∙ (sym (above_suc e 0) ∙ (at.agrees (omega arith) ∙ (above_suc f 0 ∙ ap (λ t. t / 64) (above_zero f)))) in
    let low : e % 64 ≡ f % 64 = ap (λ t. t % 64) (sym (above_zero e)) ∙ (sym same ∙ ap (λ t. t % 64) (above_zero f)) in
    at.differs (ap (λ t. t / 64 ^ 0) (digits_make e f high low))

-- and nothing else
pub number_apart : (e f : ℕ) → IsAhead e f → list_number e f ≢ digit_of e 0
number_apart e f a same =
    let flat : level e f ≡ 0 = omega (arith, digit_below e 0) in
    let number : list_number e f ≡ 64 * 0 + digit_of f 0 = ap (λ l. 64 * l + digit_of f l) flat in
    let digit : digit_of f 0 ≡ digit_of e 0 = omega arith in
    digits_apart e f (rw flat at (at_level e f a)) digit

-- what leaves a list of level 2 as it starts goes where the second digit says
second_flat : (w f : ℕ) → f < tick_limit → w ≡ f / 4096 * 4096 → digit_of f 1 ≡ 0 → level w f ≡ 0
second_flat w f f_in start none =
    elim (same_or_not w f) [
      | inl due ↦ level_due w f due
      | inr other ↦
          sym (level_by w f 0 (omega arith) f_in (record {
            small = omega arith;
            differs = λ same. other (sym (above_zero w) ∙ same ∙ above_zero f);
            agrees = λ low. omega arith;
          }))
    ]

second_high : (w f : ℕ) → f < tick_limit → w ≡ f / 4096 * 4096 → digit_of f 1 ≢ 0 → level w f ≡ 1
second_high w f f_in start some =
    sym (level_by w f 1 (omega arith) f_in (record {
      small = omega arith;
      differs = λ same. some (omega arith);
      agrees = λ low. omega arith;
    }))

pub second_level : (w f : ℕ) → f < tick_limit → w ≡ f / 4096 * 4096 → level w f ≡ (if digit_of f 1 == 0 then 0 else 1)
second_level w f f_in start =
    elim (same_or_not (digit_of f 1) 0) [
      | inl none ↦ let flat : level w f ≡ 0 = second_flat w f f_in start none in grind (arith, nat_tests)
      | inr some ↦ let high : level w f ≡ 1 = second_high w f f_in start some in grind (arith, nat_tests)
    ]

-- a list of level 0 starts at its own tick
pub start_lowest : (e list : ℕ) → list < 64 → e / 64 * 64 + list ≡ start e (list / 64) (list % 64)
start_lowest e list low =
    let level_zero : list / 64 ≡ 0 = omega arith in
    let slot : list % 64 ≡ list = omega arith in
    let lowest : start e 0 list ≡ e / 64 ^ (0 + 1) * 64 ^ (0 + 1) + list * 64 ^ 0 = start_low e 0 list (omega arith) in
    rw (level_zero, slot) (omega (arith, lowest))
