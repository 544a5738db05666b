-- Bits of the free indexes, and of their summary.
use Rattle.std.proofs.Common.{◌≡◌, ◌≢◌, ℕ, ◌+◌, ◌-◌, ◌*◌, ◌/◌, ◌%◌, ◌^◌, ◌<◌, ◌≤◌, ◌↔◌, List, [], ◌∷◌, ◌++◌, cond, eqb, length, get_or, set, refl, sym, arith, ◌∙◌, ap, ⊎_elim, bit_and}
use Rattle.std.specs.Int.{bit_at}
use Rattle.std.proofs.lemmas.Nat.Bits.{bit_at-zero}
use Rattle.std.proofs.lemmas.List.{get_or-set_same, get_or-set_other, get_or_past}
use Rattle.std.proofs.lemmas.Bool.{cases_eq, cases_lt, eq-eqb, ne_eqb}
use Rattle.std.proofs.Math.Nat.{div-div-eq-div-mul, pow-le-pow_right, div-eq_of_lt, div-le_self}
use Rattle.std.proofs.lemmas.Nat.{pow-add}
use Rattle.std.proofs.lemmas.List.Sums.{sum_by_push}
use Rattle.dq_wheel.specs.Walks.{bit_of}
use Rattle.dq_wheel.proofs.Bits.{with_bit, without_bit, bit_is_set, bit_stays_set, bit_is_cleared, bit_stays_cleared}
use Rattle.dq_core.specs.FreeSlots.{times, IsSummed, GivesBack}

-- a word with a bit is not 0
pub bit_in_word : (v k : ℕ) → bit_at v k ≡ 1 → 0 < v
bit_in_word v k one =
    ⊎_elim
    (λ e. let none : bit_at v k ≡ 0 = ap (λ n. bit_at n k) e ∙ bit_at-zero k in absurd (omega arith))
    (λ d. omega arith)
    (cases_eq v 0)

-- where one word and its bit of the summary agree anew, and nothing else changed, all is summed
pub summed_at : (bits summary after summary_after : List ℕ) (w : ℕ) → IsSummed bits summary →
    ((v : ℕ) → v ≢ w → get_or after v 0 ≡ get_or bits v 0) → ((v : ℕ) → v ≢ w → bit_of summary_after v ≡ bit_of summary v) →
    (bit_of summary_after w ≡ 1) ↔ (0 < get_or after w 0) → IsSummed after summary_after
summed_at bits summary after summary_after w summed words sums here v =
    ⊎_elim
    (λ e. rw e here)
    (λ d. rw (words v d, sums v d) (summed v))
    (cases_eq v w)

-- a bit is set, and its word's in the summary
pub set_summed : (bits summary : List ℕ) (i : ℕ) → i / 64 < length bits → i / 64 / 64 < length summary → IsSummed bits summary → IsSummed (with_bit bits i) (with_bit summary (i / 64))
set_summed bits summary i i_in w_in summed =
    summed_at bits summary (with_bit bits i) (with_bit summary (i / 64)) (i / 64) summed
    (λ v d. get_or-set_other bits (i / 64) v _ 0 d)
    (λ v d. bit_stays_set summary (i / 64) v w_in d)
    ((λ one. bit_in_word (get_or (with_bit bits i) (i / 64) 0) (i % 64) (bit_is_set bits i i_in)), (λ some. bit_is_set summary (i / 64) w_in))

-- a bit is set in a word that has others
pub added_summed : (bits summary : List ℕ) (i : ℕ) → i / 64 < length bits → 0 < get_or bits (i / 64) 0 → IsSummed bits summary → IsSummed (with_bit bits i) summary
added_summed bits summary i i_in some summed =
    summed_at bits summary (with_bit bits i) summary (i / 64) summed
    (λ v d. get_or-set_other bits (i / 64) v _ 0 d)
    (λ v d. refl)
    ((λ one. bit_in_word (get_or (with_bit bits i) (i / 64) 0) (i % 64) (bit_is_set bits i i_in)), (λ full. (summed (i / 64)).1 some))

-- the words without bit k of word w
abbrev pub without : List ℕ → ℕ → ℕ → List ℕ
without bits w k = set bits w (bit_and (get_or bits w 0) (18446744073709551615 - 1 * 2 ^ k % 18446744073709551616))

module _ (bits : List ℕ) (w k : ℕ) (k_in : k < 64) where
  high : (64 * w + k) / 64 ≡ w
  high = omega arith

  low : (64 * w + k) % 64 ≡ k
  low = omega arith

  same : without_bit bits (64 * w + k) ≡ without bits w k
  same = rw (high, low) refl

  pub was_one : bit_at (get_or bits w 0) k ≡ 1 → bit_of bits (64 * w + k) ≡ 1
  was_one one = rw (high, low) one

  pub is_zero : w < length bits → bit_of (without bits w k) (64 * w + k) ≡ 0
  is_zero w_in = rw (← same) (bit_is_cleared bits (64 * w + k) (rw high w_in))

  pub others_stay : w < length bits → (i : ℕ) → i ≢ 64 * w + k → bit_of (without bits w k) i ≡ bit_of bits i
  others_stay w_in i d = rw (← same) (bit_stays_cleared bits (64 * w + k) i (rw high w_in) d)

-- a bit is cleared, and its word has others
pub taken_summed : (bits summary : List ℕ) (w left : ℕ) → w < length bits → 0 < get_or bits w 0 → 0 < left → IsSummed bits summary → IsSummed (set bits w left) summary
taken_summed bits summary w left w_in some rest summed =
    let read : get_or (set bits w left) w 0 ≡ left = get_or-set_same bits w left 0 w_in in
    summed_at bits summary (set bits w left) summary w summed
    (λ v d. get_or-set_other bits w v left 0 d)
    (λ v d. refl)
    ((λ one. omega arith), (λ full. (summed w).1 some))

-- the last bit of a word is cleared, and the word's in the summary
pub emptied_summed : (bits summary : List ℕ) (w left : ℕ) → w < length bits → w / 64 < length summary → left ≡ 0 → IsSummed bits summary → IsSummed (set bits w left) (without_bit summary w)
emptied_summed bits summary w left w_in s_in none summed =
    let read : get_or (set bits w left) w 0 ≡ left = get_or-set_same bits w left 0 w_in in
    let cleared : bit_of (without_bit summary w) w ≡ 0 = bit_is_cleared summary w s_in in
    summed_at bits summary (set bits w left) (without_bit summary w) w summed
    (λ v d. get_or-set_other bits w v left 0 d)
    (λ v d. bit_stays_cleared summary w v s_in d)
    ((λ one. absurd (omega arith)), (λ full. absurd (omega arith)))

-- the bits of a word from bit s on
shifted : (v s i : ℕ) → bit_at (v / 2 ^ s) i ≡ bit_at v (s + i)
shifted v s i = ap (λ n. n % 2) (div-div-eq-div-mul v (2 ^ s) (2 ^ i) ∙ ap (λ n. v / n) (sym (pow-add 2 s i)))

high_zero : (v i : ℕ) → v < 18446744073709551616 → 64 ≤ i → bit_at v i ≡ 0
high_zero v i fits above =
    let big : 2 ^ 64 ≤ 2 ^ i = pow-le-pow_right (omega arith) above in
    ap (λ n. n % 2) (div-eq_of_lt (omega arith))

-- a bit that is found from bit `from` on is one of the same word
pub found_ahead : (words : List ℕ) (from k : ℕ) → get_or words (from / 64) 0 < 18446744073709551616 → from < 1024 → bit_at (get_or words (from / 64) 0 / 2 ^ (from % 64)) k ≡ 1 →
    (from + k < 1024) × (bit_of words (from + k) ≡ 1)
found_ahead words from k fits from_in one =
    let found : bit_at (get_or words (from / 64) 0) (from % 64 + k) ≡ 1 = sym (shifted (get_or words (from / 64) 0) (from % 64) k) ∙ one in
    let inside : from % 64 + k < 64 =
    ⊎_elim (λ low. low) (λ above. let none : bit_at (get_or words (from / 64) 0) (from % 64 + k) ≡ 0 = high_zero (get_or words (from / 64) 0) (from % 64 + k) fits above in absurd (omega arith)) (cases_lt (from % 64 + k) 64) in
    let quotient : (from + k) / 64 ≡ from / 64 = omega arith in
    let rest : (from + k) % 64 ≡ from % 64 + k = omega arith in
    (omega arith, rw (quotient, rest) found)

-- a bit of a group
pub found_in : (words : List ℕ) (g k : ℕ) → g < 16 → k < 64 → bit_at (get_or words g 0) k ≡ 1 → (64 * g + k < 1024) × (bit_of words (64 * g + k) ≡ 1)
found_in words g k g_in k_in one = (omega arith, was_one words g k k_in one)

-- a number that is shifted down has no more bits
pub shifted_fits : (n k : ℕ) → n < 18446744073709551616 → n / 2 ^ k < 18446744073709551616
shifted_fits n k fits = omega (arith, div-le_self n (2 ^ k))

-- where each group is 0, no bit is 1
pub none_in : (words : List ℕ) (g : ℕ) → ((k : ℕ) → k < 16 → get_or words ((g + 1 + k) % 16) 0 ≡ 0) → (w : ℕ) → w < 1024 → bit_of words w ≢ 1
none_in words g zeros w w_in one =
    let turned : (g + 1 + (w / 64 + 15 - g % 16) % 16) % 16 ≡ w / 64 = omega arith in
    let none : get_or words (w / 64) 0 ≡ 0 = rw turned at (zeros ((w / 64 + 15 - g % 16) % 16) (omega arith)) in
    let bit : bit_of words w ≡ 0 = ap (λ v. bit_at v (w % 64)) none ∙ bit_at-zero (w % 64) in
    omega arith

-- the bit of an index is set, or cleared
pub bit_given : (stack bits after : List ℕ) (i : ℕ) → bit_of bits i ≡ 0 → bit_of after i ≡ 1 → ((j : ℕ) → j ≢ i → bit_of after j ≡ bit_of bits j) → length after ≡ length bits →
    GivesBack (record { recent = stack; bits = bits }) i (record { recent = stack; bits = after })
bit_given stack bits after i was is others size = record { one_more = omega arith; others = λ j d. ap (λ n. times j stack + n) (others j d); room = size }

-- where the stack is empty and all words are 0, no index is free
pub none_free : (bits : List ℕ) → ((w : ℕ) → get_or bits w 0 ≡ 0) → (i : ℕ) → bit_of bits i ≡ 0
none_free bits none i = ap (λ v. bit_at v (i % 64)) (none (i / 64)) ∙ bit_at-zero (i % 64)
