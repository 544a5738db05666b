-- How the count of the slots that wait goes with their bits.
use Rattle.std.proofs.Common.{◌≡◌, ◌≢◌, ℕ, zero, suc, ◌+◌, ◌-◌, ◌*◌, ◌/◌, ◌%◌, ◌<◌, ◌≤◌, ◌↔◌, List, Bool, true, false, replicate, length, get_or, refl, sym, arith, ◌∙◌, ap, ⊎_elim}
use Rattle.std.specs.Int.{bit_at}
use Rattle.std.proofs.lemmas.List.{get_or-replicate, get_or_past, length-replicate}
use Rattle.std.proofs.lemmas.Bool.{cases_eq, cases_lt}
use Rattle.dq_wheel.specs.Walks.{bit_of}
use Rattle.dq_core.specs.FreeSlots.{IsSummed}
use Rattle.dq_core.specs.Deferred.{sum_below, IsDeferredKept}
use Rattle.dq_core.proofs.FreeBits.{none_free}

below_same : (f g : ℕ → ℕ) (i n : ℕ) → ((j : ℕ) → j ≢ i → g j ≡ f j) → n ≤ i → sum_below g n ≡ sum_below f n
below_same f g i zero others le = refl
below_same f g i (suc n) others le =
    let ne : n ≢ i = λ e. omega (arith, e, le) in
    let rest = below_same f g i n others (omega (arith, le)) in
    let here = others n ne in
    omega (arith, rest, here)

-- the sum where the function changed at one place
below_changed : (f g : ℕ → ℕ) (i n : ℕ) → ((j : ℕ) → j ≢ i → g j ≡ f j) → i < n → sum_below g n + f i ≡ sum_below f n + g i
below_changed f g i zero others inside = absurd (omega (arith, inside))
below_changed f g i (suc n) others inside =
    ⊎_elim
    (λ e.
    let rest = below_same f g i n others (omega (arith, e)) in
    let old : f n ≡ f i = ap f e in
    let new : g n ≡ g i = ap g e in
    omega (arith, rest, old, new))
    (λ d.
    let rest = below_changed f g i n others (omega (arith, d, inside)) in
    let here = others n d in
    omega (arith, rest, here))
    (cases_eq n i)

below_most : (f : ℕ → ℕ) (n : ℕ) → ((j : ℕ) → f j ≤ 1) → sum_below f n ≤ n
below_most f zero most = omega arith
below_most f (suc n) most = omega (arith, below_most f n most, most n)

below_none : (f : ℕ → ℕ) (n : ℕ) → ((j : ℕ) → f j ≡ 0) → sum_below f n ≡ 0
below_none f zero none = refl
below_none f (suc n) none = omega (arith, below_none f n none, none n)

below_some : (f : ℕ → ℕ) (i n : ℕ) → f i ≡ 1 → i < n → 1 ≤ sum_below f n
below_some f i zero one inside = absurd (omega (arith, inside))
below_some f i (suc n) one inside =
    ⊎_elim
    (λ e. let here : f n ≡ f i = ap f e in omega (arith, here, one))
    (λ d. let rest = below_some f i n one (omega (arith, d, inside)) in omega (arith, rest))
    (cases_eq n i)

bit_most : (v k : ℕ) → bit_at v k ≤ 1
bit_most v k = omega arith

pub bits_most : (bits : List ℕ) (i : ℕ) → bit_of bits i ≤ 1
bits_most bits i = bit_most (get_or bits (i / 64) 0) (i % 64)

-- a bit that isn't found to be 1 is 0
pub bit_not_one : (v k : ℕ) (b : Bool) → (b ≡ true) ↔ (bit_at v k ≡ 1) → b ≡ false → bit_at v k ≡ 0
bit_not_one v k b is off =
    ⊎_elim
    (λ one. let yes = is.1 one in cc)
    (λ d. omega (arith, bit_most v k, d))
    (cases_eq (bit_at v k) 1)

-- the count is of bits that have their place
pub count_small : (bits summary : List ℕ) (word count : ℕ) → IsDeferredKept bits summary word count → count ≤ 65536
count_small bits summary word count s =
    let most = below_most (bit_of bits) (64 * length bits) (λ j. bit_most (get_or bits (j / 64) 0) (j % 64)) in
    omega (arith, s.counted, s.size, most)

-- where a slot waits the count isn't 0
pub count_some : (bits summary : List ℕ) (word count i : ℕ) → IsDeferredKept bits summary word count → i < 64 * length bits → bit_of bits i ≡ 1 → 1 ≤ count
count_some bits summary word count i s inside one =
    let some = below_some (bit_of bits) i (64 * length bits) one inside in
    omega (arith, s.counted, some)

-- where each word is 0 the count is 0
pub count_none : (bits summary : List ℕ) (word count : ℕ) → IsDeferredKept bits summary word count → ((w : ℕ) → get_or bits w 0 ≡ 0) → count ≡ 0
count_none bits summary word count s none = s.counted ∙ below_none (bit_of bits) (64 * length bits) (none_free bits none)

-- one slot more waits
pub kept_added : (old new summary summary' : List ℕ) (word count i : ℕ) → IsDeferredKept old summary word count → length new ≡ length old → IsSummed new summary' → i < 64 * length old → bit_of old i ≡ 0 → bit_of new i ≡ 1 → ((j : ℕ) → j ≢ i → bit_of new j ≡ bit_of old j) → IsDeferredKept new summary' word (count + 1)
kept_added old new summary summary' word count i s size summed inside was is others =
    let sum : sum_below (bit_of new) (64 * length new) ≡ sum_below (bit_of new) (64 * length old) = ap (λ n. sum_below (bit_of new) (64 * n)) size in
    let changed = below_changed (bit_of old) (bit_of new) i (64 * length old) others inside in
    record { size = omega (arith, size, s.size); last = omega (arith, size, s.last); summed = summed; counted = omega (arith, s.counted, sum, changed, was, is) }

-- one slot fewer waits
pub kept_removed : (old new summary summary' : List ℕ) (word word' count i : ℕ) → IsDeferredKept old summary word count → length new ≡ length old → word' < length old → IsSummed new summary' → i < 64 * length old → bit_of old i ≡ 1 → bit_of new i ≡ 0 → ((j : ℕ) → j ≢ i → bit_of new j ≡ bit_of old j) → IsDeferredKept new summary' word' (count - 1)
kept_removed old new summary summary' word word' count i s size last summed inside was is others =
    let sum : sum_below (bit_of new) (64 * length new) ≡ sum_below (bit_of new) (64 * length old) = ap (λ n. sum_below (bit_of new) (64 * n)) size in
    let changed = below_changed (bit_of old) (bit_of new) i (64 * length old) others inside in
    record { size = omega (arith, size, s.size); last = omega (arith, size, last); summed = summed; counted = omega (arith, s.counted, sum, changed, was, is) }

zeros : (n w : ℕ) → ◌≡◌ {A = ℕ} (get_or (replicate n 0) w 0) 0
zeros n w =
    ⊎_elim
    (λ inside. get_or-replicate n w 0 0 inside)
    (λ past. let none : List ℕ = replicate n 0 in let size : length none ≡ n = length-replicate n 0 in get_or_past none w 0 (omega (arith, past, size)))
    (cases_lt w n)

zero_bit : (n i : ℕ) → bit_of (replicate n 0) i ≡ 0
zero_bit n i = none_free (replicate n 0) (zeros n) i

-- at first none waits
pub kept_new : (n : ℕ) → 0 < n → n ≤ 1024 → IsDeferredKept (replicate n 0) (replicate 16 0) 0 0
kept_new n some few =
    let none : List ℕ = replicate n 0 in
    let size : length none ≡ n = length-replicate n 0 in
    record {
      size = omega (arith, size, few);
      last = omega (arith, size, some);
      summed = λ w. ((λ one. absurd (omega (arith, one, zero_bit 16 w))), (λ filled. absurd (omega (arith, filled, zeros n w))));
      counted = sym (below_none (bit_of none) (64 * length none) (zero_bit n));
    }
