-- Lemmas on the digits of a number.
use Rattle.std.proofs.Common.{◌≡◌, ℕ, ◌+◌, ◌-◌, ◌*◌, ◌^◌, ◌<◌, ◌≤◌, ◌⊎◌, inl, inr, suc, cond, true, false, List, [], ◌∷◌, length, get_or, drop, refl, arith, add-one, drop-cons}
use Rattle.std.specs.Prelude.{Some, None}
use Rattle.std.specs.Char.{is_ascii_digit}
use Rattle.std.proofs.lemmas.Bool.{le-ltb, lt-ltb}
use Rattle.std.proofs.lemmas.List.{drop_all}
use Rattle.dq_replay.specs.Text.{digits_behind}

-- a number that is too large stays so
pub digits_over : (bs : List ℕ) (n : ℕ) → 2 ^ 64 ≤ n → digits_behind n bs ≡ None
digits_over [] n large = rw (le-ltb n (2 ^ 64) large) refl
digits_over (b ∷ bs) n large =
    elim (is_ascii_digit b) as (λ t. cond t (digits_behind (10 * n + (b - 48)) bs) None ≡ None) [
      | true ↦ digits_over bs (10 * n + (b - 48)) (omega arith)
      | false ↦ refl
    ]

-- a byte that is no digit, or a digit that makes the number too large
pub digits_stop : (token : List ℕ) (n i : ℕ) → i < length token
    → (is_ascii_digit (get_or token i 0) ≡ false) ⊎ (2 ^ 64 ≤ 10 * n + (get_or token i 0 - 48)) → digits_behind n (drop i token) ≡ None
digits_stop token n i within (inl other) = rw (drop-cons token i 0 within, other) refl
digits_stop token n i within (inr large) =
    rw (drop-cons token i 0 within) (elim (is_ascii_digit (get_or token i 0)) as (λ t. cond t (digits_behind (10 * n + (get_or token i 0 - 48)) (drop (suc i) token)) None ≡ None) [
      | true ↦ digits_over (drop (suc i) token) (10 * n + (get_or token i 0 - 48)) large
      | false ↦ refl
    ])

pub digits_end : (token : List ℕ) (n i : ℕ) → length token ≤ i → n < 2 ^ 64 → digits_behind n (drop i token) ≡ Some n
digits_end token n i past small = rw (drop_all i token past, lt-ltb n (2 ^ 64) small) refl
