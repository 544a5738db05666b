-- A number stands in one row, at one place.
use Rattle.std.proofs.Common.{◌≡◌, ℕ, zero, suc, List, [], ◌∷◌, length, get_or, ◌*◌, ◌^◌, ◌<◌, ◌≤◌, ap, sym, arith, pow_mono, pow-suc, lt_of_not-le}
use Rattle.boxcar.specs.Slot.{Named}
use Rattle.dq_words.specs.DirectoryRows.{StandsAt, name_at}

pub row_below : (above row : ℕ) → 2 ^ row ≤ above → above < 4294967296 → row < 32
row_below above row low high = lt_of_not-le (λ (le : 32 ≤ row). let p : 4294967296 ≤ 2 ^ row = pow_mono le in omega arith)

before : (number k j l i : ℕ) → StandsAt number k j → StandsAt number l i → ¬ (k < l)
before number k j l i a b lt =
    let next : 2 ^ suc k ≤ 2 ^ l = pow_mono lt in
    let twice : 2 ^ suc k ≡ 2 ^ k * 2 = pow-suc 2 k in
    let inside = a.1 in let sum = a.2 in let other = b.2 in omega arith

pub one_row : (number k j l i : ℕ) → StandsAt number k j → StandsAt number l i → k ≡ l
one_row number k j l i a b = let p = before number k j l i a b in let q = before number l i k j b a in omega arith

pub one_place : (number k j l i : ℕ) → StandsAt number k j → StandsAt number l i → j ≡ i
one_place number k j l i a b =
    let same : 2 ^ k ≡ 2 ^ l = ap (λ (n : ℕ). 2 ^ n) (one_row number k j l i a b) in
    let sum = a.2 in let other = b.2 in omega arith

pub name_is : (places : List Named) (i : ℕ) (place : Named) → i < length places → place ≡ get_or places i place → name_at places i ≡ place.id
name_is [] i place inside is = absurd (omega arith)
name_is (p ∷ ps) zero place inside is = ap (λ (u : Named). u.id) (sym is)
name_is (p ∷ ps) (suc i) place inside is = name_is ps i place (omega arith) is
