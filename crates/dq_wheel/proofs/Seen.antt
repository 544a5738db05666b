-- Rows as they are seen while a list is open.

use Rattle.std.proofs.Common.{◌≡◌, ◌≢◌, ℕ, zero, suc, ◌+◌, ◌<◌, ◌≤◌, List, [], ◌∷◌, length, get_or, set, take, map, refl, sym, arith, ◌∙◌, ap, inl, inr, Option, None, Some}
use Rattle.std.proofs.lemmas.List.{get_or-take, length-take-le, ext_get_or}
use Rattle.dq_wheel.specs.Seen.{home_seen, number_seen, homes_seen, numbers_seen}
use Rattle.dq_wheel.proofs.Links.{same_or_not, nat_le_or_lt}

pub home_there : (p h : ℕ) → h ≡ p + 1 → home_seen (Some p) h ≡ 1
home_there p h is = grind arith

pub home_elsewhere : (p h : ℕ) → h ≢ p + 1 → home_seen (Some p) h ≡ h
home_elsewhere p h d = grind arith

pub number_there : (p t h f : ℕ) → h ≡ p + 1 → number_seen (Some p) t h f ≡ t
number_there p t h f is = grind arith

pub number_elsewhere : (p t h f : ℕ) → h ≢ p + 1 → number_seen (Some p) t h f ≡ f
number_elsewhere p t h f d = grind arith

-- what is loose is seen so
pub loose_seen : (o : Option ℕ) → home_seen o 0 ≡ 0
loose_seen None = refl
loose_seen (Some p) = home_elsewhere p 0 (λ e. omega arith)

pub loose_number : (o : Option ℕ) (t f : ℕ) → number_seen o t 0 f ≡ f
loose_number None t f = refl
loose_number (Some p) t f = number_elsewhere p t 0 f (λ e. omega arith)

-- what stands in a list that isn't open is seen there
pub other_seen : (o : Option ℕ) (p : ℕ) → o ≢ Some p → home_seen o (p + 1) ≡ p + 1
other_seen None p d = refl
other_seen (Some q) p d = home_elsewhere q (p + 1) (λ e. d (ap Some (omega arith)))

pub other_number : (o : Option ℕ) (t p f : ℕ) → o ≢ Some p → number_seen o t (p + 1) f ≡ f
other_number None t p f d = refl
other_number (Some q) t p f d = number_elsewhere q t (p + 1) f (λ e. d (ap Some (omega arith)))

pub seen_linked : (o : Option ℕ) (h : ℕ) → 0 < home_seen o h → 0 < h
seen_linked o h on =
    elim (same_or_not h 0) [
      | inl none ↦ let loose : home_seen o 0 ≡ 0 = loose_seen o in let on0 : 0 < home_seen o 0 = rw none at on in absurd (omega arith)
      | inr some ↦ omega arith
    ]

pub homes_length : (n : ℕ) (o : Option ℕ) (homes : List ℕ) → length (homes_seen n o homes) ≡ length homes
unfolding homes_seen
homes_length zero o homes = refl
homes_length (suc n) o [] = refl
homes_length (suc n) o (h ∷ homes) = ap (λ k. suc k) (homes_length n o homes)

pub homes_at : (n : ℕ) (o : Option ℕ) (homes : List ℕ) (x : ℕ) → x < n → get_or (homes_seen n o homes) x 0 ≡ home_seen o (get_or homes x 0)
unfolding homes_seen
homes_at zero o homes x x_in = absurd (omega arith)
homes_at (suc n) o [] x x_in = sym (loose_seen o)
homes_at (suc n) o (h ∷ homes) zero x_in = refl
homes_at (suc n) o (h ∷ homes) (suc x) x_in = homes_at n o homes x (omega arith)

pub homes_past : (n : ℕ) (o : Option ℕ) (homes : List ℕ) (x : ℕ) → n ≤ x → get_or (homes_seen n o homes) x 0 ≡ get_or homes x 0
unfolding homes_seen
homes_past zero o homes x high = refl
homes_past (suc n) o [] x high = refl
homes_past (suc n) o (h ∷ homes) zero high = absurd (omega arith)
homes_past (suc n) o (h ∷ homes) (suc x) high = homes_past n o homes x (omega arith)

pub homes_set : (n : ℕ) (o : Option ℕ) (homes : List ℕ) (i v : ℕ) → i < n → homes_seen n o (set homes i v) ≡ set (homes_seen n o homes) i (home_seen o v)
unfolding homes_seen
homes_set zero o homes i v i_in = absurd (omega arith)
homes_set (suc n) o [] i v i_in = refl
homes_set (suc n) o (h ∷ homes) zero v i_in = refl
homes_set (suc n) o (h ∷ homes) (suc i) v i_in = ap (λ xs. home_seen o h ∷ xs) (homes_set n o homes i v (omega arith))

pub homes_none : (n : ℕ) (homes : List ℕ) → homes_seen n None homes ≡ homes
unfolding homes_seen
homes_none zero homes = refl
homes_none (suc n) [] = refl
homes_none (suc n) (h ∷ homes) = ap (λ xs. h ∷ xs) (homes_none n homes)

pub numbers_length : (o : Option ℕ) (t : ℕ) (homes numbers : List ℕ) → length numbers ≡ length homes → length (numbers_seen o t homes numbers) ≡ length homes
unfolding numbers_seen
numbers_length o t [] numbers size = refl
numbers_length o t (h ∷ homes) [] size = absurd (omega arith)
numbers_length o t (h ∷ homes) (f ∷ numbers) size = ap (λ k. suc k) (numbers_length o t homes numbers (omega arith))

pub numbers_at : (o : Option ℕ) (t : ℕ) (homes numbers : List ℕ) → length numbers ≡ length homes → (x : ℕ) → x < length homes →
    get_or (numbers_seen o t homes numbers) x 0 ≡ number_seen o t (get_or homes x 0) (get_or numbers x 0)
unfolding numbers_seen
numbers_at o t [] numbers size x x_in = absurd (omega arith)
numbers_at o t (h ∷ homes) [] size x x_in = absurd (omega arith)
numbers_at o t (h ∷ homes) (f ∷ numbers) size zero x_in = refl
numbers_at o t (h ∷ homes) (f ∷ numbers) size (suc x) x_in = numbers_at o t homes numbers (omega arith) x (omega arith)

pub numbers_set : (o : Option ℕ) (t : ℕ) (homes numbers : List ℕ) (i h f : ℕ) →
    numbers_seen o t (set homes i h) (set numbers i f) ≡ set (numbers_seen o t homes numbers) i (number_seen o t h f)
unfolding numbers_seen
numbers_set o t [] numbers i h f = refl
numbers_set o t (g ∷ homes) [] zero h f = refl
numbers_set o t (g ∷ homes) [] (suc i) h f = refl
numbers_set o t (g ∷ homes) (m ∷ numbers) zero h f = refl
numbers_set o t (g ∷ homes) (m ∷ numbers) (suc i) h f = ap (λ xs. number_seen o t g m ∷ xs) (numbers_set o t homes numbers i h f)

pub numbers_none : (t : ℕ) (homes numbers : List ℕ) → length numbers ≡ length homes → numbers_seen None t homes numbers ≡ numbers
unfolding numbers_seen
numbers_none t [] [] size = refl
numbers_none t [] (f ∷ numbers) size = absurd (omega arith)
numbers_none t (h ∷ homes) [] size = absurd (omega arith)
numbers_none t (h ∷ homes) (f ∷ numbers) size = ap (λ xs. f ∷ xs) (numbers_none t homes numbers (omega arith))

-- the entries alone
pub homes_take : (n : ℕ) (o : Option ℕ) (homes : List ℕ) → take n (homes_seen n o homes) ≡ map (home_seen o) (take n homes)
unfolding homes_seen
homes_take zero o homes = refl
homes_take (suc n) o [] = refl
homes_take (suc n) o (h ∷ homes) = ap (λ xs. home_seen o h ∷ xs) (homes_take n o homes)

pub numbers_take : (n : ℕ) (o : Option ℕ) (t : ℕ) (homes numbers : List ℕ) →
    take n (numbers_seen o t homes numbers) ≡ numbers_seen o t (take n homes) (take n numbers)
unfolding numbers_seen
numbers_take zero o t homes numbers = refl
numbers_take (suc n) o t [] numbers = refl
numbers_take (suc n) o t (h ∷ homes) [] = refl
numbers_take (suc n) o t (h ∷ homes) (f ∷ numbers) = ap (λ xs. number_seen o t h f ∷ xs) (numbers_take n o t homes numbers)

-- where no entry is seen in list 0, the rows are as they are seen
module _ (n : ℕ) (o : Option ℕ) (homes : List ℕ) (fits : n ≤ length homes) (empty : (x : ℕ) → x < n → get_or (homes_seen n o homes) x 0 ≢ 1) where
  same_at : (p h : ℕ) → home_seen (Some p) h ≢ 1 → h ≢ p + 1
  same_at p h away there = away (home_there p h there)

  home_same : (p : Option ℕ) (h : ℕ) → home_seen p h ≢ 1 → home_seen p h ≡ h
  home_same None h away = refl
  home_same (Some p) h away = home_elsewhere p h (same_at p h away)

  number_same : (p : Option ℕ) (t h f : ℕ) → home_seen p h ≢ 1 → number_seen p t h f ≡ f
  number_same None t h f away = refl
  number_same (Some p) t h f away = number_elsewhere p t h f (same_at p h away)

  away_at : (x : ℕ) → x < n → home_seen o (get_or homes x 0) ≢ 1
  away_at x x_in there = empty x x_in (homes_at n o homes x x_in ∙ there)

  pub homes_same : homes_seen n o homes ≡ homes
  homes_same =
      ext_get_or 0 (homes_seen n o homes) homes (homes_length n o homes) (λ x x_in.
      elim (nat_le_or_lt n x) [
        | inl high ↦ homes_past n o homes x high
        | inr low ↦ homes_at n o homes x low ∙ home_same o (get_or homes x 0) (away_at x low)
      ])

  pub numbers_same : (t : ℕ) (numbers : List ℕ) → length numbers ≡ length homes → take n (numbers_seen o t homes numbers) ≡ take n numbers
  numbers_same t numbers size =
      let long : length (numbers_seen o t homes numbers) ≡ length homes = numbers_length o t homes numbers size in
      let seen_long : length (take n (numbers_seen o t homes numbers)) ≡ n = length-take-le n (numbers_seen o t homes numbers) (omega arith) in
      let row_long : length (take n numbers) ≡ n = length-take-le n numbers (omega arith) in
      ext_get_or 0 (take n (numbers_seen o t homes numbers)) (take n numbers) (seen_long ∙ sym row_long) (λ x x_in.
      let low : x < n = omega arith in
      get_or-take n (numbers_seen o t homes numbers) x 0 low
      ∙ (numbers_at o t homes numbers size x (omega arith)
      ∙ (number_same o t (get_or homes x 0) (get_or numbers x 0) (away_at x low)
      ∙ sym (get_or-take n numbers x 0 low))))
