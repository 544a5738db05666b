-- Where the tokens of a line end.
use Rattle.std.proofs.Common.{◌≡◌, ℕ, ◌+◌, inl, inr, Bool, List, [], ◌∷◌, length, take, drop, refl, arith}
use Rattle.std.specs.Prelude.{Some, None, position}
use Rattle.std.specs.List.{position_or_len, slice_split}
use Rattle.std.proofs.lemmas.Bool.{le-ltb, lt-ltb, cases_lt}
use Rattle.std.proofs.lemmas.List.Splits.{slice_split_first, slice_split_none}
use Rattle.std.proofs.lemmas.List.Sums.{fails_before_first}

-- what `position` found ends the first part
pub split_at : (p : ℕ → Bool) (xs : List ℕ) (n : ℕ) → position p xs ≡ Some n → slice_split p xs ≡ take n xs ∷ slice_split p (drop (n + 1) xs)
split_at p xs n found = elim (cases_lt (position_or_len p xs) (length xs)) [
  | inl within ↦
      let some : position p xs ≡ Some (position_or_len p xs) = rw (lt-ltb (position_or_len p xs) (length xs) within) refl in
      let same : position_or_len p xs ≡ n = cc in
      rw (← same) (slice_split_first p xs 0 within)
  | inr past ↦
      let no : position p xs ≡ None = rw (le-ltb (position_or_len p xs) (length xs) past) refl in
      cc
]

pub split_none : (p : ℕ → Bool) (xs : List ℕ) → position p xs ≡ None → slice_split p xs ≡ xs ∷ []
split_none p xs none_found = elim (cases_lt (position_or_len p xs) (length xs)) [
  | inl within ↦
      let some : position p xs ≡ Some (position_or_len p xs) = rw (lt-ltb (position_or_len p xs) (length xs) within) refl in
      cc
  | inr past ↦ slice_split_none p xs (λ k d within. fails_before_first p xs k d (omega arith))
]
