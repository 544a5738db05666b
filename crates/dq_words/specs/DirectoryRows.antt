-- Where a number stands. Row k has 2 ^ k places, and its place j is of the number 2 ^ k + j - 1.
use Rattle.std.specs.Prelude.{◌≡◌, ℕ, ◌+◌, ◌^◌, ◌<◌, List, [], ◌∷◌, length, slice_index_or}
use Rattle.boxcar.specs.Slot.{Named}

-- the number stands in row k at place j
abbrev pub StandsAt : ℕ → ℕ → ℕ → Type 0
StandsAt number k j = (k < 32) × (j < 2 ^ k) × (2 ^ k + j ≡ number + 1)

-- the name of the i-th place
abbrev pub name_at : List Named → ℕ → ℕ
name_at places i = (slice_index_or places i record { id = 0; tag = [] }).id

-- the number that a row is tagged with
abbrev pub first : List ℕ → ℕ
first [] = 0
first (n ∷ ns) = n

-- there are n rows, each tagged with its number
abbrev pub AreNumbered : ℕ → List Named → Type 0
AreNumbered n rows = (length rows ≡ n) × ((k : ℕ) (d : Named) → k < n → (slice_index_or rows k d).tag ≡ k ∷ [])
