-- No public clause cites this module.
-- The free indexes of a row: those freed last on a stack, and a bit for each of the others.
use Rattle.std.specs.Prelude.{◌≡◌, ◌≢◌, ℕ, ◌+◌, ◌*◌, ◌<◌, ◌≤◌, ◌↔◌, ◌==◌, List}
use Rattle.std.specs.Prelude.{length, slice_index}
use Rattle.std.specs.List.{count_by}
use Rattle.dq_wheel.specs.Walks.{bit_of}

-- how often an index stands in a list
abbrev pub times : ℕ → List ℕ → ℕ
times i xs = count_by (λ k. k == i) xs

-- the free indexes: those on the stack, and those of the bits
pub record FreeIndexes : Type 0 where
  pub recent : List ℕ
  pub bits : List ℕ

-- how often an index is among the free ones
abbrev pub free_times : FreeIndexes → ℕ → ℕ
free_times f i = times i f.recent + bit_of f.bits i

-- the indexes below this have a bit
abbrev pub room_of : FreeIndexes → ℕ
room_of f = 64 * length f.bits

-- index i is given back: it is once more among the free ones, and nothing else changes
pub record GivesBack (f : FreeIndexes) (i : ℕ) (g : FreeIndexes) : Type 0 where
  pub one_more : free_times g i ≡ free_times f i + 1
  pub others : (j : ℕ) → j ≢ i → free_times g j ≡ free_times f j
  pub room : length g.bits ≡ length f.bits

-- a bit of the summary is 1 exactly where that word of bits is not 0
abbrev pub IsSummed : List ℕ → List ℕ → Type 0
IsSummed bits summary = (w : ℕ) → (bit_of summary w ≡ 1) ↔ (0 < slice_index bits w)

-- how the summary, the word that gave the last index and the stack's space go with the bits
pub record IsFreeKept (bits summary : List ℕ) (word space : ℕ) : Type 0 where
  pub size : length bits ≤ 1024
  pub last : word < length bits
  pub stack : 64 ≤ space
  pub summed : IsSummed bits summary
