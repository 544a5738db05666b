-- How one word follows another.
use Rattle.std.specs.Prelude.{◌≡◌, ◌⊎◌, ℕ, ◌+◌, ◌*◌, ◌<◌, ◌≤◌, List, map}
use Rattle.dq_ticks.specs.declared.TheConstants.{LAST_TICK}
use Rattle.dq_ticks.specs.declared.words.Parts.{Parts}
use Rattle.dq_ticks.specs.Word.{stamp_unit, word, parts_of}

-- the word n has a stamp beyond s
abbrev pub Left : ℕ → ℕ → Type 0
Left n s = s * stamp_unit + stamp_unit ≤ n

-- what the live word of stamp s and deadline d may have become by callers' steps: it was extended,
-- or cancelled
abbrev pub CalledTo : ℕ → ℕ → ℕ → Type 0
CalledTo s d n =
    ((e : ℕ) × (d ≤ e) × (e ≤ LAST_TICK) × (n ≡ word s 0 e)) ⊎ (n ≡ word s 1 0)

-- what the word x may have become while its keeper looked away: a live word was extended or
-- cancelled, any other stays
abbrev pub LearnedWord : ℕ → ℕ → Type 0
LearnedWord x n =
    (n ≡ x)
    ⊎ ((s : ℕ) × (d : ℕ) × (x ≡ word s 0 d) × (0 < s) × (d ≤ LAST_TICK) × CalledTo s d n)

-- the parts of each word
abbrev pub parts_row : List ℕ → List Parts
parts_row = map parts_of
