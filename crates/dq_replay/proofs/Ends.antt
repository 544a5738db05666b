-- Where the lines of a script end.
use Rattle.std.proofs.Common.{◌≡◌, ℕ, Bool, true, false, cond, List, [], ◌∷◌, ◌++◌, refl, append_assoc}
use Rattle.std.specs.Prelude.{◌==◌}
use Rattle.std.specs.List.{onto_first}
use Rattle.std.proofs.lemmas.List.Elements.{All-head, All-tail}
use Rattle.std.proofs.lemmas.List.Splits.{slice_split_at, slice_split_none}
use Rattle.dq_replay.specs.Text.{lines_of}
use Rattle.dq_replay.specs.Lines.{HasNoEnd}

-- a line and its end before the rest
pub lines_whole : (line rest : List ℕ) → HasNoEnd line → lines_of ((line ++ 10 ∷ []) ++ rest) ≡ line ∷ lines_of rest
lines_whole line rest no_end = rw (append_assoc line (10 ∷ []) rest) (slice_split_at (λ b. b == 10) line 10 rest no_end refl)

-- a line that the input ends in
pub lines_last : (line : List ℕ) → HasNoEnd line → lines_of line ≡ line ∷ []
lines_last line no_end = slice_split_none (λ b. b == 10) line no_end

-- a line always begins
pub some_line : (bytes : List ℕ) → (first : List ℕ) × (more : List (List ℕ)) × (lines_of bytes ≡ first ∷ more)
some_line [] = ([], [], refl)
some_line (b ∷ bs) = by (b == 10) (some_line bs)
  where
    by : (t : Bool) → (first : List ℕ) × (more : List (List ℕ)) × (lines_of bs ≡ first ∷ more)
        → (first : List ℕ) × (more : List (List ℕ)) × (cond t ([] ∷ lines_of bs) (onto_first b (lines_of bs)) ≡ first ∷ more)
    by true line = ([], lines_of bs, refl)
    by false (first, more, is) = (b ∷ first, more, rw is refl)

-- bytes go onto the front of the first line
pub lines_front : (line rest first : List ℕ) (more : List (List ℕ)) → HasNoEnd line → lines_of rest ≡ first ∷ more → lines_of (line ++ rest) ≡ (line ++ first) ∷ more
lines_front [] rest first more no_end is = is
lines_front (b ∷ line) rest first more no_end is =
    rw (All-head (λ x. (x == 10) ≡ false) b line no_end, lines_front line rest first more (All-tail (λ x. (x == 10) ≡ false) b line no_end) is) refl
