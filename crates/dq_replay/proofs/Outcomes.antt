-- What the outcome of a script is, a line at a time.
use Rattle.std.proofs.Common.{◌≡◌, ℕ, ◌+◌, ◌<◌, ◌≤◌, Bool, true, false, List, [], ◌∷◌, ◌++◌, length, refl, ap, ◌∙◌, arith, length-append}
use Rattle.std.specs.Prelude.{Option, Some, None, Ok, Err, ◌==◌}
use Rattle.std.proofs.lemmas.Bool.{lt-ltb, le-ltb}
use Rattle.dq_replay.specs.declared.fault.FaultKind.{FaultKind}
use Rattle.dq_replay.specs.declared.fault.FaultKind.TheVariants.{TooManyLines, LineTooLong, UnfinishedLine}
use Rattle.dq_replay.specs.declared.line.TheConstants.{LINE_LIMIT, LAST_LINE}
use Rattle.dq_replay.specs.Text.{lines_of}
use Rattle.dq_replay.specs.Lines.{HasNoEnd}
use Rattle.dq_replay.specs.Script.{State, outcome_from, after_answer, ended_by, line_does, rest_fault}
use Rattle.dq_replay.proofs.Ends.{lines_whole, lines_last, lines_front, some_line}

-- a whole line, and lines behind it
whole_then : (number : ℕ) (s new : State) (line head answer : List ℕ) (rest : List (List ℕ)) → line_does number s line ≡ Ok (new, answer)
    → outcome_from number s (line ∷ head ∷ rest) ≡ after_answer answer (outcome_from (number + 1) new (head ∷ rest))
unfolding outcome_from
whole_then number s new line head answer rest does = rw (does, outcome_from) refl

whole_fault : (number : ℕ) (s : State) (line head : List ℕ) (rest : List (List ℕ)) (kind : FaultKind) → line_does number s line ≡ Err kind
    → outcome_from number s (line ∷ head ∷ rest) ≡ ended_by number (Some kind)
unfolding outcome_from
whole_fault number s line head rest kind does = rw (does, outcome_from) refl

rest_only : (number : ℕ) (s : State) (line : List ℕ) → outcome_from number s (line ∷ []) ≡ ended_by number (rest_fault number line)
unfolding outcome_from
rest_only number s line = refl

-- a line that does something, whatever follows
pub after_line : (number : ℕ) (s new : State) (line answer more : List ℕ) → HasNoEnd line → line_does number s line ≡ Ok (new, answer)
    → outcome_from number s (lines_of ((line ++ 10 ∷ []) ++ more)) ≡ after_answer answer (outcome_from (number + 1) new (lines_of more))
after_line number s new line answer more no_end does =
    let next = some_line more in
    rw (lines_whole line more no_end, next.2) (whole_then number s new line next.0 answer next.1 does)

-- a line with a fault, whatever follows
pub faulty_line : (number : ℕ) (s : State) (line more : List ℕ) (kind : FaultKind) → HasNoEnd line → line_does number s line ≡ Err kind
    → outcome_from number s (lines_of ((line ++ 10 ∷ []) ++ more)) ≡ ended_by number (Some kind)
faulty_line number s line more kind no_end does =
    let next = some_line more in
    rw (lines_whole line more no_end, next.2) (whole_fault number s line next.0 next.1 kind does)

-- what stands behind the last line's end
pub last_line : (number : ℕ) (s : State) (line : List ℕ) → HasNoEnd line → outcome_from number s (lines_of line) ≡ ended_by number (rest_fault number line)
last_line number s line no_end = rw (lines_last line no_end) (rest_only number s line)

no_answers : (number : ℕ) (fault : Option FaultKind) → (ended_by number fault).answers ≡ []
no_answers number None = refl
no_answers number (Some kind) = refl

-- it gives no answer
pub last_answers : (number : ℕ) (s : State) (line : List ℕ) → HasNoEnd line → (outcome_from number s (lines_of line)).answers ≡ []
last_answers number s line no_end = rw (last_line number s line no_end) (no_answers number (rest_fault number line))

pub unfinished : (number : ℕ) (line : List ℕ) → number ≤ LAST_LINE → length line ≤ LINE_LIMIT → 0 < length line → rest_fault number line ≡ Some UnfinishedLine
unfinished number [] known short some = absurd (omega arith)
unfinished number (b ∷ bs) known short some = rw (le-ltb LAST_LINE number known, le-ltb LINE_LIMIT (length (b ∷ bs)) short) refl

-- a line whose front is too long already
rest_long : (number : ℕ) (line : List ℕ) → number ≤ LAST_LINE → LINE_LIMIT < length line → rest_fault number line ≡ Some LineTooLong
rest_long number [] known long = absurd (omega arith)
rest_long number (b ∷ bs) known long = rw (le-ltb LAST_LINE number known, lt-ltb LINE_LIMIT (length (b ∷ bs)) long) refl

does_long : (number : ℕ) (s : State) (line : List ℕ) → number ≤ LAST_LINE → LINE_LIMIT < length line → line_does number s line ≡ Err LineTooLong
does_long number s line known long = rw (le-ltb LAST_LINE number known, lt-ltb LINE_LIMIT (length line) long) refl

long_line : (number : ℕ) (s : State) (line : List ℕ) (more : List (List ℕ)) → number ≤ LAST_LINE → LINE_LIMIT < length line
    → outcome_from number s (line ∷ more) ≡ ended_by number (Some LineTooLong)
long_line number s line [] known long = rest_only number s line ∙ ap (ended_by number) (rest_long number line known long)
long_line number s line (head ∷ rest) known long = whole_fault number s line head rest LineTooLong (does_long number s line known long)

pub too_long : (number : ℕ) (s : State) (line more : List ℕ) → HasNoEnd line → number ≤ LAST_LINE → LINE_LIMIT < length line
    → outcome_from number s (lines_of (line ++ more)) ≡ ended_by number (Some LineTooLong)
too_long number s line more no_end known long =
    let next = some_line more in
    rw (lines_front line more next.0 next.1 no_end next.2) (long_line number s (line ++ next.0) next.1 known (omega (arith, length-append line next.0)))

-- a byte behind the last line
many_lines : (number : ℕ) (s : State) (first : List ℕ) (more : List (List ℕ)) → LAST_LINE < number → (0 < length first) → outcome_from number s (first ∷ more) ≡ ended_by number (Some TooManyLines)
many_lines number s [] more past some = absurd (omega arith)
many_lines number s (b ∷ bs) [] past some =
    let over : rest_fault number (b ∷ bs) ≡ Some TooManyLines = rw (lt-ltb LAST_LINE number past) refl in
    rest_only number s (b ∷ bs) ∙ ap (ended_by number) over
many_lines number s (b ∷ bs) (head ∷ rest) past some = whole_fault number s (b ∷ bs) head rest TooManyLines (rw (lt-ltb LAST_LINE number past) refl)

pub too_many : (number : ℕ) (s : State) (b : ℕ) (more : List ℕ) → LAST_LINE < number → outcome_from number s (lines_of (b ∷ more)) ≡ ended_by number (Some TooManyLines)
too_many number s b more past = by (b == 10) refl (some_line more)
  where
    by : (t : Bool) → (b == 10) ≡ t → (first : List ℕ) × (rest : List (List ℕ)) × (lines_of more ≡ first ∷ rest) → outcome_from number s (lines_of (b ∷ more)) ≡ ended_by number (Some TooManyLines)
    by true is (first, rest, next) = rw (is, next) (whole_fault number s [] first rest TooManyLines (rw (lt-ltb LAST_LINE number past) refl))
    by false is (first, rest, next) = rw (is, next) (many_lines number s (b ∷ first) rest past (omega arith))
