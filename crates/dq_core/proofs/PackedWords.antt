-- Words in numbers, and the parts that they have.
use Rattle.std.proofs.Common.{◌≡◌, ℕ, zero, suc, ◌<◌, ◌≤◌, List, ◌∷◌, set, map, replicate, refl, ap, arith, ◌∙◌}
use Rattle.std.proofs.lemmas.List.{map-set}
use Rattle.dq_ticks.specs.declared.words.Parts.{Parts}
use Rattle.dq_ticks.specs.declared.words.Mark.{Mark}
use Rattle.dq_ticks.specs.declared.words.Mark.TheVariants.{LiveMark, CancelledMark, ExpiredMark, RemovedMark}
use Rattle.dq_ticks.specs.declared.TheConstants.{LAST_TICK, LAST_STAMP}
use Rattle.dq_ticks.specs.Word.{parts_of, packed, mark_by, mark_number, mark_of, stamp_of, field_of, word}
use Rattle.dq_core.specs.Words.{never}

marks_come_back : (m : Mark) → mark_by (mark_number m) ≡ m
marks_come_back LiveMark = refl
marks_come_back CancelledMark = refl
marks_come_back ExpiredMark = refl
marks_come_back RemovedMark = refl

marks_small : (m : Mark) → mark_number m < 4
marks_small LiveMark = omega arith
marks_small CancelledMark = omega arith
marks_small ExpiredMark = omega arith
marks_small RemovedMark = omega arith

word_has_parts : (s m f : ℕ) → s ≤ LAST_STAMP → m < 4 → f ≤ LAST_TICK → parts_of (word s m f) ≡ record { stamp = s; mark = mark_by m; field = f }
word_has_parts s m f s_in m_in f_in =
    let a : stamp_of (word s m f) ≡ s = omega arith in
    let b : mark_of (word s m f) ≡ m = omega arith in
    let c : field_of (word s m f) ≡ f = omega arith in
    rw (a, b, c) refl

-- the word of parts has those parts
pub parts_come_back : (p : Parts) → p.stamp ≤ LAST_STAMP → p.field ≤ LAST_TICK → parts_of (packed p) ≡ p
parts_come_back p s_in f_in =
    word_has_parts p.stamp (mark_number p.mark) p.field s_in (marks_small p.mark) f_in
    ∙ ap (λ m. record { stamp = p.stamp; mark = m; field = p.field }) (marks_come_back p.mark)

-- one word is written
pub row_with : (words : List ℕ) (i : ℕ) (p : Parts) → p.stamp ≤ LAST_STAMP → p.field ≤ LAST_TICK → map parts_of (set words i (packed p)) ≡ set (map parts_of words) i p
row_with words i p s_in f_in = map-set parts_of words i (packed p) ∙ ap (set (map parts_of words) i) (parts_come_back p s_in f_in)

-- zeros are words that were never used
pub zeros_are_unused : (n : ℕ) → map parts_of (replicate n 0) ≡ replicate n never
zeros_are_unused zero = refl
zeros_are_unused (suc n) = ap (λ ws. never ∷ ws) (zeros_are_unused n)
