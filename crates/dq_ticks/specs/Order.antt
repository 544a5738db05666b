-- The order of words, and what the greater of two words is.
use Rattle.std.specs.Prelude.{◌≡◌, ℕ, ◌<◌, ◌⊎◌, ◌↔◌, max}
use Rattle.dq_ticks.specs.Word.{mark_number, mark_unit, packed, parts_of, stamp_count}
use Rattle.dq_ticks.specs.declared.words.Mark.TheVariants.{LiveMark, CancelledMark}
use Rattle.dq_ticks.specs.declared.words.Parts.{Parts}

-- parts that fit a word
pub record IsInRange (p : Parts) : Type 0 where
  pub stamp : p.stamp < stamp_count
  pub field : p.field < mark_unit

-- each word is that of the parts that it has, and they fit
abbrev pub WordsHaveParts : Type 0
WordsHaveParts =
    (n : ℕ) → n < 18446744073709551616 → IsInRange (parts_of n) × (packed (parts_of n) ≡ n)

-- parts that fit are those of their word
abbrev pub PartsComeBack : Type 0
PartsComeBack = (p : Parts) → IsInRange p → parts_of (packed p) ≡ p

-- parts that fit have words of their own
abbrev pub WordsAreApart : Type 0
WordsAreApart = (p q : Parts) → IsInRange p → IsInRange q → packed p ≡ packed q → p ≡ q

-- q has a greater stamp than p, or that stamp and a mark past p's
abbrev pub IsPast : Parts → Parts → Type 0
IsPast p q = (p.stamp < q.stamp) ⊎ ((p.stamp ≡ q.stamp) × (mark_number p.mark < mark_number q.mark))

-- stamp first, then mark, then field
abbrev pub IsBefore : Parts → Parts → Type 0
IsBefore p q =
    IsPast p q
    ⊎ ((p.stamp ≡ q.stamp) × (mark_number p.mark ≡ mark_number q.mark) × (p.field < q.field))

-- the order of words is that of their parts
abbrev pub WordsAreOrdered : Type 0
WordsAreOrdered = (p q : Parts) → IsInRange p → IsInRange q → (packed p < packed q) ↔ IsBefore p q

-- a live word of that stamp and field
abbrev pub live_word : ℕ → ℕ → Parts
live_word s d = record { stamp = s; mark = LiveMark; field = d }

-- a cancelled word of that stamp
abbrev pub cancelled_word : ℕ → Parts
cancelled_word s = record { stamp = s; mark = CancelledMark; field = 0 }

-- an extend of a live word of its stamp gives the greater deadline
abbrev pub ExtendsRaise : Type 0
ExtendsRaise =
    (s d when : ℕ) →
    max (packed (live_word s d)) (packed (live_word s when)) ≡ packed (live_word s (max d when))

-- a cancel of a live word of its stamp gives the cancelled word
abbrev pub CancelsEnd : Type 0
CancelsEnd =
    (s d : ℕ) → IsInRange (live_word s d) →
    max (packed (live_word s d)) (packed (cancelled_word s)) ≡ packed (cancelled_word s)

-- a word that is past another stays
abbrev pub PastWordsStay : Type 0
PastWordsStay =
    (p q : Parts) → IsInRange p → IsInRange q → IsPast q p →
    max (packed p) (packed q) ≡ packed p
