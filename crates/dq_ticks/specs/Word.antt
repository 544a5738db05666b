-- Words: from the top 20 bits of stamp, 2 of mark, 42 of field.
use Rattle.std.specs.Prelude.{◌≡◌, ℕ, ◌+◌, ◌*◌, ◌/◌, ◌%◌, ◌==◌, if◌then◌else◌}
pub use Rattle.dq_ticks.specs.Units.{stamp_unit, mark_unit, stamp_count}
use Rattle.dq_ticks.specs.declared.words.Mark.{Mark}
use Rattle.dq_ticks.specs.declared.words.Mark.TheVariants.{LiveMark, CancelledMark, ExpiredMark}
use Rattle.dq_ticks.specs.declared.words.Mark.TheVariants.{RemovedMark}
use Rattle.dq_ticks.specs.declared.words.Parts.{Parts}

-- the word of a stamp, the number of a mark, and a field
abbrev pub word : ℕ → ℕ → ℕ → ℕ
word s m f = s * stamp_unit + m * mark_unit + f

-- the stamp of a word
abbrev pub stamp_of : ℕ → ℕ
stamp_of n = n / stamp_unit

-- the number of a word's mark
abbrev pub mark_of : ℕ → ℕ
mark_of n = n / mark_unit % 4

-- the field of a word
abbrev pub field_of : ℕ → ℕ
field_of n = n % mark_unit

-- a word is live, and its stamp is s
abbrev pub IsLiveAt : ℕ → ℕ → Type 0
IsLiveAt n s = (stamp_of n ≡ s) × (mark_of n ≡ 0)

-- the marks in their order
abbrev pub mark_number : Mark → ℕ
mark_number LiveMark = 0
mark_number CancelledMark = 1
mark_number ExpiredMark = 2
mark_number RemovedMark = 3

-- the mark of a number
abbrev pub mark_by : ℕ → Mark
mark_by m =
    if m == 0 then LiveMark
    else (if m == 1 then CancelledMark else (if m == 2 then ExpiredMark else RemovedMark))

-- the word of its parts
abbrev pub packed : Parts → ℕ
packed p = word p.stamp (mark_number p.mark) p.field

-- the parts of a word
abbrev pub parts_of : ℕ → Parts
parts_of n = record { stamp = stamp_of n; mark = mark_by (mark_of n); field = field_of n }
