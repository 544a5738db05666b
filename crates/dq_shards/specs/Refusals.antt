-- Why no caller is issued, in one word for each reason.
use Rattle.std.specs.Prelude.{ℕ}
use Rattle.dq_words.specs.declared.keeper.WordsError.{WordsError}
use Rattle.dq_words.specs.declared.keeper.WordsError.TheVariants.{NoMemory, TooManyHandles}

-- as many callers are issued as may be
abbrev pub issued_all : ℕ → WordsError
issued_all limit = TooManyHandles limit

-- memory for a caller was refused
abbrev pub no_room : WordsError
no_room = NoMemory
