-- What reading a byte and a line takes of a reader's known bytes.
use Rattle.std.specs.Prelude.{◌≡◌, ℕ, ◌+◌, ◌<◌, ◌≤◌, false, List, [], ◌∷◌, ◌++◌, length, ◌==◌}
use Rattle.std.specs.Prelude.{Option, Some, None, Result, Ok, Err, All}
use Rattle.std.specs.Io.KnownBytes.{Consumes, IsAtEnd}
use Rattle.dq_replay.specs.declared.fault.ReplayFault.{ReplayFault}
use Rattle.dq_replay.specs.declared.fault.ReplayFault.TheVariants.{Read, NoMemory}
use Rattle.dq_replay.specs.declared.line.LineEnd.{LineEnd}
use Rattle.dq_replay.specs.declared.line.LineEnd.TheVariants.{Whole, Unfinished, Nothing, TooLong}
use Rattle.dq_replay.specs.declared.line.TheConstants.{LINE_LIMIT}

-- one byte, or the end, or a read fault that takes nothing
abbrev pub TakesByte : Option (List ℕ) → Option (List ℕ) → Result (Option ℕ) ReplayFault → Type 0
TakesByte old new (Ok (Some byte)) = Consumes old new (byte ∷ [])
TakesByte old new (Ok None) = Consumes old new [] × IsAtEnd new
TakesByte old new (Err fault) = Consumes old new [] × (fault ≡ Read)

-- no line end is among the bytes
abbrev pub HasNoEnd : List ℕ → Type 0
HasNoEnd bytes = All (λ b. (b == 10) ≡ false) bytes

-- the bytes of one line without its end, at most as many as a line may have
abbrev pub IsInLine : List ℕ → Type 0
IsInLine bytes = HasNoEnd bytes × (length bytes ≤ LINE_LIMIT)

-- such bytes were taken and no more
abbrev pub TakesFront : Option (List ℕ) → Option (List ℕ) → Type 0
TakesFront old new = (front : List ℕ) × IsInLine front × Consumes old new front

-- a line and its end; or, at the input's end, the bytes of a line or nothing; or one byte more than
-- a line may have; or, at a fault, the front of a line
abbrev pub TakesLine : Option (List ℕ) → Option (List ℕ) → Result LineEnd ReplayFault → List ℕ
    → Type 0
TakesLine old new (Ok Whole) line = IsInLine line × Consumes old new (line ++ 10 ∷ [])
TakesLine old new (Ok Unfinished) line =
    IsInLine line × (0 < length line) × Consumes old new line × IsAtEnd new
TakesLine old new (Ok Nothing) line = Consumes old new [] × IsAtEnd new
TakesLine old new (Ok TooLong) line =
    (front : List ℕ) × HasNoEnd front × (length front ≡ LINE_LIMIT + 1) × Consumes old new front
TakesLine old new (Err Read) line = TakesFront old new
TakesLine old new (Err NoMemory) line = TakesFront old new
TakesLine old new (Err _) line = ⊥
