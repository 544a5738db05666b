-- What a replay read, wrote and answered, against the outcome of the script.
use Rattle.std.specs.Prelude.{◌≡◌, ℕ, ◌+◌, ◌<◌, ◌≤◌, List, [], ◌∷◌, ◌++◌, Option, Some, None}
use Rattle.std.specs.Prelude.{Result, Ok, Err, IfSome, string_bytes, String, ⊤, ◌⊎◌, Bool, true}
use Rattle.std.specs.Prelude.{false}
use Rattle.std.specs.Io.KnownBytes.{Consumes, Appends}
use Rattle.dq_replay.specs.declared.fault.ReplayFault.{ReplayFault}
use Rattle.dq_replay.specs.declared.fault.FaultKind.{FaultKind}
use Rattle.dq_replay.specs.declared.fault.ReplayFault.TheVariants.{BadConfig, NoMemory, Script}
use Rattle.dq_replay.specs.declared.fault.ReplayFault.TheVariants.{Read, Write}
use Rattle.dq_replay.specs.declared.line.TheConstants.{LAST_LINE}
use Rattle.dq_replay.specs.Text.{lines_of}
use Rattle.dq_replay.specs.Script.{State, Outcome, outcome_from, after_answer, line_does}
use Rattle.dq_replay.specs.Lines.{IsInLine}

-- the fault of a line; memory runs out only at a line that has none
abbrev pub IsLineFault : ℕ → ReplayFault → Result (State × List ℕ) FaultKind → Type 0
IsLineFault number (Script line kind) does = (line ≡ number) × (does ≡ Err kind)
IsLineFault number NoMemory does = (after : State) × (text : List ℕ) × (does ≡ Ok (after, text))
IsLineFault number _ does = ⊥

-- what one whole line did: its answer and the state after it are what the line does
abbrev pub DoesLine : {A : Type 0} → ℕ → State → Result (String A) ReplayFault
    → Result (State × List ℕ) FaultKind → Type 0
DoesLine number new (Ok text) does = does ≡ Ok (new, string_bytes text)
DoesLine number new (Err fault) does = IsLineFault number fault does

-- the answers and the fault that a result shows: what was written, and how it ended
abbrev pub IsOutcome : {T : Type 0} → Result T ReplayFault → List ℕ → Outcome → Type 0
IsOutcome (Ok _) written outcome = (outcome.answers ≡ written) × (outcome.fault ≡ None)
IsOutcome (Err (Script line kind)) written outcome =
    (outcome.answers ≡ written) × (outcome.fault ≡ Some (line, kind))
IsOutcome (Err _) written outcome = ⊤

-- from line `number` and the state s on, the taken bytes are whole lines whose answers are those
-- written: whatever follows is for line `next` and the state `now`
abbrev pub Answers : ℕ → State → List ℕ → List ℕ → ℕ → State → Type 0
Answers number s taken written next now =
    (more : List ℕ) → outcome_from number s (lines_of (taken ++ more))
    ≡ after_answer written (outcome_from next now (lines_of more))

-- whole lines were answered, and behind them only the front of the line in hand was taken; of a
-- line past the last, nothing
pub record StopsInLine (number : ℕ) (s : State) (taken written : List ℕ) : Type 0 where
  pub before : List ℕ
  pub front : List ℕ
  pub next : ℕ
  pub now : State
  pub answered : Answers number s before written next now
  pub in_line : IsInLine front
  pub none_past : LAST_LINE < next → front ≡ []
  pub taken_is : taken ≡ before ++ front

-- whole lines were answered, and behind them only the line in hand was taken, with its end: it has
-- no fault, and its answer is missing
pub record StopsBeforeAnswer (number : ℕ) (s : State) (taken written : List ℕ) : Type 0 where
  pub before : List ℕ
  pub line : List ℕ
  pub next : ℕ
  pub now : State
  pub after : State
  pub text : List ℕ
  pub answered : Answers number s before written next now
  pub in_line : IsInLine line
  pub not_past : next ≤ LAST_LINE
  pub does : line_does next now line ≡ Ok (after, text)
  pub taken_is : taken ≡ before ++ (line ++ 10 ∷ [])

-- whole lines were answered, and behind them only the line in hand was taken, with its end, and the
-- front of its answer written
pub record StopsInAnswer (number : ℕ) (s : State) (taken written : List ℕ) : Type 0 where
  pub before : List ℕ
  pub line : List ℕ
  pub next : ℕ
  pub now : State
  pub after : State
  pub whole : List ℕ
  pub front : List ℕ
  pub rest : List ℕ
  pub answered : Answers number s before whole next now
  pub in_line : IsInLine line
  pub does : line_does next now line ≡ Ok (after, front ++ rest)
  pub taken_is : taken ≡ before ++ (line ++ 10 ∷ [])
  pub written_is : written ≡ whole ++ front

-- what was written are the answers of what was taken, and also of all that the reader had
pub record AnswersAll (number : ℕ) (s : State) (left : Option (List ℕ)) (taken written : List ℕ)
    : Type 0 where
  pub of_taken : (outcome_from number s (lines_of taken)).answers ≡ written
  pub of_all : IfSome left
      (λ more. (outcome_from number s (lines_of (taken ++ more))).answers ≡ written)

-- such answers, and the outcome of all that the reader had is what the result shows
pub record Ends {T : Type 0} (number : ℕ) (s : State) (left : Option (List ℕ))
    (result : Result T ReplayFault) (taken written : List ℕ) : Type 0 where
  pub of_taken : (outcome_from number s (lines_of taken)).answers ≡ written
  pub of_all : IfSome left
      (λ more. IsOutcome result written (outcome_from number s (lines_of (taken ++ more))))

-- From line `number` on and the state before it: these bytes were taken, the rest was left, and
-- these were written. At the script's end and at a script's fault the written bytes are the answers
-- of all bytes, taken or not. A read fault comes in the line in hand, and so does want of memory,
-- or behind it where that line has no fault. A write fault comes in the answer of the line in hand,
-- or behind all answers.
abbrev pub Runs : {T : Type 0} → ℕ → State → Option (List ℕ) → Result T ReplayFault → List ℕ
    → List ℕ → Type 0
Runs number s left (Ok x) taken written = Ends number s left (Ok x) taken written
Runs {T = T} number s left (Err (Script line kind)) taken written =
    Ends {T = T} number s left (Err (Script line kind)) taken written
Runs number s left (Err Read) taken written = StopsInLine number s taken written
Runs number s left (Err NoMemory) taken written =
    StopsInLine number s taken written ⊎ StopsBeforeAnswer number s taken written
Runs number s left (Err Write) taken written =
    StopsInAnswer number s taken written ⊎ AnswersAll number s left taken written
Runs number s left (Err BadConfig) taken written = (taken ≡ []) × (written ≡ [])

-- one line of that: where the script goes on, what was taken and written is the line and its answer
abbrev pub RunsLine : ℕ → State → State → Option (List ℕ) → Result Bool ReplayFault → List ℕ
    → List ℕ → Type 0
RunsLine number old new left (Ok true) taken written =
    Answers number old taken written (number + 1) new
RunsLine number old new left (Ok false) taken written =
    Runs number old left (Ok (tt {0})) taken written
RunsLine number old new left (Err BadConfig) taken written = ⊥
RunsLine number old new left (Err fault) taken written =
    Runs {T = Unit {0}} number old left (Err fault) taken written

-- some bytes were taken of those that the reader had left, some were appended to those that the
-- writer holds, and so the line ran
abbrev pub LineRan : Option (List ℕ) → Option (List ℕ) → Option (List ℕ) → Option (List ℕ) → ℕ
    → State → State → Result Bool ReplayFault → Type 0
LineRan had left held holds number old new result =
    (taken written : List ℕ) × Consumes had left taken × Appends held holds written
    × RunsLine number old new left result taken written

-- and so a run did
abbrev pub Ran : {T : Type 0} → Option (List ℕ) → Option (List ℕ) → Option (List ℕ)
    → Option (List ℕ) → ℕ → State → Result T ReplayFault → Type 0
Ran had left held holds number s result =
    (taken written : List ℕ) × Consumes had left taken × Appends held holds written
    × Runs number s left result taken written
