-- What one line of a script comes to, for each way that it ends.
use Rattle.std.proofs.Common.{◌≡◌, ℕ, ◌+◌, ◌<◌, ◌≤◌, inl, inr, true, false, List, [], ◌∷◌, ◌++◌, length, take, drop, refl, arith}
use Rattle.std.specs.Prelude.{Option, Some, None, Ok, Err, IfSome, ◌==◌}
use Rattle.std.specs.Io.KnownBytes.{Appends, IsAtEnd}
use Rattle.std.proofs.lemmas.Bool.{le-ltb}
use Rattle.std.proofs.lemmas.List.{append-nil, take-append-drop}
use Rattle.dq_replay.specs.declared.command.Command.{Command}
use Rattle.dq_replay.specs.declared.fault.ReplayFault.{ReplayFault}
use Rattle.dq_replay.specs.declared.fault.ReplayFault.TheVariants.{BadConfig, NoMemory, Script, Read, Write}
use Rattle.dq_replay.specs.declared.fault.FaultKind.{FaultKind}
use Rattle.dq_replay.specs.declared.fault.FaultKind.TheVariants.{LineTooLong, UnfinishedLine, BadHeader}
use Rattle.dq_replay.specs.declared.line.LineEnd.TheVariants.{Whole, Unfinished, Nothing, TooLong}
use Rattle.dq_replay.specs.declared.line.TheConstants.{LINE_LIMIT, LAST_LINE}
use Rattle.dq_replay.specs.Text.{lines_of, tokens_of}
use Rattle.dq_replay.specs.Lines.{HasNoEnd, IsInLine, TakesLine}
use Rattle.dq_replay.specs.Script.{State, Outcome, outcome_from, ended_by, command_of, step, line_does, rest_fault}
use Rattle.dq_replay.specs.Replay.{Answers, StopsInLine, Ends, LineRan, IsLineFault, IsOutcome}
use Rattle.dq_replay.proofs.Known.{appends_none}
use Rattle.dq_replay.proofs.Outcomes.{after_line, faulty_line, last_line, last_answers, unfinished, too_long}

-- before any line nothing is taken and nothing is answered
pub answers_none : (number : ℕ) (s : State) → Answers number s [] [] number s
answers_none number s more = refl

-- a line that does something
pub answers_line : (number : ℕ) (s new : State) (line text : List ℕ) → HasNoEnd line → line_does number s line ≡ Ok (new, text) → Answers number s (line ++ 10 ∷ []) text (number + 1) new
answers_line number s new line text no_end does more = after_line number s new line text more no_end does

-- the front of a line was taken, and nothing of it answered
stops_in_line : (number : ℕ) (s : State) (front : List ℕ) → IsInLine front → (LAST_LINE < number → front ≡ []) → StopsInLine number s front []
stops_in_line number s front in_line none_past = record {
  before = [];
  front = front;
  next = number;
  now = s;
  answered = answers_none number s;
  in_line = in_line;
  none_past = none_past;
  taken_is = refl;
}

pub ran_unread : (had left held : Option (List ℕ)) (number : ℕ) (old new : State) (fault : ReplayFault) (line : List ℕ) → number ≤ LAST_LINE
    → TakesLine had left (Err fault) line → LineRan had left held held number old new (Err fault)
ran_unread had left held number old new Read line known (front, in_line, taken) =
    (front, [], taken, appends_none held, stops_in_line number old front in_line (λ past. absurd (omega arith)))
ran_unread had left held number old new NoMemory line known (front, in_line, taken) =
    (front, [], taken, appends_none held, inl (stops_in_line number old front in_line (λ past. absurd (omega arith))))
ran_unread had left held number old new BadConfig line known never = absurd never
ran_unread had left held number old new (Script at kind) line known never = absurd never
ran_unread had left held number old new Write line known never = absurd never

-- the line has a fault, whatever follows, and none of it was answered
pub ends_faulty : (left : Option (List ℕ)) (number : ℕ) (s : State) (kind : FaultKind) (taken : List ℕ)
    → ((more : List ℕ) → outcome_from number s (lines_of (taken ++ more)) ≡ ended_by number (Some kind)) → Ends {T = Unit {0}} number s left (Err (Script number kind)) taken []
ends_faulty left number s kind taken faulty = record { of_taken = rw (← append-nil taken, faulty []) refl; of_all = all left }
  where
    all : (left : Option (List ℕ)) → IfSome left (λ more. IsOutcome {T = Unit {0}} (Err (Script number kind)) [] (outcome_from number s (lines_of (taken ++ more))))
    all None = tt
    all (Some more) = rw (faulty more) (refl, refl)

-- a line that says a command does something, in every state
pub command_line : (number : ℕ) (s : State) (line : List ℕ) (command : Command) → number ≤ LAST_LINE → length line ≤ LINE_LIMIT → (number == 1) ≡ false
    → command_of (tokens_of line) ≡ Ok command → IsLineFault number NoMemory (line_does number s line)
command_line number s line command known short later says =
    let does : line_does number s line ≡ Ok (step s command) = rw (le-ltb LAST_LINE number known, le-ltb LINE_LIMIT (length line) short, later, says) refl in
    ((step s command).0, (step s command).1, does)

pub ran_faulty : (had left held : Option (List ℕ)) (number : ℕ) (old new : State) (fault : ReplayFault) (line : List ℕ) → number ≤ LAST_LINE → TakesLine had left (Ok Whole) line
    → IsLineFault number fault (line_does number old line) → LineRan had left held held number old new (Err fault)
ran_faulty had left held number old new (Script at kind) line known (in_line, taken) (here, does) =
    (line ++ 10 ∷ [], [], taken, appends_none held, rw here (ends_faulty left number old kind (line ++ 10 ∷ []) (λ more. faulty_line number old line more kind in_line.0 does)))
ran_faulty had left held number old new NoMemory line known (in_line, taken) (after, text, does) = (
  line ++ 10 ∷ [],
  [],
  taken,
  appends_none held,
  inr (record {
    before = [];
    line = line;
    next = number;
    now = old;
    after = after;
    text = text;
    answered = answers_none number old;
    in_line = in_line;
    not_past = known;
    does = does;
    taken_is = refl;
  }),
)
ran_faulty had left held number old new BadConfig line known taken never = absurd never
ran_faulty had left held number old new Read line known taken never = absurd never
ran_faulty had left held number old new Write line known taken never = absurd never

pub ran_unwritten : (had left held holds : Option (List ℕ)) (number : ℕ) (old new : State) (line text : List ℕ) (k : ℕ) → TakesLine had left (Ok Whole) line
    → line_does number old line ≡ Ok (new, text) → Appends held holds (take k text) → LineRan had left held holds number old new (Err Write)
ran_unwritten had left held holds number old new line text k (in_line, taken) does written = (
  line ++ 10 ∷ [],
  take k text,
  taken,
  written,
  inl (record {
    before = [];
    line = line;
    next = number;
    now = old;
    after = new;
    whole = [];
    front = take k text;
    rest = drop k text;
    answered = answers_none number old;
    in_line = in_line;
    does = rw (take-append-drop k text) does;
    taken_is = refl;
    written_is = refl;
  }),
)

pub ran_on : (had left held holds : Option (List ℕ)) (number : ℕ) (old new : State) (line text : List ℕ) → TakesLine had left (Ok Whole) line
    → line_does number old line ≡ Ok (new, text) → Appends held holds text → LineRan had left held holds number old new (Ok true)
ran_on had left held holds number old new line text (in_line, taken) does written =
    (line ++ 10 ∷ [], text, taken, written, answers_line number old new line text in_line.0 does)

-- at the input's end
at_end : (left : Option (List ℕ)) (number : ℕ) (s : State) (line : List ℕ) (P : Outcome → Type 0) → HasNoEnd line → IsAtEnd left → P (ended_by number (rest_fault number line))
    → IfSome left (λ more. P (outcome_from number s (lines_of (line ++ more))))
at_end None number s line P no_end end holds = tt
at_end (Some more) number s line P no_end end holds = rw (end, append-nil line, last_line number s line no_end) holds

pub ran_unfinished : (had left held : Option (List ℕ)) (number : ℕ) (old new : State) (line : List ℕ) → number ≤ LAST_LINE → TakesLine had left (Ok Unfinished) line
    → LineRan had left held held number old new (Err (Script number UnfinishedLine))
ran_unfinished had left held number old new line known (in_line, some, taken, end) = (
  line,
  [],
  taken,
  appends_none held,
  record {
    of_taken = last_answers number old line in_line.0;
    of_all = at_end left number old line (IsOutcome {T = Unit {0}} (Err (Script number UnfinishedLine)) []) in_line.0 end (rw (unfinished number line known in_line.1 some) (refl, refl));
  },
)

no_end_none : HasNoEnd []
no_end_none k d within = absurd (omega arith)

pub ran_empty : (had left held : Option (List ℕ)) (number : ℕ) (old new : State) (line : List ℕ) → number ≡ 1 → TakesLine had left (Ok Nothing) line
    → LineRan had left held held number old new (Err (Script number BadHeader))
ran_empty had left held number old new line first (taken, end) = (
  [],
  [],
  taken,
  appends_none held,
  rw first (record {
    of_taken = last_answers 1 old [] no_end_none;
    of_all = at_end left 1 old [] (IsOutcome {T = Unit {0}} (Err (Script 1 BadHeader)) []) no_end_none end (refl, refl);
  }),
)

pub ends_nothing : (left : Option (List ℕ)) (number : ℕ) (s : State) → (number == 1) ≡ false → IsAtEnd left → Ends {T = Unit {0}} number s left (Ok (tt {0})) [] []
ends_nothing left number s later end = record {
  of_taken = last_answers number s [] no_end_none;
  of_all = at_end left number s [] (IsOutcome {T = Unit {0}} (Ok (tt {0})) []) no_end_none end (rw later (refl, refl));
}

pub ran_out : (had left held : Option (List ℕ)) (number : ℕ) (old new : State) (line : List ℕ) → (number == 1) ≡ false → TakesLine had left (Ok Nothing) line
    → LineRan had left held held number old new (Ok false)
ran_out had left held number old new line later (taken, end) = ([], [], taken, appends_none held, ends_nothing left number old later end)

pub ran_too_long : (had left held : Option (List ℕ)) (number : ℕ) (old new : State) (line : List ℕ) → number ≤ LAST_LINE → TakesLine had left (Ok TooLong) line
    → LineRan had left held held number old new (Err (Script number LineTooLong))
ran_too_long had left held number old new line known (front, no_end, long, taken) =
    (front, [], taken, appends_none held, ends_faulty left number old LineTooLong front (λ more. too_long number old front more no_end known (omega arith)))

-- a stop between two lines
pub nothing_in_line : (number : ℕ) (s : State) → StopsInLine number s [] []
nothing_in_line number s = stops_in_line number s [] (no_end_none, omega arith) (λ past. refl)
