-- From one line of a script to the next, and to the whole run.
use Rattle.std.proofs.Common.{◌≡◌, ℕ, ◌+◌, ◌<◌, inl, inr, true, false, List, [], ◌∷◌, ◌++◌, refl, ap, sym, ◌∙◌, arith, append_assoc}
use Rattle.std.specs.Prelude.{Option, Some, None, Result, Ok, Err, IfSome}
use Rattle.std.specs.Io.KnownBytes.{Consumes, Appends}
use Rattle.std.proofs.lemmas.Bool.{ne_eqb}
use Rattle.dq_replay.specs.declared.fault.ReplayFault.{ReplayFault}
use Rattle.dq_replay.specs.declared.fault.ReplayFault.TheVariants.{BadConfig, NoMemory, Script, Read, Write}
use Rattle.dq_replay.specs.declared.fault.FaultKind.TheVariants.{TooManyLines}
use Rattle.dq_replay.specs.declared.line.TheConstants.{LAST_LINE}
use Rattle.dq_replay.specs.Text.{lines_of}
use Rattle.dq_replay.specs.Lines.{TakesByte}
use Rattle.dq_replay.specs.Script.{State, Outcome, first_state, outcome_from, after_answer}
use Rattle.dq_replay.specs.Replay.{Answers, StopsInLine, StopsBeforeAnswer, StopsInAnswer, AnswersAll, Ends, Runs, LineRan, Ran, IsOutcome}
use Rattle.dq_replay.proofs.Known.{appends_none, appends_two, consumes_none, consumes_two}
use Rattle.dq_replay.proofs.Outcomes.{too_many}
use Rattle.dq_replay.proofs.LineRuns.{answers_none, ends_faulty, ends_nothing, nothing_in_line}

pub after_two : (a b : List ℕ) (o : Outcome) → after_answer a (after_answer b o) ≡ after_answer (a ++ b) o
after_two a b o = ap (λ answers. let new : Outcome = record { answers = answers; fault = o.fault } in new) (sym (append_assoc a b o.answers))

-- lines and then lines
pub answers_then : (first second third : ℕ) (s t u : State) (taken more_taken written more_written : List ℕ)
    → Answers first s taken written second t → Answers second t more_taken more_written third u → Answers first s (taken ++ more_taken) (written ++ more_written) third u
answers_then first second third s t u taken more_taken written more_written a b more =
    rw (append_assoc taken more_taken more) (a (more_taken ++ more) ∙ ap (after_answer written) (b more) ∙ after_two written more_written (outcome_from third u (lines_of more)))

-- an outcome behind answers
outcome_behind : {T : Type 0} (r : Result T ReplayFault) (a b : List ℕ) (o : Outcome) → IsOutcome r b o → IsOutcome r (a ++ b) (after_answer a o)
outcome_behind (Ok x) a b o (answers, fault) = (ap (λ c. a ++ c) answers, fault)
outcome_behind (Err (Script line kind)) a b o (answers, fault) = (ap (λ c. a ++ c) answers, fault)
outcome_behind (Err BadConfig) a b o any = tt
outcome_behind (Err NoMemory) a b o any = tt
outcome_behind (Err Read) a b o any = tt
outcome_behind (Err Write) a b o any = tt

-- what holds of the outcome of all that was left, behind lines that were answered
all_behind : (first second : ℕ) (s t : State) (left : Option (List ℕ)) (taken more_taken written : List ℕ) (P Q : Outcome → Type 0) → Answers first s taken written second t
    → ((o : Outcome) → P o → Q (after_answer written o)) → IfSome left (λ more. P (outcome_from second t (lines_of (more_taken ++ more))))
    → IfSome left (λ more. Q (outcome_from first s (lines_of ((taken ++ more_taken) ++ more))))
all_behind first second s t None taken more_taken written P Q a through any = tt
all_behind first second s t (Some more) taken more_taken written P Q a through holds =
    rw (append_assoc taken more_taken more, a (more_taken ++ more)) (through (outcome_from second t (lines_of (more_taken ++ more))) holds)

answers_behind : (first second : ℕ) (s t : State) (taken more_taken written more_written : List ℕ) → Answers first s taken written second t
    → (outcome_from second t (lines_of more_taken)).answers ≡ more_written → (outcome_from first s (lines_of (taken ++ more_taken))).answers ≡ written ++ more_written
answers_behind first second s t taken more_taken written more_written a is = ap (λ o. o.answers) (a more_taken) ∙ ap (λ c. written ++ c) is

ends_behind : {T : Type 0} (r : Result T ReplayFault) (first second : ℕ) (s t : State) (left : Option (List ℕ)) (taken more_taken written more_written : List ℕ)
    → Answers first s taken written second t → Ends second t left r more_taken more_written → Ends first s left r (taken ++ more_taken) (written ++ more_written)
ends_behind r first second s t left taken more_taken written more_written a ends = record {
  of_taken = answers_behind first second s t taken more_taken written more_written a ends.of_taken;
  of_all = all_behind first second s t left taken more_taken written (IsOutcome r more_written) (IsOutcome r (written ++ more_written)) a (outcome_behind r written more_written) ends.of_all;
}

in_line_behind : (first second : ℕ) (s t : State) (taken more_taken written more_written : List ℕ)
    → Answers first s taken written second t → StopsInLine second t more_taken more_written → StopsInLine first s (taken ++ more_taken) (written ++ more_written)
in_line_behind first second s t taken more_taken written more_written a stops = record {
  before = taken ++ stops.before;
  front = stops.front;
  next = stops.next;
  now = stops.now;
  answered = answers_then first second stops.next s t stops.now taken stops.before written more_written a stops.answered;
  in_line = stops.in_line;
  none_past = stops.none_past;
  taken_is = ap (λ bytes. taken ++ bytes) stops.taken_is ∙ sym (append_assoc taken stops.before stops.front);
}

before_answer_behind : (first second : ℕ) (s t : State) (taken more_taken written more_written : List ℕ)
    → Answers first s taken written second t → StopsBeforeAnswer second t more_taken more_written → StopsBeforeAnswer first s (taken ++ more_taken) (written ++ more_written)
before_answer_behind first second s t taken more_taken written more_written a stops = record {
  before = taken ++ stops.before;
  line = stops.line;
  next = stops.next;
  now = stops.now;
  after = stops.after;
  text = stops.text;
  answered = answers_then first second stops.next s t stops.now taken stops.before written more_written a stops.answered;
  in_line = stops.in_line;
  not_past = stops.not_past;
  does = stops.does;
  taken_is = ap (λ bytes. taken ++ bytes) stops.taken_is ∙ sym (append_assoc taken stops.before (stops.line ++ 10 ∷ []));
}

in_answer_behind : (first second : ℕ) (s t : State) (taken more_taken written more_written : List ℕ)
    → Answers first s taken written second t → StopsInAnswer second t more_taken more_written → StopsInAnswer first s (taken ++ more_taken) (written ++ more_written)
in_answer_behind first second s t taken more_taken written more_written a stops = record {
  before = taken ++ stops.before;
  line = stops.line;
  next = stops.next;
  now = stops.now;
  after = stops.after;
  whole = written ++ stops.whole;
  front = stops.front;
  rest = stops.rest;
  answered = answers_then first second stops.next s t stops.now taken stops.before written stops.whole a stops.answered;
  in_line = stops.in_line;
  does = stops.does;
  taken_is = ap (λ bytes. taken ++ bytes) stops.taken_is ∙ sym (append_assoc taken stops.before (stops.line ++ 10 ∷ []));
  written_is = ap (λ bytes. written ++ bytes) stops.written_is ∙ sym (append_assoc written stops.whole stops.front);
}

answers_all_behind : (first second : ℕ) (s t : State) (left : Option (List ℕ)) (taken more_taken written more_written : List ℕ)
    → Answers first s taken written second t → AnswersAll second t left more_taken more_written → AnswersAll first s left (taken ++ more_taken) (written ++ more_written)
answers_all_behind first second s t left taken more_taken written more_written a all = record {
  of_taken = answers_behind first second s t taken more_taken written more_written a all.of_taken;
  of_all = all_behind first second s t left taken more_taken written (λ o. o.answers ≡ more_written) (λ o. o.answers ≡ written ++ more_written) a (λ o is. ap (λ c. written ++ c) is) all.of_all;
}

runs_behind : {T : Type 0} (r : Result T ReplayFault) (first second : ℕ) (s t : State) (left : Option (List ℕ)) (taken more_taken written more_written : List ℕ)
    → Answers first s taken written second t → (r ≡ Err BadConfig → ⊥) → Runs second t left r more_taken more_written → Runs first s left r (taken ++ more_taken) (written ++ more_written)
runs_behind {T = T} (Ok x) first second s t left taken more_taken written more_written a config ran = ends_behind (Ok x) first second s t left taken more_taken written more_written a ran
runs_behind {T = T} (Err (Script line kind)) first second s t left taken more_taken written more_written a config ran =
    ends_behind {T = T} (Err (Script line kind)) first second s t left taken more_taken written more_written a ran
runs_behind (Err Read) first second s t left taken more_taken written more_written a config ran = in_line_behind first second s t taken more_taken written more_written a ran
runs_behind (Err NoMemory) first second s t left taken more_taken written more_written a config (inl ran) = inl (in_line_behind first second s t taken more_taken written more_written a ran)
runs_behind (Err NoMemory) first second s t left taken more_taken written more_written a config (inr ran) = inr (before_answer_behind first second s t taken more_taken written more_written a ran)
runs_behind (Err Write) first second s t left taken more_taken written more_written a config (inl ran) = inl (in_answer_behind first second s t taken more_taken written more_written a ran)
runs_behind (Err Write) first second s t left taken more_taken written more_written a config (inr ran) = inr (answers_all_behind first second s t left taken more_taken written more_written a ran)
runs_behind (Err BadConfig) first second s t left taken more_taken written more_written a config ran = absurd (config refl)

-- so much was taken and written, whole lines with their answers, and the line `number` and the state s come next
abbrev pub Stands : Option (List ℕ) → Option (List ℕ) → Option (List ℕ) → Option (List ℕ) → ℕ → ℕ → State → Type 0
Stands had left held holds capacity number s = (taken written : List ℕ) × Consumes had left taken × Appends held holds written × Answers 1 (first_state capacity) taken written number s

pub stands_first : (had held : Option (List ℕ)) (capacity : ℕ) → Stands had had held held capacity 1 (first_state capacity)
stands_first had held capacity = ([], [], consumes_none had, appends_none held, answers_none 1 (first_state capacity))

pub stands_next : (had mid left held midst holds : Option (List ℕ)) (capacity number : ℕ) (s new : State) → Stands had mid held midst capacity number s
    → LineRan mid left midst holds number s new (Ok true) → Stands had left held holds capacity (number + 1) new
stands_next had mid left held midst holds capacity number s new (taken, written, took, wrote, a) (more_taken, more_written, takes, writes, b) = (
  taken ++ more_taken,
  written ++ more_written,
  consumes_two had mid left taken more_taken took takes,
  appends_two held midst holds written more_written wrote writes,
  answers_then 1 number (number + 1) (first_state capacity) s new taken more_taken written more_written a b,
)

ran_behind : {T : Type 0} (r : Result T ReplayFault) (had mid left held midst holds : Option (List ℕ)) (capacity number : ℕ) (s : State) → Stands had mid held midst capacity number s
    → (r ≡ Err BadConfig → ⊥) → Ran mid left midst holds number s r → Ran had left held holds 1 (first_state capacity) r
ran_behind r had mid left held midst holds capacity number s (taken, written, took, wrote, a) config (more_taken, more_written, takes, writes, ran) = (
  taken ++ more_taken,
  written ++ more_written,
  consumes_two had mid left taken more_taken took takes,
  appends_two held midst holds written more_written wrote writes,
  runs_behind r 1 number (first_state capacity) s left taken more_taken written more_written a config ran,
)

pub ran_to_end : (had mid left held midst holds : Option (List ℕ)) (capacity number : ℕ) (s new : State) → Stands had mid held midst capacity number s
    → LineRan mid left midst holds number s new (Ok false) → Ran had left held holds 1 (first_state capacity) (Ok (tt {0}))
ran_to_end had mid left held midst holds capacity number s new stands ran = ran_behind (Ok (tt {0})) had mid left held midst holds capacity number s stands (λ e. cc) ran

pub ran_to_fault : (had mid left held midst holds : Option (List ℕ)) (capacity number : ℕ) (s new : State) (fault : ReplayFault) → Stands had mid held midst capacity number s
    → LineRan mid left midst holds number s new (Err fault) → Ran {T = Unit {0}} had left held holds 1 (first_state capacity) (Err fault)
ran_to_fault had mid left held midst holds capacity number s new (Script line kind) stands ran =
    ran_behind {T = Unit {0}} (Err (Script line kind)) had mid left held midst holds capacity number s stands (λ e. cc) ran
ran_to_fault had mid left held midst holds capacity number s new Read stands ran = ran_behind {T = Unit {0}} (Err Read) had mid left held midst holds capacity number s stands (λ e. cc) ran
ran_to_fault had mid left held midst holds capacity number s new Write stands ran = ran_behind {T = Unit {0}} (Err Write) had mid left held midst holds capacity number s stands (λ e. cc) ran
ran_to_fault had mid left held midst holds capacity number s new NoMemory stands ran = ran_behind {T = Unit {0}} (Err NoMemory) had mid left held midst holds capacity number s stands (λ e. cc) ran
ran_to_fault had mid left held midst holds capacity number s new BadConfig stands ran = absurd ran.4

-- nothing was read where there is no memory to begin with
pub ran_unstarted : (had held : Option (List ℕ)) (capacity : ℕ) → Ran {T = Unit {0}} had had held held 1 (first_state capacity) (Err NoMemory)
ran_unstarted had held capacity = ([], [], consumes_none had, appends_none held, inl (nothing_in_line 1 (first_state capacity)))

-- behind the last line that a script may have
pub ran_past : (had mid left held holds : Option (List ℕ)) (capacity number : ℕ) (s : State) → LAST_LINE < number → Stands had mid held holds capacity number s
    → TakesByte mid left (Ok None) → Ran had left held holds 1 (first_state capacity) (Ok (tt {0}))
ran_past had mid left held holds capacity number s past stands (takes, end) =
    ran_behind (Ok (tt {0})) had mid left held holds holds capacity number s stands (λ e. cc) ([], [], takes, appends_none holds, ends_nothing left number s (ne_eqb number 1 (λ e. omega arith)) end)

pub ran_over : (had mid left held holds : Option (List ℕ)) (capacity number : ℕ) (s : State) (b : ℕ) → LAST_LINE < number → Stands had mid held holds capacity number s
    → TakesByte mid left (Ok (Some b)) → Ran {T = Unit {0}} had left held holds 1 (first_state capacity) (Err (Script number TooManyLines))
ran_over had mid left held holds capacity number s b past stands takes =
    ran_behind {T = Unit {0}} (Err (Script number TooManyLines)) had mid left held holds holds capacity number s stands (λ e. cc)
    (b ∷ [], [], takes, appends_none holds, ends_faulty left number s TooManyLines (b ∷ []) (λ more. too_many number s b more past))

pub ran_past_unread : (had mid left held holds : Option (List ℕ)) (capacity number : ℕ) (s : State) (fault : ReplayFault) → Stands had mid held holds capacity number s
    → TakesByte mid left (Err fault) → Ran {T = Unit {0}} had left held holds 1 (first_state capacity) (Err fault)
ran_past_unread had mid left held holds capacity number s fault stands (takes, is) = rw is (
    ran_behind {T = Unit {0}} (Err Read) had mid left held holds holds capacity number s stands (λ e. cc) ([], [], takes, appends_none holds, nothing_in_line number s))
