-- What an issue says, and what is told of the callers that were given back.
use Rattle.std.specs.Prelude.{◌≡◌, ◌⊎◌, ℕ, Option, Some, None, Result, Ok, Err}
use Rattle.dq_core.specs.Readers.{with_words}
use Rattle.dq_words.specs.KeeperCalls.{Issues, Returns, Accounts, EndsFit, counts_by}
use Rattle.dq_words.specs.Seats.{Sat}
use Rattle.dq_words.specs.declared.keeper.WordsError.{WordsError}
use Rattle.dq_c.specs.declared.handle.caller.Seat.{Seat}
use Rattle.dq_c.specs.declared.handle.queue.Queue.{Queue}
use Rattle.dq_c.specs.Answers.{no_numbers, with_number, done, tells, empty, held, words_answer}
use Rattle.dq_c.specs.Callers.{caller_in, number_in}
use Rattle.dq_c.specs.Owner.{Owned}
use Rattle.dq_c.specs.declared.answers.DqAnswer.{DqAnswer}
use Rattle.dq_c.specs.declared.answers.TheConstants.{DQ_NO_MEMORY, DQ_CALLERS_OUT}

-- the caller that was issued is in the handle, with the queue's number, or the refusal is told and
-- the handle is empty
abbrev pub SeatSays : ℕ → Result Sat WordsError → DqAnswer → Option Seat → Type 0
SeatSays number (Ok c) answer seat =
    (answer ≡ done) × (caller_in seat ≡ Some c) × (number_in seat ≡ number)
SeatSays number (Err e) answer seat = (answer ≡ words_answer e) × (seat ≡ None)

-- the queue issued a caller or refused to, by its words alone
abbrev pub QueueIssues : Owned → DqAnswer → Owned → Option Seat → Type 0
QueueIssues b answer c seat =
    (c ≡ with_words b c.words)
    × ((r : Result Sat WordsError) × Issues b.words r c.words × SeatSays b.shard r answer seat)

-- an issue into an empty handle, from the queue that the other holds; nothing changes where the
-- handles are refused, or memory for the caller's place
abbrev pub IssueSays :
    Option Queue → Option Seat → DqAnswer → Option Queue → Option Seat → Type 0
IssueSays None before answer c seat = (answer ≡ empty) × (c ≡ None) × (seat ≡ before)
IssueSays (Some b) (Some s) answer c seat = (answer ≡ held) × (c ≡ Some b) × (seat ≡ Some s)
IssueSays (Some b) None answer (Some c) seat =
    QueueIssues b.core answer c.core seat
    ⊎ ((answer ≡ no_numbers DQ_NO_MEMORY) × (c ≡ b) × (seat ≡ None))
IssueSays (Some b) None answer None seat = ⊥

-- the accepted cancels are told, which account for all that was begun, or how many are out
abbrev pub BackSays : Result ℕ ℕ → Owned → DqAnswer → Type 0
BackSays (Ok n) c answer =
    (answer ≡ tells n) × Accounts c.words n × EndsFit (counts_by c.words) n
BackSays (Err out) c answer = answer ≡ with_number DQ_CALLERS_OUT out

-- what is told of the callers that were given back
abbrev pub ReturnedSays : Option Queue → DqAnswer → Option Queue → Type 0
ReturnedSays (Some b) answer (Some c) =
    (c.core ≡ with_words b.core c.core.words)
    × ((r : Result ℕ ℕ) × Returns b.core.words r c.core.words × BackSays r c.core answer)
ReturnedSays None answer None = answer ≡ empty
ReturnedSays b answer c = ⊥
