-- What a caller's calls say. Each is a call of the caller that the handle holds, or is refused
-- where the handle is empty.
use Rattle.std.specs.Prelude.{◌≡◌, ◌≢◌, ◌⊎◌, ◌<◌, ◌≤◌, ℕ, Option, Some, None, MatchOption}
use Rattle.std.specs.Prelude.{Result, Ok, Err}
use Rattle.dq_core.specs.declared.words.CallError.{CallError}
use Rattle.dq_core.specs.declared.words.Look.{Look}
use Rattle.dq_ticks.specs.declared.TheConstants.{LAST_TICK}
use Rattle.dq_words.specs.AtTheCall.{cancels_of}
use Rattle.dq_words.specs.CallerCalls.{CallerExtends, CallerCancels, CallerLooks}
use Rattle.dq_words.specs.Seats.{Sat}
use Rattle.dq_c.specs.declared.handle.caller.Seat.{Seat}
use Rattle.dq_c.specs.Answers.{no_numbers, with_number, tells, empty, call_answer, look_answer}
use Rattle.dq_c.specs.Keys.{named}
use Rattle.dq_c.specs.declared.answers.DqAnswer.{DqAnswer}
use Rattle.dq_c.specs.declared.answers.TheConstants.{DQ_OK, DQ_TOO_FAR, DQ_UNKNOWN}
use Rattle.dq_c.specs.declared.keys.DqKey.{DqKey}

-- the caller that a handle holds, as contracts see it
abbrev pub caller_in : Option Seat → Option Sat
caller_in None = None
caller_in (Some seat) = seat.caller

-- the number of the queue that issued it; 0 where the handle holds none
abbrev pub number_in : Option Seat → ℕ
number_in None = 0
number_in (Some seat) = seat.shard

-- the caller made a call at its own table
abbrev pub AtItsTable : (Sat → Sat → Type 0) → Sat → Option Sat → Type 0
AtItsTable Goes b (Some c) = Goes b c × (c.table ≡ b.table)
AtItsTable Goes b None = ⊥

-- the caller that the handle holds made a call, and its number stays; where there is none the
-- handle is refused as empty, and stays
abbrev pub CallerGoes : Option Seat → Option Seat → DqAnswer → (Sat → Sat → Type 0) → Type 0
CallerGoes old new answer Goes =
    MatchOption (caller_in old)
    ((answer ≡ empty) × (new ≡ old))
    (λ b. AtItsTable Goes b (caller_in new) × (number_in new ≡ number_in old))

-- a key of the caller's number, or one of another
abbrev pub ByNumber : Option Seat → DqKey → Type 0 → Type 0 → Type 0
ByNumber old key Own Other =
    ((key.shard ≡ number_in old) × Own) ⊎ ((key.shard ≢ number_in old) × Other)

-- a deadline is told, or the refusal is
abbrev pub TickSays : Result ℕ CallError → DqAnswer → Type 0
TickSays (Ok d) answer = answer ≡ tells d
TickSays (Err e) answer = answer ≡ call_answer e

-- an extend by a key of another number: too far beyond the last tick, and else unknown
abbrev pub OtherExtend : ℕ → DqAnswer → Type 0
OtherExtend when answer =
    ((LAST_TICK < when) × (answer ≡ with_number DQ_TOO_FAR LAST_TICK))
    ⊎ ((when ≤ LAST_TICK) × (answer ≡ no_numbers DQ_UNKNOWN))

-- an extend; by a key of another number it changes nothing
abbrev pub ExtendSays : Option Seat → DqKey → ℕ → DqAnswer → Option Seat → Type 0
ExtendSays old key when answer new =
    CallerGoes old new answer
    (λ b c. ByNumber old key
    ((r : Result ℕ CallError) × CallerExtends b.view (named key) when r c.view × TickSays r answer)
    (OtherExtend when answer × (c ≡ b)))

-- a cancel; by a key of another number it is unknown, and changes nothing
abbrev pub CancelSays : Option Seat → DqKey → DqAnswer → Option Seat → Type 0
CancelSays old key answer new =
    CallerGoes old new answer
    (λ b c. ByNumber old key
    ((r : Result ℕ CallError) × CallerCancels b.view (named key) r c.view × TickSays r answer)
    ((answer ≡ no_numbers DQ_UNKNOWN) × (c ≡ b)))

-- how the entry stands is told, or the refusal is
abbrev pub ShownSays : Result Look CallError → DqAnswer → Type 0
ShownSays (Ok how) answer = answer ≡ look_answer DQ_OK how
ShownSays (Err e) answer = answer ≡ call_answer e

-- a look; by a key of another number it is unknown, and changes nothing
abbrev pub LookSays : Option Seat → DqKey → DqAnswer → Option Seat → Type 0
LookSays old key answer new =
    CallerGoes old new answer
    (λ b c. ByNumber old key
    ((r : Result Look CallError) × CallerLooks b.view (named key) r c.view × ShownSays r answer)
    ((answer ≡ no_numbers DQ_UNKNOWN) × (c ≡ b)))

-- the accepted cancels of a caller that is given back
abbrev pub GivenSays : Option Sat → DqAnswer → Type 0
GivenSays (Some b) answer = answer ≡ tells (cancels_of b)
GivenSays None answer = answer ≡ empty

-- a caller is given back, and the handle is empty then
abbrev pub GiveBackSays : Option Seat → DqAnswer → Option Seat → Type 0
GiveBackSays old answer new = (new ≡ None) × GivenSays (caller_in old) answer
