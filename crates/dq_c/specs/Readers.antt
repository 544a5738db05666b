-- What the calls say by which a queue tells of itself.
use Rattle.std.specs.Prelude.{◌≡◌, ℕ, Option, Some, None, Result, Ok, Err, true}
use Rattle.dq_core.specs.AtTheCall.{linked_in}
use Rattle.dq_core.specs.Calls.{TellsDeadline, TellsWake, WakesAhead}
use Rattle.dq_core.specs.Readers.{IsTally, TellsLeast}
use Rattle.dq_core.specs.declared.errors.CoreError.{CoreError}
use Rattle.dq_core.specs.declared.outcomes.Tally.{Tally}
use Rattle.dq_c.specs.declared.handle.queue.Queue.{Queue}
use Rattle.dq_ticks.specs.Keys.{KeyName}
use Rattle.dq_c.specs.Answers.{no_numbers, with_number, done, tells, empty, core_answer}
use Rattle.dq_c.specs.Keys.{named, IsTallyOf}
use Rattle.dq_c.specs.Owner.{SameQueue}
use Rattle.dq_c.specs.declared.answers.DqAnswer.{DqAnswer}
use Rattle.dq_c.specs.declared.answers.TheConstants.{DQ_WAITING, DQ_IDLE}
use Rattle.dq_c.specs.declared.keys.DqKey.{DqKey}
use Rattle.dq_c.specs.declared.keys.DqTally.{DqTally}

-- a number is told, or the refusal is
abbrev pub NumberSays : Result ℕ CoreError → DqAnswer → Type 0
NumberSays (Ok n) answer = answer ≡ tells n
NumberSays (Err e) answer = answer ≡ core_answer e

-- the deadline in force of an entry
abbrev pub DeadlineSays : Option Queue → DqKey → DqAnswer → Option Queue → Type 0
DeadlineSays (Some b) key answer (Some c) =
    SameQueue b.core c.core
    × ((r : Result ℕ CoreError) × TellsDeadline true b.core (named key).entry r c.core
    × NumberSays r answer)
DeadlineSays None key answer None = answer ≡ empty
DeadlineSays b key answer c = ⊥

-- the tick to wait for is told, or that there is none
abbrev pub NextSays : Option ℕ → DqAnswer → Type 0
NextSays (Some next) answer = answer ≡ with_number DQ_WAITING next
NextSays None answer = answer ≡ no_numbers DQ_IDLE

-- the next wake, and the queue is as it was
abbrev pub WakeSays : Option Queue → DqAnswer → Option Queue → Type 0
WakeSays (Some b) answer c =
    (c ≡ Some b)
    × ((wake : Option ℕ) × TellsWake b.core wake × WakesAhead b.core wake × NextSays wake answer)
WakeSays None answer c = (answer ≡ empty) × (c ≡ None)

-- the least key is written and done is told, or nothing is linked and the key stays
abbrev pub LeastSays : Option KeyName → DqAnswer → DqKey → DqKey → Type 0
LeastSays (Some least) answer before key = (answer ≡ done) × (named key ≡ least)
LeastSays None answer before key = (answer ≡ no_numbers DQ_IDLE) × (key ≡ before)

-- an entry that is filed least, and the queue is as it was
abbrev pub PeekSays : Option Queue → DqAnswer → DqKey → DqKey → Option Queue → Type 0
PeekSays (Some b) answer before key c =
    (c ≡ Some b)
    × ((least : Option KeyName) × TellsLeast b.core least × LeastSays least answer before key)
PeekSays None answer before key c = (answer ≡ empty) × (key ≡ before) × (c ≡ None)

-- the number of linked entries, and the queue is as it was
abbrev pub LenSays : Option Queue → DqAnswer → Option Queue → Type 0
LenSays (Some b) answer c = (c ≡ Some b) × (answer ≡ tells (linked_in b.core))
LenSays None answer c = (answer ≡ empty) × (c ≡ None)

-- how many entries came and went, and the queue is as it was
abbrev pub TallySays : Option Queue → DqAnswer → DqTally → DqTally → Option Queue → Type 0
TallySays (Some b) answer before tally c =
    (c ≡ Some b) × (answer ≡ done) × ((t : Tally) × IsTally b.core t × IsTallyOf tally t)
TallySays None answer before tally c = (answer ≡ empty) × (tally ≡ before) × (c ≡ None)
