-- What the calls of a queue's owner say that change it. Each is a call on the queue that the handle
-- holds, or is refused where the handle is empty.
use Rattle.std.specs.Prelude.{◌≡◌, ℕ, ◌+◌, nat_lt, if◌then◌else◌, length, Option, Some, None}
use Rattle.std.specs.Prelude.{Result, Ok, Err, true}
use Rattle.dq_ticks.specs.Keys.{KeyName}
use Rattle.dq_core.specs.Calls.{SameCore, Inserts, Resets, Removes, Polls}
use Rattle.dq_core.specs.Pieces.{PollsSome}
use Rattle.dq_core.specs.Sweeps.{Sweeps, SweepsSome, Reaps, Clears}
use Rattle.dq_core.specs.Core.{Core}
use Rattle.dq_core.specs.declared.errors.CoreError.{CoreError}
use Rattle.dq_core.specs.declared.errors.ReapError.{ReapError}
use Rattle.dq_core.specs.declared.outcomes.Piece.{Piece}
use Rattle.dq_core.specs.declared.outcomes.Piece.TheVariants.{Answer, Working}
use Rattle.dq_core.specs.declared.outcomes.Removed.{Removed}
use Rattle.dq_core.specs.declared.outcomes.Turn.{Turn}
use Rattle.dq_core.specs.declared.outcomes.Turn.TheVariants.{Out, Waiting, Idle}
use Rattle.dq_words.specs.Seats.{Sat}
use Rattle.dq_c.specs.declared.handle.queue.Queue.{Queue}
use Rattle.dq_c.specs.Answers.{no_numbers, with_number, two_numbers, done, tells, empty}
use Rattle.dq_c.specs.Answers.{core_answer, reap_answer}
use Rattle.dq_c.specs.Keys.{named, IsOutOf, IsRemovedOf}
use Rattle.dq_c.specs.declared.answers.DqAnswer.{DqAnswer}
use Rattle.dq_c.specs.declared.answers.TheConstants.{DQ_WAITING, DQ_IDLE, DQ_WORKING}
use Rattle.dq_c.specs.declared.keys.DqKey.{DqKey}
use Rattle.dq_c.specs.declared.keys.DqExpired.{DqExpired}
use Rattle.dq_c.specs.declared.keys.DqRemoved.{DqRemoved}

-- the queue of a handle, as its owner sees it
abbrev pub Owned : Type 0
Owned = Core ℕ Sat

-- what no call changes: the shard, the last stamp, the size, and which row of words it is
abbrev pub SameQueue : Owned → Owned → Type 0
SameQueue b c = SameCore b c × (c.words.table ≡ b.words.table)

-- a call that answers a key, or why it is refused; then the key stays
abbrev pub KeySays : Result KeyName CoreError → DqAnswer → DqKey → DqKey → Type 0
KeySays (Ok name) answer before key = (answer ≡ done) × (named key ≡ name)
KeySays (Err e) answer before key = (answer ≡ core_answer e) × (key ≡ before)

-- an insert's answer without the value that comes back
abbrev pub key_given : Result KeyName (CoreError × ℕ) → Result KeyName CoreError
key_given (Ok name) = Ok name
key_given (Err e) = Err e.0

-- an insert
abbrev pub InsertSays : Option Queue → ℕ → ℕ → DqAnswer → DqKey → DqKey → Option Queue → Type 0
InsertSays (Some b) value when answer before key (Some c) =
    SameQueue b.core c.core
    × ((r : Result KeyName (CoreError × ℕ)) × Inserts b.core value when r c.core
    × KeySays (key_given r) answer before key)
InsertSays None value when answer before key None = (answer ≡ empty) × (key ≡ before)
InsertSays b value when answer before key c = ⊥

-- a reset of the entry that the key named before
abbrev pub ResetSays : Option Queue → ℕ → DqAnswer → DqKey → DqKey → Option Queue → Type 0
ResetSays (Some b) when answer before key (Some c) =
    SameQueue b.core c.core
    × ((r : Result KeyName CoreError) × Resets true b.core (named before).entry when r c.core
    × KeySays r answer before key)
ResetSays None when answer before key None = (answer ≡ empty) × (key ≡ before)
ResetSays b when answer before key c = ⊥

-- the entry that was removed is written, or the refusal is told
abbrev pub OutSays : Result (Removed ℕ) CoreError → DqAnswer → DqRemoved → DqRemoved → Type 0
OutSays (Ok x) answer before out = (answer ≡ done) × IsRemovedOf out x
OutSays (Err e) answer before out = (answer ≡ core_answer e) × (out ≡ before)

-- a remove
abbrev pub RemoveSays :
    Option Queue → DqKey → DqAnswer → DqRemoved → DqRemoved → Option Queue → Type 0
RemoveSays (Some b) key answer before out (Some c) =
    SameQueue b.core c.core
    × ((r : Result (Removed ℕ) CoreError) × Removes true b.core (named key).entry r c.core
    × OutSays r answer before out)
RemoveSays None key answer before out None = (answer ≡ empty) × (out ≡ before)
RemoveSays b key answer before out c = ⊥

-- the entry that came out is written, or what to wait for or the refusal is told
abbrev pub TurnSays : Result (Turn ℕ) CoreError → DqAnswer → DqExpired → DqExpired → Type 0
TurnSays (Ok (Out x)) answer before out = (answer ≡ done) × IsOutOf out x
TurnSays (Ok (Waiting next)) answer before out =
    (answer ≡ with_number DQ_WAITING next) × (out ≡ before)
TurnSays (Ok Idle) answer before out = (answer ≡ no_numbers DQ_IDLE) × (out ≡ before)
TurnSays (Err e) answer before out = (answer ≡ core_answer e) × (out ≡ before)

-- a poll
abbrev pub PollSays : Option Queue → ℕ → DqAnswer → DqExpired → DqExpired → Option Queue → Type 0
PollSays (Some b) tick answer before out (Some c) =
    SameQueue b.core c.core
    × ((r : Result (Turn ℕ) CoreError) × Polls true b.core tick r c.core
    × TurnSays r answer before out)
PollSays None tick answer before out None = (answer ≡ empty) × (out ≡ before)
PollSays b tick answer before out c = ⊥

-- what a poll answers is told as such, or that more may be left
abbrev pub PieceSays : Result (Piece ℕ) CoreError → DqAnswer → DqExpired → DqExpired → Type 0
PieceSays (Ok (Answer turn)) answer before out = TurnSays (Ok turn) answer before out
PieceSays (Ok Working) answer before out = (answer ≡ no_numbers DQ_WORKING) × (out ≡ before)
PieceSays (Err e) answer before out = (answer ≡ core_answer e) × (out ≡ before)

-- at most so many steps of a poll
abbrev pub PollSomeSays :
    Option Queue → ℕ → ℕ → DqAnswer → DqExpired → DqExpired → Option Queue → Type 0
PollSomeSays (Some b) tick most answer before out (Some c) =
    SameQueue b.core c.core
    × ((r : Result (Piece ℕ) CoreError) × PollsSome true b.core tick most r c.core
    × PieceSays r answer before out)
PollSomeSays None tick most answer before out None = (answer ≡ empty) × (out ≡ before)
PollSomeSays b tick most answer before out c = ⊥

-- a sweep, which tells how many it reaped
abbrev pub SweepSays : Option Queue → DqAnswer → Option Queue → Type 0
SweepSays (Some b) answer (Some c) =
    SameQueue b.core c.core × ((n : ℕ) × Sweeps true b.core n c.core × (answer ≡ tells n))
SweepSays None answer None = answer ≡ empty
SweepSays b answer c = ⊥

-- the slot behind so many from one on, none behind the last
abbrev pub slot_behind : Owned → ℕ → ℕ → Option ℕ
slot_behind b from count =
    if nat_lt (from + count) (length b.slots.rows) then Some (from + count) else None

-- how many were reaped is told, and the slot to go on from where there is one
abbrev pub SweptSays : ℕ → Option ℕ → DqAnswer → Type 0
SweptSays n (Some next) answer = answer ≡ two_numbers DQ_WORKING n next
SweptSays n None answer = answer ≡ tells n

-- a sweep of so many slots from one on
abbrev pub SweepSomeSays : Option Queue → ℕ → ℕ → DqAnswer → Option Queue → Type 0
SweepSomeSays (Some b) from count answer (Some c) =
    SameQueue b.core c.core
    × ((n : ℕ) × SweepsSome true b.core from (from + count) n c.core
    × SweptSays n (slot_behind b.core from count) answer)
SweepSomeSays None from count answer None = answer ≡ empty
SweepSomeSays b from count answer c = ⊥

-- the entry was reaped, or the refusal is told
abbrev pub ReapedSays : Result (Unit {0}) ReapError → DqAnswer → Type 0
ReapedSays (Ok reaped) answer = answer ≡ done
ReapedSays (Err e) answer = answer ≡ reap_answer e

-- a reap of the entry that a key names
abbrev pub ReapSays : Option Queue → DqKey → DqAnswer → Option Queue → Type 0
ReapSays (Some b) key answer (Some c) =
    SameQueue b.core c.core
    × ((r : Result (Unit {0}) ReapError) × Reaps true b.core (named key).entry r c.core
    × ReapedSays r answer)
ReapSays None key answer None = answer ≡ empty
ReapSays b key answer c = ⊥

-- a clear, which tells how many it removed
abbrev pub ClearSays : Option Queue → DqAnswer → Option Queue → Type 0
ClearSays (Some b) answer (Some c) =
    SameQueue b.core c.core × ((n : ℕ) × Clears true b.core n c.core × (answer ≡ tells n))
ClearSays None answer None = answer ≡ empty
ClearSays b answer c = ⊥
