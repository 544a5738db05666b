-- What making and freeing say.
use Rattle.std.specs.Prelude.{◌≡◌, ◌⊎◌, ℕ, Option, Some, None}
use Rattle.dq_core.specs.Calls.{IsConfig, new_core}
use Rattle.dq_core.specs.Words.{AreFresh}
use Rattle.dq_wheel.specs.State.{fresh_filing}
use Rattle.dq_c.specs.declared.handle.queue.Queue.{Queue}
use Rattle.dq_words.specs.AtTheCall.{KnowsNothing}
use Rattle.dq_c.specs.Answers.{no_numbers, done, empty, held}
use Rattle.dq_c.specs.Owner.{Owned}
use Rattle.dq_c.specs.declared.answers.DqAnswer.{DqAnswer}
use Rattle.dq_c.specs.declared.answers.TheConstants.{DQ_BAD_CONFIG, DQ_NO_MEMORY}

-- a new queue over words that nobody used: nothing is linked or noted, and nobody was issued
abbrev pub IsNewQueue : ℕ → ℕ → ℕ → Owned → Type 0
IsNewQueue shard capacity last c =
    IsConfig capacity last capacity
    × (c.wheel.filing ≡ fresh_filing capacity)
    × (c ≡ new_core shard capacity last c.wheel c.deferred c.known c.counts c.words)
    × AreFresh c.known c.counts × KnowsNothing c.words

-- why none is made: out of the ranges first, and else for want of memory
abbrev pub NotMade : ℕ → ℕ → DqAnswer → Type 0
NotMade capacity last answer =
    ((answer ≡ no_numbers DQ_BAD_CONFIG) × ¬ IsConfig capacity last capacity)
    ⊎ ((answer ≡ no_numbers DQ_NO_MEMORY) × IsConfig capacity last capacity)

-- a queue is made into an empty handle, which stays empty where it is refused; one that holds a
-- queue keeps it
abbrev pub NewSays : Option Queue → ℕ → ℕ → ℕ → DqAnswer → Option Queue → Type 0
NewSays None shard capacity last answer (Some c) =
    (answer ≡ done) × IsNewQueue shard capacity last c.core
NewSays None shard capacity last answer None = NotMade capacity last answer
NewSays (Some b) shard capacity last answer c = (answer ≡ held) × (c ≡ Some b)

-- the handle is empty then
abbrev pub FreeSays : Option Queue → DqAnswer → Option Queue → Type 0
FreeSays (Some b) answer c = (answer ≡ done) × (c ≡ None)
FreeSays None answer c = (answer ≡ empty) × (c ≡ None)
