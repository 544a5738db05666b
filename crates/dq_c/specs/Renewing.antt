-- What a renewal says.
use Rattle.std.specs.Prelude.{◌≡◌, ◌⊎◌, ◌<◌, ◌≤◌, ℕ, Option, Some, None, length}
use Rattle.dq_core.specs.AtTheCall.{linked_in}
use Rattle.dq_core.specs.Renewals.{renewed_core, OldAreMissing}
use Rattle.dq_core.specs.Words.{AreFresh}
use Rattle.dq_c.specs.declared.handle.queue.Queue.{Queue}
use Rattle.dq_words.specs.AtTheCall.{KnowsNothing}
use Rattle.dq_c.specs.Answers.{no_numbers, with_number, done, empty}
use Rattle.dq_c.specs.Owner.{Owned}
use Rattle.dq_c.specs.declared.answers.DqAnswer.{DqAnswer}
use Rattle.dq_c.specs.declared.answers.TheConstants.{DQ_STILL_LINKED, DQ_USED_NUMBER, DQ_NO_MEMORY}

-- Nothing was linked, and the queue goes on under the higher number, over words that nobody used.
-- Each slot is as if it had never been used, the ticks and the wheel go on, and each entry that
-- carries the old number or a lower one is missing.
pub record IsRenewed (b : Owned) (shard : ℕ) (c : Owned) : Type 0 where
  pub none : linked_in b ≡ 0
  pub rises : b.shard < shard
  pub core : c ≡ renewed_core b shard c.known c.counts c.words
  pub rows : length c.known ≡ length b.slots.rows
  pub fresh : AreFresh c.known c.counts
  pub nothing : KnowsNothing c.words
  pub stale : OldAreMissing b c

-- why it isn't renewed: first while an entry is linked, then for a number that isn't higher, and
-- else for want of memory
abbrev pub NotRenewed : Owned → ℕ → DqAnswer → Type 0
NotRenewed b shard answer =
    ((answer ≡ with_number DQ_STILL_LINKED (linked_in b)) × (0 < linked_in b))
    ⊎ ((answer ≡ with_number DQ_USED_NUMBER b.shard) × (linked_in b ≡ 0) × (shard ≤ b.shard))
    ⊎ ((answer ≡ no_numbers DQ_NO_MEMORY) × (linked_in b ≡ 0) × (b.shard < shard))

-- the queue is renewed, or it is as it was and the refusal is told
abbrev pub CoreRenews : Owned → ℕ → DqAnswer → Owned → Type 0
CoreRenews b shard answer c =
    (IsRenewed b shard c × (answer ≡ done)) ⊎ (NotRenewed b shard answer × (c ≡ b))

-- a renewal of the queue that the handle holds, or the refusal where it holds none
abbrev pub RenewSays : Option Queue → ℕ → DqAnswer → Option Queue → Type 0
RenewSays (Some b) shard answer (Some c) = CoreRenews b.core shard answer c.core
RenewSays None shard answer None = answer ≡ empty
RenewSays b shard answer c = ⊥
