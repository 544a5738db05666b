-- What a poll says that takes out many entries: the polls one after another.
use Rattle.std.specs.Prelude.{◌≡◌, ◌<◌, ◌≤◌, ◌⊎◌, ℕ, zero, suc, Option, Some, None, List, Result}
use Rattle.std.specs.Prelude.{Ok, Err, length, slice_index_or, true}
use Rattle.dq_core.specs.Calls.{Polls}
use Rattle.dq_core.specs.declared.errors.CoreError.{CoreError}
use Rattle.dq_core.specs.declared.outcomes.Expired.{Expired}
use Rattle.dq_core.specs.declared.outcomes.Turn.{Turn}
use Rattle.dq_core.specs.declared.outcomes.Turn.TheVariants.{Out, Waiting, Idle}
use Rattle.dq_c.specs.declared.handle.queue.Queue.{Queue}
use Rattle.dq_c.specs.Answers.{with_number, two_numbers, tells, empty, no_place, core_answer}
use Rattle.dq_c.specs.Keys.{IsOutOf}
use Rattle.dq_c.specs.Owner.{Owned, SameQueue}
use Rattle.dq_c.specs.declared.answers.DqAnswer.{DqAnswer}
use Rattle.dq_c.specs.declared.answers.TheConstants.{DQ_WAITING, DQ_IDLE}
use Rattle.dq_c.specs.declared.keys.DqExpired.{DqExpired}

-- a place of a row that isn't there
abbrev pub no_expired : DqExpired
no_expired =
    record {
      key = record { shard = 0; index = 0; born = 0; stamp = 0 };
      deadline = 0;
      noted = 0;
      value = 0;
    }

-- what stands at a place of a row
abbrev pub place_at : List DqExpired → ℕ → DqExpired
place_at row i = slice_index_or row i no_expired

-- the entry of the place n came out of one poll
abbrev pub ComesOut : Owned → ℕ → DqExpired → Owned → Type 0
ComesOut b tick out c = (x : Expired ℕ) × Polls true b tick (Ok (Out x)) c × IsOutOf out x

-- n entries came out, by one poll after another, and stand first in the row
unfoldable pub ComeOut : Owned → ℕ → ℕ → List DqExpired → Owned → Type 0
ComeOut b tick zero row c = c ≡ b
ComeOut b tick (suc n) row c =
    (m : Owned) × ComeOut b tick n row m × ComesOut m tick (place_at row n) c

-- the places of a row from n on hold what they held before
abbrev pub KeepsFrom : ℕ → List DqExpired → List DqExpired → Type 0
KeepsFrom n before row = (i : ℕ) → n ≤ i → place_at row i ≡ place_at before i

-- the last poll took nothing out: what it answered is told with the number that came out before
abbrev pub RestSays : ℕ → Result (Turn ℕ) CoreError → DqAnswer → Type 0
RestSays n (Ok (Out x)) answer = ⊥
RestSays n (Ok (Waiting next)) answer = answer ≡ two_numbers DQ_WAITING n next
RestSays n (Ok Idle) answer = answer ≡ with_number DQ_IDLE n
RestSays n (Err e) answer = answer ≡ core_answer e

-- the row is full, or it has room and a last poll took nothing out
abbrev pub EndsAt : Owned → ℕ → ℕ → List DqExpired → DqAnswer → Owned → Type 0
EndsAt m tick n row answer c =
    ((n ≡ length row) × (answer ≡ tells n) × (c ≡ m))
    ⊎ ((n < length row)
    × ((r : Result (Turn ℕ) CoreError) × Polls true m tick r c × RestSays n r answer))

-- a row is filled from its front, and keeps the places past those that were filled
abbrev pub FillSays : Owned → ℕ → List DqExpired → List DqExpired → DqAnswer → Owned → Type 0
FillSays b tick before row answer c =
    SameQueue b c
    × ((n : ℕ) × (m : Owned) × ComeOut b tick n row m × KeepsFrom n before row
    × EndsAt m tick n row answer c)

-- a row without a place is refused, and no tick is noted; any other is filled
abbrev pub RowSays : Queue → ℕ → List DqExpired → List DqExpired → DqAnswer → Queue → Type 0
RowSays b tick before row answer c =
    ((length before ≡ 0) × (answer ≡ no_place) × (row ≡ before) × (c ≡ b))
    ⊎ ((0 < length before) × FillSays b.core tick before row answer c.core
    × (length row ≡ length before))

-- a poll that takes out many
abbrev pub PollManySays :
    Option Queue → ℕ → List DqExpired → List DqExpired → DqAnswer → Option Queue → Type 0
PollManySays (Some b) tick before row answer (Some c) = RowSays b tick before row answer c
PollManySays None tick before row answer None = (answer ≡ empty) × (row ≡ before)
PollManySays b tick before row answer c = ⊥
