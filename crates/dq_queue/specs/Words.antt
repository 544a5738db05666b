-- What a call by a queue's words tells: of the words that the queue's directory has under the number of the key's core.
use Rattle.std.specs.Prelude.{◌≡◌, ◌⊎◌, ℕ, ◌<◌, ◌≤◌, List, Option, Some, None}
use Rattle.boxcar.specs.Slot.{Named}
use Rattle.dq_ticks.specs.declared.TheConstants.{LAST_TICK}
use Rattle.dq_ticks.specs.Keys.{KeyName}
use Rattle.dq_core.specs.declared.words.CallError.{CallError}
use Rattle.dq_core.specs.declared.words.CallError.TheVariants.{TooFar, Unknown}
use Rattle.dq_words.specs.Claims.{Claimed, IsOf}
use Rattle.dq_words.specs.OpenCalls.{Open, OpenExtendRefused, OpenLookRefused, OpenRefused}
use Rattle.dq_words.specs.Seats.{Sat}

-- the receipt of a call, and the claim that the words are those of a number
pub record PromiseView : Type 0 where
  pub receipt : Sat
  pub claim : Claimed Open

-- it is of the words of this directory
abbrev pub IsPromiseOf : List Named → PromiseView → Type 0
IsPromiseOf rows p = IsOf rows p.claim × (p.receipt.table ≡ p.claim.thing.table)

-- and of those of the key's core
abbrev pub IsPromise : List Named → KeyName → PromiseView → Type 0
IsPromise rows k p = IsPromiseOf rows p × (p.claim.number ≡ k.entry.shard)

-- the directory has these words under the number of the key's core
abbrev pub HasWords : List Named → KeyName → Open → Type 0
HasWords rows k o =
    (c : Claimed Open) × IsOf rows c × (c.number ≡ k.entry.shard) × (c.thing ≡ o)

-- A key is refused so: by the words of its core, as the receipt shows; by them with no step; or as
-- unknown where nothing was found under its number.
abbrev pub RefusedSo :
    (Open → CallError → Option Sat → Type 0) → List Named → KeyName → CallError → Option PromiseView
    → Type 0
RefusedSo Refused rows k e None =
    ((o : Open) × HasWords rows k o × Refused o e None) ⊎ (e ≡ Unknown)
RefusedSo Refused rows k e (Some p) = IsPromise rows k p × Refused p.claim.thing e (Some p.receipt)

-- a cancel is refused
abbrev pub QueueCancelRefused : List Named → KeyName → CallError → Option PromiseView → Type 0
QueueCancelRefused rows k e p = RefusedSo (λ o err r. OpenRefused o k err r) rows k e p

-- an extend is refused first by its deadline, which lies beyond the last tick, and then by the key
abbrev pub QueueExtendRefused : List Named → KeyName → ℕ → CallError → Option PromiseView → Type 0
QueueExtendRefused rows k when e p =
    ((e ≡ TooFar LAST_TICK) × (LAST_TICK < when) × (p ≡ None))
    ⊎ ((when ≤ LAST_TICK) × RefusedSo (λ o err r. OpenExtendRefused o k when err r) rows k e p)

-- a look is refused
abbrev pub QueueLookRefused : List Named → KeyName → CallError → Option PromiseView → Type 0
QueueLookRefused rows k e p = RefusedSo (λ o err r. OpenLookRefused o k err r) rows k e p
