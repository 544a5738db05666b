-- The calls by key on a queue over plain words: each is the machine's event, and nothing but the
-- word changes.
use Rattle.std.specs.Prelude.{◌≡◌, ◌≢◌, ℕ, ◌<◌, ◌≤◌, ◌⊎◌, max, Result, Ok, Err}
use Rattle.dq_ticks.specs.declared.TheConstants.{LAST_TICK}
use Rattle.dq_ticks.specs.declared.keys.Key.{Key}
use Rattle.dq_core.specs.declared.words.Look.{Look}
use Rattle.dq_core.specs.declared.words.CallError.{CallError}
use Rattle.dq_core.specs.declared.words.CallError.TheVariants.{TooFar, Unknown, Ended}
use Rattle.dq_core.specs.Words.{word_at}
use Rattle.dq_core.specs.WordRows.{IsCallable, CallRefused, IsLook, extended, given_up}
use Rattle.dq_core.specs.Machine.{Extend, Cancel, Step}
use Rattle.dq_core.specs.Core.{Core, machine}

-- all but the words is as it was
pub record KeepsRest {T W : Type 0} (b c : Core T W) : Type 0 where
  pub shard : c.shard ≡ b.shard
  pub noted : c.noted ≡ b.noted
  pub wheel : c.wheel ≡ b.wheel
  pub slots : c.slots ≡ b.slots
  pub counts : c.counts ≡ b.counts

-- a live entry's deadline in force is raised to `when`, where it is lower, and told
pub record IsExtended {T W : Type 0} (b : Core T W) (k : Key) (when d : ℕ) (c : Core T W)
    : Type 0 where
  pub accepted : when ≤ LAST_TICK
  pub shard : k.entry.shard ≡ b.shard
  pub callable : IsCallable b.known k
  pub deadline : d ≡ max when (word_at b.known k.entry.index).field
  pub known : c.known ≡ extended b.known k d
  pub step : Step b.slots.last_stamp (machine b) (Extend k.entry.index k.stamp when) (machine c)
  pub rest : KeepsRest b c

-- why a call by key is refused: first by its shard, then by its index and stamp, then by the
-- entry's end
abbrev pub KeyRefused : {T W : Type 0} → Core T W → Key → CallError → Type 0
KeyRefused b k Unknown = (k.entry.shard ≢ b.shard) ⊎ CallRefused b.known k Unknown
KeyRefused b k e = (k.entry.shard ≡ b.shard) × CallRefused b.known k e

-- why an extend is refused: first by its deadline
abbrev pub ExtendingRefused : {T W : Type 0} → Core T W → Key → ℕ → CallError → Type 0
ExtendingRefused b k when (TooFar limit) = (limit ≡ LAST_TICK) × (LAST_TICK < when)
ExtendingRefused b k when e = (when ≤ LAST_TICK) × KeyRefused b k e

-- an extend, or its refusal, which changes nothing
abbrev pub Extends : {T W : Type 0} → Core T W → Key → ℕ → Result ℕ CallError → Core T W → Type 0
Extends b k when (Ok d) c = IsExtended b k when d c
Extends b k when (Err e) c = ExtendingRefused b k when e × (c ≡ b)

-- a live entry is cancelled, and the deadline that it gives up is told
pub record IsGivenUp {T W : Type 0} (b : Core T W) (k : Key) (d : ℕ) (c : Core T W) : Type 0 where
  pub shard : k.entry.shard ≡ b.shard
  pub callable : IsCallable b.known k
  pub deadline : d ≡ (word_at b.known k.entry.index).field
  pub known : c.known ≡ given_up b.known k
  pub step : Step b.slots.last_stamp (machine b) (Cancel k.entry.index k.stamp) (machine c)
  pub rest : KeepsRest b c

-- a cancel, or its refusal, which changes nothing
abbrev pub Cancels : {T W : Type 0} → Core T W → Key → Result ℕ CallError → Core T W → Type 0
Cancels b k (Ok d) c = IsGivenUp b k d c
Cancels b k (Err e) c = KeyRefused b k e × (c ≡ b)

-- why a look is refused: an entry that ended is shown
abbrev pub LookingRefused : {T W : Type 0} → Core T W → Key → CallError → Type 0
LookingRefused b k (Ended how) = ⊥
LookingRefused b k e = KeyRefused b k e

-- what a look shows: the word of the key's stamp
abbrev pub Shows : {T W : Type 0} → Core T W → Key → Result Look CallError → Type 0
Shows b k (Ok look) = (k.entry.shard ≡ b.shard) × IsLook b.known k (Ok look)
Shows b k (Err e) = LookingRefused b k e
