-- What a handle's calls answer. A handle is seen as what its callers know, one for each shard.
use Rattle.std.specs.Prelude.{◌≡◌, ℕ, ◌<◌, ◌≤◌, ◌⊎◌, Some, List, Result, Err, length, slice_get}
use Rattle.std.specs.Prelude.{slice_set}
use Rattle.dq_ticks.specs.declared.TheConstants.{LAST_TICK}
use Rattle.dq_ticks.specs.Keys.{KeyName}
use Rattle.dq_core.specs.declared.words.CallError.{CallError}
use Rattle.dq_core.specs.declared.words.CallError.TheVariants.{TooFar, Unknown}
use Rattle.dq_core.specs.declared.words.Look.{Look}
use Rattle.dq_words.specs.declared.views.View.{View}
use Rattle.dq_words.specs.Seats.{Sat}
use Rattle.dq_words.specs.Counts.{cancels_in}
use Rattle.dq_words.specs.CallerCalls.{IsCaller, CallerExtends, CallerCancels, CallerLooks}
use Rattle.dq_words.specs.Keeping.{Knew}
use Rattle.dq_shards.specs.Sums.{total_of}

-- a handle as what its callers know, by their shards
abbrev pub HandleCallers : Type 0
HandleCallers = List Sat

-- the caller of a shard is out, and between some two steps the rule of the words held with what it
-- knows
abbrev pub KeepsCaller : HandleCallers → ℕ → Type 0
KeepsCaller callers shard =
    (v : Sat) × (slice_get callers shard ≡ Some v) × IsCaller v.view × Knew v.view

-- the caller of one shard goes from what it knew to what it knows now, at the table where it sits,
-- and the others stay
abbrev pub OfShard : HandleCallers → ℕ → (View → View → Type 0) → HandleCallers → Type 0
OfShard old shard goes new =
    (v : Sat) × (w : Sat) × (slice_get old shard ≡ Some v) × goes v.view w.view
    × (w.table ≡ v.table) × (new ≡ slice_set old shard w)

-- the shard is out of range, and nothing changed
abbrev pub OutOfRange : HandleCallers → ℕ → HandleCallers → Type 0
OutOfRange old shard new = (length old ≤ shard) × (new ≡ old)

-- out of range an extend is refused: first of all as too far, else as unknown
abbrev pub ExtendOutOfRange : ℕ → Result ℕ CallError → Type 0
ExtendOutOfRange when result =
    ((LAST_TICK < when) × (result ≡ Err (TooFar LAST_TICK)))
    ⊎ ((when ≤ LAST_TICK) × (result ≡ Err Unknown))

-- an extend is that of the caller of the key's shard
abbrev pub HandleExtends : HandleCallers → KeyName → ℕ → Result ℕ CallError → HandleCallers → Type 0
HandleExtends old k when result new =
    OfShard old k.entry.shard (λ v w. CallerExtends v k when result w) new
    ⊎ (OutOfRange old k.entry.shard new × ExtendOutOfRange when result)

-- a cancel is that of the caller of the key's shard, and out of range it is unknown
abbrev pub HandleCancels : HandleCallers → KeyName → Result ℕ CallError → HandleCallers → Type 0
HandleCancels old k result new =
    OfShard old k.entry.shard (λ v w. CallerCancels v k result w) new
    ⊎ (OutOfRange old k.entry.shard new × (result ≡ Err Unknown))

-- a look is that of the caller of the key's shard, and out of range it is unknown
abbrev pub HandleLooks : HandleCallers → KeyName → Result Look CallError → HandleCallers → Type 0
HandleLooks old k result new =
    OfShard old k.entry.shard (λ v w. CallerLooks v k result w) new
    ⊎ (OutOfRange old k.entry.shard new × (result ≡ Err Unknown))

-- the accepted cancels of all callers
abbrev pub all_cancels : HandleCallers → ℕ
all_cancels vs = total_of (λ (v : Sat). cancels_in v.view.calls) vs
