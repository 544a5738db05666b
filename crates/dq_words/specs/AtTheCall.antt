-- What one reads first at a call. Each of these facts follows from the exact relation behind it.
use Rattle.std.specs.Prelude.{◌≡◌, ◌≢◌, ◌⊎◌, ℕ, ◌+◌, ◌<◌, ◌≤◌, List, [], length}
use Rattle.dq_core.specs.declared.words.Look.{Look}
use Rattle.dq_core.specs.declared.words.CallError.{CallError}
use Rattle.dq_core.specs.declared.words.CallError.TheVariants.{TooFar, Unknown, Stale, Ended}
use Rattle.dq_ticks.specs.declared.TheConstants.{CAPACITY_LIMIT, LAST_TICK}
use Rattle.dq_ticks.specs.Keys.{KeyName}
use Rattle.dq_ticks.specs.Word.{word, stamp_of, mark_of}
use Rattle.dq_words.specs.declared.keeper.WordsError.{WordsError}
use Rattle.dq_words.specs.declared.keeper.WordsError.TheVariants.{BadConfig, NoMemory}
use Rattle.dq_words.specs.declared.keeper.WordsError.TheVariants.{TooManyHandles}
use Rattle.dq_words.specs.declared.keeper.TheConstants.{HANDLE_LIMIT}
use Rattle.dq_words.specs.CallerCalls.{seen_at, look_of, IsForged}
use Rattle.dq_words.specs.Counts.{cancels_in}
use Rattle.dq_words.specs.Files.{IsIn, extends_at}
use Rattle.dq_words.specs.Plays.{Fair, giving_back}
use Rattle.dq_words.specs.Seats.{Sat}

-- the word of the key's slot, as the caller saw it last
abbrev pub word_seen : Sat → KeyName → ℕ
word_seen c k = seen_at c.view k.entry.index

-- it is live at the key's stamp, and the tick d is the deadline in force
abbrev pub SeesLive : Sat → KeyName → ℕ → Type 0
SeesLive c k d = (d ≤ LAST_TICK) × (word_seen c k ≡ word k.stamp 0 d)

-- it is cancelled at the key's stamp
abbrev pub SeesCancelled : Sat → KeyName → Type 0
SeesCancelled c k = word_seen c k ≡ word k.stamp 1 0

-- it has the key's stamp, and shows that
abbrev pub SeesEntry : Sat → KeyName → Look → Type 0
SeesEntry c k how = (stamp_of (word_seen c k) ≡ k.stamp) × (how ≡ look_of (word_seen c k))

-- the deadlines that the caller's accepted extends of the key's entry asked for
abbrev pub asked_for : Sat → KeyName → List ℕ
asked_for c k = extends_at k.entry.index k.stamp c.view.calls

-- The tick d is before no deadline that the caller was promised: none that it asked for, and none
-- that it saw in force
abbrev pub KeepsPromises : Sat → KeyName → ℕ → Type 0
KeepsPromises c k d =
    (d ≤ LAST_TICK) × ((x : ℕ) → IsIn (asked_for c k) x → x ≤ d)
    × (word_seen c k ≤ word k.stamp 0 d)

-- no slot has the key, or the word that is then seen refuses it: it has an earlier stamp than the
-- key, a later one, or the key's own and isn't live
abbrev pub RefusedByWord : Sat → KeyName → CallError → Type 0
RefusedByWord c k Unknown = IsForged c.view k ⊎ (stamp_of (word_seen c k) < k.stamp)
RefusedByWord c k (Stale seen) = (seen ≡ stamp_of (word_seen c k)) × (k.stamp < seen)
RefusedByWord c k (Ended how) = SeesEntry c k how × (mark_of (word_seen c k) ≢ 0)
RefusedByWord c k (TooFar limit) = ⊥

-- an extend is refused first by its deadline, which lies beyond the last tick, and then by the word
abbrev pub ExtendRefusedByWord : Sat → KeyName → ℕ → CallError → Type 0
ExtendRefusedByWord c k when (TooFar limit) = (limit ≡ LAST_TICK) × (LAST_TICK < when)
ExtendRefusedByWord c k when e = (when ≤ LAST_TICK) × RefusedByWord c k e

-- a look is not refused by a word that has ended, which it shows
abbrev pub LookRefusedByWord : Sat → KeyName → CallError → Type 0
LookRefusedByWord c k (Ended how) = ⊥
LookRefusedByWord c k e = RefusedByWord c k e

-- The word that is seen agrees with the caller's own accepted calls: unless it is cancelled, its
-- deadline is before none that they asked for, and they cancelled nothing at its stamp. No call was
-- accepted at a later stamp.
abbrev pub AgreesWithCalls : Sat → KeyName → Type 0
AgreesWithCalls c k = Fair c.view.calls k.entry.index (word_seen c k)

-- at most n steps were made
abbrev pub StepsAtMost : ℕ → Sat → Sat → Type 0
StepsAtMost n c d = length d.view.steps ≤ length c.view.steps + n

-- how many cancels of the caller were accepted
abbrev pub cancels_of : Sat → ℕ
cancels_of c = cancels_in c.view.calls

-- what is left of a caller that was given back: its table, and all that it knew, with the step
-- that counts it as gone
abbrev pub IsGivenBack : Sat → Sat → Type 0
IsGivenBack c g = (g.table ≡ c.table) × (g.view ≡ giving_back c.view)

-- nothing is known yet: no step was made, no call accepted, nothing written, and nobody issued
abbrev pub KnowsNothing : Sat → Type 0
KnowsNothing c =
    (c.view.steps ≡ []) × (c.view.calls ≡ []) × (c.view.writes ≡ []) × (c.view.issued ≡ 0)

-- why no keeper is made: the capacity is out of its range, or else memory was refused
abbrev pub NoKeeperFor : ℕ → WordsError → Type 0
NoKeeperFor capacity BadConfig = (capacity ≡ 0) ⊎ (CAPACITY_LIMIT < capacity)
NoKeeperFor capacity NoMemory = (0 < capacity) × (capacity ≤ CAPACITY_LIMIT)
NoKeeperFor capacity (TooManyHandles limit) = ⊥

-- why no caller is issued: as many were as may be, or else memory was refused
abbrev pub NoCallerAfter : ℕ → WordsError → Type 0
NoCallerAfter issued (TooManyHandles limit) = (limit ≡ HANDLE_LIMIT) × (issued ≡ HANDLE_LIMIT)
NoCallerAfter issued NoMemory = issued < HANDLE_LIMIT
NoCallerAfter issued BadConfig = ⊥
