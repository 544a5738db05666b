-- What the keeper of a row of words knows, and how it may come to know more.
use Rattle.std.specs.Prelude.{◌≡◌, ◌≢◌, ℕ, ◌+◌, ◌<◌, ◌≤◌, Bool, true, List, Option, Some, None}
use Rattle.std.specs.Prelude.{slice_index_or, length, replicate, ◌⊎◌}
use Rattle.dq_ticks.specs.declared.words.Parts.{Parts}
use Rattle.dq_ticks.specs.declared.words.Mark.{Mark}
use Rattle.dq_ticks.specs.declared.words.Mark.TheVariants.{LiveMark, CancelledMark, ExpiredMark}
use Rattle.dq_ticks.specs.declared.words.Mark.TheVariants.{RemovedMark}
use Rattle.dq_ticks.specs.declared.TheConstants.{LAST_TICK}
use Rattle.dq_core.specs.declared.words.Look.{Look}
use Rattle.dq_core.specs.declared.words.Look.TheVariants.{StillLive, LookCancelled, LookExpired}
use Rattle.dq_core.specs.declared.words.Look.TheVariants.{LookRemoved}
use Rattle.dq_core.specs.declared.words.Settled.{Settled}
use Rattle.dq_core.specs.declared.words.Settled.TheVariants.{SettledExpired, Later}
use Rattle.dq_core.specs.declared.words.Settled.TheVariants.{SettledCancelled}

-- how often the keeper has begun a word, and ended one as expired or removed
pub record Counts : Type 0 where
  pub begins : ℕ
  pub expiries : ℕ
  pub removals : ℕ

-- the live word of stamp s, with the deadline in force d
abbrev pub live : ℕ → ℕ → Parts
live s d = record { stamp = s; mark = LiveMark; field = d }

-- the cancelled word of stamp s
abbrev pub cancelled : ℕ → Parts
cancelled s = record { stamp = s; mark = CancelledMark; field = 0 }

-- the word of stamp s that expired at d
abbrev pub expired : ℕ → ℕ → Parts
expired s d = record { stamp = s; mark = ExpiredMark; field = d }

-- the word of stamp s that was removed while d was in force
abbrev pub removed : ℕ → ℕ → Parts
removed s d = record { stamp = s; mark = RemovedMark; field = d }

-- the word of a slot that was never used
abbrev pub never : Parts
never = live 0 0

-- the known word of a slot
abbrev pub word_at : List Parts → ℕ → Parts
word_at ws i = slice_index_or ws i never

-- nothing is linked under the word
abbrev pub IsOver : Parts → Type 0
IsOver w = (w ≡ never) ⊎ (w.mark ≢ LiveMark)

-- the word of a linked entry: live at a deadline that is not before f, or cancelled
abbrev pub IsInForce : ℕ → ℕ → Parts → Type 0
IsInForce s f w =
    (0 < s) × (((w ≡ live s w.field) × (f ≤ w.field) × (w.field ≤ LAST_TICK)) ⊎ (w ≡ cancelled s))

-- what the keeper may learn of a word that it knew as w: nothing new where nobody shares it,
-- else that a live word was extended or cancelled
abbrev pub Learned : Bool → Parts → Parts → Type 0
Learned shared w v =
    (v ≡ w)
    ⊎ ((shared ≡ true) × (w.mark ≡ LiveMark)
    × (((v ≡ live w.stamp v.field) × (w.field ≤ v.field) × (v.field ≤ LAST_TICK))
    ⊎ (v ≡ cancelled w.stamp)))

-- how a word was settled, from what was known to what is known
abbrev pub IsSettled : Bool → ℕ → ℕ → Parts → Settled → Parts → Type 0
IsSettled shared s at w SettledExpired v = (w ≡ live s at) × (v ≡ expired s at)
IsSettled shared s at w (Later d) v = (at < d) × (v ≡ live s d) × Learned shared w v
IsSettled shared s at w SettledCancelled v = (v ≡ cancelled s) × Learned shared w v

-- how a live word was changed to another, or was found cancelled
abbrev pub IsChanged : Bool → ℕ → (ℕ → Parts) → Parts → Option ℕ → Parts → Type 0
IsChanged shared s into w (Some d) v = Learned shared w (live s d) × (v ≡ into d)
IsChanged shared s into w None v = Learned shared w (cancelled s) × (v ≡ cancelled s)

-- how a live word was removed by a tick: or it is live until a later one, or was found cancelled
abbrev pub IsFinishedBy : Bool → ℕ → ℕ → Parts → Look → Parts → Type 0
IsFinishedBy shared s tick w (LookRemoved d) v =
    (d ≤ tick) × IsChanged shared s (removed s) w (Some d) v
IsFinishedBy shared s tick w (StillLive d) v = (tick < d) × IsChanged shared s (live s) w (Some d) v
IsFinishedBy shared s tick w LookCancelled v = IsChanged shared s (removed s) w None v
IsFinishedBy shared s tick w (LookExpired d) v = ⊥

-- the deadline that was in force as the word was removed
abbrev pub removed_at : Look → Option ℕ
removed_at (LookRemoved d) = Some d
removed_at look = None

-- the counts with one begin more
abbrev pub begun_counts : Counts → Counts
begun_counts c = record c { begins = c.begins + 1 }

-- the counts with one expiry more, where a word expired
abbrev pub settled_counts : Counts → Settled → Counts
settled_counts c SettledExpired = record c { expiries = c.expiries + 1 }
settled_counts c (Later d) = c
settled_counts c SettledCancelled = c

-- the counts with one removal more, where a word was removed
abbrev pub finished_counts : Counts → Option ℕ → Counts
finished_counts c (Some d) = record c { removals = c.removals + 1 }
finished_counts c None = c

-- what was begun is still said to be begun
abbrev pub StillBegun : {W : Type 0} → (W → ℕ → ℕ → ℕ → Type 0) → W → W → Type 0
StillBegun begun old new = (i s d : ℕ) → begun old i s d → begun new i s d

-- words that nobody has used
abbrev pub AreFresh : List Parts → Counts → Type 0
AreFresh known counts =
    (known ≡ replicate (length known) never)
    × (counts ≡ record { begins = 0; expiries = 0; removals = 0 })

-- what the mark and the field of a word show
abbrev pub look_by : Mark → ℕ → Look
look_by LiveMark d = StillLive d
look_by CancelledMark d = LookCancelled
look_by ExpiredMark d = LookExpired d
look_by RemovedMark d = LookRemoved d
