-- A plain row of words, which only its owner changes, and the calls by key on it.
use Rattle.std.specs.Prelude.{◌≡◌, ◌≢◌, ℕ, ◌+◌, ◌<◌, ◌≤◌, Bool, true, false, nat_lt, ◌&&◌, List}
use Rattle.std.specs.Prelude.{slice_set, length, ◌⊎◌, max, Result, Ok, Err, replicate}
use Rattle.std.specs.List.{sum_by, count_by}
use Rattle.dq_ticks.specs.declared.words.Parts.{Parts}
use Rattle.dq_ticks.specs.declared.words.Mark.{Mark}
use Rattle.dq_ticks.specs.declared.words.Mark.TheVariants.{LiveMark, CancelledMark, ExpiredMark}
use Rattle.dq_ticks.specs.declared.words.Mark.TheVariants.{RemovedMark}
use Rattle.dq_ticks.specs.declared.TheConstants.{CAPACITY_LIMIT, LAST_TICK, LAST_STAMP}
use Rattle.dq_ticks.specs.declared.keys.Key.{Key}
use Rattle.dq_core.specs.declared.errors.CoreError.{CoreError}
use Rattle.dq_core.specs.declared.errors.CoreError.TheVariants.{NoMemory, BadConfig}
use Rattle.dq_core.specs.declared.words.Look.{Look}
use Rattle.dq_core.specs.declared.words.CallError.{CallError}
use Rattle.dq_core.specs.declared.words.CallError.TheVariants.{TooFar, Unknown, Stale, Ended}
use Rattle.dq_core.specs.Words.{Counts, never, live, cancelled, word_at, look_by}

-- the words, and its keeper's own writes
pub record WordRow : Type 0 where
  pub known : List Parts
  pub counts : Counts

-- a row of words that were never used
abbrev pub new_row : ℕ → WordRow
new_row capacity =
    record {
      known = replicate capacity never;
      counts = record { begins = 0; expiries = 0; removals = 0 };
    }

-- the numbers of a capacity
abbrev pub IsCapacity : ℕ → Type 0
IsCapacity n = (0 < n) × (n ≤ CAPACITY_LIMIT)

-- why no row is made: BadConfig exactly where the capacity is none
abbrev pub RowRefused : ℕ → CoreError → Type 0
RowRefused capacity BadConfig = ¬ IsCapacity capacity
RowRefused capacity NoMemory = IsCapacity capacity
RowRefused capacity e = ⊥

-- how a row is made
abbrev pub IsMadeRow : ℕ → Result WordRow CoreError → Type 0
IsMadeRow capacity (Ok w) = IsCapacity capacity × (w ≡ new_row capacity)
IsMadeRow capacity (Err e) = RowRefused capacity e

-- the mark of a word that is live
abbrev pub is_live : Mark → Bool
is_live LiveMark = true
is_live CancelledMark = false
is_live ExpiredMark = false
is_live RemovedMark = false

-- a word that was begun and has not ended
abbrev pub is_going : Parts → Bool
is_going w = is_live w.mark && nat_lt 0 w.stamp

-- how the counts go with the words
pub record IsWordRow (known : List Parts) (counts : Counts) : Type 0 where
  pub capacity : length known ≤ CAPACITY_LIMIT
  pub bounds : (i : ℕ) → i < length known → (word_at known i).stamp ≤ LAST_STAMP
  pub begun : counts.begins ≤ sum_by (λ w. w.stamp) known
  pub ended : counts.expiries + counts.removals + count_by is_going known ≤ counts.begins

-- the word that a key names is live at the key's stamp
abbrev pub IsCallable : List Parts → Key → Type 0
IsCallable ws k =
    (k.entry.index < length ws) × (0 < k.stamp)
    × (word_at ws k.entry.index ≡ live k.stamp (word_at ws k.entry.index).field)

-- why a call by key is refused
abbrev pub CallRefused : List Parts → Key → CallError → Type 0
CallRefused ws k Unknown =
    (length ws ≤ k.entry.index) ⊎ ((k.stamp ≡ 0) ⊎ ((word_at ws k.entry.index).stamp < k.stamp))
CallRefused ws k (Stale seen) =
    (k.entry.index < length ws) × (0 < k.stamp) × (seen ≡ (word_at ws k.entry.index).stamp)
    × (k.stamp < seen)
CallRefused ws k (Ended how) =
    (k.entry.index < length ws) × (0 < k.stamp) × ((word_at ws k.entry.index).stamp ≡ k.stamp)
    × ((word_at ws k.entry.index).mark ≢ LiveMark)
    × (how ≡ look_by (word_at ws k.entry.index).mark (word_at ws k.entry.index).field)
CallRefused ws k (TooFar limit) = ⊥

-- why an extend is refused: first by its deadline, then by its key
abbrev pub ExtendRefused : List Parts → Key → ℕ → CallError → Type 0
ExtendRefused ws k when (TooFar limit) = (limit ≡ LAST_TICK) × (LAST_TICK < when)
ExtendRefused ws k when e = (when ≤ LAST_TICK) × CallRefused ws k e

-- why a look is refused: a word that ended is shown, not refused
abbrev pub LookRefused : List Parts → Key → CallError → Type 0
LookRefused ws k (Ended how) = ⊥
LookRefused ws k e = CallRefused ws k e

-- the words after an extend to d
abbrev pub extended : List Parts → Key → ℕ → List Parts
extended ws k d = slice_set ws k.entry.index (live k.stamp d)

-- the words after a cancel
abbrev pub given_up : List Parts → Key → List Parts
given_up ws k = slice_set ws k.entry.index (cancelled k.stamp)

-- an extend of a live word raises its deadline to `when`, where it is lower, and answers the
-- deadline in force
abbrev pub IsExtend : WordRow → Key → ℕ → Result ℕ CallError → WordRow → Type 0
IsExtend b k when (Ok d) c =
    (when ≤ LAST_TICK) × IsCallable b.known k × (d ≡ max when (word_at b.known k.entry.index).field)
    × (c ≡ record { known = extended b.known k d; counts = b.counts })
IsExtend b k when (Err e) c = ExtendRefused b.known k when e × (c ≡ b)

-- a cancel of a live word answers the deadline that is given up
abbrev pub IsCancel : WordRow → Key → Result ℕ CallError → WordRow → Type 0
IsCancel b k (Ok d) c =
    IsCallable b.known k × (d ≡ (word_at b.known k.entry.index).field)
    × (c ≡ record { known = given_up b.known k; counts = b.counts })
IsCancel b k (Err e) c = CallRefused b.known k e × (c ≡ b)

-- a look shows the word of the key's stamp
abbrev pub IsLook : List Parts → Key → Result Look CallError → Type 0
IsLook ws k (Ok l) =
    (k.entry.index < length ws) × (0 < k.stamp) × ((word_at ws k.entry.index).stamp ≡ k.stamp)
    × (l ≡ look_by (word_at ws k.entry.index).mark (word_at ws k.entry.index).field)
IsLook ws k (Err e) = LookRefused ws k e

-- the word that a key names, of the key's stamp
abbrev pub IsNamed : List Parts → Key → Result Parts CallError → Type 0
IsNamed ws k (Ok w) =
    (k.entry.index < length ws) × (0 < k.stamp) × (w ≡ word_at ws k.entry.index)
    × (w.stamp ≡ k.stamp)
IsNamed ws k (Err e) = LookRefused ws k e
