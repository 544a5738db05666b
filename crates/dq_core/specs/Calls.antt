-- What each call of a queue does, and why it is refused.
use Rattle.std.specs.Prelude.{max, ◌≡◌, ◌≢◌, ℕ, ◌+◌, ◌-◌, ◌<◌, ◌≤◌, ◌⊎◌, Bool, List, [], Option}
use Rattle.std.specs.Prelude.{Some, None, Result, Ok, Err, length, replicate, slice_set, IfSome}
use Rattle.std.specs.List.{count_by, sum_by}
use Rattle.dq_wheel.specs.State.{Filing, WheelState, filed_at, linked, unlinked, fresh_filing}
use Rattle.dq_wheel.specs.Wakes.{IsNextWake}
use Rattle.dq_ticks.specs.declared.TheConstants.{CAPACITY_LIMIT, LAST_TICK, LAST_STAMP}
use Rattle.dq_ticks.specs.declared.words.Parts.{Parts}
use Rattle.dq_ticks.specs.declared.words.Mark.TheVariants.{LiveMark}
use Rattle.dq_ticks.specs.declared.keys.Key.{Key}
use Rattle.dq_ticks.specs.declared.keys.EntryId.{EntryId}
use Rattle.dq_core.specs.declared.slots.Held.{Held}
use Rattle.dq_core.specs.declared.errors.CoreConfig.{CoreConfig}
use Rattle.dq_core.specs.declared.errors.CoreError.{CoreError}
use Rattle.dq_core.specs.declared.errors.CoreError.TheVariants.{TooFar, Full, Missing, WasCancelled}
use Rattle.dq_core.specs.declared.errors.CoreError.TheVariants.{Worn, TickTooLarge, BadConfig}
use Rattle.dq_core.specs.declared.errors.CoreError.TheVariants.{NoMemory}
use Rattle.dq_core.specs.declared.outcomes.Turn.{Turn}
use Rattle.dq_core.specs.declared.outcomes.Turn.TheVariants.{Out, Waiting, Idle}
use Rattle.dq_core.specs.declared.outcomes.Progress.{Progress}
use Rattle.dq_core.specs.declared.outcomes.Progress.TheVariants.{Gave, Went, Rests}
use Rattle.dq_core.specs.declared.outcomes.Expired.{Expired}
use Rattle.dq_core.specs.declared.outcomes.Removed.{Removed}
use Rattle.dq_core.specs.declared.words.Settled.TheVariants.{SettledExpired}
use Rattle.dq_core.specs.Words.{Counts, Learned, live, cancelled, expired, removed, word_at}
use Rattle.dq_core.specs.Words.{begun_counts, settled_counts, finished_counts}
use Rattle.dq_core.specs.Slots.{DeferredValues, is_held, is_worn, unused, row_at, filled, vacated}
use Rattle.dq_core.specs.Slots.{raised}
use Rattle.dq_core.specs.Machine.{Entry, Machine, Note, Insert, Reset, Remove, Expire, Step, RunOf}
use Rattle.dq_core.specs.Machine.{Callers, Has, table_at, IsOnTheWay, NoneLiveBefore, NoneLinked}
use Rattle.dq_core.specs.Machine.{due}
use Rattle.dq_core.specs.Core.{Core, machine, filing_for}
use Rattle.dq_core.specs.WheelWays.{WheelGoes}

-- what stays the same of a queue in each call
abbrev pub SameCore : {T W : Type 0} → Core T W → Core T W → Type 0
SameCore b c =
    (c.shard ≡ b.shard) × (c.slots.last_stamp ≡ b.slots.last_stamp)
    × (length c.slots.rows ≡ length b.slots.rows)

-- the base of an entry: the deadline that was asked for, raised to the wheel's tick
abbrev pub base_for : {T W : Type 0} → Core T W → ℕ → ℕ
base_for b when = max when b.wheel.filing.tick

-- where an entry with that base is filed
abbrev pub file_for : {T W : Type 0} → Core T W → ℕ → ℕ
file_for b when = filing_for b.wheel.filing.tick (base_for b when)

-- what the keeper knows of each word may grow by what it learns
abbrev pub LooksOver : Bool → List Parts → List Parts → Type 0
LooksOver shared old new =
    (length new ≡ length old) × ((i : ℕ) → Learned shared (word_at old i) (word_at new i))

-- the keeper looked at one word, and nothing changed but what it learned of it
pub record IsLookedAt {T W : Type 0} (shared : Bool) (b : Core T W) (i : ℕ) (v : Parts)
    (c : Core T W) : Type 0 where
  pub learned : Learned shared (word_at b.known i) v
  pub known : c.known ≡ slice_set b.known i v
  pub callers : Callers shared b.slots.last_stamp (machine b) (machine c)
  pub shard : c.shard ≡ b.shard
  pub noted : c.noted ≡ b.noted
  pub wheel : c.wheel ≡ b.wheel
  pub slots : c.slots ≡ b.slots
  pub counts : c.counts ≡ b.counts

-- new

-- a new queue: nothing is noted, no slot was used
abbrev pub new_core : {T W : Type 0} →
    ℕ → ℕ → ℕ → WheelState → DeferredValues T → List Parts → Counts → W → Core T W
new_core shard capacity last wheel deferred known counts words =
    record {
      shard = shard;
      noted = 0;
      wheel = wheel;
      slots = record { last_stamp = last; rows = replicate capacity unused };
      deferred = deferred;
      known = known;
      counts = counts;
      words = words;
    }

-- the numbers of a configuration, for that many words
abbrev pub IsConfig : ℕ → ℕ → ℕ → Type 0
IsConfig capacity last rows =
    (0 < capacity) × (capacity ≤ CAPACITY_LIMIT) × (0 < last) × (last ≤ LAST_STAMP)
    × (rows ≡ capacity)

-- why no queue is made: BadConfig exactly where a number is out of range
abbrev pub NewRefused : ℕ → ℕ → ℕ → CoreError → Type 0
NewRefused capacity last rows BadConfig = ¬ IsConfig capacity last rows
NewRefused capacity last rows NoMemory = IsConfig capacity last rows
NewRefused capacity last rows e = ⊥

-- a queue over those words, or its refusal, which hands the words back
abbrev pub IsMade : {T W : Type 0} →
    CoreConfig → W → List Parts → Counts → Result (Core T W) (CoreError × W) → Type 0
IsMade config words known counts (Ok c) =
    IsConfig config.capacity config.last_stamp (length known)
    × (c.wheel.filing ≡ fresh_filing config.capacity)
    × (c ≡ new_core config.shard config.capacity config.last_stamp c.wheel c.deferred known counts
    words)
IsMade config words known counts (Err e) =
    NewRefused config.capacity config.last_stamp (length known) e.0 × (e.1 ≡ words)

-- insert

-- a new entry at a free slot, under the slot's next stamp, live at its base
pub record IsInserted {T W : Type 0} (b : Core T W) (v : T) (when : ℕ) (k : Key) (c : Core T W)
    : Type 0 where
  pub accepted : when ≤ LAST_TICK
  pub step : Step b.slots.last_stamp (machine b) (Insert k.entry.index v when) (machine c)
  pub stamp : (table_at (machine c) k.entry.index).stamp ≡ k.stamp
  pub born : k.entry.born ≡ k.stamp
  pub shard : k.entry.shard ≡ b.shard
  pub filed : c.wheel.filing ≡ linked b.wheel.filing k.entry.index (file_for b when)
  pub slots : c.slots ≡ filled b.slots k.entry.index v
  pub known : c.known ≡ slice_set b.known k.entry.index (live k.stamp (base_for b when))
  pub counts : c.counts ≡ begun_counts b.counts
  pub same_shard : c.shard ≡ b.shard
  pub noted : c.noted ≡ b.noted

-- why an insert is refused: first by its deadline, then for want of a free slot
abbrev pub InsertRefused : {T W : Type 0} → Core T W → ℕ → CoreError → Type 0
InsertRefused b when (TooFar limit) = (limit ≡ LAST_TICK) × (LAST_TICK < when)
InsertRefused b when (Full linked worn) =
    (when ≤ LAST_TICK) × (linked ≡ count_by is_held b.slots.rows)
    × (worn ≡ count_by (is_worn b.slots.last_stamp) b.slots.rows)
    × (linked + worn ≡ length b.slots.rows)
InsertRefused b when e = ⊥

-- an insert, or its refusal, which hands the value back and changes nothing
abbrev pub Inserts : {T W : Type 0} →
    Core T W → T → ℕ → Result Key (CoreError × T) → Core T W → Type 0
Inserts b v when (Ok k) c = IsInserted b v when k c
Inserts b v when (Err e) c = InsertRefused b when e.0 × (e.1 ≡ v) × (c ≡ b)

-- where an entry is linked, and where it is missing

-- an entry is linked with that shard, index and birth stamp
abbrev pub IsLinked : {T W : Type 0} → Core T W → EntryId → Type 0
IsLinked {T} b id =
    (id.shard ≡ b.shard) × ((e : Entry T) × Has (machine b) id.index e × (e.born ≡ id.born))

-- no entry is linked with that shard, index and birth stamp
abbrev pub IsMissing : {T W : Type 0} → Core T W → EntryId → Type 0
IsMissing {T} b id =
    id.shard ≡ b.shard → (e : Entry T) → (table_at (machine b) id.index).entry ≡ Some e →
    e.born ≢ id.born

-- where an entry is held
abbrev pub IsFound : {T W : Type 0} → Core T W → EntryId → ℕ → Type 0
IsFound {T} b id i =
    (id.shard ≡ b.shard) × (i ≡ id.index) × (i < length b.slots.rows)
    × ((h : Held T) × ((row_at b.slots.rows i).held ≡ Some h) × (h.born ≡ id.born))

-- a search for an entry: where it is held, none exactly where it is missing
abbrev pub IsFind : {T W : Type 0} → Core T W → EntryId → Option ℕ → Type 0
IsFind b id (Some i) = IsFound b id i
IsFind b id None = IsMissing b id

-- the entry is linked and cancelled
abbrev pub IsCancelledEntry : {T : Type 0} → Machine T → EntryId → Type 0
IsCancelledEntry {T} m id = (e : Entry T) × Has m id.index e × (e.born ≡ id.born) × (e.due ≡ None)

-- the entry is linked and live, with that deadline in force
abbrev pub IsLiveEntry : {T : Type 0} → Machine T → EntryId → ℕ → Type 0
IsLiveEntry {T} m id d = (e : Entry T) × Has m id.index e × (e.born ≡ id.born) × (e.due ≡ Some d)

-- the entry's word was looked at, and is cancelled
pub record IsFoundCancelled {T W : Type 0} (shared : Bool) (b : Core T W) (id : EntryId)
    (c : Core T W) : Type 0 where
  pub shard : id.shard ≡ b.shard
  pub looked : IsLookedAt shared b id.index (cancelled (row_at b.slots.rows id.index).stamp) c
  pub entry : IsCancelledEntry (machine c) id

-- the entry's word was looked at, and is live at d
pub record IsFoundLive {T W : Type 0} (shared : Bool) (b : Core T W) (id : EntryId) (d : ℕ)
    (c : Core T W) : Type 0 where
  pub shard : id.shard ≡ b.shard
  pub looked : IsLookedAt shared b id.index (live (row_at b.slots.rows id.index).stamp d) c
  pub entry : IsLiveEntry (machine c) id d

-- remove

-- a live entry leaves the table, with its key of the present stamp, its deadline in force and its
-- value
pub record IsRemoved {T W : Type 0} (shared : Bool) (b : Core T W) (id : EntryId) (x : Removed T)
    (c : Core T W) : Type 0 where
  pub shard : id.shard ≡ b.shard
  pub key : x.key.entry ≡ id
  pub run :
      (m : Machine T) × Callers shared b.slots.last_stamp (machine b) m
      × Step b.slots.last_stamp m (Remove id.index id.born) (machine c)
      × Has m id.index (record { born = id.born; value = x.value; due = Some x.deadline })
      × ((table_at m id.index).stamp ≡ x.key.stamp)
  pub learned : Learned shared (word_at b.known id.index) (live x.key.stamp x.deadline)
  pub known : c.known ≡ slice_set b.known id.index (removed x.key.stamp x.deadline)
  pub counts : c.counts ≡ finished_counts b.counts (Some x.deadline)
  pub filed : c.wheel.filing ≡ unlinked b.wheel.filing id.index
  pub slots : c.slots ≡ vacated b.slots id.index
  pub same_shard : c.shard ≡ b.shard
  pub noted : c.noted ≡ b.noted

-- why an entry isn't there to be removed or looked at, and what is left then
abbrev pub FindRefused : {T W : Type 0} → Bool → Core T W → EntryId → CoreError → Core T W → Type 0
FindRefused shared b id Missing c = IsMissing b id × (c ≡ b)
FindRefused shared b id WasCancelled c = IsFoundCancelled shared b id c
FindRefused shared b id e c = ⊥

-- a remove, or its refusal
abbrev pub Removes : {T W : Type 0} →
    Bool → Core T W → EntryId → Result (Removed T) CoreError → Core T W → Type 0
Removes shared b id (Ok x) c = IsRemoved shared b id x c
Removes shared b id (Err e) c = FindRefused shared b id e c

-- reset

-- a live entry gets the slot's next stamp and another base
pub record IsReset {T W : Type 0} (shared : Bool) (b : Core T W) (id : EntryId) (when : ℕ) (k : Key)
    (c : Core T W) : Type 0 where
  pub accepted : when ≤ LAST_TICK
  pub shard : id.shard ≡ b.shard
  pub key : k.entry ≡ id
  pub run :
      (m : Machine T) × Callers shared b.slots.last_stamp (machine b) m
      × Step b.slots.last_stamp m (Reset id.index id.born when) (machine c)
  pub stamp : (table_at (machine c) id.index).stamp ≡ k.stamp
  pub learned :
      (d : ℕ)
      × Learned shared (word_at b.known id.index) (live (row_at b.slots.rows id.index).stamp d)
  pub known : c.known ≡ slice_set b.known id.index (live k.stamp (base_for b when))
  pub counts : c.counts ≡ b.counts
  pub filed : c.wheel.filing ≡ linked b.wheel.filing id.index (file_for b when)
  pub slots : c.slots ≡ raised b.slots id.index
  pub same_shard : c.shard ≡ b.shard
  pub noted : c.noted ≡ b.noted

-- why a reset is refused, in this order, and what is left then
abbrev pub ResetRefused : {T W : Type 0} →
    Bool → Core T W → EntryId → ℕ → CoreError → Core T W → Type 0
ResetRefused shared b id when (TooFar limit) c = (limit ≡ LAST_TICK) × (LAST_TICK < when) × (c ≡ b)
ResetRefused shared b id when Missing c = (when ≤ LAST_TICK) × IsMissing b id × (c ≡ b)
ResetRefused shared b id when WasCancelled c = (when ≤ LAST_TICK) × IsFoundCancelled shared b id c
ResetRefused shared b id when Worn c =
    (when ≤ LAST_TICK) × ((d : ℕ) × IsFoundLive shared b id d c)
    × ((row_at b.slots.rows id.index).stamp ≡ b.slots.last_stamp)
ResetRefused shared b id when e c = ⊥

-- a reset, or its refusal
abbrev pub Resets : {T W : Type 0} →
    Bool → Core T W → EntryId → ℕ → Result Key CoreError → Core T W → Type 0
Resets shared b id when (Ok k) c = IsReset shared b id when k c
Resets shared b id when (Err e) c = ResetRefused shared b id when e c

-- deadline

-- the deadline in force of a live entry, as it is known after the call
abbrev pub TellsDeadline : {T W : Type 0} →
    Bool → Core T W → EntryId → Result ℕ CoreError → Core T W → Type 0
TellsDeadline shared b id (Ok d) c = IsFoundLive shared b id d c
TellsDeadline shared b id (Err e) c = FindRefused shared b id e c

-- a remove of what is due by a tick: or the entry's deadline in force is later, or a refusal
abbrev pub RemovesIfDue : {T W : Type 0} →
    Bool → Core T W → EntryId → ℕ → Result (Option (Removed T)) CoreError → Core T W → Type 0
RemovesIfDue shared b id tick (Ok (Some x)) c = (x.deadline ≤ tick) × IsRemoved shared b id x c
RemovesIfDue shared b id tick (Ok None) c = (d : ℕ) × (tick < d) × IsFoundLive shared b id d c
RemovesIfDue shared b id tick (Err e) c = FindRefused shared b id e c

-- poll

-- an entry left the machine, expired at its deadline in force, with its key of the present stamp
-- and its value
abbrev pub IsLeft : {T : Type 0} → ℕ → Machine T → ℕ → ℕ → ℕ → ℕ → T → Machine T → Type 0
IsLeft last m index born stamp at value n =
    Step last m (Expire index born at) n
    × Has m index (record { born = born; value = value; due = Some at })
    × ((table_at m index).stamp ≡ stamp)

-- what came out is the entry that the machine expires there
abbrev pub IsOut : {T : Type 0} → ℕ → ℕ → Machine T → Expired T → Machine T → Type 0
IsOut shard last m x n =
    IsLeft last m x.key.entry.index x.key.entry.born x.key.stamp x.deadline x.value n
    × (x.key.entry.shard ≡ shard)
    × (x.noted ≡ n.noted)

-- how a poll ends: with an entry that expires; or with no live entry whose deadline is at most the
-- noted tick, at which the wheel then stands: it is idle where nothing is linked, and else it waits
-- for a tick after the noted one
abbrev pub IsTurn : {T : Type 0} → ℕ → ℕ → Machine T → Turn T → Machine T → Filing → Type 0
IsTurn shard last m (Out x) n w = IsOut shard last m x n
IsTurn shard last m (Waiting next) n w =
    (n ≡ m) × (n.tick ≡ n.noted) × (due n n.noted ≡ []) × IsNextWake w.tick w.filed next
    × (n.noted < next)
IsTurn shard last m Idle n w = (n ≡ m) × (n.tick ≡ n.noted) × (due n n.noted ≡ []) × NoneLinked n

-- the counts after a poll: one expiry more where an entry came out
abbrev pub turn_counts : {T : Type 0} → Counts → Turn T → Counts
turn_counts c (Out x) = settled_counts c SettledExpired
turn_counts c (Waiting next) = c
turn_counts c Idle = c

-- what is known after a poll: what was learned, and that the word of the entry that came out is
-- expired
abbrev pub TurnRow : {T : Type 0} → Bool → List Parts → Turn T → List Parts → Type 0
TurnRow shared old (Out x) new =
    (mid : List Parts) × LooksOver shared old mid
    × (word_at mid x.key.entry.index ≡ live x.key.stamp x.deadline)
    × (new ≡ slice_set mid x.key.entry.index (expired x.key.stamp x.deadline))
TurnRow shared old (Waiting next) new = LooksOver shared old new
TurnRow shared old Idle new = LooksOver shared old new

-- how an index is filed after a poll: as before, with its word as it was known; nowhere; or by its
-- known deadline, at a tick that the poll passed
abbrev pub IsFiledOver : Filing → List Parts → Filing → List Parts → ℕ → Type 0
IsFiledOver v old w new i =
    ((filed_at w.filed i ≡ filed_at v.filed i) × (word_at new i ≡ word_at old i))
    ⊎ ((filed_at w.filed i ≡ None)
    ⊎ ((t : ℕ) × (v.tick ≤ t) × (t ≤ w.tick) × ((word_at new i).mark ≡ LiveMark)
    × (filed_at w.filed i ≡ Some (filing_for t (word_at new i).field))))

-- the way of a poll from one queue to another
pub record IsUnderWay {T W : Type 0} (shared : Bool) (b c : Core T W) : Type 0 where
  pub way : RunOf (IsOnTheWay shared) b.slots.last_stamp (machine b) (machine c)
  pub looks : LooksOver shared b.known c.known
  pub wheel : WheelGoes shared b.known b.noted b.wheel.filing c.wheel.filing
  pub ticks : b.wheel.filing.tick ≤ c.wheel.filing.tick
  pub filed : (i : ℕ) → IsFiledOver b.wheel.filing b.known c.wheel.filing c.known i
  pub counts : c.counts ≡ b.counts

-- the way of a poll to an answer
pub record IsAnswered {T W : Type 0} (shared : Bool) (b : Core T W) (turn : Turn T) (c : Core T W)
    : Type 0 where
  pub run :
      (m : Machine T) × RunOf (IsOnTheWay shared) b.slots.last_stamp (machine b) m
      × IsTurn b.shard b.slots.last_stamp m turn (machine c) c.wheel.filing
  pub row : TurnRow shared b.known turn c.known
  pub wheel : WheelGoes shared b.known b.noted b.wheel.filing c.wheel.filing
  pub ticks : b.wheel.filing.tick ≤ c.wheel.filing.tick
  pub filed : (i : ℕ) → IsFiledOver b.wheel.filing b.known c.wheel.filing c.known i
  pub counts : c.counts ≡ turn_counts b.counts turn

-- how much work a poll may have with an index that is filed so
abbrev pub cost : Option ℕ → ℕ
cost None = 0
cost (Some f) = LAST_TICK + 1 - f

-- how much work is left to a poll: that with all indexes, and the ticks up to the noted one
abbrev pub work : {T W : Type 0} → Core T W → ℕ
work c = sum_by cost c.wheel.filing.filed + (c.noted - c.wheel.filing.tick)

-- what one step of a poll does
abbrev pub IsProgress : {T W : Type 0} → Bool → Core T W → Progress T → Core T W → Type 0
IsProgress shared b (Gave x) c = IsAnswered shared b (Out x) c
IsProgress shared b Went c = IsUnderWay shared b c × (work c < work b)
IsProgress shared b Rests c =
    (c ≡ b) × (c.wheel.filing.tick ≡ c.noted) × NoneLiveBefore (machine c) (c.noted + 1)
    × ((i : ℕ) → filed_at c.wheel.filing.filed i ≢ Some c.wheel.filing.tick)

-- a queue with a greater tick noted
abbrev pub noting : {T W : Type 0} → Core T W → ℕ → Core T W
noting c t = record c { noted = max c.noted t }

-- a poll notes its tick and goes its way to its answer
abbrev pub IsPolled : {T W : Type 0} → Bool → Core T W → ℕ → Turn T → Core T W → Type 0
IsPolled shared b tick turn c =
    (tick ≤ LAST_TICK) × Step b.slots.last_stamp (machine b) (Note tick) (machine (noting b tick))
    × IsAnswered shared (noting b tick) turn c × (c.noted ≡ max b.noted tick)

-- a poll, or its refusal: exactly beyond the last tick, and then nothing changes
abbrev pub Polls : {T W : Type 0} →
    Bool → Core T W → ℕ → Result (Turn T) CoreError → Core T W → Type 0
Polls shared b tick (Ok turn) c = IsPolled shared b tick turn c
Polls shared b tick (Err e) c = (e ≡ TickTooLarge LAST_TICK) × (LAST_TICK < tick) × (c ≡ b)

-- the next wake: none where nothing is linked
abbrev pub TellsWake : {T W : Type 0} → Core T W → Option ℕ → Type 0
TellsWake c None = NoneLinked (machine c)
TellsWake c (Some w) = IsNextWake c.wheel.filing.tick c.wheel.filing.filed w

-- where nothing is filed at the wheel's tick, the next wake is after it
abbrev pub WakesAhead : {T W : Type 0} → Core T W → Option ℕ → Type 0
WakesAhead c wake =
    ((i : ℕ) → filed_at c.wheel.filing.filed i ≢ Some c.wheel.filing.tick)
    → IfSome wake (λ w. c.wheel.filing.tick < w)
