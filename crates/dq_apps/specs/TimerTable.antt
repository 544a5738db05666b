-- No public clause cites this module.
-- The timers of keys: the slots of a queue in which no entry is cancelled.
use Rattle.std.specs.Prelude.{◌≡◌, ◌≢◌, ℕ, ◌+◌, ◌<◌, ◌≤◌, Bool, List, Option, Some, None, Result}
use Rattle.std.specs.Prelude.{Ok}
use Rattle.std.specs.Prelude.{Err, replicate, slice_index_or, slice_set, length, nat_lt, ◌&&◌}
use Rattle.std.specs.Prelude.{not, is_some, is_none}
use Rattle.std.specs.List.{count_by}
use Rattle.dq_wheel.specs.State.{filed_at}
use Rattle.dq_wheel.specs.Wakes.{wake_for}
use Rattle.dq_ticks.specs.Keys.{KeyName}
use Rattle.dq_ticks.specs.declared.TheConstants.{LAST_TICK}
use Rattle.dq_core.specs.declared.errors.CoreError.{CoreError}
use Rattle.dq_core.specs.Machine.{Entry, TableRow}
use Rattle.dq_core.specs.Words.{word_at}
use Rattle.dq_core.specs.Core.{Core, machine, filing_for}
use Rattle.dq_apps.specs.Setting.{IsSetting, SettingRefused}

-- the last stamp of a slot, the greatest noted tick, and the slots: each with its present stamp and
-- the timer there
pub record TimerTable (K : Type 0) : Type 0 where
  pub last_stamp : ℕ
  pub noted : ℕ
  pub slots : List (TableRow K)

-- a slot that was never used
abbrev pub unset : {K : Type 0} → TableRow K
unset = record { stamp = 0; entry = None }

-- the slot at an index; past the last one, one that was never used
abbrev pub timer_at : {K : Type 0} → List (TableRow K) → ℕ → TableRow K
timer_at slots i = slice_index_or slots i unset

-- a timer of a key, which runs to a deadline
abbrev pub running : {K : Type 0} → ℕ → K → ℕ → Option (Entry K)
running born key deadline = Some (record { born = born; value = key; due = Some deadline })

-- every timer runs: none is cancelled
abbrev pub AllRun : {K : Type 0} → List (TableRow K) → Type 0
AllRun {K} slots =
    (i : ℕ) (e : Entry K) → (timer_at slots i).entry ≡ Some e → (d : ℕ) × (e.due ≡ Some d)

-- no slot's stamp is beyond the last one
abbrev pub AreWithin : {K : Type 0} → ℕ → List (TableRow K) → Type 0
AreWithin last slots = (i : ℕ) → (timer_at slots i).stamp ≤ last

-- no timer's deadline is beyond the last tick
abbrev pub AreInRange : {K : Type 0} → List (TableRow K) → Type 0
AreInRange {K} slots =
    (i born : ℕ) (key : K) (d : ℕ) → (timer_at slots i).entry ≡ running born key d → d ≤ LAST_TICK

-- a key of the queue names the timer of a key of the cache
pub record IsRunning {K : Type 0} (slots : List (TableRow K)) (k : KeyName) (key : K) (d : ℕ)
    : Type 0 where
  pub shard : k.entry.shard ≡ 0
  pub inside : k.entry.index < length slots
  pub timer :
      timer_at slots k.entry.index ≡ record { stamp = k.stamp; entry = running k.entry.born key d }

-- it names some timer
abbrev pub IsTimer : {K : Type 0} → List (TableRow K) → KeyName → Type 0
IsTimer {K} slots k = (key : K) × (d : ℕ) × IsRunning slots k key d

-- a slot has a timer
abbrev pub is_set : {K : Type 0} → TableRow K → Bool
is_set s = is_some s.entry

-- a slot has no timer, and no stamp left
abbrev pub is_spent : {K : Type 0} → ℕ → TableRow K → Bool
is_spent last s = is_none s.entry && not (nat_lt s.stamp last)

-- some slot has no timer, and a stamp left
abbrev pub HasRoom : {K : Type 0} → TimerTable K → Type 0
HasRoom t = count_by is_set t.slots + count_by (is_spent t.last_stamp) t.slots ≢ length t.slots

-- the slots after the timer at slot i has stopped: the slot keeps its stamp
abbrev pub stopped : {K : Type 0} → List (TableRow K) → ℕ → List (TableRow K)
stopped slots i = slice_set slots i (record { stamp = (timer_at slots i).stamp; entry = None })

-- the slots after a timer was set at slot i
abbrev pub set_at : {K : Type 0} → List (TableRow K) → ℕ → ℕ → ℕ → K → ℕ → List (TableRow K)
set_at slots i stamp born key deadline =
    slice_set slots i (record { stamp = stamp; entry = running born key deadline })

-- the timers with other slots
abbrev pub with_slots : {K : Type 0} → TimerTable K → ℕ → List (TableRow K) → TimerTable K
with_slots t noted slots = record { last_stamp = t.last_stamp; noted = noted; slots = slots }

-- timers of which none is set
abbrev pub fresh_timers : {K : Type 0} → ℕ → ℕ → TimerTable K
fresh_timers capacity last =
    record { last_stamp = last; noted = 0; slots = replicate capacity unset }

-- timers are made, or refused
abbrev pub MakesTimers : {K : Type 0} → ℕ → ℕ → Result (TimerTable K) CoreError → Type 0
MakesTimers capacity last (Ok t) = IsSetting capacity last × (t ≡ fresh_timers capacity last)
MakesTimers capacity last (Err e) = SettingRefused capacity last e

-- no timer is due at now
abbrev pub NoneDue : {K : Type 0} → ℕ → List (TableRow K) → Type 0
NoneDue {K} now slots =
    (i born : ℕ) (key : K) (d : ℕ) → (timer_at slots i).entry ≡ running born key d → now < d

-- one that is due stops, or none is
abbrev pub StopsDue : {K : Type 0} → TimerTable K → ℕ → Option K → TimerTable K → Type 0
StopsDue t now None u = (u ≡ with_slots t now t.slots) × NoneDue now t.slots
StopsDue t now (Some key) u =
    (i : ℕ) × (born : ℕ) × (d : ℕ) × (i < length t.slots)
    × ((timer_at t.slots i).entry ≡ running born key d) × (d ≤ now)
    × (u ≡ with_slots t now (stopped t.slots i))

-- the timer of a key stops
abbrev pub Stops : {K : Type 0} → TimerTable K → KeyName → TimerTable K → Type 0
Stops t k u = u ≡ with_slots t t.noted (stopped t.slots k.entry.index)

-- a free slot gets a timer, under its next stamp
pub record Starts {K : Type 0} (t : TimerTable K) (key : K) (when : ℕ) (k : KeyName)
    (u : TimerTable K) : Type 0 where
  pub inside : k.entry.index < length t.slots
  pub free : (timer_at t.slots k.entry.index).entry ≡ None
  pub left : (timer_at t.slots k.entry.index).stamp < t.last_stamp
  pub shard : k.entry.shard ≡ 0
  pub stamp : k.stamp ≡ (timer_at t.slots k.entry.index).stamp + 1
  pub after : u ≡ with_slots t t.noted (set_at t.slots k.entry.index k.stamp k.entry.born key when)

-- the key of the next stamp
abbrev pub next_key : KeyName → KeyName
next_key k = record { entry = k.entry; stamp = k.stamp + 1 }

-- a timer gets another deadline and its slot's next stamp, but not at the last one
abbrev pub Restarts : {K : Type 0} → TimerTable K → KeyName → ℕ → Option KeyName → TimerTable K
    → Type 0
Restarts t k when None u = (k.stamp ≡ t.last_stamp) × (u ≡ t)
Restarts {K} t k when (Some j) u =
    (k.stamp < t.last_stamp) × (j ≡ next_key k)
    × ((key : K) (d : ℕ) → IsRunning t.slots k key d
    → u ≡ with_slots t t.noted
    (set_at t.slots k.entry.index (k.stamp + 1) k.entry.born key when))

-- a timer of that deadline is set, and none has an earlier one
pub record IsFirst {K : Type 0} (slots : List (TableRow K)) (d : ℕ) : Type 0 where
  pub some : (i : ℕ) × (born : ℕ) × (key : K) × ((timer_at slots i).entry ≡ running born key d)
  pub least :
      (i born : ℕ) (key : K) (e : ℕ) → (timer_at slots i).entry ≡ running born key e → d ≤ e

-- what a queue of keys shows as timers
abbrev pub timers_of : {K W : Type 0} → Core K W → TimerTable K
timers_of c =
    record { last_stamp = c.slots.last_stamp; noted = c.noted; slots = (machine c).table }

-- a queue that only holds timers: it is shard 0, and nothing in it is cancelled
abbrev pub AreTimers : {K W : Type 0} → Core K W → Type 0
AreTimers c = (c.shard ≡ 0) × AllRun (machine c).table

-- each timer is filed by its deadline, at the wheel's tick or at an earlier one
abbrev pub AreFiled : {K W : Type 0} → Core K W → Type 0
AreFiled c =
    (i f : ℕ) → filed_at c.wheel.filing.filed i ≡ Some f
    → (s : ℕ) × (s ≤ c.wheel.filing.tick) × (f ≡ filing_for s (word_at c.known i).field)

-- w is when a wheel that stands at a tick looks at a timer: it filed the deadline at that tick or
-- at an earlier one, and the tick isn't after the noted one; and no timer is due before w
pub record IsTimersWake {K : Type 0} (t : TimerTable K) (w : ℕ) : Type 0 where
  pub some :
      (i : ℕ) × (born : ℕ) × (key : K) × (d : ℕ) × (filed : ℕ) × (tick : ℕ)
      × ((timer_at t.slots i).entry ≡ running born key d) × (filed ≤ tick) × (tick ≤ t.noted)
      × (w ≡ wake_for tick (filing_for filed d))
  pub least :
      (i born : ℕ) (key : K) (d : ℕ) → (timer_at t.slots i).entry ≡ running born key d → w ≤ d

-- when the timers wake next, none exactly where none is set
abbrev pub TellsTimersWake : {K : Type 0} → TimerTable K → Option ℕ → Type 0
TellsTimersWake t None = (i : ℕ) → (timer_at t.slots i).entry ≡ None
TellsTimersWake t (Some w) = IsTimersWake t w
