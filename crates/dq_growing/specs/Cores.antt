-- One owner's growing queue: its cores, each a queue under a number of its own, and what a call does
-- to them.
use Rattle.std.specs.Prelude.{◌≡◌, ◌≢◌, ◌⊎◌, ℕ, ◌+◌, ◌-◌, ◌^◌, ◌<◌, ◌≤◌, List, [], ◌∷◌, ◌++◌, length}
use Rattle.std.specs.Prelude.{slice_index_or, slice_set, remove, Option, Some, None, Result, Err}
use Rattle.std.specs.Prelude.{IfOk, OnErr, Bool, min, max, if◌then◌else◌, nat_lt}
use Rattle.dq_ticks.specs.declared.TheConstants.{LAST_TICK}
use Rattle.dq_ticks.specs.declared.keys.Key.{Key}
use Rattle.dq_ticks.specs.declared.keys.EntryId.{EntryId}
use Rattle.dq_core.specs.declared.errors.CoreError.{CoreError}
use Rattle.dq_core.specs.declared.errors.CoreError.TheVariants.{TooFar, Full, Missing}
use Rattle.dq_core.specs.Core.{Core}
use Rattle.dq_growing.specs.declared.cores.TakeError.{TakeError}
use Rattle.dq_growing.specs.declared.cores.TakeError.TheVariants.{StillLinked, UsedNumber, NoMemory}
use Rattle.dq_core.specs.Deferring.{deferred_value_at, with_deferred}
use Rattle.dq_core.specs.Folds.{IsFoldable}
use Rattle.dq_core.specs.AtTheCall.{linked_in, HoldsValue}
use Rattle.dq_core.specs.Readers.{TellsNext}
use Rattle.dq_core.specs.Sweeps.{SweepsSome}
use Rattle.dq_core.specs.declared.outcomes.Swept.{Swept}
use Rattle.dq_core.specs.Calls.{IsMissing, Inserts}

-- a store: its cores, the place of the one that takes inserts, a number above each that a core had,
-- and the greatest tick noted
pub record CoreRow (T W : Type 0) : Type 0 where
  pub cores : List (Core T W)
  pub opened : ℕ
  pub next : ℕ
  pub noted : ℕ

-- where no core is open, an insert is refused as where each slot of one is taken
abbrev pub closed_error : ℕ → CoreError
closed_error when = if nat_lt LAST_TICK when then TooFar LAST_TICK else Full 0 0

-- where no core has an entry's number, a reset is refused as where the entry is missing
abbrev pub missing_error : ℕ → CoreError
missing_error when = if nat_lt LAST_TICK when then TooFar LAST_TICK else Missing

-- the place of the open core, once the core at a place is gone
abbrev pub opened_without : ℕ → ℕ → ℕ
opened_without opened i = if nat_lt i opened then opened - 1 else opened

-- a tick that is lowered to another one, unless it has to stay
abbrev pub lowered_to : ℕ → ℕ → Bool → ℕ
lowered_to t when stays = if stays then t else min t when

module _ {T W : Type 0} where
  -- the core at a place
  abbrev pub IsCoreAt : List (Core T W) → ℕ → Core T W → Type 0
  IsCoreAt cores i c = (i < length cores) × (slice_index_or cores i c ≡ c)

  -- no two cores have one number
  abbrev pub HaveOwnNumbers : List (Core T W) → Type 0
  HaveOwnNumbers cores =
      (i j : ℕ) (b c : Core T W) → IsCoreAt cores i b → IsCoreAt cores j c → b.shard ≡ c.shard →
      i ≡ j

  -- each core has a lower number
  abbrev pub AreBelow : List (Core T W) → ℕ → Type 0
  AreBelow cores next = (i : ℕ) (c : Core T W) → IsCoreAt cores i c → c.shard < next

  -- each core noted at most that tick
  abbrev pub AreBehind : List (Core T W) → ℕ → Type 0
  AreBehind cores noted = (i : ℕ) (c : Core T W) → IsCoreAt cores i c → c.noted ≤ noted

  -- the law of a store
  pub record AreCores (s : CoreRow T W) : Type 0 where
    pub apart : HaveOwnNumbers s.cores
    pub below : AreBelow s.cores s.next
    pub behind : AreBehind s.cores s.noted
    pub in_range : s.noted ≤ LAST_TICK

  -- the core of that number, where it stands
  abbrev pub HasAt : List (Core T W) → ℕ → ℕ → Core T W → Type 0
  HasAt cores number i c = IsCoreAt cores i c × (c.shard ≡ number)

  -- so of each core of that number
  abbrev pub EachOf : CoreRow T W → ℕ → (Core T W → Type 0) → Type 0
  EachOf s number P = (i : ℕ) (c : Core T W) → HasAt s.cores number i c → P c

  -- no core has that number
  abbrev pub HasNo : List (Core T W) → ℕ → Type 0
  HasNo cores number = (i : ℕ) (c : Core T W) → IsCoreAt cores i c → c.shard ≢ number

  -- one core was this and is that; every other one, and all else, is as it was
  abbrev pub with_core : CoreRow T W → ℕ → Core T W → CoreRow T W
  with_core s i c = record s { cores = slice_set s.cores i c }

  -- a call on the core at a place: what it did there, and that nothing else changed
  pub record OnCoreAt (i : ℕ) (P : Core T W → Core T W → Type 0) (old new : CoreRow T W) : Type 0
    where
      pub before : Core T W
      pub after : Core T W
      pub at : IsCoreAt old.cores i before
      pub did : P before after
      pub rest : new ≡ with_core old i after

  -- a call on the core of a number
  pub record OnCore (number : ℕ) (P : Core T W → Core T W → Type 0) (old new : CoreRow T W)
      : Type 0 where
    pub place : ℕ
    pub before : Core T W
    pub after : Core T W
    pub at : HasAt old.cores number place before
    pub did : P before after
    pub rest : new ≡ with_core old place after

  -- a call on the core of a number; where no core has it, the call is refused so, and nothing changes
  abbrev pub OnCoreOr : ℕ → (Core T W → Core T W → Type 0) → Type 0 → CoreRow T W → CoreRow T W →
      Type 0
  OnCoreOr number P Refused old new =
      OnCore number P old new ⊎ (HasNo old.cores number × Refused × (new ≡ old))

  -- an entry is missing from each core
  abbrev pub IsMissingIn : CoreRow T W → EntryId → Type 0
  IsMissingIn s id = (i : ℕ) (c : Core T W) → IsCoreAt s.cores i c → IsMissing c id

  -- a core holds that value under that number, index and birth stamp
  abbrev pub HoldsIn : CoreRow T W → EntryId → T → Type 0
  HoldsIn s id v = (i : ℕ) × (c : Core T W) × IsCoreAt s.cores i c × HoldsValue c id v

  -- an insert into a core, and what comes out beside its key: what was deferred in the slot
  abbrev pub InsertsBeside : T → ℕ → Result Key (CoreError × T) × Option T → Core T W → Core T W →
      Type 0
  InsertsBeside v when r b c =
      Inserts b v when r.0 c
      × IfOk r.0 (λ k. (r.1 ≡ deferred_value_at b.deferred k.entry.index)
      × (c.deferred ≡ with_deferred b.deferred k.entry.index None))
      × OnErr r.0 (r.1 ≡ None)

  -- the slot to go on from, none behind the core's last
  abbrev pub next_slot : Core T W → ℕ → Option ℕ
  next_slot c end = if nat_lt end (length c.slots.rows) then Some end else None

  -- a sweep of some slots of a core, and where to go on
  abbrev pub SweepsFrom : Bool → ℕ → ℕ → Swept → Core T W → Core T W → Type 0
  SweepsFrom shared from end swept b c =
      SweepsSome shared b from end swept.reaped c × (swept.next ≡ next_slot b end)

  -- no core takes inserts
  abbrev pub IsClosed : CoreRow T W → Type 0
  IsClosed s = length s.cores ≤ s.opened

  -- an insert goes to the open core; where there is none, it is refused and nothing changes
  abbrev pub InsertsIn : CoreRow T W → T → ℕ → Result Key (CoreError × T) × Option T →
      CoreRow T W → Type 0
  InsertsIn s v when r t =
      OnCoreAt s.opened (InsertsBeside v when r) s t
      ⊎ (IsClosed s × (r ≡ (Err (closed_error when, v), None)) × (t ≡ s))

  -- what the open core tells as the key of the next insert, none where no core is open
  abbrev pub TellsNextIn : CoreRow T W → Option Key → Type 0
  TellsNextIn s r =
      ((c : Core T W) × IsCoreAt s.cores s.opened c × TellsNext c r)
      ⊎ (IsClosed s × (r ≡ None))

  -- a core comes in with nothing linked, under a number that no core of the store has, and is open
  pub record TakesIn (s : CoreRow T W) (c : Core T W) (t : CoreRow T W) : Type 0 where
    pub may : (linked_in c ≡ 0) × (c.shard ≢ 2 ^ 32 - 1) × HasNo s.cores c.shard
    pub cores : t.cores ≡ s.cores ++ c ∷ []
    pub opened : t.opened ≡ length s.cores
    pub next : t.next ≡ max s.next (c.shard + 1)
    pub noted : t.noted ≡ max s.noted c.noted

  -- a core may come in: nothing is linked in it, and its number is free
  abbrev pub MayComeIn : CoreRow T W → Core T W → Type 0
  MayComeIn s c = (linked_in c ≡ 0) × (c.shard ≢ 2 ^ 32 - 1) × HasNo s.cores c.shard

  -- why a core doesn't come in: first while an entry is linked in it, then for a number that a core
  -- of the store has, or the last one, and then for want of memory
  abbrev pub TakeRefused : CoreRow T W → Core T W → TakeError → Type 0
  TakeRefused s c StillLinked = linked_in c ≢ 0
  TakeRefused s c UsedNumber =
      (linked_in c ≡ 0) × ((c.shard ≡ 2 ^ 32 - 1) ⊎ (¬ HasNo s.cores c.shard))
  TakeRefused s c NoMemory = MayComeIn s c

  -- a core that isn't the open one has drained: nothing is linked there, and no value waits
  abbrev pub HasDrained : CoreRow T W → ℕ → Core T W → Type 0
  HasDrained s i c = IsCoreAt s.cores i c × (i ≢ s.opened) × IsFoldable c

  -- a core that has drained leaves the store; every other one, and all else, is as it was
  pub record GivesDrained (s : CoreRow T W) (c : Core T W) (t : CoreRow T W) : Type 0 where
    pub place : ℕ
    pub drained : HasDrained s place c
    pub rest :
        t ≡ record s {
          cores = remove s.cores place;
          opened = opened_without s.opened place;
        }

  -- no core has drained
  abbrev pub NoneDrained : CoreRow T W → Type 0
  NoneDrained s = (i : ℕ) (c : Core T W) → ¬ HasDrained s i c
