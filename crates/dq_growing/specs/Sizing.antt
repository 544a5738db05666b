-- How a store keeps the right size, and the folded cores that it keeps.
use Rattle.std.specs.Prelude.{◌≡◌, ◌≢◌, ◌⊎◌, ◌+◌, ◌-◌, ◌*◌, ◌/◌, ◌%◌, ◌<◌, ◌≤◌, ℕ, Bool, true, false}
use Rattle.std.specs.Prelude.{◌++◌, ◌∷◌, [], Option, Some, None, List, length, nat_lt, nat_eq}
use Rattle.std.specs.Prelude.{if◌then◌else◌, slice_index_or, remove, map, min, max, ◌^◌}
use Rattle.std.specs.Int.{IsNextPowerOfTwo}
use Rattle.std.specs.List.{sum_by}
use Rattle.dq_ticks.specs.declared.TheConstants.{CAPACITY_LIMIT}
use Rattle.dq_ticks.specs.declared.keys.EntryId.{EntryId}
use Rattle.dq_core.specs.declared.outcomes.Swept.{Swept}
use Rattle.dq_core.specs.Deferring.{waiting_in}
use Rattle.dq_core.specs.AtTheCall.{linked_in}
use Rattle.dq_core.specs.Core.{Core, machine}
use Rattle.dq_core.specs.Machine.{NoneLinked}
use Rattle.dq_growing.specs.Cores.{CoreRow, HasDrained, IsCoreAt, MayComeIn, OnCoreAt, SweepsFrom}
use Rattle.dq_growing.specs.Moving.{worn_in}
use Rattle.dq_growing.specs.declared.TheConstants.{NEVER}
use Rattle.dq_growing.specs.declared.sizing.Room.{Room}
use Rattle.dq_growing.specs.declared.sizing.Sizing.{Sizing}
use Rattle.dq_growing.specs.declared.sizing.TheConstants.{CORES, LAST, LOOKS}
use Rattle.dq_growing.specs.declared.sweeping.Sweep.{Sweep}
use Rattle.dq_growing.specs.Store.{StoreState, TellsFirstIn}
use Rattle.dq_core.specs.Folds.{FoldedCore}

-- a way through the slots of so many cores goes on to a slot of the same core, or to the first one of
-- the next core, and behind the last one to the first core
abbrev pub WayGoesOn : Sweep → Option ℕ → ℕ → Sweep → Type 0
WayGoesOn w None cores v =
    (v.place ≡ (if nat_lt (w.place + 1) cores then w.place + 1 else 0)) × (v.slot ≡ 0)
WayGoesOn w (Some slot) cores v = (v.place ≡ w.place) × (v.slot ≡ slot)

-- up to where the slots of a core were looked at
abbrev pub end_of : Option ℕ → ℕ → ℕ
end_of None capacity = capacity
end_of (Some slot) capacity = slot

-- as many slots fewer are left on a way as were looked at in a core of so many, where none counts as
-- one; the cancels of the way stay
abbrev pub TakesOff : Sweep → Option ℕ → ℕ → Sweep → Type 0
TakesOff w next capacity v =
    (v.left ≡ w.left - max (end_of next capacity - w.slot) 1) × (v.cancels ≡ w.cancels)

-- what is known of the size of a store of no cores, whose smallest one is to have so many slots: no
-- memory is kept for good, there is nothing to do, and no slot is on the way
abbrev pub fresh_sizing : ℕ → Sizing
fresh_sizing least = record {
  least = least;
  kept = 0;
  has_work = false;
  quiet_since = 0;
  sweep = record { place = 0; slot = 0; cancels = 0; left = 0 };
}

-- a core that is made may have so many slots
abbrev pub MayHaveSlots : Sizing → ℕ → Type 0
MayHaveSlots z n = (1 ≤ n) × (min z.least CAPACITY_LIMIT ≤ n) × (n ≤ CAPACITY_LIMIT)

-- it is noted that there may be something to do, and that there is no quiet
abbrev pub with_work : Sizing → Sizing
with_work z = record z { has_work = true; quiet_since = NEVER }

-- so exactly if something is the case; else all stays
abbrev pub NotesWorkIf : Type 0 → Sizing → Sizing → Type 0
NotesWorkIf P z y = (P × (y ≡ with_work z)) ⊎ ((¬ P) × (y ≡ z))

-- the cores are looked at as an entry left, if so many are left: a multiple of 128, or the last few
abbrev pub IsTimeToLook : ℕ → Type 0
IsTimeToLook left = (left < LAST) ⊎ (left % LOOKS ≡ 0)

module _ {T W : Type 0} where
  -- how many slots the cores have, as far as a word counts
  abbrev pub slots_in : CoreRow T W → ℕ
  slots_in s = min (sum_by (λ c. length c.slots.rows) s.cores) (2 ^ 64 - 1)

  -- how many slots the core at a place has, 0 where there is none
  abbrev pub slots_at : CoreRow T W → ℕ → ℕ
  slots_at s i = slice_index_or (map (λ c. length c.slots.rows) s.cores) i 0

  -- how many entries are linked in the cores, as far as a word counts
  abbrev pub linked_of : CoreRow T W → ℕ
  linked_of s = min (sum_by (λ c. linked_in c) s.cores) (2 ^ 64 - 1)

  -- how many slots are free in which no value waits for its drop, at least: one that waits in a worn
  -- slot counts as if it waited in a free one
  abbrev pub clear_slots : Core T W → ℕ
  clear_slots c = length c.slots.rows - (linked_in c + worn_in c) - waiting_in c.deferred

  -- such a slot is in the core at a place
  abbrev pub HasClearAt : CoreRow T W → ℕ → Type 0
  HasClearAt s i = (c : Core T W) × IsCoreAt s.cores i c × (0 < clear_slots c)

  -- a core may be opened for an insert: half of it is free, or any will do
  abbrev pub MayOpen : Bool → Core T W → Type 0
  MayOpen any c = (any ≡ true) ⊎ (length c.slots.rows / 2 ≤ clear_slots c)

  -- so many slots are free in the core at a place, which may be opened
  abbrev pub IsRoomAt : CoreRow T W → Bool → Room → Type 0
  IsRoomAt s any r =
      (c : Core T W) × IsCoreAt s.cores r.place c × (clear_slots c ≡ r.free) × MayOpen any c

  -- the open core is one that may be opened
  abbrev pub OpensOne : Bool → CoreRow T W → Type 0
  OpensOne any s = (c : Core T W) × IsCoreAt s.cores s.opened c × MayOpen any c

  -- as many slots are free as in one core that was found, and as in the core at a place, if that may be
  -- opened
  pub record IsRoomier (s : CoreRow T W) (any : Bool) (found : Room) (i : ℕ) (r : Room) : Type 0
    where
      pub one : (r ≡ found) ⊎ IsRoomAt s any r
      pub before : found.free ≤ r.free
      pub here : (c : Core T W) → IsCoreAt s.cores i c → MayOpen any c → clear_slots c ≤ r.free

  -- of the first n cores that may be opened none has more free slots
  pub record IsRoomiest (s : CoreRow T W) (n : ℕ) (any : Bool) (r : Room) : Type 0 where
    pub some : 0 < r.free → IsRoomAt s any r
    pub most :
        (i : ℕ) (c : Core T W) → i < n → IsCoreAt s.cores i c → MayOpen any c →
        clear_slots c ≤ r.free

  -- no core that may be opened has a free slot
  abbrev pub HasNoneToOpen : Bool → CoreRow T W → Type 0
  HasNoneToOpen any s =
      (i : ℕ) (c : Core T W) → IsCoreAt s.cores i c → MayOpen any c → clear_slots c ≡ 0

  -- nor does the open one
  abbrev pub HasNoRoom : Bool → CoreRow T W → Type 0
  HasNoRoom any s = (¬ HasClearAt s s.opened) × HasNoneToOpen any s

  -- a slot was found for an insert, and none was free in the open core
  abbrev pub FoundElsewhere : Bool → CoreRow T W → Type 0
  FoundElsewhere found s = (found ≡ true) × (¬ HasClearAt s s.opened)

  -- no more changes than which core is open
  abbrev pub OnlyOpens : StoreState T W → StoreState T W → Type 0
  OnlyOpens s t =
      ((place : ℕ) × (t.cores ≡ record s.cores { opened = place })) × (t.notes ≡ s.notes)

  -- the next core is to have so many slots: room for twice what is linked, and no fewer than the least
  abbrev pub IsNextSize : Sizing → CoreRow T W → ℕ → Type 0
  IsNextSize z s n =
      (power : ℕ) × IsNextPowerOfTwo (min (linked_of s * 2) CAPACITY_LIMIT) power
      × (n ≡ min (max power z.least) CAPACITY_LIMIT)

  -- more than half of a core's slots are worn
  abbrev pub IsWorn : Core T W → Type 0
  IsWorn c = length c.slots.rows / 2 < worn_in c

  -- an eighth of a core is used at most
  abbrev pub IsSmall : Core T W → Type 0
  IsSmall c = linked_in c ≤ length c.slots.rows / 8

  -- half of the open core is free
  abbrev pub IsOpenHalfFree : CoreRow T W → Type 0
  IsOpenHalfFree s =
      (c : Core T W) × IsCoreAt s.cores s.opened c × (length c.slots.rows / 2 ≤ clear_slots c)

  -- an eighth of the open core is used at most, and a quarter of its size would do; unless memory is
  -- kept for good
  abbrev pub IsTooLarge : Sizing → CoreRow T W → Type 0
  IsTooLarge z s =
      (c : Core T W) × (n : ℕ) × IsCoreAt s.cores s.opened c × IsSmall c × (z.kept ≡ 0)
      × IsNextSize z s n × (n ≤ length c.slots.rows / 4)

  -- where a core of so many slots is wanted, one of half the size, or of twice that, will do
  abbrev pub WillDo : ℕ → Core T W → Type 0
  WillDo n c = (n / 2 ≤ length c.slots.rows) × (length c.slots.rows / 2 ≤ n)

  -- there is memory enough without an empty core: as much as is kept for good; or none is, and half of
  -- the open core is free, or this one won't do as the next one
  abbrev pub IsSpare : Sizing → CoreRow T W → Core T W → Type 0
  IsSpare z s c =
      ((0 < z.kept) × (z.kept ≤ slots_in s - length c.slots.rows))
      ⊎ ((z.kept ≡ 0)
      × (IsOpenHalfFree s ⊎ ((n : ℕ) × IsNextSize z s n × (¬ WillDo n c))))

  -- an empty core isn't needed soon
  abbrev pub IsNeedless : Sizing → CoreRow T W → Core T W → Type 0
  IsNeedless z s c = IsWorn c ⊎ IsSpare z s c

  -- so of a core that has drained
  abbrev pub IsNeedlessAt : Sizing → CoreRow T W → ℕ → Core T W → Type 0
  IsNeedlessAt z s i c = HasDrained s i c × IsNeedless z s c

  -- so of one of the cores
  abbrev pub HasNeedless : Sizing → CoreRow T W → Type 0
  HasNeedless z s = (i : ℕ) × (c : Core T W) × IsNeedlessAt z s i c

  -- so of none of the first n cores
  abbrev pub NoneNeedless : Sizing → CoreRow T W → ℕ → Type 0
  NoneNeedless z s n = (i : ℕ) (c : Core T W) → i < n → ¬ IsNeedlessAt z s i c

  -- there may be less to keep: there are several cores, or an eighth of the open one is used at most
  abbrev pub MayShrink : CoreRow T W → Type 0
  MayShrink s = (1 < length s.cores) ⊎ ((c : Core T W) × IsCoreAt s.cores s.opened c × IsSmall c)

  -- one core more may be made, of so many slots: one at least, and no fewer than the smallest core is
  -- to have, as far as a core can have so many
  abbrev pub MayMake : Sizing → StoreState T W → ℕ → Type 0
  MayMake z s n =
      (length s.cores.cores < CORES) × IsNextSize z s.cores n × MayHaveSlots z n

  -- a core that may come in is the last one from now on, and the others stay; the number above each and
  -- the noted tick rise no further than to the core's own
  abbrev pub ComesInto : StoreState T W → Core T W → StoreState T W → Type 0
  ComesInto s c t =
      (t.cores.cores ≡ s.cores.cores ++ c ∷ []) × (t.notes ≡ s.notes) × MayComeIn s.cores c
      × (t.cores.next ≡ max s.cores.next (c.shard + 1))
      × (t.cores.noted ≡ max s.cores.noted c.noted)

  -- the number above each core stays, and the noted tick does
  abbrev pub KeepsTick : CoreRow T W → CoreRow T W → Type 0
  KeepsTick s t = (t.next ≡ s.next) × (t.noted ≡ s.noted)

  -- the core that was open is open
  abbrev pub StaysOpen : CoreRow T W → CoreRow T W → Type 0
  StaysOpen s t = (c : Core T W) → IsCoreAt s.cores s.opened c → IsCoreAt t.cores t.opened c

  -- a core that came in is open, or the one that was
  abbrev pub OpensIf : Bool → CoreRow T W → CoreRow T W → Type 0
  OpensIf true s t = t.opened ≡ length s.cores
  OpensIf false s t = StaysOpen s t

  -- so, and the one that came is where the one that was has no free slot
  abbrev pub OpensWanted : CoreRow T W → CoreRow T W → Type 0
  OpensWanted s t =
      (wanted : Bool) × OpensIf wanted s t × (wanted ≡ false → HasClearAt s s.opened)

  -- a core was in a store, and wasn't open
  abbrev pub WasBeside : CoreRow T W → Core T W → Type 0
  WasBeside s c = (i : ℕ) × (i ≢ s.opened) × IsCoreAt s.cores i c

  -- each core was in a store before
  abbrev pub AllWere : CoreRow T W → CoreRow T W → Type 0
  AllWere s t =
      (i : ℕ) (c : Core T W) → IsCoreAt t.cores i c → (j : ℕ) × IsCoreAt s.cores j c

  -- a sixteenth is used at most of a core that isn't open
  abbrev pub IsNearlyDrained : CoreRow T W → ℕ → Core T W → Type 0
  IsNearlyDrained s i c =
      IsCoreAt s.cores i c × (i ≢ s.opened) × (linked_in c ≤ length c.slots.rows / 16)

  -- the id of the entry that such a core names as scheduled first; none where the core isn't such a
  -- one, or nothing is linked there
  abbrev pub TellsStraggler : StoreState T W → ℕ → Option EntryId → Type 0
  TellsStraggler s i None =
      (c : Core T W) → IsNearlyDrained s.cores i c → NoneLinked (machine c)
  TellsStraggler s i (Some u) =
      ((c : Core T W) × IsNearlyDrained s.cores i c) × TellsFirstIn s i (Some u)

  -- so of one of the cores
  abbrev pub IsStraggler : StoreState T W → EntryId → Type 0
  IsStraggler s u = (i : ℕ) × TellsStraggler s i (Some u)

  -- there is such an entry
  abbrev pub HasStraggler : StoreState T W → Type 0
  HasStraggler s = (u : EntryId) × IsStraggler s u

  -- so of none of the first n cores
  abbrev pub NoStraggler : StoreState T W → ℕ → Type 0
  NoStraggler s n = (i : ℕ) → i < n → TellsStraggler s i None

  -- a way begins anew at the first slot, and the slots of all cores are on it
  abbrev pub anew : Sweep → CoreRow T W → Sweep
  anew w s = record w { place = 0; slot = 0; left = slots_in s }

  -- a way by the cancels that are told: if others were accepted, the slots of all cores are on it
  -- again, from where it is
  abbrev pub way_for : Sweep → ℕ → CoreRow T W → Sweep
  way_for w cancels s =
      record w {
        cancels = cancels;
        left = if nat_eq w.cancels cancels then w.left else slots_in s;
      }

  -- a way goes on behind the slots that were looked at in a core, and these are taken off
  abbrev pub GoesOnBehind : Sweep → Option ℕ → CoreRow T W → Sweep → Type 0
  GoesOnBehind w next s v =
      WayGoesOn w next (length s.cores) v × TakesOff w next (slots_at s w.place) v

  -- no work is noted, no entry is to be moved, and each core is needed
  abbrev pub HasNoWork : Sizing → StoreState T W → Type 0
  HasNoWork z s =
      (z.has_work ≡ false) × NoStraggler s (length s.cores.cores)
      × NoneNeedless z s.cores (length s.cores.cores)

  -- no slot is left on the way either
  abbrev pub IsQuiet : Sizing → StoreState T W → Type 0
  IsQuiet z s = (z.sweep.left ≡ 0) × HasNoWork z s

  -- quiet since so many cancels is told exactly if it is so
  abbrev pub TellsQuiet : Sizing → ℕ → StoreState T W → Type 0
  TellsQuiet z cancels s =
      (IsQuiet z s × (z.quiet_since ≡ cancels)) ⊎ ((¬ IsQuiet z s) × (z.quiet_since ≡ NEVER))

  -- quiet ends if an entry is to be moved; else all stays
  abbrev pub EndsQuiet : Sizing → StoreState T W → Sizing → Type 0
  EndsQuiet z s y =
      (HasStraggler s × (y ≡ record z { quiet_since = NEVER }))
      ⊎ (((z.quiet_since ≡ NEVER) ⊎ NoStraggler s (length s.cores.cores)) × (y ≡ z))

  -- the open core is too large, or some core isn't needed
  abbrev pub IsToShrink : Sizing → CoreRow T W → Type 0
  IsToShrink z s = IsTooLarge z s ⊎ HasNeedless z s

  -- then work is noted; else quiet ends if an entry is to be moved
  abbrev pub LooksAfter : Sizing → StoreState T W → Sizing → Type 0
  LooksAfter z s y =
      (IsToShrink z s.cores × (y ≡ with_work z)) ⊎ ((¬ IsToShrink z s.cores) × EndsQuiet z s y)

  -- so if the cores are looked at, and there may be less to keep; else all stays
  abbrev pub NotesLeft : ℕ → Sizing → StoreState T W → Sizing → Type 0
  NotesLeft left z s y =
      (IsTimeToLook left × MayShrink s.cores × LooksAfter z s y)
      ⊎ ((¬ (IsTimeToLook left × MayShrink s.cores)) × (y ≡ z))

  -- the next slots of a way are swept, so many at most, and it goes on behind them; where nothing is
  -- linked in the core there, or there is no such core, it goes on to the next one
  abbrev pub SweepsNext : Bool → ℕ → Sweep → StoreState T W → Sweep → StoreState T W → Type 0
  SweepsNext shared most w s v t =
      (t.notes ≡ s.notes)
      × ((((c : Core T W) → IsCoreAt s.cores.cores w.place c → linked_in c ≡ 0)
      × (t.cores ≡ s.cores) × GoesOnBehind w None s.cores v)
      ⊎ ((swept : Swept)
      × OnCoreAt w.place (SweepsFrom shared w.slot (w.slot + most) swept) s.cores t.cores
      × GoesOnBehind w swept.next s.cores v))

module _ {W : Type 0} where
  -- a folded core of that many slots stands at a place
  abbrev pub IsFoldedAt : List (FoldedCore W) → ℕ → ℕ → FoldedCore W → Type 0
  IsFoldedAt fs i capacity f =
      (i < length fs) × (slice_index_or fs i f ≡ f) × (length f.known ≡ capacity)

  -- none has that many slots
  abbrev pub NoneFoldedOf : List (FoldedCore W) → ℕ → Type 0
  NoneFoldedOf fs capacity = (i : ℕ) (f : FoldedCore W) → ¬ IsFoldedAt fs i capacity f

  -- one of that many slots is taken out, and the others stay
  abbrev pub GivesFolded : List (FoldedCore W) → ℕ → FoldedCore W → List (FoldedCore W) → Type 0
  GivesFolded fs capacity f gs = (i : ℕ) × IsFoldedAt fs i capacity f × (gs ≡ remove fs i)
