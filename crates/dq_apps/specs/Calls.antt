-- What each call of an expiring cache does, and why it is refused.
use Rattle.std.specs.Prelude.{◌≡◌, ◌≢◌, ℕ, ◌+◌, ◌<◌, ◌≤◌, nat_lt, nat_le, Bool, true, false, List}
use Rattle.std.specs.Prelude.{Option, Some, None, Result, Ok, Err, length, map, replicate}
use Rattle.std.specs.Prelude.{slice_set}
use Rattle.std.specs.Prelude.{◌&&◌, not, is_none, if◌then◌else◌}
use Rattle.std.specs.List.{count_by, IsDistinct}
use Rattle.std.specs.Map.{lookup, keys_of}
use Rattle.dq_ticks.specs.declared.TheConstants.{LAST_TICK}
use Rattle.dq_core.specs.declared.errors.CoreError.{CoreError}
use Rattle.dq_core.specs.declared.errors.CoreError.TheVariants.{TooFar, Full, Missing, Worn}
use Rattle.dq_core.specs.declared.errors.CoreError.TheVariants.{TickTooLarge, NoMemory}
use Rattle.dq_apps.specs.Setting.{IsSetting, SettingRefused}
use Rattle.dq_apps.specs.Cache.{Item, CacheSlot, Cache, bare, slot_at, moment_at, is_kept}
use Rattle.dq_apps.specs.Cache.{IsKeptAt, value_seen, seen, entries_of}

module _ {K V : Type 0} where
  -- new

  -- a cache at moment 0 where nothing is kept
  abbrev pub fresh_cache : ℕ → ℕ → Cache K V
  fresh_cache capacity last =
      record { last_stamp = last; moment = 0; slots = replicate capacity bare }

  -- a cache is made, or refused
  abbrev pub MakesCache : ℕ → ℕ → Result (Cache K V) CoreError → Type 0
  MakesCache capacity last (Ok c) = IsSetting capacity last × (c ≡ fresh_cache capacity last)
  MakesCache capacity last (Err e) = SettingRefused capacity last e

  -- the readers

  -- a slot where nothing is kept and that has no stamp left
  abbrev pub is_used_up : ℕ → CacheSlot K V → Bool
  is_used_up last s = is_none s.item && not (nat_lt s.stamp last)

  -- d is a deadline of what is kept, and none is earlier
  pub record IsLeastDeadline (c : Cache K V) (d : ℕ) : Type 0 where
    pub some : (i : ℕ) × (x : Item K V) × ((slot_at c.slots i).item ≡ Some x) × (x.deadline ≡ d)
    pub least : (i : ℕ) (x : Item K V) → (slot_at c.slots i).item ≡ Some x → d ≤ x.deadline

  -- the least deadline, none exactly where nothing is kept
  abbrev pub TellsNextDeadline : Cache K V → Option ℕ → Type 0
  TellsNextDeadline c None = (i : ℕ) → (slot_at c.slots i).item ≡ None
  TellsNextDeadline c (Some d) = IsLeastDeadline c d

  -- keys with their values: each that is seen in a call at `now`, and none twice
  pub record IsAllSeen (eq : K → K → Bool) (c : Cache K V) (now : ℕ) (pairs : List (K × V))
      : Type 0 where
    pub values : (q : K) → lookup (eq q) pairs ≡ value_seen eq c q now
    pub distinct : IsDistinct eq (keys_of pairs)
    pub count : length pairs ≡ length (seen (moment_at c now) (entries_of c.slots))

  -- purge

  -- what is left of an item at m: nothing, where it is due
  abbrev pub left_at : ℕ → Option (Item K V) → Option (Item K V)
  left_at m None = None
  left_at m (Some x) = if nat_lt m x.deadline then Some x else None

  -- a slot without what is due: it keeps its stamp
  abbrev pub swept : ℕ → CacheSlot K V → CacheSlot K V
  swept m s = record { stamp = s.stamp; item = left_at m s.item }

  -- the item is due
  abbrev pub is_due : ℕ → Option (Item K V) → Bool
  is_due m None = false
  is_due m (Some x) = nat_le x.deadline m

  -- how many are due
  abbrev pub due_count : ℕ → List (CacheSlot K V) → ℕ
  due_count m slots = count_by (λ s. is_due m s.item) slots

  -- the cache at a moment, with what is due then dropped
  abbrev pub purged : Cache K V → ℕ → Cache K V
  purged c m = record { last_stamp = c.last_stamp; moment = m; slots = map (swept m) c.slots }

  -- a purge, or its refusal
  abbrev pub Purges : Cache K V → ℕ → Result ℕ CoreError → Cache K V → Type 0
  Purges b now (Ok n) c =
      (now ≤ LAST_TICK) × (n ≡ due_count (moment_at b now) b.slots)
      × (c ≡ purged b (moment_at b now))
  Purges b now (Err e) c = (e ≡ TickTooLarge LAST_TICK) × (LAST_TICK < now) × (c ≡ b)

  -- take

  -- the key isn't seen at m
  abbrev pub IsUnseen : (K → K → Bool) → Cache K V → K → ℕ → Type 0
  IsUnseen eq c key m =
      (i : ℕ) (x : Item K V) → (slot_at c.slots i).item ≡ Some x → eq key x.key ≡ true
      → x.deadline ≤ m

  -- the slots with slot i emptied: it keeps its stamp
  abbrev pub emptied_slots : List (CacheSlot K V) → ℕ → List (CacheSlot K V)
  emptied_slots slots i =
      slice_set slots i (record { stamp = (slot_at slots i).stamp; item = None })

  -- the cache with slot i emptied
  abbrev pub emptied : Cache K V → ℕ → Cache K V
  emptied c i =
      record { last_stamp = c.last_stamp; moment = c.moment; slots = emptied_slots c.slots i }

  -- what is seen at m leaves, or nothing is seen and nothing changes
  abbrev pub Takes : (K → K → Bool) → Cache K V → K → ℕ → Option V → Cache K V → Type 0
  Takes eq b key m None c = IsUnseen eq b key m × (c ≡ b)
  Takes eq b key m (Some v) c =
      (i : ℕ) × (x : Item K V) × IsKeptAt eq b key i x × (m < x.deadline) × (v ≡ x.value)
      × (c ≡ emptied b i)

  -- take_expired

  -- the cache at a moment
  abbrev pub at_moment : Cache K V → ℕ → Cache K V
  at_moment c m = record { last_stamp = c.last_stamp; moment = m; slots = c.slots }

  -- one that is due at the moment leaves with its key, or none is due
  abbrev pub TakesDue : Cache K V → Option (K × V) → Cache K V → Type 0
  TakesDue b (Some out) c =
      (i : ℕ) × (x : Item K V) × ((slot_at b.slots i).item ≡ Some x) × (x.deadline ≤ b.moment)
      × (out ≡ (x.key, x.value)) × (c ≡ emptied b i)
  TakesDue b None c =
      (c ≡ b)
      × ((i : ℕ) (x : Item K V) → (slot_at b.slots i).item ≡ Some x → b.moment < x.deadline)

  -- the moment is set, and one that is due then leaves; or it is refused, and nothing changes
  abbrev pub TakesExpired : Cache K V → ℕ → Result (Option (K × V)) CoreError → Cache K V
      → Type 0
  TakesExpired b now (Ok out) c =
      (now ≤ LAST_TICK) × TakesDue (at_moment b (moment_at b now)) out c
  TakesExpired b now (Err e) c = (e ≡ TickTooLarge LAST_TICK) × (LAST_TICK < now) × (c ≡ b)

  -- renew

  -- the slots with an item at slot i, under the slot's next stamp
  abbrev pub renewed_slots : List (CacheSlot K V) → ℕ → Item K V → List (CacheSlot K V)
  renewed_slots slots i x =
      slice_set slots i (record { stamp = (slot_at slots i).stamp + 1; item = Some x })

  -- the cache at a moment, with an item at slot i, under the slot's next stamp
  abbrev pub renewed : Cache K V → ℕ → ℕ → Item K V → Cache K V
  renewed c m i x =
      record { last_stamp = c.last_stamp; moment = m; slots = renewed_slots c.slots i x }

  -- the tick and the deadline are in range
  abbrev pub InRange : Cache K V → ℕ → ℕ → Type 0
  InRange c ttl now = (now ≤ LAST_TICK) × (moment_at c now + ttl ≤ LAST_TICK)

  -- the key is seen at m, in a slot that has no stamp left
  abbrev pub IsSeenWorn : (K → K → Bool) → Cache K V → K → ℕ → Type 0
  IsSeenWorn eq c key m =
      (i : ℕ) × (x : Item K V) × IsKeptAt eq c key i x × (m < x.deadline)
      × ((slot_at c.slots i).stamp ≡ c.last_stamp)

  -- why a deadline stays, in this order
  abbrev pub RenewRefused : (K → K → Bool) → Cache K V → K → ℕ → ℕ → CoreError → Type 0
  RenewRefused eq b key ttl now (TickTooLarge limit) = (limit ≡ LAST_TICK) × (LAST_TICK < now)
  RenewRefused eq b key ttl now (TooFar limit) =
      (limit ≡ LAST_TICK) × (now ≤ LAST_TICK) × (LAST_TICK < moment_at b now + ttl)
  RenewRefused eq b key ttl now Missing = InRange b ttl now × IsUnseen eq b key (moment_at b now)
  RenewRefused eq b key ttl now Worn = InRange b ttl now × IsSeenWorn eq b key (moment_at b now)
  RenewRefused eq b key ttl now e = ⊥

  -- what is seen gets another deadline, under its slot's next stamp; or it is refused, and
  -- nothing changes
  abbrev pub Renews : (K → K → Bool) → Cache K V → K → ℕ → ℕ → Result ℕ CoreError → Cache K V
      → Type 0
  Renews eq b key ttl now (Ok d) c =
      InRange b ttl now × (d ≡ moment_at b now + ttl)
      × ((i : ℕ) × (x : Item K V) × IsKeptAt eq b key i x × (moment_at b now < x.deadline)
      × ((slot_at b.slots i).stamp < b.last_stamp)
      × (c ≡ renewed b (moment_at b now) i
      (record { key = x.key; value = x.value; deadline = d })))
  Renews eq b key ttl now (Err e) c = RenewRefused eq b key ttl now e × (c ≡ b)

  -- put

  -- nothing is kept at the key
  abbrev pub IsAbsent : (K → K → Bool) → Cache K V → K → Type 0
  IsAbsent eq c key =
      (i : ℕ) (x : Item K V) → (slot_at c.slots i).item ≡ Some x → eq key x.key ≡ false

  -- the key is kept, in a slot that has no stamp left
  abbrev pub IsKeptWorn : (K → K → Bool) → Cache K V → K → Type 0
  IsKeptWorn eq c key =
      (i : ℕ) × (x : Item K V) × IsKeptAt eq c key i x
      × ((slot_at c.slots i).stamp ≡ c.last_stamp)

  -- a key that is kept gets another value and deadline, under its slot's next stamp; its old
  -- value is handed back
  abbrev pub Replaces : (K → K → Bool) → Cache K V → K → V → ℕ → V → Cache K V → Type 0
  Replaces eq b key value when old c =
      (i : ℕ) × (x : Item K V) × IsKeptAt eq b key i x
      × ((slot_at b.slots i).stamp < b.last_stamp) × (old ≡ x.value)
      × (c ≡ renewed b b.moment i (record { key = x.key; value = value; deadline = when }))

  -- a key that isn't kept goes to a free slot, under the slot's next stamp
  abbrev pub Adds : (K → K → Bool) → Cache K V → K → V → ℕ → Cache K V → Type 0
  Adds eq b key value when c =
      (i : ℕ) × (k : K) × (i < length b.slots) × ((slot_at b.slots i).item ≡ None)
      × ((slot_at b.slots i).stamp < b.last_stamp) × (eq key k ≡ true)
      × (c ≡ renewed b b.moment i (record { key = k; value = value; deadline = when }))

  -- as many slots are kept or used up
  abbrev pub full_count : Cache K V → ℕ
  full_count c = count_by is_kept c.slots + count_by (is_used_up c.last_stamp) c.slots

  -- why a key that isn't kept isn't put: no slot is free, or memory was refused
  abbrev pub AddRefused : Cache K V → CoreError → Type 0
  AddRefused b (Full linked worn) =
      (linked ≡ count_by is_kept b.slots)
      × (worn ≡ count_by (is_used_up b.last_stamp) b.slots) × (linked + worn ≡ length b.slots)
  AddRefused b NoMemory = full_count b ≢ length b.slots
  AddRefused b e = ⊥

  -- why a put is refused, in this order: what is left then is `c`, and `p` is the cache at the
  -- call's moment, with what was due dropped
  abbrev pub PutRefused : (K → K → Bool) → Cache K V → K → ℕ → ℕ → Cache K V → CoreError
      → Cache K V → Type 0
  PutRefused eq b key ttl now p (TickTooLarge limit) c =
      (limit ≡ LAST_TICK) × (LAST_TICK < now) × (c ≡ b)
  PutRefused eq b key ttl now p (TooFar limit) c =
      (limit ≡ LAST_TICK) × (now ≤ LAST_TICK) × (LAST_TICK < moment_at b now + ttl) × (c ≡ b)
  PutRefused eq b key ttl now p Worn c = InRange b ttl now × IsKeptWorn eq p key × (c ≡ p)
  PutRefused eq b key ttl now p e c =
      InRange b ttl now × IsAbsent eq p key × AddRefused p e × (c ≡ p)

  -- where tick and deadline are in range, a put sets the moment and drops what is due; then a key
  -- that is kept gets the new value, and one that isn't goes to a free slot
  abbrev pub Puts : (K → K → Bool) → Cache K V → K → V → ℕ → ℕ
      → Result (Option V) (CoreError × K × V) → Cache K V → Type 0
  Puts eq b key value ttl now (Ok (Some old)) c =
      InRange b ttl now
      × Replaces eq (purged b (moment_at b now)) key value (moment_at b now + ttl) old c
  Puts eq b key value ttl now (Ok None) c =
      InRange b ttl now × IsAbsent eq (purged b (moment_at b now)) key
      × Adds eq (purged b (moment_at b now)) key value (moment_at b now + ttl) c
  Puts eq b key value ttl now (Err e) c =
      PutRefused eq b key ttl now (purged b (moment_at b now)) e.0 c × (e.1 ≡ key)
      × (e.2 ≡ value)
