-- What an expiring cache shows.
use Rattle.std.specs.Prelude.{◌≡◌, ℕ, ◌<◌, ◌≤◌, max, nat_lt, Bool, true, List, [], ◌∷◌, Option}
use Rattle.std.specs.Prelude.{Some, None, length, filter, slice_index_or, is_some}
use Rattle.std.specs.Option.{option_map}
use Rattle.std.specs.Map.{lookup}
use Rattle.dq_ticks.specs.declared.TheConstants.{LAST_TICK, LAST_STAMP, CAPACITY_LIMIT}

-- what is kept: a key, its value, and the deadline from which on it isn't seen
pub record Item (K V : Type 0) : Type 0 where
  pub key : K
  pub value : V
  pub deadline : ℕ

-- a slot: its present stamp, and what is kept there
pub record CacheSlot (K V : Type 0) : Type 0 where
  pub stamp : ℕ
  pub item : Option (Item K V)

-- a cache: the last stamp of a slot, its moment, and its slots
pub record Cache (K V : Type 0) : Type 0 where
  pub last_stamp : ℕ
  pub moment : ℕ
  pub slots : List (CacheSlot K V)

-- what is stored at a key
pub record Stored (V : Type 0) : Type 0 where
  pub value : V
  pub deadline : ℕ
  pub stamp : ℕ

module _ {K V : Type 0} where
  -- a slot that was never used
  abbrev pub bare : CacheSlot K V
  bare = record { stamp = 0; item = None }

  -- the slot at an index; past the last one, one that was never used
  abbrev pub slot_at : List (CacheSlot K V) → ℕ → CacheSlot K V
  slot_at slots i = slice_index_or slots i bare

  -- the tick at which a call at `now` is made: the moment, where that is later
  abbrev pub moment_at : Cache K V → ℕ → ℕ
  moment_at c now = max now c.moment

  -- the cache as a list of keys

  -- with the item of a slot of that stamp before the others
  abbrev pub with_item : ℕ → Option (Item K V) → List (K × Stored V) → List (K × Stored V)
  with_item stamp None es = es
  with_item stamp (Some x) es =
      (x.key, record { value = x.value; deadline = x.deadline; stamp = stamp }) ∷ es

  -- the keys that are kept, each with its value, its deadline and its stamp
  abbrev pub entries_of : List (CacheSlot K V) → List (K × Stored V)
  entries_of [] = []
  entries_of (s ∷ ss) = with_item s.stamp s.item (entries_of ss)

  -- what is seen at m: the entries with a later deadline
  abbrev pub seen : ℕ → List (K × Stored V) → List (K × Stored V)
  seen m es = filter (λ e. nat_lt m e.1.deadline) es

  -- the value at the key that passes a test
  abbrev pub value_at : (K → Bool) → List (K × Stored V) → Option V
  value_at test es = option_map (λ (s : Stored V). s.value) (lookup test es)

  -- the value that is seen at a key in a call at `now`
  abbrev pub value_seen : (K → K → Bool) → Cache K V → K → ℕ → Option V
  value_seen eq c key now = value_at (eq key) (seen (moment_at c now) (entries_of c.slots))

  -- something is kept at a slot
  abbrev pub is_kept : CacheSlot K V → Bool
  is_kept s = is_some s.item

  -- where a key is kept

  -- the key is kept at slot i
  pub record IsKeptAt (eq : K → K → Bool) (c : Cache K V) (key : K) (i : ℕ) (x : Item K V)
      : Type 0 where
    pub inside : i < length c.slots
    pub item : (slot_at c.slots i).item ≡ Some x
    pub same : eq key x.key ≡ true

  -- the law

  -- no key is kept twice
  abbrev pub AreDistinct : (K → K → Bool) → List (CacheSlot K V) → Type 0
  AreDistinct eq slots =
      (i j : ℕ) (x y : Item K V) → (slot_at slots i).item ≡ Some x
      → (slot_at slots j).item ≡ Some y → eq x.key y.key ≡ true → i ≡ j

  -- what every cache keeps
  pub record IsCache (eq : K → K → Bool) (c : Cache K V) : Type 0 where
    pub distinct : AreDistinct eq c.slots
    pub deadlines :
        (i : ℕ) (x : Item K V) → (slot_at c.slots i).item ≡ Some x → x.deadline ≤ LAST_TICK
    pub stamps : (i : ℕ) → (slot_at c.slots i).stamp ≤ c.last_stamp
    pub last : c.last_stamp ≤ LAST_STAMP
    pub moment : c.moment ≤ LAST_TICK
    pub capacity : length c.slots ≤ CAPACITY_LIMIT
