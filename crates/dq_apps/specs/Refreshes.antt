-- What a cache is whose stamps begin again, and the calls that begin them where they are refused.
use Rattle.std.specs.Prelude.{◌≡◌, ◌≢◌, ℕ, ◌<◌, Bool, length, Option, Some, ◌↔◌, ◌⊎◌, ⊤, Result, Ok}
use Rattle.std.specs.Prelude.{Err, IfErr, if◌then◌else◌}
use Rattle.dq_core.specs.declared.errors.CoreError.{CoreError}
use Rattle.dq_core.specs.declared.errors.CoreError.TheVariants.{Full, Worn, NoMemory}
use Rattle.dq_apps.specs.Cache.{Item, CacheSlot, Cache, slot_at, is_kept, moment_at}
use Rattle.dq_apps.specs.Calls.{Renews, Puts, purged}
use Rattle.dq_apps.specs.AtTheCall.{kept_count}

-- a call is refused for want of stamps
abbrev pub WantsStamps : CoreError → Type 0
WantsStamps Worn = ⊤
WantsStamps (Full linked worn) = 0 < worn
WantsStamps e = ⊥

module _ {K V : Type 0} where
  -- the item is kept, at some slot
  abbrev pub KeepsItem : Cache K V → Item K V → Type 0
  KeepsItem c x = (i : ℕ) × ((slot_at c.slots i).item ≡ Some x)

  -- a slot that was used once where something is kept, and else never
  abbrev pub IsUsedOnce : CacheSlot K V → Type 0
  IsUsedOnce s = s.stamp ≡ (if is_kept s then 1 else 0)

  -- the same items are kept, and as many; a slot has the stamp 1 where one is kept, and else 0
  pub record IsRefreshed (b c : Cache K V) : Type 0 where
    pub last : c.last_stamp ≡ b.last_stamp
    pub moment : c.moment ≡ b.moment
    pub capacity : length c.slots ≡ length b.slots
    pub items : (x : Item K V) → KeepsItem b x ↔ KeepsItem c x
    pub count : kept_count c ≡ kept_count b
    pub stamps : (i : ℕ) → IsUsedOnce (slot_at c.slots i)

  -- all stamps begin again, or memory is refused and nothing changes
  abbrev pub Refreshes : Cache K V → Result (Unit {0}) CoreError → Cache K V → Type 0
  Refreshes b (Ok done) c = IsRefreshed b c
  Refreshes b (Err e) c = (e ≡ NoMemory) × (c ≡ b)

  -- touch

  -- what a renewal does; where it is refused as Worn, the cache between is the refreshed one, and
  -- what a renewal does to that, unless memory is refused
  abbrev pub Touches : (K → K → Bool) → Cache K V → K → ℕ → ℕ → Result ℕ CoreError → Cache K V
      → Type 0
  Touches eq b key ttl now r c =
      (Renews eq b key ttl now r c × IfErr r (λ e. e ≢ Worn))
      ⊎ (Renews eq b key ttl now (Err Worn) b × (((r ≡ Err NoMemory) × (c ≡ b))
      ⊎ ((between : Cache K V) × IsRefreshed b between × Renews eq between key ttl now r c)))

  -- set

  -- what a put does to the refreshed cache, unless memory is refused
  abbrev pub PutsRefreshed : (K → K → Bool) → Cache K V → K → V → ℕ → ℕ
      → Result (Option V) (CoreError × K × V) → Cache K V → Type 0
  PutsRefreshed eq p key value ttl now r c =
      ((r ≡ Err (NoMemory, key, value)) × (c ≡ p))
      ⊎ ((between : Cache K V) × IsRefreshed p between × Puts eq between key value ttl now r c)

  -- what a put does; where it is refused for want of stamps, what is due is dropped, and then what
  -- a put does to the refreshed cache
  abbrev pub Sets : (K → K → Bool) → Cache K V → K → V → ℕ → ℕ
      → Result (Option V) (CoreError × K × V) → Cache K V → Type 0
  Sets eq b key value ttl now r c =
      (Puts eq b key value ttl now r c × IfErr r (λ e. WantsStamps e.0 → ⊥))
      ⊎ ((e : CoreError) × WantsStamps e
      × Puts eq b key value ttl now (Err (e, key, value)) (purged b (moment_at b now))
      × PutsRefreshed eq (purged b (moment_at b now)) key value ttl now r c)
