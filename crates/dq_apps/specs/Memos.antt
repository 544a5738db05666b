-- What a look-up does that makes what isn't seen, and how look-ups are counted.
use Rattle.std.specs.Prelude.{◌≡◌, ℕ, ◌+◌, ◌⊎◌, min, Bool, true, false, Option, Some, None, IsSome}
use Rattle.std.specs.Prelude.{Result, Ok, Err}
use Rattle.dq_core.specs.declared.errors.CoreError.{CoreError}
use Rattle.dq_core.specs.declared.errors.CoreError.TheVariants.{NoMemory}
use Rattle.dq_apps.specs.Cache.{Cache, value_seen}
use Rattle.dq_apps.specs.Refreshes.{Sets}

module _ {K V : Type 0} where
  -- a copy of the value is set at a key where none is seen
  abbrev pub SetsMade : (K → K → Bool) → (V → V → Type 0) → Cache K V → K → V → ℕ → ℕ → Cache K V
      → Type 0
  SetsMade eq copies b key v ttl now c =
      (w : V) × copies v w × Sets eq b key w ttl now (Ok None) c

  -- memory for the copy is refused and nothing changes, or the copy is refused as a set is
  abbrev pub SetMadeRefused : (K → K → Bool) → (V → V → Type 0) → Cache K V → K → V → ℕ → ℕ
      → CoreError → Cache K V → Type 0
  SetMadeRefused eq copies b key v ttl now e c =
      ((e ≡ NoMemory) × (c ≡ b))
      ⊎ ((w : V) × copies v w × Sets eq b key w ttl now (Err (e, key, w)) c)

  -- why no value comes: memory for a copy of what is seen is refused, and none was made; or one
  -- was made, which comes back
  abbrev pub GetOrSetRefused : (K → K → Bool) → (V → V → Type 0) → (V → Type 0) → Cache K V → K
      → ℕ → ℕ → CoreError → Option V → Cache K V → Type 0
  GetOrSetRefused eq copies makes b key ttl now e None c =
      (e ≡ NoMemory) × IsSome (value_seen eq b key now) × (c ≡ b)
  GetOrSetRefused eq copies makes b key ttl now e (Some v) c =
      (value_seen eq b key now ≡ None) × makes v × SetMadeRefused eq copies b key v ttl now e c

  -- a copy of what is seen, and nothing changes; or, where nothing is seen, what was made, of
  -- which a copy is set
  abbrev pub GetsOrSets : (K → K → Bool) → (V → V → Type 0) → (V → Type 0) → Cache K V → K → ℕ → ℕ
      → Result V (CoreError × Option V) → Cache K V → Type 0
  GetsOrSets eq copies makes b key ttl now (Ok v) c =
      ((w : V) × (value_seen eq b key now ≡ Some w) × copies w v × (c ≡ b))
      ⊎ ((value_seen eq b key now ≡ None) × makes v × SetsMade eq copies b key v ttl now c)
  GetsOrSets eq copies makes b key ttl now (Err e) c =
      GetOrSetRefused eq copies makes b key ttl now e.0 e.1 c

-- one more, but none beyond the greatest u64
abbrev pub one_more : ℕ → ℕ
one_more n = min (n + 1) 18446744073709551615

-- a look-up is counted: as a hit where a value was seen, and else as a miss
abbrev pub CountsOne : Bool → ℕ → ℕ → ℕ → ℕ → Type 0
CountsOne true hits misses hits_then misses_then =
    (hits_then ≡ one_more hits) × (misses_then ≡ misses)
CountsOne false hits misses hits_then misses_then =
    (hits_then ≡ hits) × (misses_then ≡ one_more misses)
