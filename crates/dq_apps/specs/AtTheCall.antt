-- What a call changes of what is seen: the short clauses, which one reads first.
use Rattle.std.specs.Prelude.{◌≡◌, ℕ, ◌+◌, ◌<◌, ◌≤◌, nat_lt, Bool, false, Option, Some, None}
use Rattle.std.specs.Prelude.{if◌then◌else◌, IsSomeAnd}
use Rattle.std.specs.List.{count_by}
use Rattle.dq_core.specs.declared.errors.CoreError.{CoreError}
use Rattle.dq_apps.specs.Cache.{Item, Cache, slot_at, moment_at, is_kept, value_seen}

module _ {K V : Type 0} where
  -- at each tick the value is seen at the key before a deadline, and from then on nothing is
  abbrev pub IsSeenUntil : (K → K → Bool) → Cache K V → K → V → ℕ → Type 0
  IsSeenUntil eq c key v d =
      (t : ℕ) → value_seen eq c key t ≡ (if nat_lt (moment_at c t) d then Some v else None)

  -- from `now` on nothing is seen at the key
  abbrev pub IsGone : (K → K → Bool) → Cache K V → K → ℕ → Type 0
  IsGone eq c key now = (t : ℕ) → now ≤ t → value_seen eq c key t ≡ None

  -- from `now` on the same is seen at every key
  abbrev pub KeepsSeen : (K → K → Bool) → Cache K V → Cache K V → ℕ → Type 0
  KeepsSeen eq b c now = (q : K) (t : ℕ) → now ≤ t → value_seen eq c q t ≡ value_seen eq b q t

  -- from `now` on the same is seen at every other key
  abbrev pub KeepsOthers : (K → K → Bool) → Cache K V → Cache K V → K → ℕ → Type 0
  KeepsOthers eq b c key now =
      (q : K) (t : ℕ) → eq key q ≡ false → now ≤ t → value_seen eq c q t ≡ value_seen eq b q t

  -- what a put shows: the value is seen until its deadline, and `old` is what was seen before
  abbrev pub ShowsPut : (K → K → Bool) → Cache K V → K → V → ℕ → ℕ → Cache K V → Option V
      → Type 0
  ShowsPut eq b key value ttl now c old =
      IsSeenUntil eq c key value (moment_at b now + ttl) × (old ≡ value_seen eq b key now)

  -- a put is refused: key and value come back, and from `now` on the same is seen at every key
  abbrev pub HandsBack : (K → K → Bool) → Cache K V → K → V → ℕ → Cache K V → CoreError × K × V
      → Type 0
  HandsBack eq b key value now c e = (e.1 ≡ key) × (e.2 ≡ value) × KeepsSeen eq b c now

  -- what a renewal shows: what was seen is seen until its new deadline, which is `d`
  abbrev pub ShowsRenewal : (K → K → Bool) → Cache K V → K → ℕ → ℕ → Cache K V → ℕ → Type 0
  ShowsRenewal eq b key ttl now c d =
      (d ≡ moment_at b now + ttl)
      × IsSomeAnd (value_seen eq b key now) (λ v. IsSeenUntil eq c key v d)

  -- nothing is seen, at no key and no tick
  abbrev pub ShowsNothing : (K → K → Bool) → Cache K V → Type 0
  ShowsNothing eq c = (q : K) (t : ℕ) → value_seen eq c q t ≡ None

  -- how many keys are kept, seen or due
  abbrev pub kept_count : Cache K V → ℕ
  kept_count c = count_by is_kept c.slots

  -- nothing that is kept is due at the moment
  abbrev pub NoneDueNow : Cache K V → Type 0
  NoneDueNow c =
      (i : ℕ) (x : Item K V) → (slot_at c.slots i).item ≡ Some x → c.moment < x.deadline
