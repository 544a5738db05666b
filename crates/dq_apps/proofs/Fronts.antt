-- What the calls come to that refresh a cache where a plain call wants stamps.
use Rattle.std.proofs.Common.{◌≡◌, ℕ, ◌+◌, ◌<◌, ◌≤◌, suc, Bool, true, false, cond, ◌&&◌, not, nat_lt, List, [], ◌∷◌, Option, Some, None, is_none, Result, Ok, Err, refl, sym, ap, ◌∙◌, subst, inl, inr, arith}
use Rattle.std.specs.Prelude.{IfOk, IfErr, OnErr, IsSomeAnd}
use Rattle.std.specs.List.{count_by}
use Rattle.std.proofs.lemmas.Bool.{cases_lt, lt-ltb}
use Rattle.dq_core.specs.declared.errors.CoreError.{CoreError}
use Rattle.dq_core.specs.declared.errors.CoreError.TheVariants.{TooFar, Full, Missing, WasCancelled, Worn, TickTooLarge, BadConfig, NoMemory}
use Rattle.dq_apps.specs.Cache.{Item, CacheSlot, Cache, slot_at, moment_at, value_seen, is_kept}
use Rattle.dq_apps.specs.Calls.{is_used_up, purged, Renews, Puts}
use Rattle.dq_apps.specs.AtTheCall.{IsSeenUntil, KeepsSeen, KeepsOthers, ShowsPut, HandsBack, ShowsRenewal}
use Rattle.dq_apps.specs.Refreshes.{IsRefreshed, Refreshes, Touches, WantsStamps, Sets}
use Rattle.dq_apps.proofs.TimerRows.{count-cons}
use Rattle.dq_apps.proofs.Sweeps.{swept_at}

abbrev one_if : Bool → ℕ
one_if b = cond b 1 0

-- stamps of a slot that was used once at most
once_small : (k : Bool) (stamp : ℕ) → stamp ≡ cond k 1 0 → stamp ≤ 1
once_small k stamp is = by k is
  where
    by : (k : Bool) → stamp ≡ cond k 1 0 → stamp ≤ 1
    by true e = omega (arith, e)
    by false e = omega (arith, e)

-- what was refused for want of stamps isn't refused for want of memory
pub no_memory : (f : CoreError) → f ≡ NoMemory → WantsStamps f → ⊥
no_memory f is w = subst WantsStamps is w

pub worn_wants : (f : CoreError) → f ≡ Worn → WantsStamps f
worn_wants f is = subst WantsStamps (sym is) tt

module _ {K V : Type 0} where
  left_stamp : (last stamp : ℕ) (o : Option (Item K V)) → stamp ≤ 1 → 1 < last → (is_none o && not (nat_lt stamp last)) ≡ false
  left_stamp last stamp None small many = rw (lt-ltb stamp last (omega (arith, small, many))) refl
  left_stamp last stamp (Some x) small many = refl

  no_used_up : (last : ℕ) → 1 < last → (ss : List (CacheSlot K V)) → ((i : ℕ) → (slot_at ss i).stamp ≤ 1) → count_by (is_used_up last) ss ≡ 0
  no_used_up last many [] h = refl
  no_used_up last many (s ∷ ss) h =
      let rest = no_used_up last many ss (λ i. h (suc i)) in
      let first : one_if (is_used_up last s) ≡ 0 = ap one_if (left_stamp last s.stamp s.item (h 0) many) in
      let count = count-cons (is_used_up last) s ss in
      omega (arith, count, first, rest)

  -- a refreshed cache
  module _ (eq : K → K → Bool) (p b : Cache K V) (fresh : IsRefreshed p b) where
    small_stamps : (i : ℕ) → (slot_at b.slots i).stamp ≤ 1
    small_stamps i = once_small (is_kept (slot_at b.slots i)) (slot_at b.slots i).stamp (fresh.stamps i)

    swept_small : (m i : ℕ) → (slot_at (purged b m).slots i).stamp ≤ 1
    swept_small m i = let at = ap (λ s. s.stamp) (swept_at m b.slots i) in let s = small_stamps i in omega (arith, at, s)

    -- a renewal of it is refused for want of stamps only where there is one
    pub renewal_worn : (key : K) (ttl now : ℕ) (c : Cache K V) (r : Result ℕ CoreError) → Renews eq b key ttl now r c → IfErr r (λ e. e ≡ Worn → p.last_stamp ≤ 1)
    renewal_worn key ttl now c (Ok d) r = tt
    renewal_worn key ttl now c (Err Worn) r = λ worn.
        let at = r.0.1.4 in
        let s = small_stamps r.0.1.0 in
        let last = fresh.last in
        omega (arith, at, s, last)
    renewal_worn key ttl now c (Err (TooFar limit)) r = λ worn. absurd (cc)
    renewal_worn key ttl now c (Err (Full linked worn)) r = λ worn. absurd (cc)
    renewal_worn key ttl now c (Err Missing) r = λ worn. absurd (cc)
    renewal_worn key ttl now c (Err WasCancelled) r = λ worn. absurd (cc)
    renewal_worn key ttl now c (Err (TickTooLarge limit)) r = λ worn. absurd (cc)
    renewal_worn key ttl now c (Err BadConfig) r = λ worn. absurd (cc)
    renewal_worn key ttl now c (Err NoMemory) r = λ worn. absurd (cc)

    -- nor a put
    put_worn : (key : K) (value : V) (ttl now : ℕ) (c : Cache K V) (e : CoreError) (k : K) (v : V) → Puts eq b key value ttl now (Err (e, k, v)) c → WantsStamps e → p.last_stamp ≤ 1
    put_worn key value ttl now c Worn k v r w =
        let at = r.0.1.3 in
        let s = swept_small (moment_at b now) r.0.1.0 in
        let last = fresh.last in
        omega (arith, at, s, last)
    put_worn key value ttl now c (Full linked worn) k v r w = elim (cases_lt 1 b.last_stamp) [
      | inl many ↦
          let none = no_used_up b.last_stamp many (purged b (moment_at b now)).slots (swept_small (moment_at b now)) in
          let told = r.0.2.1 in
          absurd (omega (arith, none, told, w))
      | inr few ↦ let last = fresh.last in omega (arith, few, last)
    ]
    put_worn key value ttl now c (TooFar limit) k v r w = absurd w
    put_worn key value ttl now c Missing k v r w = absurd w
    put_worn key value ttl now c WasCancelled k v r w = absurd w
    put_worn key value ttl now c (TickTooLarge limit) k v r w = absurd w
    put_worn key value ttl now c BadConfig k v r w = absurd w
    put_worn key value ttl now c NoMemory k v r w = absurd w

    pub puts_worn : (key : K) (value : V) (ttl now : ℕ) (c : Cache K V) (r : Result (Option V) (CoreError × K × V)) → Puts eq b key value ttl now r c → IfErr r (λ e. WantsStamps e.0 → p.last_stamp ≤ 1)
    puts_worn key value ttl now c (Ok old) r = tt
    puts_worn key value ttl now c (Err e) r = λ w. put_worn key value ttl now c e.0 e.1 e.2 r w

  -- a renewal was refused for want of stamps
  renewal_is : (eq : K → K → Bool) (b b1 : Cache K V) (key : K) (ttl now : ℕ) (e : CoreError) → WantsStamps e → Renews eq b key ttl now (Err e) b1 → Renews eq b key ttl now (Err Worn) b × (b1 ≡ b)
  renewal_is eq b b1 key ttl now Worn w r = ((r.0, refl), r.1)
  renewal_is eq b b1 key ttl now (Full linked worn) w r = absurd r.0
  renewal_is eq b b1 key ttl now (TooFar limit) w r = absurd w
  renewal_is eq b b1 key ttl now Missing w r = absurd w
  renewal_is eq b b1 key ttl now WasCancelled w r = absurd w
  renewal_is eq b b1 key ttl now (TickTooLarge limit) w r = absurd w
  renewal_is eq b b1 key ttl now BadConfig w r = absurd w
  renewal_is eq b b1 key ttl now NoMemory w r = absurd w

  module _ (eq : K → K → Bool) (b b1 : Cache K V) (key : K) (ttl now : ℕ) (e : CoreError) (wants : WantsStamps e) (first : Renews eq b key ttl now (Err e) b1) where
    same : b1 ≡ b
    same = (renewal_is eq b b1 key ttl now e wants first).1

    worn_first : Renews eq b key ttl now (Err Worn) b
    worn_first = (renewal_is eq b b1 key ttl now e wants first).0

    -- memory was refused
    pub touch_no_memory : (c : Cache K V) (f : CoreError) → Refreshes b1 (Err f) c → Touches eq b key ttl now (Err f) c
    touch_no_memory c f r = inr (worn_first, inl (ap (λ x. Err x) r.0, r.1 ∙ same))

    pub touch_no_memory_seen : (c : Cache K V) (f : CoreError) → Refreshes b1 (Err f) c → (q : K) (t : ℕ) → value_seen eq c q t ≡ value_seen eq b q t
    touch_no_memory_seen c f r q t = ap (λ x. value_seen eq x q t) (r.1 ∙ same)

    -- and else the refreshed cache was renewed
    module _ (mid c : Cache K V) (fresh : IsRefreshed b1 mid) (keeps : KeepsSeen eq b1 mid 0) (r : Result ℕ CoreError) (renews : Renews eq mid key ttl now r c) where
      refreshed_b : IsRefreshed b mid
      refreshed_b = let P : Cache K V → Type 0 = λ x. IsRefreshed x mid in subst P same fresh

      keeps_b : (q : K) (t : ℕ) → value_seen eq mid q t ≡ value_seen eq b q t
      keeps_b q t = keeps q t (omega arith) ∙ ap (λ x. value_seen eq x q t) same

      pub touched : Touches eq b key ttl now r c
      touched = inr (worn_first, inr (mid, refreshed_b, renews))

      pub touched_seen : (o : Result ℕ CoreError) → IfOk o (ShowsRenewal eq mid key ttl now c) → IfOk o (ShowsRenewal eq b key ttl now c)
      touched_seen (Ok d) is =
          let m = refreshed_b.moment in
          let deadline = is.0 in
          let P : Option V → Type 0 = λ o. IsSomeAnd o (λ v. IsSeenUntil eq c key v d) in
          (omega (arith, deadline, m), subst P (keeps_b key now) is.1)
      touched_seen (Err x) is = tt

      pub touched_others : KeepsOthers eq mid c key now → KeepsOthers eq b c key now
      touched_others others q t apart later = others q t apart later ∙ keeps_b q t

      pub touched_refused : (o : Result ℕ CoreError) → OnErr o (c ≡ mid) → OnErr o (KeepsSeen eq b c 0)
      touched_refused (Ok d) is = tt
      touched_refused (Err x) is = λ q t later. ap (λ x. value_seen eq x q t) is ∙ keeps_b q t

      pub touched_worn : IfErr r (λ x. x ≡ Worn → b.last_stamp ≤ 1)
      touched_worn = renewal_worn eq b mid refreshed_b key ttl now c r renews

  -- a put was refused for want of stamps
  pub refused_is : (eq : K → K → Bool) (b p : Cache K V) (key k : K) (value v : V) (ttl now : ℕ) (e : CoreError) → WantsStamps e → Puts eq b key value ttl now (Err (e, k, v)) p → (p ≡ purged b (moment_at b now)) × (k ≡ key) × (v ≡ value)
  refused_is eq b p key k value v ttl now Worn w r = (r.0.2, r.1, r.2)
  refused_is eq b p key k value v ttl now (Full linked worn) w r = (r.0.3, r.1, r.2)
  refused_is eq b p key k value v ttl now (TooFar limit) w r = absurd w
  refused_is eq b p key k value v ttl now Missing w r = absurd w
  refused_is eq b p key k value v ttl now WasCancelled w r = absurd w
  refused_is eq b p key k value v ttl now (TickTooLarge limit) w r = absurd w
  refused_is eq b p key k value v ttl now BadConfig w r = absurd w
  refused_is eq b p key k value v ttl now NoMemory w r = absurd w

  module _ (eq : K → K → Bool) (b p : Cache K V) (key k : K) (value v : V) (ttl now : ℕ) (e : CoreError) (wants : WantsStamps e) (first : Puts eq b key value ttl now (Err (e, k, v)) p) where
    abbrev left : Cache K V
    left = purged b (moment_at b now)

    abbrev pub back_key : k ≡ key
    back_key = (refused_is eq b p key k value v ttl now e wants first).1

    abbrev pub back_value : v ≡ value
    back_value = (refused_is eq b p key k value v ttl now e wants first).2

    p_is : p ≡ left
    p_is = (refused_is eq b p key k value v ttl now e wants first).0

    first_left : Puts eq b key value ttl now (Err (e, key, value)) left
    first_left =
        let P : Cache K V → K → V → Type 0 = λ x y z. Puts eq b key value ttl now (Err (e, y, z)) x in
        let one = subst (λ x. P x k v) p_is first in
        let two = subst (λ y. P left y v) back_key one in
        subst (λ z. P left key z) back_value two

    -- memory was refused
    pub set_no_memory : (c : Cache K V) (f : CoreError) → Refreshes p (Err f) c → Sets eq b key value ttl now (Err (f, k, v)) c
    set_no_memory c f refused =
        inr (e, wants, first_left, inl ((λ i. Err (refused.0 i, back_key i, back_value i)), refused.1 ∙ p_is))

    pub set_no_memory_seen : KeepsSeen eq b p now → (c : Cache K V) (f : CoreError) → Refreshes p (Err f) c → KeepsSeen eq b c now
    set_no_memory_seen keeps c f refused q t later = ap (λ x. value_seen eq x q t) refused.1 ∙ keeps q t later

    pub set_no_memory_worn : (c : Cache K V) (f : CoreError) → Refreshes p (Err f) c → WantsStamps f → b.last_stamp ≤ 1
    set_no_memory_worn c f refused w = absurd (subst WantsStamps refused.0 w)

    -- and else the refreshed cache was put to
    module _ (mid c : Cache K V) (fresh : IsRefreshed p mid) (keeps : KeepsSeen eq p mid 0) (before : KeepsSeen eq b p now) (r : Result (Option V) (CoreError × K × V)) (puts : Puts eq mid k v ttl now r c) where
      puts_left : Puts eq mid key value ttl now r c
      puts_left =
          let P : K → V → Type 0 = λ y z. Puts eq mid y z ttl now r c in
          subst (λ z. P key z) back_value (subst (λ y. P y v) back_key puts)

      fresh_left : IsRefreshed left mid
      fresh_left = let P : Cache K V → Type 0 = λ x. IsRefreshed x mid in subst P p_is fresh

      pub set_again : Sets eq b key value ttl now r c
      set_again = inr (e, wants, first_left, inr (mid, fresh_left, puts_left))

      same_when : moment_at mid now ≡ moment_at b now
      same_when = let m = fresh_left.moment in omega (arith, m)

      keeps_on : KeepsSeen eq b mid now
      keeps_on q t later = keeps q t (omega arith) ∙ before q t later

      pub set_seen : (o : Result (Option V) (CoreError × K × V)) → IfOk o (ShowsPut eq mid k v ttl now c) → IfOk o (ShowsPut eq b key value ttl now c)
      set_seen (Ok old) is =
          let P : K → V → ℕ → Type 0 = λ y z m. IsSeenUntil eq c y z (m + ttl) in
          (subst (λ m. P key value m) same_when (subst (λ z. P key z (moment_at mid now)) back_value (subst (λ y. P y v (moment_at mid now)) back_key is.0)), is.1 ∙ (ap (λ y. value_seen eq mid y now) back_key ∙ keeps_on key now (omega arith)))
      set_seen (Err x) is = tt

      pub set_others : KeepsOthers eq mid c k now → KeepsOthers eq b c key now
      set_others others q t apart later = others q t (ap (λ y. eq y q) back_key ∙ apart) later ∙ keeps_on q t later

      pub set_refused : (o : Result (Option V) (CoreError × K × V)) → IfErr o (HandsBack eq mid k v now c) → IfErr o (HandsBack eq b key value now c)
      set_refused (Ok old) is = tt
      set_refused (Err x) is = (is.0 ∙ back_key, is.1 ∙ back_value, λ q t later. is.2 q t later ∙ keeps_on q t later)

      pub set_worn : IfErr r (λ x. WantsStamps x.0 → b.last_stamp ≤ 1)
      set_worn = puts_worn eq left mid fresh_left key value ttl now c r puts_left
