-- What each step leaves of a cache, and what it shows then.
use Rattle.std.proofs.Common.{◌≡◌, ℕ, ◌+◌, ◌<◌, ◌≤◌, zero, suc, Bool, true, List, [], ◌∷◌, length, set, replicate, Option, Some, None, Ok, refl, sym, ap, ◌∙◌, subst, arith}
use Rattle.std.specs.Cmp.{IsEquivalence}
use Rattle.std.specs.List.{IsDistinct}
use Rattle.std.specs.Map.{lookup, keys_of}
use Rattle.std.specs.Option.{option_map}
use Rattle.std.proofs.lemmas.List.{length-map}
use Rattle.dq_ticks.specs.Keys.{KeyName}
use Rattle.dq_ticks.specs.declared.TheConstants.{LAST_TICK}
use Rattle.dq_core.specs.Machine.{Entry}
use Rattle.dq_apps.specs.declared.kept.Kept.{Kept}
use Rattle.dq_apps.specs.Cache.{Item, Cache, bare, slot_at, moment_at}
use Rattle.dq_apps.specs.Calls.{IsAbsent, IsSeenWorn, IsKeptWorn, InRange, emptied, renewed, Takes, TakesDue, Renews, Replaces, Adds, fresh_cache}
use Rattle.dq_apps.specs.TimerTable.{TimerTable, timer_at, unset, stopped, set_at, with_slots, next_key, StopsDue, Starts, Restarts, fresh_timers}
use Rattle.dq_apps.specs.Tied.{item_at, shown_slot, shown_slots, cache_of, IsStock, IsWritten, HadValue}
use Rattle.dq_apps.proofs.TimerRows.{none_new}
use Rattle.dq_apps.proofs.Ties.{shown_at, found, kept_in, at_slot}
use Rattle.dq_apps.proofs.TiedChanges.{same_shown, same_tied, shown_put, tied_emptied, tied_written, shown_written}
use Rattle.dq_apps.proofs.CacheReads.{kept_at, absent_lookup}

module _ {K V : Type 0} {eq : K → K → Bool} (laws : IsEquivalence eq) (es : List (K × Kept V)) (t : TimerTable K) (m : ℕ) (stock : IsStock eq es t m) where
  abbrev c : Cache K V
  c = cache_of eq es t m

  -- the same entries in another order
  pub reordered : (fs : List (K × Kept V)) → ((q : K) → lookup (eq q) fs ≡ lookup (eq q) es) → IsDistinct eq (keys_of fs) → IsStock eq fs t m
  reordered fs same apart = record { tied = same_tied laws es fs t.slots same stock.tied apart; noted = stock.noted; bound = stock.bound }

  pub same_cache : (fs : List (K × Kept V)) → ((q : K) → lookup (eq q) fs ≡ lookup (eq q) es) → cache_of eq fs t m ≡ c
  same_cache fs same = λ i. record { last_stamp = t.last_stamp; moment = m; slots = same_shown laws es fs t.slots same i }

  -- slot i is left without a timer, and the map without its key
  module _ (fs : List (K × Kept V)) (u : TimerTable K) (i noted : ℕ) (key : K) (written : IsWritten eq es key None fs) (is : u ≡ with_slots t noted (stopped t.slots i)) (inside : i < length t.slots)
      (only : (s : Kept V) → lookup (eq key) es ≡ Some s → s.key.entry.index ≡ i)
      (mine : (e : Entry K) → (timer_at t.slots i).entry ≡ Some e → eq key e.value ≡ true) where
    pub left_stock : noted ≤ m → IsStock eq fs u m
    left_stock within =
        let P : TimerTable K → Type 0 = λ x. IsStock eq fs x m in
        subst P (sym is) (record { tied = tied_emptied laws es fs t.slots i key stock.tied inside only mine (timer_at t.slots i).stamp written; noted = within; bound = stock.bound })

    pub left_cache : cache_of eq fs u m ≡ emptied c i
    left_cache =
        let stamp = ap (λ z. z.stamp) (shown_at laws es t.slots i) in
        ap (λ x. cache_of eq fs x m) is
        ∙ ((λ j. record { last_stamp = t.last_stamp; moment = m; slots = shown_put laws es fs t.slots i key stock.tied inside only mine None written (record { stamp = (timer_at t.slots i).stamp; entry = None }) j })
        ∙ (λ j. record { last_stamp = t.last_stamp; moment = m; slots = set c.slots i (record { stamp = sym stamp j; item = None }) }))

  -- one that is due at the moment is dropped
  module _ (fs : List (K × Kept V)) (u : TimerTable K) (key : K) (stops : StopsDue t m (Some key) u) (written : IsWritten eq es key None fs) where
    abbrev timer : Entry K
    timer = record { born = stops.1; value = key; due = Some stops.2 }

    due_only : (s : Kept V) → lookup (eq key) es ≡ Some s → s.key.entry.index ≡ stops.0
    due_only s at =
        let b = stock.tied.back stops.0 timer stops.4 in
        let one : ◌≡◌ {A = Option (Kept V)} (Some s) (Some b.0) = sym at ∙ b.1 in
        let same : s ≡ b.0 = cc in
        ap (λ z. z.key.entry.index) same ∙ b.2

    due_mine : (e : Entry K) → (timer_at t.slots stops.0).entry ≡ Some e → eq key e.value ≡ true
    due_mine e at =
        let one : ◌≡◌ {A = Option (Entry K)} (Some timer) (Some e) = sym stops.4 ∙ at in
        let same : timer ≡ e = cc in
        ap (λ (z : Entry K). eq key z.value) (sym same) ∙ laws.refl key

    pub dropped_stock : IsStock eq fs u m
    dropped_stock = left_stock fs u stops.0 m key written stops.6 stops.3 due_only due_mine (omega arith)

    -- its slot shows its key
    timer_key : (x : Item K V) → (slot_at c.slots stops.0).item ≡ Some x → key ≡ x.key
    timer_key x at =
        let k = kept_in laws es t.slots stock.tied stops.0 x at in
        let r : Entry K = record { born = k.0.key.entry.born; value = x.key; due = Some k.0.deadline } in
        let one : ◌≡◌ {A = Option (Entry K)} (Some timer) (Some r) = sym stops.4 ∙ ap (λ z. z.entry) k.3 in
        let same : timer ≡ r = cc in
        ap (λ z. z.value) same

    -- what the map had of it
    pub due_lookup : (s : Kept V) × (lookup (eq key) es ≡ Some s)
    due_lookup = let b = stock.tied.back stops.0 timer stops.4 in (b.0, b.1)

    pub takes_due : (kept : Kept V) → Some kept ≡ lookup (eq key) es → TakesDue c (Some (key, kept.value)) (cache_of eq fs u m)
    takes_due kept told =
        let a = at_slot laws es t.slots stock.tied stops.0 timer stops.4 in
        let k = kept_at laws es t m stock key a.0 a.1 in
        let P : ℕ → Type 0 = λ i. (slot_at c.slots i).item ≡ Some k.0 in
        let r : Entry K = record { born = a.0.key.entry.born; value = key; due = Some a.0.deadline } in
        let one : ◌≡◌ {A = Option (Entry K)} (Some timer) (Some r) = sym stops.4 ∙ ap (λ z. z.entry) a.3 in
        let same : timer ≡ r = cc in
        let due : ◌≡◌ {A = Option ℕ} (Some stops.2) (Some a.0.deadline) = ap (λ z. z.due) same in
        let deadline : stops.2 ≡ a.0.deadline = cc in
        let shown_due = k.3 in
        let reached = stops.5 in
        let one_kept : ◌≡◌ {A = Option (Kept V)} (Some kept) (Some a.0) = told ∙ a.1 in
        let same_kept : kept ≡ a.0 = cc in
        let value : kept.value ≡ k.0.value = ap (λ z. z.value) same_kept ∙ sym k.2 in
        let shown_key : key ≡ k.0.key = timer_key k.0 (subst P a.2 k.1.item) in
        (stops.0, k.0, subst P a.2 k.1.item, omega (arith, shown_due, deadline, reached), (λ j. (shown_key j, value j)), left_cache fs u stops.0 m key written stops.6 stops.3 due_only due_mine)

  -- none is due at the moment
  module _ (u : TimerTable K) (stops : StopsDue t m None u) where
    pub rest_stock : IsStock eq es u m
    rest_stock = let P : TimerTable K → Type 0 = λ x. IsStock eq es x m in subst P (sym stops.0) (record { tied = stock.tied; noted = omega arith; bound = stock.bound })

    pub rest_takes : TakesDue c None (cache_of eq es u m)
    rest_takes = (
      ap (λ x. cache_of eq es x m) stops.0,
      λ i x is.
          let k = kept_in laws es t.slots stock.tied i x is in
          let late = stops.1 i k.0.key.entry.born x.key k.0.deadline (ap (λ z. z.entry) k.3) in
          let d = k.5 in
          omega (arith, late, d),
    )

  -- a key that the map has, and its timer's slot
  module _ (fs : List (K × Kept V)) (u : TimerTable K) (q : K) (s : Kept V) (at : lookup (eq q) es ≡ Some s) where
    abbrev i : ℕ
    i = s.key.entry.index

    key_only : (z : Kept V) → lookup (eq q) es ≡ Some z → z.key.entry.index ≡ i
    key_only z az =
        let one : ◌≡◌ {A = Option (Kept V)} (Some z) (Some s) = sym az ∙ at in
        let same : z ≡ s = cc in
        ap (λ x. x.key.entry.index) same

    key_mine : (e : Entry K) → (timer_at t.slots i).entry ≡ Some e → eq q e.value ≡ true
    key_mine e ae =
        let f = found laws es t.slots stock.tied q s at in
        let r : Entry K = record { born = s.key.entry.born; value = f.0; due = Some s.deadline } in
        let one : ◌≡◌ {A = Option (Entry K)} (Some r) (Some e) = sym (ap (λ z. z.entry) f.1.timer) ∙ ae in
        let same : r ≡ e = cc in
        ap (λ (z : Entry K). eq q z.value) (sym same) ∙ f.3

    key_inside : i < length t.slots
    key_inside = (found laws es t.slots stock.tied q s at).1.inside

    -- it is taken
    module _ (written : IsWritten eq es q None fs) (is : u ≡ with_slots t t.noted (stopped t.slots i)) where
      pub taken_stock : IsStock eq fs u m
      taken_stock = left_stock fs u i t.noted q written is key_inside key_only key_mine stock.noted

      pub taken_takes : (n : ℕ) (kept : Kept V) → n < s.deadline → Some kept ≡ lookup (eq q) es → Takes eq c q n (Some kept.value) (cache_of eq fs u m)
      taken_takes n kept later told =
          let k = kept_at laws es t m stock q s at in
          let d = k.3 in
          let one : ◌≡◌ {A = Option (Kept V)} (Some kept) (Some s) = told ∙ at in
          let same : kept ≡ s = cc in
          (i, k.0, k.1, omega (arith, later, d), ap (λ z. z.value) same ∙ sym k.2, left_cache fs u i t.noted q written is key_inside key_only key_mine)

    -- it gets a value and a deadline, under the next stamp
    module _ (v : V) (when moved : ℕ) (j : KeyName) (r : Restarts t s.key when (Some j) u) (written : IsWritten eq es q (Some (record { value = v; deadline = when; key = j })) fs) where
      abbrev copy : K
      copy = (found laws es t.slots stock.tied q s at).0

      abbrev next : Kept V
      next = record { value = v; deadline = when; key = next_key s.key }

      next_written : IsWritten eq es q (Some next) fs
      next_written = let P : KeyName → Type 0 = λ k. IsWritten eq es q (Some (record { value = v; deadline = when; key = k })) fs in subst P r.1 written

      next_is : u ≡ with_slots t t.noted (set_at t.slots i (s.key.stamp + 1) s.key.entry.born copy when)
      next_is = r.2 copy s.deadline (found laws es t.slots stock.tied q s at).1

      pub renewed_stock : m ≤ moved → moved ≤ LAST_TICK → IsStock eq fs u moved
      renewed_stock later bound =
          let f = found laws es t.slots stock.tied q s at in
          let P : TimerTable K → Type 0 = λ x. IsStock eq fs x moved in
          let noted = stock.noted in
          subst P (sym next_is) (record { tied = tied_written laws es fs t.slots i q stock.tied key_inside key_only key_mine next copy next_written refl f.1.shard f.3; noted = omega (arith, noted, later); bound = bound })

      pub renewed_cache : cache_of eq fs u moved ≡ renewed c moved i (record { key = copy; value = v; deadline = when })
      renewed_cache =
          let f = found laws es t.slots stock.tied q s at in
          let stamp : (slot_at c.slots i).stamp ≡ s.key.stamp = ap (λ z. z.stamp) f.2 in
          ap (λ x. cache_of eq fs x moved) next_is
          ∙ ((λ k. record { last_stamp = t.last_stamp; moment = moved; slots = shown_written laws es fs t.slots i q stock.tied key_inside key_only key_mine next copy next_written refl f.1.shard f.3 k })
          ∙ (λ k. record { last_stamp = t.last_stamp; moment = moved; slots = set c.slots i (record { stamp = sym stamp k + 1; item = Some (record { key = copy; value = v; deadline = when }) }) }))

      stamp_left : (slot_at c.slots i).stamp < c.last_stamp
      stamp_left =
          let f = found laws es t.slots stock.tied q s at in
          let stamp : (slot_at c.slots i).stamp ≡ s.key.stamp = ap (λ z. z.stamp) f.2 in
          let below = r.0 in
          omega (arith, stamp, below)

      pub replaces : (old : V) → HadValue (lookup (eq q) es) old → moved ≡ m → Replaces eq c q v when old (cache_of eq fs u moved)
      replaces old told same =
          let k = kept_at laws es t m stock q s at in
          let one : ◌≡◌ {A = Option V} (Some s.value) (Some old) = sym (ap (option_map (λ (z : Kept V). z.value)) at) ∙ told in
          let value : s.value ≡ old = cc in
          (i, k.0, k.1, stamp_left, sym value ∙ sym k.2, renewed_cache ∙ ap (λ n. renewed c n i (record { key = copy; value = v; deadline = when })) same)

      pub renews : (ttl now : ℕ) → v ≡ s.value → InRange c ttl now → when ≡ moment_at c now + ttl → moved ≡ moment_at c now → moment_at c now < s.deadline → Renews eq c q ttl now (Ok when) (cache_of eq fs u moved)
      renews ttl now value range deadline same later =
          let k = kept_at laws es t m stock q s at in
          (range, deadline, (i, k.0, k.1, later, stamp_left, renewed_cache ∙ (λ j. renewed c (same j) i (record { key = copy; value = value j; deadline = when }))))

    -- at its last stamp a slot stays
    module _ (when : ℕ) (r : Restarts t s.key when None u) where
      pub worn_stamp : (slot_at c.slots i).stamp ≡ c.last_stamp
      worn_stamp = ap (λ z. z.stamp) (found laws es t.slots stock.tied q s at).2 ∙ r.0

      pub seen_worn : (n : ℕ) → n < s.deadline → IsSeenWorn eq c q n
      seen_worn n later = let k = kept_at laws es t m stock q s at in (i, k.0, k.1, later, worn_stamp)

      pub kept_worn : IsKeptWorn eq c q
      kept_worn = let k = kept_at laws es t m stock q s at in (i, k.0, k.1, worn_stamp)

      pub worn_cache : cache_of eq es u m ≡ c
      worn_cache = ap (λ x. cache_of eq es x m) r.1

      pub worn_stock : IsStock eq es u m
      worn_stock = let P : TimerTable K → Type 0 = λ x. IsStock eq es x m in subst P (sym r.1) stock

  -- a key that the map doesn't have gets a timer at a free slot
  module _ (fs : List (K × Kept V)) (u : TimerTable K) (key copy : K) (v : V) (when : ℕ) (k : KeyName) (none : lookup (eq key) es ≡ None) (same : eq key copy ≡ true) (starts : Starts t copy when k u)
      (written : IsWritten eq es key (Some (record { value = v; deadline = when; key = k })) fs) where
    new_only : (z : Kept V) → lookup (eq key) es ≡ Some z → z.key.entry.index ≡ k.entry.index
    new_only z az = absurd (cc)

    new_mine : (e : Entry K) → (timer_at t.slots k.entry.index).entry ≡ Some e → eq key e.value ≡ true
    new_mine e ae = let free = starts.free in absurd (cc)

    pub added_stock : IsStock eq fs u m
    added_stock =
        let P : TimerTable K → Type 0 = λ x. IsStock eq fs x m in
        subst P (sym starts.after) (record { tied = tied_written laws es fs t.slots k.entry.index key stock.tied starts.inside new_only new_mine (record { value = v; deadline = when; key = k }) copy written refl starts.shard same; noted = stock.noted; bound = stock.bound })

    pub added_adds : Adds eq c key v when (cache_of eq fs u m)
    added_adds =
        let i = k.entry.index in
        let size : length c.slots ≡ length t.slots = length-map t.slots (shown_slot eq es) in
        let within = starts.inside in
        let at = shown_at laws es t.slots i in
        let stamp : (slot_at c.slots i).stamp ≡ (timer_at t.slots i).stamp = ap (λ z. z.stamp) at in
        let left = starts.left in
        let item : (slot_at c.slots i).item ≡ None = ap (λ z. z.item) at ∙ ap (item_at eq es) starts.free in
        let next : k.stamp ≡ (slot_at c.slots i).stamp + 1 = starts.stamp ∙ ap (λ n. n + 1) (sym stamp) in (
          i,
          copy,
          omega (arith, size, within),
          item,
          omega (arith, stamp, left),
          same,
          ap (λ x. cache_of eq fs x m) starts.after
              ∙ ((λ j. record { last_stamp = t.last_stamp; moment = m; slots = shown_written laws es fs t.slots i key stock.tied starts.inside new_only new_mine (record { value = v; deadline = when; key = k }) copy written refl starts.shard same j })
              ∙ (λ j. record { last_stamp = t.last_stamp; moment = m; slots = set c.slots i (record { stamp = next j; item = Some (record { key = copy; value = v; deadline = when }) }) })),
        )

-- a key that isn't there is added, after room was made for it
module _ {K V : Type 0} {eq : K → K → Bool} (laws : IsEquivalence eq) (es : List (K × Kept V)) (t : TimerTable K) (m : ℕ) (stock : IsStock eq es t m)
    (fs gs : List (K × Kept V)) (same : (q : K) → lookup (eq q) fs ≡ lookup (eq q) es) (apart : IsDistinct eq (keys_of fs))
    (u : TimerTable K) (key copy : K) (v : V) (when : ℕ) (k : KeyName) (absent_key : IsAbsent eq (cache_of eq es t m) key) (equal : eq key copy ≡ true) (starts : Starts t copy when k u)
    (written : IsWritten eq fs key (Some (record { value = v; deadline = when; key = k })) gs) where
  none_there : lookup (eq key) fs ≡ None
  none_there = same key ∙ absent_lookup laws es t m stock key absent_key

  pub new_stock : IsStock eq gs u m
  new_stock = added_stock laws fs t m (reordered laws es t m stock fs same apart) gs u key copy v when k none_there equal starts written

  pub new_adds : Adds eq (cache_of eq es t m) key v when (cache_of eq gs u m)
  new_adds =
      let P : Cache K V → Type 0 = λ b. Adds eq b key v when (cache_of eq gs u m) in
      subst P (same_cache laws es t m stock fs same) (added_adds laws fs t m (reordered laws es t m stock fs same apart) gs u key copy v when k none_there equal starts written)

-- a fresh cache
module _ {K V : Type 0} (eq : K → K → Bool) where
  new_shown : (n : ℕ) → shown_slots {V = V} eq [] (replicate n unset) ≡ replicate n bare
  new_shown zero = refl
  new_shown (suc n) = ap (λ ss. bare ∷ ss) (new_shown n)

  pub made_cache : (es : List (K × Kept V)) (t : TimerTable K) (capacity last : ℕ) → es ≡ [] → t ≡ fresh_timers capacity last → cache_of eq es t 0 ≡ fresh_cache capacity last
  made_cache es t capacity last empty is =
      (λ i. cache_of eq (empty i) (is i) 0) ∙ (λ i. record { last_stamp = last; moment = 0; slots = new_shown capacity i })

  pub made_stock : (es : List (K × Kept V)) (t : TimerTable K) (capacity last : ℕ) → es ≡ [] → t ≡ fresh_timers capacity last → IsDistinct eq (keys_of es) → IsStock eq es t 0
  made_stock es t capacity last empty is apart =
      let P : TimerTable K → Type 0 = λ x. IsStock eq es x 0 in
      subst P (sym is) (record {
        tied = record {
          distinct = apart;
          forth = λ q s at. absurd (none q s (ap (lookup (eq q)) (sym empty) ∙ at));
          back = λ i e at. absurd (none_timer i e at);
        };
        noted = omega arith;
        bound = omega arith;
      })
    where
      none : (q : K) (s : Kept V) → lookup (eq q) [] ≡ Some s → ⊥
      none q s at = cc

      none_timer : (i : ℕ) (e : Entry K) → (timer_at (replicate capacity (unset {K = K})) i).entry ≡ Some e → ⊥
      none_timer i e at =
          let gone : (timer_at (replicate capacity (unset {K = K})) i).entry ≡ None = ap (λ z. z.entry) (none_new capacity i) in
          absurd (cc)
