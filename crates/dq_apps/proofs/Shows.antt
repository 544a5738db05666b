-- What each call leaves of what is seen, from its exact relation.
use Rattle.std.proofs.Common.{◌≡◌, ◌≢◌, ℕ, ◌+◌, ◌<◌, ◌≤◌, max, zero, suc, replicate, Bool, true, false, cond, nat_lt, List, length, map, set, Option, Some, None, refl, sym, ap, ◌∙◌, subst, inl, inr, arith}
use Rattle.std.specs.Cmp.{IsEquivalence}
use Rattle.std.proofs.lemmas.List.{get_or-set_same, get_or-set_other, length-set, length-map}
use Rattle.std.proofs.lemmas.Bool.{cases_eq, cases_lt, le-ltb, lt-ltb, true≢false}
use Rattle.dq_apps.specs.Cache.{Item, CacheSlot, Cache, bare, slot_at, moment_at, entries_of, seen, value_at, value_seen, AreDistinct, IsKeptAt}
use Rattle.dq_apps.specs.Calls.{fresh_cache, left_at, swept, purged, IsUnseen, IsAbsent, renewed, Takes}
use Rattle.dq_apps.specs.AtTheCall.{IsSeenUntil, IsGone, KeepsSeen, KeepsOthers, ShowsNothing}
use Rattle.dq_apps.proofs.SeenSlots.{part, none_seen, only_seen, same_seen, part_hidden, part_shown}
use Rattle.dq_apps.proofs.Sweeps.{swept_at}

-- two keys that are equal to one are equal
pub joined : {K : Type 0} {eq : K → K → Bool} → IsEquivalence eq → (a b c : K) → eq a b ≡ true → eq a c ≡ true → eq b c ≡ true
joined laws a b c ab ac = sym (laws.congr a b c ab) ∙ ac

-- a key that isn't equal to one of two equal keys isn't to the other
parted : {K : Type 0} {eq : K → K → Bool} → IsEquivalence eq → (a b c : K) → eq a b ≡ true → eq a c ≡ false → eq c b ≡ false
parted laws a b c ab ac = laws.symm c b ∙ (sym (laws.congr a b c ab) ∙ ac)

module _ {K V : Type 0} {eq : K → K → Bool} (laws : IsEquivalence eq) where
  -- a key that is kept is kept at one slot
  kept_once : (c : Cache K V) → AreDistinct eq c.slots → (key : K) (i : ℕ) (x : Item K V) → IsKeptAt eq c key i x → (j : ℕ) → j ≢ i → (y : Item K V) → (slot_at c.slots j).item ≡ Some y → eq key y.key ≡ true → ⊥
  kept_once c apart key i x kept j ne y at same = ne (sym (apart i j x y kept.item at (joined laws key x.key y.key kept.same same)))

  -- what is seen of a key that is kept
  pub seen_kept : (c : Cache K V) → AreDistinct eq c.slots → (key : K) (i : ℕ) (x : Item K V) → IsKeptAt eq c key i x → (m : ℕ) → value_at (eq key) (seen m (entries_of c.slots)) ≡ cond (nat_lt m x.deadline) (Some x.value) None
  seen_kept c apart key i x kept m =
      only_seen (eq key) m c.slots i kept.inside (λ j ne. part_hidden (eq key) m (slot_at c.slots j).item (λ y at same. absurd (kept_once c apart key i x kept j ne y at same)))
      ∙ (ap (part (eq key) m) kept.item ∙ part_shown (eq key) m x kept.same)

  -- what isn't seen
  pub unseen_none : (c : Cache K V) (key : K) (m n : ℕ) → IsUnseen eq c key m → m ≤ n → value_at (eq key) (seen n (entries_of c.slots)) ≡ None
  unseen_none c key m n unseen later =
      none_seen (eq key) n c.slots (λ i. part_hidden (eq key) n (slot_at c.slots i).item (λ x at same.
      let due = unseen i x at same in
      omega (arith, due, later)))

  pub absent_none : (c : Cache K V) (key : K) (n : ℕ) → IsAbsent eq c key → value_at (eq key) (seen n (entries_of c.slots)) ≡ None
  absent_none c key n absent =
      none_seen (eq key) n c.slots (λ i. part_hidden (eq key) n (slot_at c.slots i).item (λ x at same. absurd (true≢false (sym same ∙ absent i x at))))

  -- of a fresh cache
  bare_at : (n i : ℕ) → slot_at (replicate n (bare {K = K} {V = V})) i ≡ bare
  bare_at zero i = refl
  bare_at (suc n) zero = refl
  bare_at (suc n) (suc i) = bare_at n i

  pub fresh_nothing : (c : Cache K V) (capacity last : ℕ) → c ≡ fresh_cache capacity last → ShowsNothing eq c
  fresh_nothing c capacity last is q t =
      ap (λ (x : Cache K V). value_seen eq x q t) is
      ∙ none_seen (eq q) (max t 0) (replicate capacity bare) (λ i. ap (λ (s : CacheSlot K V). part (eq q) (max t 0) s.item) (bare_at capacity i))

  -- one slot changes
  module _ (ss : List (CacheSlot K V)) (i : ℕ) (y : CacheSlot K V) (inside : i < length ss) where
    here : slot_at (set ss i y) i ≡ y
    here = get_or-set_same ss i y bare inside

    there : (j : ℕ) → j ≢ i → slot_at (set ss i y) j ≡ slot_at ss j
    there j ne = get_or-set_other ss i j y bare ne

    -- where it showed nothing and shows nothing, the same is seen
    pub set_hidden : (p : K → Bool) (m : ℕ) → part p m y.item ≡ None → part p m (slot_at ss i).item ≡ None → value_at p (seen m (entries_of (set ss i y))) ≡ value_at p (seen m (entries_of ss))
    set_hidden p m new old =
        same_seen p m m ss (set ss i y) (length-set ss i y) (λ j. elim (cases_eq j i) [
          | inl same ↦
              let P : ℕ → Type 0 = λ k. part p m (slot_at (set ss i y) k).item ≡ part p m (slot_at ss k).item in
              subst P (sym same) (ap (λ (s : CacheSlot K V). part p m s.item) here ∙ (new ∙ sym old))
          | inr ne ↦ ap (λ (s : CacheSlot K V). part p m s.item) (there j ne)
        ])

    -- where no other slot shows anything, what it shows is seen
    pub set_shown : (p : K → Bool) (m : ℕ) → ((j : ℕ) → j ≢ i → part p m (slot_at ss j).item ≡ None) → value_at p (seen m (entries_of (set ss i y))) ≡ part p m y.item
    set_shown p m others =
        let size = length-set ss i y in
        only_seen p m (set ss i y) i (omega (arith, size, inside)) (λ j ne. ap (λ (s : CacheSlot K V). part p m s.item) (there j ne) ∙ others j ne)
        ∙ ap (λ (s : CacheSlot K V). part p m s.item) here

  -- an item of another key shows nothing
  other_hidden : (p : K → Bool) (m : ℕ) (o : Option (Item K V)) (x : Item K V) → o ≡ Some x → p x.key ≡ false → part p m o ≡ None
  other_hidden p m o x at fails =
      part_hidden p m o (λ y is passes.
      let one : ◌≡◌ {A = Option (Item K V)} (Some x) (Some y) = sym at ∙ is in
      let same : x ≡ y = cc in
      absurd (true≢false (sym passes ∙ (ap (λ (z : Item K V). p z.key) (sym same) ∙ fails))))

  -- a sweep leaves what is seen from its moment on
  part_swept : (p : K → Bool) (m n : ℕ) (o : Option (Item K V)) → m ≤ n → part p n (left_at m o) ≡ part p n o
  part_swept p m n None later = refl
  part_swept p m n (Some x) later = elim (cases_lt m x.deadline) [
    | inl after ↦ rw (lt-ltb m x.deadline after) refl
    | inr due ↦ rw (le-ltb m x.deadline due) (sym (part_hidden p n (Some x) (λ y is passes.
        let same : x ≡ y = cc in
        let d = ap (λ (z : Item K V). z.deadline) same in
        omega (arith, d, due, later))))
  ]

  pub seen_swept : (c : Cache K V) (key : K) (m n : ℕ) → m ≤ n → value_at (eq key) (seen n (entries_of (map (swept m) c.slots))) ≡ value_at (eq key) (seen n (entries_of c.slots))
  seen_swept c key m n later =
      same_seen (eq key) n n c.slots (map (swept m) c.slots) (length-map c.slots (swept m)) (λ i.
      ap (λ (s : CacheSlot K V). part (eq key) n s.item) (swept_at m c.slots i) ∙ part_swept (eq key) m n (slot_at c.slots i).item later)

  -- a call at t that comes after one at now is made at the same tick
  later_call : (b : Cache K V) (c : Cache K V) (now t : ℕ) → c.moment ≡ moment_at b now → now ≤ t → moment_at c t ≡ moment_at b t
  later_call b c now t is later = omega (arith, is, later)

  -- purge
  pub purge_keeps : (b : Cache K V) (now : ℕ) → KeepsSeen eq b (purged b (moment_at b now)) now
  purge_keeps b now q t later =
      let m = later_call b (purged b (moment_at b now)) now t refl later in
      ap (λ n. value_at (eq q) (seen n (entries_of (map (swept (moment_at b now)) b.slots)))) m
      ∙ seen_swept b q (moment_at b now) (moment_at b t) (omega (arith, later))

  -- take
  module _ (b c : Cache K V) (key : K) (now : ℕ) where
    pub taken_value : AreDistinct eq b.slots → (r : Option V) → Takes eq b key (moment_at b now) r c → r ≡ value_seen eq b key now
    taken_value apart None t = sym (unseen_none b key (moment_at b now) (moment_at b now) t.0 (omega arith))
    taken_value apart (Some v) t =
        let later = lt-ltb (moment_at b now) t.1.deadline t.3 in
        ap Some t.4 ∙ sym (seen_kept b apart key t.0 t.1 t.2 (moment_at b now) ∙ ap (λ k. cond k (Some t.1.value) None) later)

    -- nothing else is kept at the key
    pub others_hidden : AreDistinct eq b.slots → (i : ℕ) (x : Item K V) → IsKeptAt eq b key i x → (m j : ℕ) → j ≢ i → part (eq key) m (slot_at b.slots j).item ≡ None
    others_hidden apart i x kept m j ne = part_hidden (eq key) m (slot_at b.slots j).item (λ y at same. absurd (kept_once b apart key i x kept j ne y at same))

    pub taken_gone : AreDistinct eq b.slots → (r : Option V) → Takes eq b key (moment_at b now) r c → IsGone eq c key now
    taken_gone apart None t n later =
        ap (λ (x : Cache K V). value_seen eq x key n) t.1 ∙ unseen_none b key (moment_at b now) (moment_at b n) t.0 (omega (arith, later))
    taken_gone apart (Some v) t n later =
        ap (λ (x : Cache K V). value_seen eq x key n) t.5
        ∙ set_shown b.slots t.0 (record { stamp = (slot_at b.slots t.0).stamp; item = None }) t.2.inside (eq key) (moment_at b n) (others_hidden apart t.0 t.1 t.2 (moment_at b n))

    pub taken_others : (r : Option V) → Takes eq b key (moment_at b now) r c → KeepsOthers eq b c key 0
    taken_others None t q n apart later = ap (λ (x : Cache K V). value_seen eq x q n) t.1
    taken_others (Some v) t q n apart later =
        ap (λ (x : Cache K V). value_seen eq x q n) t.5
        ∙ set_hidden b.slots t.0 (record { stamp = (slot_at b.slots t.0).stamp; item = None }) t.2.inside (eq q) (moment_at b n) refl (other_hidden (eq q) (moment_at b n) (slot_at b.slots t.0).item t.1 t.2.item (parted laws key t.1.key q t.2.same apart))

    pub taken_moment : (r : Option V) → Takes eq b key (moment_at b now) r c → c.moment ≡ b.moment
    taken_moment None t = ap (λ (x : Cache K V). x.moment) t.1
    taken_moment (Some v) t = ap (λ (x : Cache K V). x.moment) t.5

  -- a slot gets an item under its next stamp, at a moment
  module _ (b c : Cache K V) (key : K) (m i : ℕ) (x : Item K V) (inside : i < length b.slots) (same : eq key x.key ≡ true) (is : c ≡ renewed b m i x) where
    abbrev new : CacheSlot K V
    new = record { stamp = (slot_at b.slots i).stamp + 1; item = Some x }

    pub renewed_seen : ((n j : ℕ) → j ≢ i → part (eq key) n (slot_at b.slots j).item ≡ None) → IsSeenUntil eq c key x.value x.deadline
    renewed_seen others n =
        ap (λ (d : Cache K V). value_seen eq d key n) is
        ∙ (set_shown b.slots i new inside (eq key) (max n m) (others (max n m))
        ∙ (part_shown (eq key) (max n m) x same ∙ ap (λ k. cond (nat_lt (max n k) x.deadline) (Some x.value) None) (sym (ap (λ (d : Cache K V). d.moment) is))))

    -- at each other key the same is seen, where what was at the slot was of that key or nothing
    pub renewed_others : (now : ℕ) → m ≡ moment_at b now → ((q : K) (n : ℕ) → eq key q ≡ false → part (eq q) n (slot_at b.slots i).item ≡ None) → KeepsOthers eq b c key now
    renewed_others now em old q n apart later =
        let at : max n m ≡ moment_at b n = omega (arith, em, later) in
        ap (λ (d : Cache K V). value_seen eq d q n) is
        ∙ (set_hidden b.slots i new inside (eq q) (max n m) (other_hidden (eq q) (max n m) (Some x) x refl (parted laws key x.key q same apart)) (old q (max n m) apart)
        ∙ ap (λ k. value_at (eq q) (seen k (entries_of b.slots))) at)

  -- what was kept at a key shows nothing to another
  pub kept_hidden : (b : Cache K V) (key : K) (i : ℕ) (x : Item K V) → IsKeptAt eq b key i x → (q : K) (n : ℕ) → eq key q ≡ false → part (eq q) n (slot_at b.slots i).item ≡ None
  kept_hidden b key i x kept q n apart = other_hidden (eq q) n (slot_at b.slots i).item x kept.item (parted laws key x.key q kept.same apart)
