-- What is due is dropped, one after the other.
use Rattle.std.proofs.Common.{◌≡◌, ℕ, ◌+◌, ◌<◌, ◌≤◌, zero, suc, Bool, true, false, cond, nat_lt, List, [], ◌∷◌, length, map, set, Option, Some, None, is_some, refl, sym, ap, ◌∙◌, subst, inl, inr, arith}
use Rattle.std.specs.List.{count_by}
use Rattle.std.proofs.lemmas.List.{get_or_past}
use Rattle.std.proofs.lemmas.List.Sums.{sum_by-set, count_by-le-length}
use Rattle.std.proofs.lemmas.Bool.{cases_lt, le-ltb, lt-ltb, le-leb, lt-leb, ltb-true}
use Rattle.dq_apps.specs.Cache.{Item, CacheSlot, Cache, bare, slot_at, is_kept, AreDistinct}
use Rattle.dq_apps.specs.Calls.{TakesDue, left_at, swept, is_due, due_count, purged, emptied_slots}
use Rattle.dq_apps.proofs.TimerRows.{count-cons}

abbrev one_if : Bool → ℕ
one_if b = cond b 1 0

module _ {K V : Type 0} where
  -- past the last slot nothing is kept
  pub inside_cache : (ss : List (CacheSlot K V)) (i : ℕ) (x : Item K V) → (slot_at ss i).item ≡ Some x → i < length ss
  inside_cache ss i x is = elim (cases_lt i (length ss)) [
    | inl within ↦ within
    | inr past ↦
        let gone : (slot_at ss i).item ≡ None = ap (λ s. s.item) (get_or_past ss i bare past) in
        absurd (cc)
  ]

  -- a slot of the sweep
  pub swept_at : (m : ℕ) (ss : List (CacheSlot K V)) (i : ℕ) → slot_at (map (swept m) ss) i ≡ swept m (slot_at ss i)
  swept_at m [] i = refl
  swept_at m (s ∷ ss) zero = refl
  swept_at m (s ∷ ss) (suc i) = swept_at m ss i

  -- what is left was kept, and isn't due
  left_some : (m : ℕ) (o : Option (Item K V)) (x : Item K V) → left_at m o ≡ Some x → (o ≡ Some x) × (m < x.deadline)
  left_some m None x e = absurd (cc)
  left_some m (Some y) x e = by (nat_lt m y.deadline) refl e
    where
      by : (b : Bool) → nat_lt m y.deadline ≡ b → cond b (Some y) None ≡ Some x → (◌≡◌ {A = Option (Item K V)} (Some y) (Some x)) × (m < x.deadline)
      by true later f =
          let same : y ≡ x = cc in
          let P : Item K V → Type 0 = λ z. m < z.deadline in
          (f, subst P same (ltb-true m y.deadline later))
      by false due f = absurd (cc)

  pub left_in : (m : ℕ) (ss : List (CacheSlot K V)) (i : ℕ) (x : Item K V) → (slot_at (map (swept m) ss) i).item ≡ Some x → ((slot_at ss i).item ≡ Some x) × (m < x.deadline)
  left_in m ss i x is = left_some m (slot_at ss i).item x (sym (ap (λ s. s.item) (swept_at m ss i)) ∙ is)

  -- a sweep leaves the keys apart
  pub distinct_swept : (eq : K → K → Bool) (m : ℕ) (ss : List (CacheSlot K V)) → AreDistinct eq ss → AreDistinct eq (map (swept m) ss)
  distinct_swept eq m ss apart i j x y ix jy same = apart i j x y (left_in m ss i x ix).0 (left_in m ss j y jy).0 same

  -- one that is due
  left_due : (m : ℕ) (o : Option (Item K V)) (x : Item K V) → o ≡ Some x → x.deadline ≤ m → (left_at m o ≡ None) × (is_due m o ≡ true)
  left_due m None x is due = absurd (cc)
  left_due m (Some y) x is due =
      let same : y ≡ x = cc in
      let d = ap (λ (z : Item K V). z.deadline) same in
      let short : y.deadline ≤ m = omega (arith, d, due) in
      (rw (le-ltb m y.deadline short) refl, le-leb y.deadline m short)

  map_set_same : (f : CacheSlot K V → CacheSlot K V) (ss : List (CacheSlot K V)) (i : ℕ) (x : CacheSlot K V) → f x ≡ f (slot_at ss i) → map f (set ss i x) ≡ map f ss
  map_set_same f [] i x e = refl
  map_set_same f (s ∷ ss) zero x e = ap (λ y. y ∷ map f ss) e
  map_set_same f (s ∷ ss) (suc i) x e = ap (λ ys. f s ∷ ys) (map_set_same f ss i x e)

  -- one that is due is dropped
  module _ (b c : Cache K V) (out : K × V) (d : TakesDue b (Some out) c) where
    pub step_moment : c.moment ≡ b.moment
    step_moment = ap (λ x. x.moment) d.5

    slots_are : c.slots ≡ emptied_slots b.slots d.0
    slots_are = ap (λ x. x.slots) d.5

    pub step_purged : purged c b.moment ≡ purged b b.moment
    step_purged =
        let s = slot_at b.slots d.0 in
        let none = (left_due b.moment s.item d.1 d.2 d.3).0 in
        let at : swept b.moment (record { stamp = s.stamp; item = None }) ≡ swept b.moment s = λ i. record { stamp = s.stamp; item = sym none i } in
        let slots : map (swept b.moment) c.slots ≡ map (swept b.moment) b.slots = ap (map (swept b.moment)) slots_are ∙ map_set_same (swept b.moment) b.slots d.0 (record { stamp = s.stamp; item = None }) at in
        λ i. record { last_stamp = (d.5 i).last_stamp; moment = b.moment; slots = slots i }

    pub step_count : due_count b.moment c.slots + 1 ≡ due_count b.moment b.slots
    step_count =
        let s = slot_at b.slots d.0 in
        let test : CacheSlot K V → Bool = λ x. is_due b.moment x.item in
        let due : test s ≡ true = (left_due b.moment s.item d.1 d.2 d.3).1 in
        let set_count = sum_by-set (λ x. cond (test x) 1 0) b.slots d.0 (record { stamp = s.stamp; item = None }) bare (inside_cache b.slots d.0 d.1 d.2) in
        let one : one_if (test s) ≡ 1 = ap one_if due in
        let same = ap (due_count b.moment) slots_are in
        omega (arith, set_count, one, same)

  -- none is due
  left_all : (m : ℕ) (o : Option (Item K V)) → ((x : Item K V) → o ≡ Some x → m < x.deadline) → (left_at m o ≡ o) × (is_due m o ≡ false)
  left_all m None h = (refl, refl)
  left_all m (Some x) h = (rw (lt-ltb m x.deadline (h x refl)) refl, lt-leb x.deadline m (h x refl))

  kept_all : (m : ℕ) (ss : List (CacheSlot K V)) → ((i : ℕ) (x : Item K V) → (slot_at ss i).item ≡ Some x → m < x.deadline) → (map (swept m) ss ≡ ss) × (due_count m ss ≡ 0)
  kept_all m [] h = (refl, refl)
  kept_all m (s ∷ ss) h =
      let first = left_all m s.item (h 0) in
      let rest = kept_all m ss (λ i. h (suc i)) in
      let count = count-cons (λ (x : CacheSlot K V). is_due m x.item) s ss in
      let none : one_if (is_due m s.item) ≡ 0 = ap one_if first.1 in
      let others = rest.1 in
      ((λ i. record { stamp = s.stamp; item = first.0 i } ∷ rest.0 i), omega (arith, count, none, others))

  pub rest_purged : (b c : Cache K V) → TakesDue b None c → c ≡ purged b b.moment
  rest_purged b c d = d.0 ∙ (λ i. record { last_stamp = b.last_stamp; moment = b.moment; slots = sym ((kept_all b.moment b.slots d.1).0) i })

  pub rest_count : (b c : Cache K V) → TakesDue b None c → due_count b.moment b.slots ≡ 0
  rest_count b c d = (kept_all b.moment b.slots d.1).1

  -- one turn of dropping what is due, and the last one
  pub dropped_more : (a b c : Cache K V) (n : ℕ) (out : K × V) → TakesDue b (Some out) c → b.moment ≡ a.moment → purged b b.moment ≡ purged a a.moment → n + due_count b.moment b.slots ≡ due_count a.moment a.slots → (c.moment ≡ a.moment) × (purged c c.moment ≡ purged a a.moment) × (n + 1 + due_count c.moment c.slots ≡ due_count a.moment a.slots)
  dropped_more a b c n out d moment all count =
      let same = step_moment b c out d in
      let one = step_count b c out d in
      let here = ap (λ k. due_count k c.slots) same in
      (same ∙ moment, ap (purged c) same ∙ (step_purged b c out d ∙ all), omega (arith, count, one, here))

  pub dropped_all : (a b c : Cache K V) (n : ℕ) → TakesDue b None c → purged b b.moment ≡ purged a a.moment → n + due_count b.moment b.slots ≡ due_count a.moment a.slots → (n ≡ due_count a.moment a.slots) × (c ≡ purged a a.moment)
  dropped_all a b c n d all count =
      let none = rest_count b c d in
      (omega (arith, count, none), rest_purged b c d ∙ all)

  -- what is kept was kept, or was due
  kept_by : (m : ℕ) (o : Option (Item K V)) → cond (is_some (left_at m o)) 1 0 + cond (is_due m o) 1 0 ≡ cond (is_some o) 1 0
  kept_by m None = refl
  kept_by m (Some x) = elim (cases_lt m x.deadline) [
    | inl later ↦ rw (lt-ltb m x.deadline later, lt-leb x.deadline m later) refl
    | inr due ↦ rw (le-ltb m x.deadline due, le-leb x.deadline m due) refl
  ]

  pub kept_counts : (m : ℕ) (ss : List (CacheSlot K V)) → count_by is_kept (map (swept m) ss) + due_count m ss ≡ count_by is_kept ss
  kept_counts m [] = refl
  kept_counts m (s ∷ ss) =
      let first = kept_by m s.item in
      let rest = kept_counts m ss in
      let a = count-cons (is_kept {K = K} {V = V}) (swept m s) (map (swept m) ss) in
      let b = count-cons (λ (x : CacheSlot K V). is_due m x.item) s ss in
      let c = count-cons (is_kept {K = K} {V = V}) s ss in
      omega (arith, first, rest, a, b, c)
