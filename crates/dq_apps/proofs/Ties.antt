-- What a map that is tied to its timers shows with them.
use Rattle.std.proofs.Common.{◌≡◌, ℕ, ◌+◌, zero, suc, Bool, true, cond, ◌&&◌, not, nat_lt, List, [], ◌∷◌, Option, Some, None, is_some, is_none, refl, sym, ap, ◌∙◌, subst}
use Rattle.std.specs.Cmp.{IsEquivalence}
use Rattle.std.specs.List.{count_by}
use Rattle.std.specs.Map.{lookup}
use Rattle.std.proofs.lemmas.Bool.{true≢false}
use Rattle.dq_core.specs.Machine.{Entry, TableRow}
use Rattle.dq_apps.specs.declared.kept.Kept.{Kept}
use Rattle.dq_apps.specs.Cache.{Item, CacheSlot, slot_at, is_kept, AreDistinct}
use Rattle.dq_apps.specs.Calls.{is_used_up}
use Rattle.dq_apps.specs.TimerTable.{timer_at, running, IsRunning, is_set, is_spent}
use Rattle.dq_apps.specs.Tied.{item_of, item_at, shown_slot, shown_slots, IsTied}
use Rattle.dq_apps.proofs.TimerRows.{count-cons}

module _ {K V : Type 0} {eq : K → K → Bool} (laws : IsEquivalence eq) where
  pub shown_at : (es : List (K × Kept V)) (slots : List (TableRow K)) (i : ℕ) → slot_at (shown_slots eq es slots) i ≡ shown_slot eq es (timer_at slots i)
  shown_at es [] i = refl
  shown_at es (s ∷ ss) zero = refl
  shown_at es (s ∷ ss) (suc i) = shown_at es ss i

  -- what a timer shows
  pub shown_timer : (es : List (K × Kept V)) (stamp born : ℕ) (key : K) (d : ℕ) (s : Kept V) → lookup (eq key) es ≡ Some s → shown_slot eq es (record { stamp = stamp; entry = running born key d }) ≡ record { stamp = stamp; item = Some (record { key = key; value = s.value; deadline = d }) }
  shown_timer es stamp born key d s at = ap (λ o. let x : CacheSlot K V = record { stamp = stamp; item = item_of key (Some d) o } in x) at

  -- equal keys are looked up alike
  pub looked_alike : (es : List (K × Kept V)) (a b : K) → eq a b ≡ true → lookup (eq a) es ≡ lookup (eq b) es
  looked_alike [] a b same = refl
  looked_alike (e ∷ es) a b same = λ i. cond (laws.congr a b e.0 same i) (Some e.1) (looked_alike es a b same i)

  module _ (es : List (K × Kept V)) (slots : List (TableRow K)) (tied : IsTied eq es slots) where
    -- what stands at a slot with a timer
    pub at_slot : (i : ℕ) (e : Entry K) → (timer_at slots i).entry ≡ Some e → (s : Kept V) × (lookup (eq e.value) es ≡ Some s) × (s.key.entry.index ≡ i) × (timer_at slots i ≡ record { stamp = s.key.stamp; entry = running s.key.entry.born e.value s.deadline })
    at_slot i e at =
        let b = tied.back i e at in
        let f = tied.forth e.value b.0 b.1 in
        let P : ℕ → Type 0 = λ k. timer_at slots k ≡ record { stamp = b.0.key.stamp; entry = running b.0.key.entry.born f.0 b.0.deadline } in
        let here = subst P b.2 f.1.timer in
        let r : Entry K = record { born = b.0.key.entry.born; value = f.0; due = Some b.0.deadline } in
        let one : ◌≡◌ {A = Option (Entry K)} (Some e) (Some r) = sym at ∙ ap (λ t. t.entry) here in
        let same : e ≡ r = cc in
        let copy : f.0 ≡ e.value = sym (ap (λ x. x.value) same) in
        (b.0, b.1, b.2, here ∙ ap (λ k. let x : TableRow K = record { stamp = b.0.key.stamp; entry = running b.0.key.entry.born k b.0.deadline } in x) copy)

    -- a key that the map has shows at its timer's slot
    pub found : (q : K) (s : Kept V) → lookup (eq q) es ≡ Some s
        → (copy : K) × IsRunning slots s.key copy s.deadline
        × (slot_at (shown_slots eq es slots) s.key.entry.index ≡ record { stamp = s.key.stamp; item = Some (record { key = copy; value = s.value; deadline = s.deadline }) }) × (eq q copy ≡ true)
    found q s at =
        let f = tied.forth q s at in
        let there = sym (looked_alike es q f.0 f.2) ∙ at in
        (f.0, f.1, shown_at es slots s.key.entry.index ∙ (ap (shown_slot eq es) f.1.timer ∙ shown_timer es s.key.stamp s.key.entry.born f.0 s.deadline s there), f.2)

    -- what a slot shows has its key in the map
    shown_by : (o : Option (Entry K)) (x : Item K V) → item_at eq es o ≡ Some x → (e : Entry K) × (o ≡ Some e) × (x.key ≡ e.value)
    shown_by None x is = absurd (cc)
    shown_by (Some e) x is = by e.due (lookup (eq e.value) es) is
      where
        by : (d : Option ℕ) (k : Option (Kept V)) → item_of e.value d k ≡ Some x → (e' : Entry K) × (◌≡◌ {A = Option (Entry K)} (Some e) (Some e')) × (x.key ≡ e'.value)
        by None k f = absurd (cc)
        by (Some d) None f = absurd (cc)
        by (Some d) (Some s) f =
            let y : Item K V = record { key = e.value; value = s.value; deadline = d } in
            let same : y ≡ x = cc in
            (e, refl, sym (ap (λ z. z.key) same))

    pub kept_in : (i : ℕ) (x : Item K V) → (slot_at (shown_slots eq es slots) i).item ≡ Some x → (s : Kept V) × (lookup (eq x.key) es ≡ Some s) × (s.key.entry.index ≡ i) × (timer_at slots i ≡ record { stamp = s.key.stamp; entry = running s.key.entry.born x.key s.deadline }) × (x.value ≡ s.value) × (x.deadline ≡ s.deadline)
    kept_in i x is =
        let t = timer_at slots i in
        let here : item_at eq es t.entry ≡ Some x = sym (ap (λ s. s.item) (shown_at es slots i)) ∙ is in
        let e = shown_by t.entry x here in
        let a = at_slot i e.0 e.1 in
        let key : e.0.value ≡ x.key = sym e.2 in
        let shows : ◌≡◌ {A = Option (Item K V)} (Some x) (Some (record { key = e.0.value; value = a.0.value; deadline = a.0.deadline })) = sym here ∙ (ap (λ (s : TableRow K). item_at eq es s.entry) a.3 ∙ ap (λ o. item_of e.0.value (Some a.0.deadline) o) a.1) in
        let y : Item K V = record { key = e.0.value; value = a.0.value; deadline = a.0.deadline } in
        let same : x ≡ y = cc in (
          a.0,
          ap (λ k. lookup (eq k) es) e.2 ∙ a.1,
          a.2,
          a.3 ∙ ap (λ k. let s : TableRow K = record { stamp = a.0.key.stamp; entry = running a.0.key.entry.born k a.0.deadline } in s) key,
          ap (λ z. z.value) same,
          ap (λ z. z.deadline) same,
        )

    -- no key is shown_slot twice
    pub distinct_shown : AreDistinct eq (shown_slots eq es slots)
    distinct_shown i j x y ix jy same =
        let a = kept_in i x ix in
        let b = kept_in j y jy in
        let one : ◌≡◌ {A = Option (Kept V)} (Some a.0) (Some b.0) = sym a.1 ∙ (looked_alike es x.key y.key same ∙ b.1) in
        let kept : a.0 ≡ b.0 = cc in
        sym a.2 ∙ (ap (λ s. s.key.entry.index) kept ∙ b.2)

    -- as much is kept as timers are set
    shows_item : (i : ℕ) (e : Entry K) → (timer_at slots i).entry ≡ Some e → (x : Item K V) × ((shown_slot eq es (timer_at slots i)).item ≡ Some x)
    shows_item i e at =
        let a = at_slot i e at in (
          record { key = e.value; value = a.0.value; deadline = a.0.deadline },
          ap (λ (s : TableRow K). item_at eq es s.entry) a.3 ∙ ap (λ o. item_of e.value (Some a.0.deadline) o) a.1,
        )

    pub kept_as_set : (i : ℕ) → is_some (timer_at slots i).entry ≡ is_some (shown_slot eq es (timer_at slots i)).item
    kept_as_set i = by (timer_at slots i).entry refl
      where
        by : (o : Option (Entry K)) → (timer_at slots i).entry ≡ o → is_some (timer_at slots i).entry ≡ is_some (shown_slot eq es (timer_at slots i)).item
        by None at = ap is_some at ∙ sym (ap (λ k. is_some (item_at eq es k)) at)
        by (Some e) at = ap is_some at ∙ sym (ap is_some (shows_item i e at).1)

    count_same : (p : TableRow K → Bool) (q : CacheSlot K V → Bool) (ss : List (TableRow K)) → ((i : ℕ) → p (timer_at ss i) ≡ q (shown_slot eq es (timer_at ss i))) → count_by p ss ≡ count_by q (shown_slots eq es ss)
    count_same p q [] h = refl
    count_same p q (s ∷ ss) h =
        count-cons p s ss ∙ ((λ i. cond (h 0 i) 1 0 + count_same p q ss (λ j. h (suc j)) i) ∙ sym (count-cons q (shown_slot eq es s) (shown_slots eq es ss)))

    pub count_kept : count_by is_set slots ≡ count_by is_kept (shown_slots eq es slots)
    count_kept = count_same is_set is_kept slots kept_as_set

    none_as_some : {A B : Type 0} (o : Option A) (p : Option B) → is_some o ≡ is_some p → is_none o ≡ is_none p
    none_as_some None None e = refl
    none_as_some None (Some y) e = absurd (true≢false (sym e))
    none_as_some (Some x) None e = absurd (true≢false e)
    none_as_some (Some x) (Some y) e = refl

    pub count_used : (last : ℕ) → count_by (is_spent last) slots ≡ count_by (is_used_up last) (shown_slots eq es slots)
    count_used last = count_same (is_spent last) (is_used_up last) slots (λ i.
        let t = timer_at slots i in
        ap (λ b. b && not (nat_lt t.stamp last)) (none_as_some t.entry (shown_slot eq es t).item (kept_as_set i)))
