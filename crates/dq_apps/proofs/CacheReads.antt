-- What a map that goes with its timers says of the cache that they show.
use Rattle.std.proofs.Common.{◌≡◌, ℕ, ◌<◌, ◌≤◌, Bool, true, cond, nat_lt, List, length, Option, Some, None, is_some, refl, sym, ap, ◌∙◌, subst, inl, inr, arith}
use Rattle.std.specs.Cmp.{IsEquivalence}
use Rattle.std.specs.List.{count_by}
use Rattle.std.specs.Map.{lookup}
use Rattle.std.proofs.lemmas.List.{length-map}
use Rattle.std.specs.Prelude.{IfSome}
use Rattle.std.proofs.lemmas.Map.Entries.{lookup_from_place, All-lookup}
use Rattle.std.proofs.lemmas.Bool.{cases_Bool, true≢false, lt-ltb}
use Rattle.dq_ticks.specs.declared.TheConstants.{LAST_STAMP}
use Rattle.dq_core.specs.Machine.{Entry}
use Rattle.dq_apps.specs.declared.kept.Kept.{Kept}
use Rattle.dq_apps.specs.Cache.{Item, Cache, slot_at, entries_of, seen, value_at, is_kept, IsKeptAt, IsCache}
use Rattle.dq_apps.specs.Calls.{IsUnseen, IsAbsent, is_used_up, IsLeastDeadline, TellsNextDeadline}
use Rattle.dq_apps.specs.TimerTable.{TimerTable, IsTimer, AreWithin, AreInRange, is_set, is_spent, IsFirst}
use Rattle.dq_apps.specs.Tied.{shown_slot, cache_of, IsStock, TellsFirstDeadline}
use Rattle.dq_apps.proofs.Ties.{shown_at, found, kept_in, at_slot, distinct_shown, looked_alike, count_kept, count_used}
use Rattle.dq_apps.proofs.Shows.{seen_kept, unseen_none, absent_none}

module _ {K V : Type 0} {eq : K → K → Bool} (laws : IsEquivalence eq) (es : List (K × Kept V)) (t : TimerTable K) (m : ℕ) (stock : IsStock eq es t m) where
  abbrev c : Cache K V
  c = cache_of eq es t m

  -- a key that the map has is kept, at its timer's slot
  abbrev pub kept_at : (q : K) (s : Kept V) → lookup (eq q) es ≡ Some s → (x : Item K V) × IsKeptAt eq c q s.key.entry.index x × (x.value ≡ s.value) × (x.deadline ≡ s.deadline) × ((slot_at c.slots s.key.entry.index).stamp ≡ s.key.stamp)
  kept_at q s at =
      let f = found laws es t.slots stock.tied q s at in
      let size : length c.slots ≡ length t.slots = length-map t.slots (shown_slot eq es) in
      let within = f.1.inside in (
        record { key = f.0; value = s.value; deadline = s.deadline },
        record { inside = omega (arith, size, within); item = ap (λ z. z.item) f.2; same = f.3 },
        refl,
        refl,
        ap (λ z. z.stamp) f.2,
      )

  -- one that is kept is in the map
  pub in_map : (q : K) (i : ℕ) (x : Item K V) → (slot_at c.slots i).item ≡ Some x → eq q x.key ≡ true → (s : Kept V) × (lookup (eq q) es ≡ Some s) × (x.deadline ≡ s.deadline)
  in_map q i x is same =
      let k = kept_in laws es t.slots stock.tied i x is in
      (k.0, looked_alike laws es q x.key same ∙ k.1, k.5)

  pub absent : (q : K) → lookup (eq q) es ≡ None → IsAbsent eq c q
  absent q none i x is = elim (cases_Bool (eq q x.key)) [
    | inl same ↦ let k = in_map q i x is same in absurd (cc)
    | inr apart ↦ apart
  ]

  pub unseen_absent : (q : K) (n : ℕ) → lookup (eq q) es ≡ None → IsUnseen eq c q n
  unseen_absent q n none i x is same = absurd (true≢false (sym same ∙ absent q none i x is))

  pub unseen_due : (q : K) (s : Kept V) (n : ℕ) → lookup (eq q) es ≡ Some s → s.deadline ≤ n → IsUnseen eq c q n
  unseen_due q s n at due i x is same =
      let k = in_map q i x is same in
      let one : ◌≡◌ {A = Option (Kept V)} (Some s) (Some k.0) = sym at ∙ k.1 in
      let both : s ≡ k.0 = cc in
      let d = ap (λ z. z.deadline) both in
      let e = k.2 in
      omega (arith, d, e, due)

  pub cache_law : length t.slots ≤ 65536 → AreWithin t.last_stamp t.slots → AreInRange t.slots → t.last_stamp ≤ LAST_STAMP → IsCache eq c
  cache_law few within range last =
      let size : length c.slots ≡ length t.slots = length-map t.slots (shown_slot eq es) in
      record {
        distinct = distinct_shown laws es t.slots stock.tied;
        deadlines = λ i x is.
            let k = kept_in laws es t.slots stock.tied i x is in
            let short = range i k.0.key.entry.born x.key k.0.deadline (ap (λ z. z.entry) k.3) in
            let d = k.5 in
            omega (arith, short, d);
        stamps = λ i. let stamp = ap (λ z. z.stamp) (shown_at laws es t.slots i) in let w = within i in omega (arith, stamp, w);
        last = last;
        moment = stock.bound;
        capacity = omega (arith, size, few);
      }

  -- what a get gives
  pub gets_none : (q : K) (n : ℕ) → lookup (eq q) es ≡ None → value_at (eq q) (seen n (entries_of c.slots)) ≡ None
  gets_none q n none = absent_none laws c q n (absent q none)

  pub gets_due : (q : K) (s : Kept V) (n : ℕ) → lookup (eq q) es ≡ Some s → s.deadline ≤ n → value_at (eq q) (seen n (entries_of c.slots)) ≡ None
  gets_due q s n at due = unseen_none laws c q n n (unseen_due q s n at due) (omega arith)

  pub gets_value : (q : K) (s : Kept V) (n : ℕ) → lookup (eq q) es ≡ Some s → value_at (eq q) (seen n (entries_of c.slots)) ≡ cond (nat_lt n s.deadline) (Some s.value) None
  gets_value q s n at =
      let k = kept_at q s at in
      seen_kept laws c (distinct_shown laws es t.slots stock.tied) q s.key.entry.index k.0 k.1 n ∙ (λ i. cond (nat_lt n (k.3 i)) (Some (k.2 i)) None)

  pub gets_now : (q : K) (s : Kept V) (n : ℕ) → lookup (eq q) es ≡ Some s → n < s.deadline → value_at (eq q) (seen n (entries_of c.slots)) ≡ Some s.value
  gets_now q s n at later = gets_value q s n at ∙ ap (λ k. cond k (Some s.value) None) (lt-ltb n s.deadline later)

  -- the least deadline of the timers is that of what is kept
  pub first_least : (d : ℕ) → IsFirst t.slots d → IsLeastDeadline c d
  first_least d f =
      let at = f.some in
      let e : Entry K = record { born = at.1; value = at.2; due = Some d } in
      let a = at_slot laws es t.slots stock.tied at.0 e at.3 in
      let k = kept_at at.2 a.0 a.1 in
      let r : Entry K = record { born = a.0.key.entry.born; value = at.2; due = Some a.0.deadline } in
      let one : ◌≡◌ {A = Option (Entry K)} (Some r) (Some e) = sym (ap (λ z. z.entry) a.3) ∙ at.3 in
      let same : r ≡ e = cc in
      let due : ◌≡◌ {A = Option ℕ} (Some a.0.deadline) (Some d) = ap (λ z. z.due) same in
      let deadline : a.0.deadline ≡ d = cc in
      record {
        some = (a.0.key.entry.index, k.0, k.1.item, k.3 ∙ deadline);
        least = λ i x is.
            let z = kept_in laws es t.slots stock.tied i x is in
            let first = f.least i z.0.key.entry.born x.key z.0.deadline (ap (λ s. s.entry) z.3) in
            let d' = z.5 in
            omega (arith, first, d');
      }

  -- the least deadline of the map, too
  pub stock_least : (o : Option ℕ) → TellsFirstDeadline es o → TellsNextDeadline c o
  stock_least None none = λ i. by i (slot_at c.slots i).item refl
    where
      by : (i : ℕ) (o : Option (Item K V)) → (slot_at c.slots i).item ≡ o → (slot_at c.slots i).item ≡ None
      by i None at = at
      by i (Some x) at =
          let z = kept_in laws es t.slots stock.tied i x at in
          let gone : lookup (eq x.key) es ≡ None = ap (lookup (eq x.key)) none in
          let some : lookup (eq x.key) es ≡ Some z.0 = z.1 in
          absurd (cc)
  stock_least (Some d) tells =
      let s = tells.0 in
      let k = kept_at s.1 s.2 (lookup_from_place laws es s.0 s.1 s.2 stock.tied.distinct s.3) in
      record {
        some = (s.2.key.entry.index, k.0, k.1.item, k.3 ∙ s.4);
        least = λ i x is.
            let z = kept_in laws es t.slots stock.tied i x is in
            let all = All-lookup (λ (y : Kept V). d ≤ y.deadline) (eq x.key) es tells.1 in
            let P : Option (Kept V) → Type 0 = λ o. IfSome o (λ y. d ≤ y.deadline) in
            let first : d ≤ z.0.deadline = subst P z.1 all in
            let same = z.5 in
            omega (arith, first, same);
      }

  -- whether a key is kept
  pub kept_some : (q : K) (i : ℕ) (x : Item K V) → IsKeptAt eq c q i x → is_some (lookup (eq q) es) ≡ true
  kept_some q i x k = let s = in_map q i x k.item k.same in ap is_some s.1

  pub some_kept : (q : K) → is_some (lookup (eq q) es) ≡ true → (i : ℕ) × (x : Item K V) × IsKeptAt eq c q i x
  some_kept q some = by (lookup (eq q) es) refl
    where
      by : (o : Option (Kept V)) → lookup (eq q) es ≡ o → (i : ℕ) × (x : Item K V) × IsKeptAt eq c q i x
      by None at = absurd (true≢false (sym some ∙ ap is_some at))
      by (Some s) at = let k = kept_at q s at in (s.key.entry.index, k.0, k.1)

  pub none_absent : (q : K) → (is_some (lookup (eq q) es) ≡ true → ⊥) → IsAbsent eq c q
  none_absent q none = by (lookup (eq q) es) refl
    where
      by : (o : Option (Kept V)) → lookup (eq q) es ≡ o → IsAbsent eq c q
      by None at = absent q at
      by (Some s) at = absurd (none (ap is_some at))

  pub absent_lookup : (q : K) → IsAbsent eq c q → lookup (eq q) es ≡ None
  absent_lookup q away = by (lookup (eq q) es) refl
    where
      by : (o : Option (Kept V)) → lookup (eq q) es ≡ o → lookup (eq q) es ≡ None
      by None at = at
      by (Some s) at = let k = kept_at q s at in absurd (true≢false (sym k.1.same ∙ away s.key.entry.index k.0 k.1.item))

  -- the counts of the timers are those of the cache
  pub counts_are : (linked worn capacity : ℕ) → linked ≡ count_by is_set t.slots → worn ≡ count_by (is_spent t.last_stamp) t.slots → capacity ≡ length t.slots → (linked ≡ count_by is_kept c.slots) × (worn ≡ count_by (is_used_up c.last_stamp) c.slots) × (capacity ≡ length c.slots)
  counts_are linked worn capacity el ew ec = (
    el ∙ count_kept laws es t.slots stock.tied,
    ew ∙ count_used laws es t.slots stock.tied t.last_stamp,
    ec ∙ sym (length-map t.slots (shown_slot eq es)),
  )
