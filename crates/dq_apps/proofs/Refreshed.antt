-- A cache whose timers all moved to fresh ones keeps the same items, and shows the same.
use Rattle.std.proofs.Common.{◌≡◌, ℕ, suc, max, Bool, cond, nat_lt, List, [], ◌∷◌, length, Option, Some, None, is_some, refl, sym, ap, ◌∙◌, subst, inl, inr, arith}
use Rattle.std.specs.Cmp.{IsEquivalence}
use Rattle.std.specs.List.{count_by}
use Rattle.std.specs.Map.{lookup}
use Rattle.std.specs.Option.{option_map}
use Rattle.std.proofs.lemmas.List.{length-map, length-replicate}
use Rattle.dq_core.specs.Machine.{TableRow}
use Rattle.dq_apps.specs.declared.kept.Kept.{Kept}
use Rattle.dq_apps.specs.Cache.{Item, CacheSlot, Cache, entries_of, seen, value_at}
use Rattle.dq_apps.specs.Calls.{is_used_up}
use Rattle.dq_apps.specs.AtTheCall.{KeepsSeen}
use Rattle.dq_apps.specs.TimerTable.{TimerTable, timer_at, unset, is_set, fresh_timers}
use Rattle.dq_apps.specs.Tied.{shown_slot, cache_of, item_at, item_of, IsTied, IsStock}
use Rattle.dq_apps.specs.Moves.{HasKey, said, SaysTheSame, HaveMoved}
use Rattle.dq_apps.specs.Refreshes.{KeepsItem, IsUsedOnce, IsRefreshed}
use Rattle.dq_apps.proofs.TimerRows.{count-cons, none_new}
use Rattle.dq_apps.proofs.Ties.{shown_at, at_slot, kept_in, kept_as_set, count_kept, count_used}
use Rattle.dq_apps.proofs.CacheReads.{gets_none, gets_value}
use Rattle.dq_apps.proofs.MovedTimers.{none_spent, none_set}

abbrev one_if : Bool → ℕ
one_if b = cond b 1 0

none_kept : {K : Type 0} (ss : List (TableRow K)) → ((i : ℕ) → (timer_at ss i).entry ≡ None) → count_by is_set ss ≡ 0
none_kept [] h = refl
none_kept (s ∷ ss) h =
    let rest = none_kept ss (λ i. h (suc i)) in
    let first : one_if (is_set s) ≡ 0 = ap (λ o. one_if (is_some o)) (h 0) in
    let count = count-cons is_set s ss in
    omega (arith, count, first, rest)

-- two entries of which the same is said
said_alike : {V : Type 0} (o : Option (Kept V)) (s : Kept V) → option_map said o ≡ Some (said s) → (z : Kept V) × (o ≡ Some z) × (z.value ≡ s.value) × (z.deadline ≡ s.deadline)
said_alike None s is = absurd (cc)
said_alike (Some z) s is =
    let both : said z ≡ said s = cc in
    (z, refl, ap (λ p. p.0) both, ap (λ p. p.1) both)

said_none : {V : Type 0} (o : Option (Kept V)) → option_map said o ≡ None → o ≡ None
said_none None is = refl
said_none (Some z) is = absurd (cc)

module _ {K V : Type 0} {eq : K → K → Bool} (laws : IsEquivalence eq) where
  -- what is kept under one map is kept under another that says the same, where its timers have the same keys
  carried : (es fs : List (K × Kept V)) (t g : TimerTable K) (m : ℕ) → IsTied eq es t.slots → IsTied eq fs g.slots → SaysTheSame eq es fs → ((key : K) → HasKey t.slots key → HasKey g.slots key) → (x : Item K V) → KeepsItem (cache_of eq es t m) x → KeepsItem (cache_of eq fs g m) x
  carried es fs t g m tied after same keys x (i, is) =
      let k = kept_in laws es t.slots tied i x is in
      let h = keys x.key (i, record { born = k.0.key.entry.born; value = x.key; due = Some k.0.deadline }, ap (λ z. z.entry) k.3, refl) in
      let a = at_slot laws fs g.slots after h.0 h.1 h.2 in
      let there : lookup (eq x.key) fs ≡ Some a.0 = ap (λ q. lookup (eq q) fs) (sym h.3) ∙ a.1 in
      let z = said_alike (lookup (eq x.key) fs) k.0 (same x.key ∙ ap (option_map said) k.1) in
      let one : ◌≡◌ {A = Option (Kept V)} (Some z.0) (Some a.0) = sym z.1 ∙ there in
      let kept : z.0 ≡ a.0 = cc in
      let value : a.0.value ≡ x.value = ap (λ y. y.value) (sym kept) ∙ (z.2 ∙ sym k.4) in
      let deadline : a.0.deadline ≡ x.deadline = ap (λ y. y.deadline) (sym kept) ∙ (z.3 ∙ sym k.5) in
      let shows : item_at eq fs (timer_at g.slots h.0).entry ≡ Some (record { key = h.1.value; value = a.0.value; deadline = a.0.deadline }) =
      ap (λ (s : TableRow K). item_at eq fs s.entry) a.3 ∙ ap (λ o. item_of h.1.value (Some a.0.deadline) o) a.1 in (
        h.0,
        ap (λ s. s.item) (shown_at laws fs g.slots h.0)
            ∙ (shows ∙ (λ n. let y : Item K V = record { key = h.3 n; value = value n; deadline = deadline n } in Some y)),
      )

  module _ (es : List (K × Kept V)) (t : TimerTable K) (m : ℕ) (stock : IsStock eq es t m) (u : TimerTable K) (blank : u ≡ fresh_timers (length t.slots) t.last_stamp)
      (fs : List (K × Kept V)) (rest : List (TableRow K)) (g : TimerTable K) (moved : HaveMoved eq es t.slots u fs rest g) (none : (i : ℕ) → (timer_at rest i).entry ≡ None) where
    abbrev b : Cache K V
    b = cache_of eq es t m

    abbrev c : Cache K V
    c = cache_of eq fs g m

    no_rest : (key : K) → HasKey rest key → ⊥
    no_rest key h =
        let gone = none h.0 in
        let some = h.2 in
        absurd (cc)

    no_blank : (key : K) → HasKey u.slots key → ⊥
    no_blank key h =
        let gone : (timer_at u.slots h.0).entry ≡ None = ap (λ x. (timer_at x.slots h.0).entry) blank ∙ ap (λ z. z.entry) (none_new (length t.slots) h.0) in
        let some = h.2 in
        absurd (cc)

    tied : IsTied eq fs g.slots
    tied = record {
      distinct = moved.moving.distinct;
      forth = λ q s at. elim (moved.moving.forth q s at) [
        | inl r ↦ r
        | inr h ↦ absurd (no_rest h.0 h.1)
      ];
      back = moved.moving.back;
    }

    pub refreshed_stock : IsStock eq fs g m
    refreshed_stock = let n = moved.moving.noted in record { tied = tied; noted = omega (arith, n); bound = stock.bound }

    stay : (key : K) → HasKey t.slots key → HasKey g.slots key
    stay key h = elim (moved.stay key (inl h)) [
      | inl x ↦ absurd (no_rest key x)
      | inr x ↦ x
    ]

    came : (key : K) → HasKey g.slots key → HasKey t.slots key
    came key h = elim (moved.came key (inr h)) [
      | inl x ↦ x
      | inr x ↦ absurd (no_blank key x)
    ]

    set_count : count_by is_set g.slots ≡ count_by is_set t.slots
    set_count =
        let all = moved.count in
        let left = none_kept rest none in
        let new : count_by is_set u.slots ≡ 0 = ap (λ x. count_by is_set x.slots) blank ∙ none_set K (length t.slots) in
        omega (arith, all, left, new)

    pub is_refreshed : IsRefreshed b c
    is_refreshed = record {
      last = moved.last ∙ ap (λ x. x.last_stamp) blank;
      moment = refl;
      capacity =
          length-map g.slots (shown_slot eq fs)
          ∙ (moved.size ∙ (ap (λ x. length x.slots) blank ∙ (length-replicate (length t.slots) unset ∙ sym (length-map t.slots (shown_slot eq es)))));
      items = λ x. (carried es fs t g m stock.tied tied moved.same stay x, carried fs es g t m tied stock.tied (λ q. sym (moved.same q)) came x);
      count = sym (count_kept laws fs g.slots tied) ∙ (set_count ∙ count_kept laws es t.slots stock.tied);
      stamps = λ i.
          let at = shown_at laws fs g.slots i in
          let kept = kept_as_set laws fs g.slots tied i in
          let P : CacheSlot K V → Type 0 = λ s. IsUsedOnce s in
          subst P (sym at) (moved.moving.stamps i ∙ ap (λ k. cond k 1 0) kept);
    }

    pub keeps_seen : KeepsSeen eq b c 0
    keeps_seen q n later = by (lookup (eq q) es) refl
      where
        by : (o : Option (Kept V)) → lookup (eq q) es ≡ o → value_at (eq q) (seen (max n m) (entries_of c.slots)) ≡ value_at (eq q) (seen (max n m) (entries_of b.slots))
        by None at =
            gets_none laws fs g m refreshed_stock q (max n m) (said_none (lookup (eq q) fs) (moved.same q ∙ ap (option_map said) at))
            ∙ sym (gets_none laws es t m stock q (max n m) at)
        by (Some s) at =
            let z = said_alike (lookup (eq q) fs) s (moved.same q ∙ ap (option_map said) at) in
            gets_value laws fs g m refreshed_stock q z.0 (max n m) z.1
            ∙ ((λ i. cond (nat_lt (max n m) (z.3 i)) (Some (z.2 i)) None) ∙ sym (gets_value laws es t m stock q s (max n m) at))

    pub none_worn : count_by (is_used_up c.last_stamp) c.slots ≡ 0
    none_worn = sym (count_used laws fs g.slots tied g.last_stamp) ∙ none_spent g.last_stamp moved.moving.used g.slots moved.moving.stamps
