-- When a cache's timers wake next is when what the cache keeps does.
use Rattle.std.proofs.Common.{◌≡◌, ℕ, ◌<◌, zero, suc, Bool, cond, List, [], ◌∷◌, Option, Some, None, IsNone, IfSome, is_some, ◌↔◌, refl, sym, ap, ◌∙◌, arith}
use Rattle.std.specs.Cmp.{IsEquivalence}
use Rattle.std.specs.List.{count_by}
use Rattle.dq_core.specs.Machine.{Entry}
use Rattle.dq_core.specs.Core.{filing_for}
use Rattle.dq_wheel.specs.Wakes.{wake_for}
use Rattle.dq_apps.specs.declared.kept.Kept.{Kept}
use Rattle.dq_apps.specs.Cache.{Item, CacheSlot, Cache, slot_at, is_kept}
use Rattle.dq_apps.specs.AtTheCall.{kept_count}
use Rattle.dq_apps.specs.NextWake.{NoneDueBefore, TellsNextWake}
use Rattle.dq_apps.specs.TimerTable.{TimerTable, TellsTimersWake}
use Rattle.dq_apps.specs.Tied.{cache_of, IsStock}
use Rattle.dq_apps.proofs.TimerRows.{count-cons}
use Rattle.dq_apps.proofs.Ties.{at_slot, kept_in}
use Rattle.dq_apps.proofs.CacheReads.{kept_at}

abbrev one_if : Bool → ℕ
one_if k = cond k 1 0

module _ {K V : Type 0} where
  -- where nothing is kept the count is 0, and else it isn't
  none_counted : (ss : List (CacheSlot K V)) → ((i : ℕ) → (slot_at ss i).item ≡ None) → count_by is_kept ss ≡ 0
  none_counted [] h = refl
  none_counted (s ∷ ss) h =
      let rest = none_counted ss (λ i. h (suc i)) in
      let first : one_if (is_kept s) ≡ 0 = ap (λ o. one_if (is_some o)) (h 0) in
      let count = count-cons is_kept s ss in
      omega (arith, count, first, rest)

  one_counted : (ss : List (CacheSlot K V)) (i : ℕ) (x : Item K V) → (slot_at ss i).item ≡ Some x → 0 < count_by is_kept ss
  one_counted [] i x is = absurd (cc)
  one_counted (s ∷ ss) zero x is =
      let first : one_if (is_kept s) ≡ 1 = ap (λ o. one_if (is_some o)) is in
      let count = count-cons is_kept s ss in
      omega (arith, count, first)
  one_counted (s ∷ ss) (suc i) x is =
      let rest = one_counted ss i x is in
      let count = count-cons is_kept s ss in
      omega (arith, count, rest)

  -- the short clauses
  pub wakes_early : (c : Cache K V) (o : Option ℕ) → TellsNextWake c o → IfSome o (λ w. NoneDueBefore c w)
  wakes_early c None t = tt
  wakes_early c (Some w) t = t.1

  pub wakes_none : (c : Cache K V) (o : Option ℕ) → TellsNextWake c o → IsNone o ↔ (kept_count c ≡ 0)
  wakes_none c None t = (λ none. none_counted c.slots t, λ zero. refl)
  wakes_none c (Some w) t = (λ none. absurd (cc), λ zero. let some = one_counted c.slots t.0.0 t.0.1 t.0.4 in absurd (omega (arith, some, zero)))

module _ {K V : Type 0} {eq : K → K → Bool} (laws : IsEquivalence eq) (es : List (K × Kept V)) (t : TimerTable K) (m : ℕ) (stock : IsStock eq es t m) where
  abbrev c : Cache K V
  c = cache_of eq es t m

  -- the wake of the timers is one of what is kept
  pub wakes : (o : Option ℕ) → TellsTimersWake t o → TellsNextWake c o
  wakes None none = λ i. by i (slot_at c.slots i).item refl
    where
      by : (i : ℕ) (o : Option (Item K V)) → (slot_at c.slots i).item ≡ o → (slot_at c.slots i).item ≡ None
      by i None at = at
      by i (Some x) at =
          let z = kept_in laws es t.slots stock.tied i x at in
          let some = ap (λ s. s.entry) z.3 in
          let gone = none i in
          absurd (cc)
  wakes (Some w) n =
      let at = n.some in
      let e : Entry K = record { born = at.1; value = at.2; due = Some at.3 } in
      let a = at_slot laws es t.slots stock.tied at.0 e at.6 in
      let k = kept_at laws es t m stock at.2 a.0 a.1 in
      let r : Entry K = record { born = a.0.key.entry.born; value = at.2; due = Some a.0.deadline } in
      let one : ◌≡◌ {A = Option (Entry K)} (Some r) (Some e) = sym (ap (λ z. z.entry) a.3) ∙ at.6 in
      let same : r ≡ e = cc in
      let due : ◌≡◌ {A = Option ℕ} (Some a.0.deadline) (Some at.3) = ap (λ z. z.due) same in
      let deadline : a.0.deadline ≡ at.3 = cc in
      let bound = stock.noted in
      let before = at.8 in (
        (
          a.0.key.entry.index,
          k.0,
          at.4,
          at.5,
          k.1.item,
          at.7,
          omega (arith, before, bound),
          at.9 ∙ ap (λ d. wake_for at.5 (filing_for at.4 d)) (sym (k.3 ∙ deadline)),
        ),
        λ i x is.
            let z = kept_in laws es t.slots stock.tied i x is in
            let first = n.least i z.0.key.entry.born x.key z.0.deadline (ap (λ s. s.entry) z.3) in
            let short = z.5 in
            omega (arith, first, short),
      )
