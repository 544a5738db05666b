-- The totals of a shard's history.
use Rattle.std.proofs.Common.{◌≡◌, ◌⊎◌, ◌+◌, arith, List, [], ◌∷◌, length, refl, sym, ap, ◌∙◌, subst, inl, inr, ⊎_elim}
use Rattle.dq_ticks.specs.declared.keys.EntryId.{EntryId}
use Rattle.dq_growing.specs.Runs.{IsUsedId}
use Rattle.dq_growing.specs.Sized.{SizedState}
use Rattle.dq_growing.specs.Store.{StoreState, HasFor, NoneStandsFor}
use Rattle.dq_growing.proofs.Standing.{some_is}
use Rattle.dq_queue.specs.declared.journal.views.Entry.{Entry}
use Rattle.dq_words.specs.Seats.{Sat}
use Rattle.dq_queue.specs.Calls.{HasGiven, HasOnly}
use Rattle.dq_queue.specs.Leaving.{GivesOut, WasCancelledIn}
use Rattle.dq_queue.specs.Runs.{KeepsGiven, KeepsGivenIds, WasGivenIn}
use Rattle.dq_queue.specs.Shards.{IsAsLeft, IsStoreHistory}
use Rattle.dq_queue.specs.Totals.{CameAbout, CameIn, HasBecome, Counted, NoneHas, HaveOwnIds, AreCounted, TotalsAgreeIn}
use Rattle.dq_queue.proofs.Leaving.{loses_none}
use Rattle.dq_queue.proofs.Runs.{exchanged_on, stands_on, stays_ended, used_in}

module _ {T : Type 0} where
  -- how an entry stands, or has left
  abbrev Fate : (log : List (Entry (SizedState T Sat))) → IsStoreHistory log → StoreState T Sat → EntryId → T → Type 0
  Fate log history s u v = ((w : T) × HasOnly s u w × HasBecome log history u v w) ⊎ (NoneStandsFor s u × (CameAbout GivesOut log history u ⊎ CameAbout WasCancelledIn log history u))

  as_it_was : (log : List (Entry (SizedState T Sat))) (history : IsStoreHistory log) (u : EntryId) (v : T) → HasBecome log history u v v
  as_it_was [] history u v = refl
  as_it_was (e ∷ es) (old, new, left, was, call, history) u v = (v, as_it_was es history u v, inl refl)

  -- what became of each of those entries by then
  abbrev Settled : (log : List (Entry (SizedState T Sat))) → IsStoreHistory log → StoreState T Sat → List (EntryId × T) → Type 0
  Settled log history s [] = Unit {0}
  Settled log history s (x ∷ came) = WasGivenIn log x.0 × Fate log history s x.0 x.1 × Settled log history s came

  -- one call more
  module _ (e : Entry (SizedState T Sat)) (es : List (Entry (SizedState T Sat))) (all : IsStoreHistory (e ∷ es)) (kept : KeepsGivenIds (e ∷ es)) where
    abbrev s : StoreState T Sat
    s = all.0.store

    abbrev t : StoreState T Sat
    t = all.1.store

    abbrev history : IsStoreHistory es
    history = all.5

    used : (u : EntryId) → WasGivenIn es u → IsUsedId s u
    used u given = used_in es history kept.1 u given all.0 all.3

    stands : (u : EntryId) (v w : T) → WasGivenIn es u → KeepsGiven u s t → HasOnly s u w → HasBecome es history u v w → Fate (e ∷ es) all t u v
    stands u v w given (inr (a, b, exchanged)) only become =
        let did = exchanged_on u w a b s t (used u given) only exchanged in
        inl (b, exchanged.has, (w, become, did.1))
    stands u v w given (inl k) only become = ⊎_elim
        (λ (here : HasFor t u w). inl (w, (stands_on u w s t k (used u given) only here).0, (w, become, inl refl)))
        (λ (none : NoneStandsFor t u). inr (none, ⊎_elim (λ (out : GivesOut u s t). inl (inl out)) (λ (found : WasCancelledIn u s t). inr (inl found)) (loses_none T s t all.4 u w only.0 none)))
        (k.stays w only.0)

    fate : (u : EntryId) (v : T) → WasGivenIn es u → Fate es history s u v → Fate (e ∷ es) all t u v
    fate u v given (inl y) = stands u v y.0 given (kept.0 u given all.0 all.1 all.3 all.2) y.1 y.2
    fate u v given (inr (none, inl out)) =
        let k = kept.0 u given all.0 all.1 all.3 all.2 in
        inr ((stays_ended u s t k (used u given) none).0, inl (inr out))
    fate u v given (inr (none, inr found)) =
        let k = kept.0 u given all.0 all.1 all.3 all.2 in
        inr ((stays_ended u s t k (used u given) none).0, inr (inr found))

    goes_on : (came : List (EntryId × T)) → Settled es history s came → Settled (e ∷ es) all t came
    goes_on [] settled = tt {0}
    goes_on (x ∷ came) settled = (inr settled.0, fate x.0 x.1 settled.0 settled.1, goes_on came settled.2)

    none_has : (u : EntryId) (came : List (EntryId × T)) → (¬ IsUsedId s u) → Settled es history s came → NoneHas u came
    none_has u [] fresh settled = tt {0}
    none_has u (x ∷ came) fresh settled =
        let P : EntryId → Type 0 = λ w. IsUsedId s w in
        ((λ same. fresh (subst P same (used x.0 settled.0))), none_has u came fresh settled.2)

  settle : (log : List (Entry (SizedState T Sat))) (history : IsStoreHistory log) → KeepsGivenIds log → (came : List (EntryId × T)) → CameIn log history came → (h : SizedState T Sat) → IsAsLeft log h
      → HaveOwnIds came × Settled log history h.store came
  settle [] history kept came in_it h at =
      let P : List (EntryId × T) → Type 0 = λ l. HaveOwnIds l × Settled [] history h.store l in
      subst P (sym in_it) (tt {0}, tt {0})
  settle (e ∷ es) (old, new, left, was, call, history) kept came (inl (u, v, older, is, puts, in_it)) h at =
      let all : IsStoreHistory (e ∷ es) = (old, new, left, was, call, history) in
      let before = settle es history kept.1 older in_it old was in
      let insert = puts.4 in
      let did = insert.3 in
      let only : HasOnly new.store puts.1.entry v = did.1 in
      let P : EntryId → Type 0 = λ w. HasOnly new.store w v in
      let Q : EntryId → Type 0 = λ w. ¬ IsUsedId old.store w in
      let fresh = subst Q puts.3 did.0.0 in
      let R : EntryId → Type 0 = λ w. HasGiven new.store w in
      let mine : Settled (e ∷ es) all new.store ((u, v) ∷ older) =
      (inl (new, left, subst R puts.3 did.2), inl (v, subst P puts.3 only, as_it_was (e ∷ es) all u v), goes_on e es all kept older before.1) in
      let ids : HaveOwnIds ((u, v) ∷ older) = (none_has e es all kept u older fresh before.1, before.0) in
      let S : List (EntryId × T) × StoreState T Sat → Type 0 = λ z. HaveOwnIds z.0 × Settled (e ∷ es) all z.1 z.0 in
      let there = ap (λ (z : SizedState T Sat). z.store) (some_is new at.0 (sym left ∙ at.1)) ∙ at.2 in
      subst S (λ n. (sym is n, there n)) (ids, mine)
  settle (e ∷ es) (old, new, left, was, call, history) kept came (inr in_it) h at =
      let all : IsStoreHistory (e ∷ es) = (old, new, left, was, call, history) in
      let before = settle es history kept.1 came in_it old was in
      let R : StoreState T Sat → Type 0 = λ z. HaveOwnIds came × Settled (e ∷ es) all z came in
      subst R (ap (λ (z : SizedState T Sat). z.store) (some_is new at.0 (sym left ∙ at.1)) ∙ at.2) (before.0, goes_on e es all kept came before.1)

  counted : (log : List (Entry (SizedState T Sat))) (history : IsStoreHistory log) (s : StoreState T Sat) (came : List (EntryId × T)) → Settled log history s came
      → (n : Counted) × AreCounted log history s came n × (length came ≡ n.here + n.out + n.cancelled)
  counted log history s [] settled = (record { here = 0; out = 0; cancelled = 0 }, refl, refl)
  counted log history s (x ∷ came) (given, inl (last, has, become), settled) =
      let r = counted log history s came settled in
      let m = r.0 in
      let sum = r.2 in
      (record m { here = m.here + 1 }, (m, r.1, inl (last, has, become, refl)), omega (arith, sum))
  counted log history s (x ∷ came) (given, inr (none, inl out), settled) =
      let r = counted log history s came settled in
      let m = r.0 in
      let sum = r.2 in
      (record m { out = m.out + 1 }, (m, r.1, inr (none, inl (out, refl))), omega (arith, sum))
  counted log history s (x ∷ came) (given, inr (none, inr found), settled) =
      let r = counted log history s came settled in
      let m = r.0 in
      let sum = r.2 in
      (record m { cancelled = m.cancelled + 1 }, (m, r.1, inr (none, inr (found, refl))), omega (arith, sum))

-- over a history
pub totals_agree : {T : Type 0} (log : List (Entry (SizedState T Sat))) → KeepsGivenIds log → TotalsAgreeIn log
totals_agree {T} log kept history came h in_it at =
    let r = settle log history kept came in_it h at in
    (r.0, counted log history h.store came r.1)
