-- What an entry of a call makes of a shard's history.
use Rattle.std.proofs.Common.{◌≡◌, ◌<◌, ℕ, List, [], ◌∷◌, Some, refl, sym, ap, ◌∙◌, subst}
use Rattle.boxcar.specs.Slot.{Named}
use Rattle.dq_words.specs.Claims.{Claimed}
use Rattle.dq_queue.specs.declared.journal.views.Entry.{Entry}
use Rattle.dq_queue.specs.declared.journal.views.View.{View}
use Rattle.dq_queue.specs.History.{entry, entries_by}
use Rattle.dq_queue.specs.Once.{EntersOnce, IsTold, IsUnderLock}
use Rattle.dq_core.specs.Core.{Core}
use Rattle.dq_growing.specs.Sized.{SizedState}
use Rattle.dq_growing.specs.Store.{StoreState, IsStore}
use Rattle.dq_words.specs.OpenCalls.{Open}
use Rattle.dq_words.specs.Seats.{Sat}
use Rattle.dq_queue.specs.Calls.{IsStoreCall}
use Rattle.dq_queue.specs.Claims.{AreClaimed, AreClaimsOf, BringsNoCore}
use Rattle.dq_queue.specs.Loans.{LoansAreKept}
use Rattle.dq_queue.specs.Shards.{CallerView, caller_of, IsAsLeft, IsStoreHistory, MadeOnce, HasCallMore}
use Rattle.dq_queue.proofs.Claims.{still_claimed}
use Rattle.dq_queue.proofs.Lending.{ordinary}

-- what stands under the name of one number
pub one_name : {X : Type 0} (named : ℕ → X) (a b : X) (m n : ℕ) → a ≡ named m → b ≡ named n → m ≡ n → a ≡ b
one_name named a b m n x y same = x ∙ (ap named same ∙ sym y)

module _ {T : Type 0} where
  -- the history goes on with what the call left
  pub goes_on : (h v w : View (SizedState T Sat)) (log : List (Entry (SizedState T Sat))) (a b : SizedState T Sat)
      → EntersOnce h v (Some b) w → log ≡ w.log → IsAsLeft h.log a → IsStoreCall a.store b.store → IsStoreHistory h.log
      → IsAsLeft log b × IsStoreHistory log
  goes_on h v w log a b enters same follows call history =
      let P : List (Entry (SizedState T Sat)) → Type 0 = λ l. IsAsLeft l b × IsStoreHistory l in
      subst P (sym (same ∙ enters.2)) ((b, refl, refl), (a, b, refl, follows, call, history))

  -- what a shard keeps: of its number, its history, its claims and its loans
  abbrev Keeps : {X : Type 0} → ℕ → (ℕ → X) → (ℕ → X) → List Named → ℕ → SizedState T Sat → X → View (SizedState T Sat) → List (Claimed Open) → X → View (Core T Sat) → Type 0
  Keeps rooms named lent rows n a table h claims register g =
      (n < rooms) × (table ≡ named n) × IsUnderLock h × IsAsLeft h.log a × IsStoreHistory h.log × AreClaimsOf rows claims × AreClaimed a.store.cores.cores claims
      × (register ≡ lent n) × IsUnderLock g × LoansAreKept h.log a.store g.log claims

  -- a store is as the history left it, whatever is known of its size and its hint
  as_left : (log : List (Entry (SizedState T Sat))) (a b : SizedState T Sat) → b.store ≡ a.store → IsAsLeft log a → IsAsLeft log b
  as_left [] a b same at = tt {0}
  as_left (e ∷ es) a b same at = (at.0, at.1, at.2 ∙ sym same)

  -- so a shard keeps all that while its store stays
  pub keeps_so : {X : Type 0} (rooms : ℕ) (named lent : ℕ → X) (rows : List Named) (n : ℕ) (table : X) (h : View (SizedState T Sat)) (claims : List (Claimed Open)) (register : X) (g : View (Core T Sat)) (a b : SizedState T Sat)
      → b.store ≡ a.store → Keeps rooms named lent rows n a table h claims register g → Keeps rooms named lent rows n b table h claims register g
  keeps_so rooms named lent rows n table h claims register g a b same s =
      let P : StoreState T Sat → Type 0 = λ x. AreClaimed x.cores.cores claims × LoansAreKept h.log x g.log claims in
      let moved = subst P (sym same) (s.6, s.9) in
      (s.0, s.1, s.2, as_left h.log a b same s.3, s.4, s.5, moved.0, s.7, s.8, moved.1)

  -- after a call that was entered the history is still that which the shard's number names, the words are claimed, and so it is of the loans
  pub goes_on_so : {X : Type 0} (rooms : ℕ) (named lent : ℕ → X) (rows : List Named) (n : ℕ) (old now r q : X) (h v w u : View (SizedState T Sat)) (f g : View (Core T Sat)) (a b : SizedState T Sat) (was is : List (Claimed Open))
      → Keeps rooms named lent rows n a old h was r f
      → IsStoreCall a.store b.store → EntersOnce h v (Some b) w → u.log ≡ w.log → now ≡ old → IsUnderLock u
      → AreClaimsOf rows is × AreClaimed b.store.cores.cores is
      → q ≡ r → IsUnderLock g → LoansAreKept (entry v.number (Some b) ∷ h.log) b.store g.log is
      → Keeps rooms named lent rows n b now u is q g
  goes_on_so rooms named lent rows n old now r q h v w u f g a b was is s call enters log of under claimed by under_too loans =
      let on = goes_on h v w u.log a b enters log s.3 call s.4 in
      let Q : List (Entry (SizedState T Sat)) → Type 0 = λ l. LoansAreKept l b.store g.log is in (
        s.0,
        of ∙ s.1,
        under,
        on.0,
        on.1,
        claimed.0,
        claimed.1,
        by ∙ s.7,
        under_too,
        subst Q (sym (log ∙ enters.2)) loans,
      )

  -- so after a call that brings no core
  pub stays : {X : Type 0} (rooms : ℕ) (named lent : ℕ → X) (rows : List Named) (n : ℕ) (old now r : X) (h v w u : View (SizedState T Sat)) (f : View (Core T Sat)) (a b : SizedState T Sat) (was : List (Claimed Open))
      → Keeps rooms named lent rows n a old h was r f
      → IsStoreCall a.store b.store → EntersOnce h v (Some b) w → u.log ≡ w.log → now ≡ old → IsUnderLock u → BringsNoCore a.store b.store
      → Keeps rooms named lent rows n b now u was r f
  stays rooms named lent rows n old now r h v w u f a b was s call enters log of under brings =
      goes_on_so rooms named lent rows n old now r r h v w u f f a b was was s call enters log of under (s.5, still_claimed a.store b.store was brings s.6)
      refl s.8 (ordinary h.log (entry v.number (Some b)) a b f.log was s.9 s.4 refl s.3 call brings s.6)

  -- the caller's call was made once
  pub once : (gives : StoreState T Sat → StoreState T Sat → Type 0) (h x u : View (SizedState T Sat)) (m : ℕ) (v : CallerView T) (a b : SizedState T Sat)
      → caller_of m x ≡ v → EntersOnce h x (Some b) u → IsAsLeft h.log a
      → IsStore a.store → IsStore b.store → gives a.store b.store → IsStoreCall a.store b.store → IsStoreHistory h.log → MadeOnce v gives (caller_of m u)
  once gives h x u m v a b mine enters follows before after is call history =
      let P : List (Entry (SizedState T Sat)) → Type 0 = λ l. IsAsLeft l a in
      let Q : CallerView T → Type 0 = λ y. MadeOnce y gives (caller_of m u) in
      subst Q mine (
        enters.0,
        a,
        b,
        enters.2 ∙ ap (λ l. entry x.number (Some b) ∷ l) enters.1,
        subst P enters.1 follows,
        before,
        after,
        is,
        enters.3,
        enters.4,
        (goes_on h x u u.log a b enters refl follows call history).1,
        enters.5,
        refl,
      )

  -- once a caller is told the history, its call stands there
  pub one_more : (gives : StoreState T Sat → StoreState T Sat → Type 0) (h : View (SizedState T Sat)) (v w u : CallerView T) → MadeOnce v gives w → IsTold h w.history u.history → HasCallMore v gives h.log
  one_more gives h v w u (between, old, new, log, follows, before, after, is, mine, by, history, number, shard) told =
      let n : u.history.number ≡ v.history.number = told.4 ∙ number in
      let P : ℕ × List (Entry (SizedState T Sat)) → Type 0 = λ x. entries_by x.0 x.1 ≡ u.history.mine in
      (old, new, is, subst P (λ k. (n k, told.1 k)) told.3 ∙ (told.2 ∙ mine))
