-- The words of a shard's cores stay claimed.
use Rattle.std.proofs.Common.{Bool, true, false, true≢false, is_err, refl, IfSome, OnOk, ◌≡◌, ◌⊎◌, ℕ, ◌<◌, List, [], ◌∷◌, ◌++◌, length, get_or, sym, ap, ◌∙◌, subst, inl, inr, ⊎_elim, length-set, arith, Option, Some, None, Result, Ok, Err}
use Rattle.std.proofs.lemmas.List.{get_or_default}
use mathlib.Core.Logic.{dite}
use native.Mathlib.Decide.{ℕ_discrete}
use Rattle.atomic_table.specs.Seated.{TableId}
use Rattle.boxcar.specs.Slot.{Named}
use Rattle.dq_ticks.specs.declared.keys.Key.{Key}
use Rattle.dq_ticks.specs.declared.keys.EntryId.{EntryId}
use Rattle.dq_core.specs.declared.errors.CoreError.{CoreError}
use Rattle.dq_core.specs.declared.errors.CoreError.TheVariants.{TooFar, Full, Missing, WasCancelled, Worn, TickTooLarge, BadConfig, NoMemory}
use Rattle.dq_core.specs.declared.errors.ReapError.{ReapError}
use Rattle.dq_core.specs.declared.outcomes.Removed.{Removed}
use Rattle.dq_core.specs.declared.outcomes.Piece.{Piece}
use Rattle.dq_core.specs.Core.{Core}
use Rattle.dq_core.specs.Folds.{IsFoldable}
use Rattle.dq_words.specs.Claims.{Claimed, IsOf}
use Rattle.dq_growing.specs.declared.cores.TakeError.{TakeError}
use Rattle.dq_growing.specs.declared.moving.Moved.{Moved}
use Rattle.dq_growing.specs.declared.moving.Moved.TheVariants.{To, Out}
use Rattle.dq_growing.specs.declared.moving.NextDeadline.{NextDeadline}
use Rattle.dq_growing.specs.declared.moving.NextDeadline.TheVariants.{At}
use Rattle.dq_growing.specs.Cores.{CoreRow, HasNo, IsCoreAt, OnCore, OnCoreAt, OnCoreOr, InsertsIn}
use Rattle.dq_growing.specs.Moving.{GoesTo, Relocates}
use Rattle.dq_growing.specs.Polls.{PollsRow, TakesDeferredAt, TakesDeferredIn}
use Rattle.dq_growing.specs.declared.sweeping.Sweep.{Sweep}
use Rattle.dq_growing.specs.Sizing.{AllWere, ComesInto, OnlyOpens, OpensWanted, SweepsNext, WasBeside}
use Rattle.dq_growing.specs.Stands.{KeepsWords}
use Rattle.dq_growing.specs.Store.{ChangesThere, StoreState, StandsFor, AfterReset, PollsFor, ReapsFor, RelocatesFor, RemovesAt, RemovesFor, RemovesIfDueFor, ResetsFor, ResetsThere, TellsFor}
use Rattle.dq_growing.proofs.Keeping.{all_keep}
use Rattle.dq_growing.proofs.Sizes.{all_stand}
use Rattle.dq_growing.proofs.Rows.{at_after, one_at, at_snoc, snoc_long, snoc_before, snoc_last}
use Rattle.dq_words.specs.KeeperCalls.{HasBegun}
use Rattle.dq_words.specs.OpenCalls.{Open}
use Rattle.dq_words.specs.Seats.{Sat}
use Rattle.dq_queue.specs.Calls.{DoesSteps, StoreTakesIn}
use Rattle.dq_queue.specs.Claims.{IsClaimAt, AreClaimsOf, AgreeWith, AreClaimed, BringsNoCore, IsClaimed, IsOfItsWords}
use Rattle.dq_queue.specs.Words.{PromiseView, IsPromiseOf}

-- what holds of an accepted call holds where none was refused
pub was_ok : {X E : Type 0} (r : Result X E) (P : Type 0) → is_err r ≡ false → OnOk r P → P
was_ok (Ok x) P is p = p
was_ok (Err e) P is p = absurd (true≢false is)

-- the table of a keeper
abbrev pub table_by : Sat → TableId
table_by k = k.table

-- a claim more, behind the others
claim_at_snoc : (claims : List (Claimed Open)) (a d : Claimed Open) (j : ℕ) → IsClaimAt (claims ++ a ∷ []) j d
    → IsClaimAt claims j d ⊎ ((j ≡ length claims) × (a ≡ d))
claim_at_snoc claims a d j at =
    dite (ℕ_discrete j (length claims))
    (λ e. let P : ℕ → Type 0 = λ k. get_or (claims ++ a ∷ []) k d ≡ d in
    inr (e, sym (snoc_last claims a d) ∙ subst P e at.1))
    (λ n. let long = snoc_long claims a in let inside = at.0 in
    let before : j < length claims = omega arith in
    inl (before, sym (snoc_before claims a d j before) ∙ at.1))

pub claim_more : (rows : List Named) (claims : List (Claimed Open)) (a : Claimed Open) → AreClaimsOf rows claims → IsOf rows a → AreClaimsOf rows (claims ++ a ∷ [])
claim_more rows claims a all one j d at = ⊎_elim
    (λ (y : IsClaimAt claims j d). all j d y)
    (λ (y : (j ≡ length claims) × (a ≡ d)). let P : Claimed Open → Type 0 = λ k. IsOf rows k in subst P y.1 one)
    (claim_at_snoc claims a d j at)

-- with one claim more the others are there still, and that one
pub claim_before : (claims : List (Claimed Open)) (a : Claimed Open) (j : ℕ) (k : Claimed Open) → IsClaimAt claims j k → IsClaimAt (claims ++ a ∷ []) j k
claim_before claims a j k at =
    let long = snoc_long claims a in
    let inside = at.0 in
    (omega (arith, inside, long), snoc_before claims a k j inside ∙ at.1)

pub claim_last : (claims : List (Claimed Open)) (a : Claimed Open) → IsClaimAt (claims ++ a ∷ []) (length claims) a
claim_last claims a = let long = snoc_long claims a in (omega (arith, long), snoc_last claims a a)

module _ {T : Type 0} where
  -- no core comes or goes

  abbrev SameLength : CoreRow T Sat → CoreRow T Sat → Type 0
  SameLength s t = length t.cores ≡ length s.cores

  same_row : (s t : CoreRow T Sat) → t ≡ s → SameLength s t
  same_row s t e = ap (λ (r : CoreRow T Sat). length r.cores) e

  at_long : (s t : CoreRow T Sat) (i : ℕ) (P : Core T Sat → Core T Sat → Type 0) → OnCoreAt i P s t → SameLength s t
  at_long s t i P on = ap (λ (r : CoreRow T Sat). length r.cores) on.rest ∙ length-set s.cores i on.after

  on_long : (s t : CoreRow T Sat) (n : ℕ) (P : Core T Sat → Core T Sat → Type 0) → OnCore n P s t → SameLength s t
  on_long s t n P on = ap (λ (r : CoreRow T Sat). length r.cores) on.rest ∙ length-set s.cores on.place on.after

  or_long : (s t : CoreRow T Sat) (n : ℕ) (P : Core T Sat → Core T Sat → Type 0) (R : Type 0) → OnCoreOr n P R s t → SameLength s t
  or_long s t n P R (inl on) = on_long s t n P on
  or_long s t n P R (inr y) = same_row s t y.2

  same_store : (s t : StoreState T Sat) → t ≡ s → SameLength s.cores t.cores
  same_store s t e = ap (λ (r : StoreState T Sat). length r.cores.cores) e

  pub inserts_long : (s t : StoreState T Sat) (v : T) (when : ℕ) (r : Result Key (CoreError × T) × Option T) → InsertsIn s.cores v when r t.cores → SameLength s.cores t.cores
  inserts_long s t v when r (inl on) = at_long s.cores t.cores s.cores.opened _ on
  inserts_long s t v when r (inr y) = same_row s.cores t.cores y.2

  removes_at : (s t : StoreState T Sat) (u p : EntryId) (r : Result (Removed T) CoreError) → RemovesAt true s u r t p → SameLength s.cores t.cores
  removes_at s t u p (Ok x) did = on_long s.cores t.cores p.shard _ did.1
  removes_at s t u p (Err e) did = or_long s.cores t.cores p.shard _ _ did.0

  pub removes_long : (s t : StoreState T Sat) (u : EntryId) (r : Result (Removed T) CoreError) → RemovesFor true s u r t → SameLength s.cores t.cores
  removes_long s t u r (inl y) = removes_at s t u y.0 r y.2
  removes_long s t u r (inr y) = same_store s t y.1.1

  pub tells_long : (s t : StoreState T Sat) (u : EntryId) (r : Result ℕ CoreError) → TellsFor true s u r t → SameLength s.cores t.cores
  tells_long s t u r (inl y) = or_long s.cores t.cores _ _ _ y.2.0
  tells_long s t u r (inr y) = same_store s t y.1.1

  pub removes_if_due_long : (s t : StoreState T Sat) (u : EntryId) (tick : ℕ) (r : Result (Option (Removed T)) CoreError) → RemovesIfDueFor true s u tick r t → SameLength s.cores t.cores
  removes_if_due_long s t u tick (Ok (Some x)) y = removes_long s t u (Ok x) y.1
  removes_if_due_long s t u tick (Ok None) y = tells_long s t u (Ok y.0) y.2
  removes_if_due_long s t u tick (Err e) y = removes_long s t u (Err e) y

  pub changes_long : {R : Type 0} (Makes : T → R → T → Type 0) (s t : StoreState T Sat) (u : EntryId) (r : Option R) → ChangesThere Makes s u r t → SameLength s.cores t.cores
  changes_long {R} Makes s t u r (inl y) = or_long s.cores t.cores _ _ _ y.2.0
  changes_long {R} Makes s t u r (inr y) = same_store s t y.1.1

  pub reaps_long : (s t : StoreState T Sat) (u : EntryId) (r : Result (Unit {0}) ReapError) → ReapsFor true s u r t → SameLength s.cores t.cores
  reaps_long s t u r (inl y) = or_long s.cores t.cores _ _ _ y.2.0
  reaps_long s t u r (inr y) = same_store s t y.1.1

  polls_row : (s t : CoreRow T Sat) (tick : ℕ) (most : Option ℕ) (r : Result (Piece T) CoreError) → PollsRow (DoesSteps most) s tick r t → SameLength s t
  polls_row s t tick most (Ok p) (small, inl y) = same_row _ t y.1
  polls_row s t tick most (Ok p) (small, inr core) = at_long _ t core.place _ core.did
  polls_row s t tick most (Err e) y = same_row s t y.2

  pub polls_long : (s t : StoreState T Sat) (tick : ℕ) (most : Option ℕ) (r : Result (Piece T) CoreError) → PollsFor (DoesSteps most) s tick r t → SameLength s.cores t.cores
  polls_long s t tick most r y = polls_row s.cores t.cores tick most y.0 y.1

  goes_long : (m t : CoreRow T Sat) (x : Removed T) (next : NextDeadline) (moved : Moved T) (beside : Option T) → GoesTo m x next moved beside t → SameLength m t
  goes_long m t x next (To k d) beside y = at_long m t m.opened _ y.1
  goes_long m t x next (Out z) beside y = same_row m t y.3

  moves_long : (s t : CoreRow T Sat) (p : EntryId) (next : NextDeadline) (r : Result (Moved T) CoreError) (beside : Option T) → Relocates true p next (r, beside) s t → SameLength s t
  moves_long s t p next (Ok moved) beside y =
      let way = y.2 in
      goes_long way.1 t way.0 next moved beside way.3 ∙ on_long s way.1 p.shard _ way.2
  moves_long s t p next (Err (TooFar limit)) beside y = same_row s t y.3
  moves_long s t p next (Err (Full linked worn)) beside y = same_row s t y.3
  moves_long s t p next (Err Missing) beside y = or_long s t p.shard _ _ y.3
  moves_long s t p next (Err WasCancelled) beside y = or_long s t p.shard _ _ y.3
  moves_long s t p next (Err Worn) beside y = or_long s t p.shard _ _ y.3
  moves_long s t p next (Err (TickTooLarge limit)) beside y = or_long s t p.shard _ _ y.3
  moves_long s t p next (Err BadConfig) beside y = or_long s t p.shard _ _ y.3
  moves_long s t p next (Err NoMemory) beside y = or_long s t p.shard _ _ y.3

  pub relocates_long : (s t : StoreState T Sat) (u : EntryId) (next : NextDeadline) (r : Result (Moved T) CoreError × Option T) → RelocatesFor true s u next r t → SameLength s.cores t.cores
  relocates_long s t u next r (inl (p, meant, inl y)) = same_row s.cores t.cores y.1
  relocates_long s t u next r (inl (p, meant, inr y)) = moves_long s.cores t.cores p next y.0 r.1 y.1
  relocates_long s t u next r (inr y) = same_store s t y.1.1

  after_long : (m t : StoreState T Sat) (u : EntryId) (when : ℕ) (made r : Result Key CoreError) (beside : Option T) → AfterReset true m u when made (r, beside) t → SameLength m.cores t.cores
  after_long m t u when (Ok k) r beside y = same_store m t y.2
  after_long m t u when (Err e) r beside (inl y) = relocates_long m t u (At when) (y.1.0, beside) y.1.1
  after_long m t u when (Err e) r beside (inr y) = same_store m t y.3

  pub resets_long : (s t : StoreState T Sat) (u : EntryId) (when : ℕ) (r : Result Key CoreError) (beside : Option T) → ResetsFor true s u when (r, beside) t → SameLength s.cores t.cores
  resets_long s t u when r beside (inl (p, meant, (made, m, on, after))) = after_long _ t u when made r beside after ∙ or_long s.cores m p.shard _ _ on
  resets_long s t u when r beside (inr y) = same_store s t y.1.1

  pub resets_there_long : (s t : StoreState T Sat) (u : EntryId) (when : ℕ) (r : Result Key CoreError) → ResetsThere true s u when r t → SameLength s.cores t.cores
  resets_there_long s t u when r (inl y) = or_long s.cores t.cores _ _ _ y.2.1
  resets_there_long s t u when r (inr y) = same_store s t y.1.1

  -- each core after a call has the number and the words of the one that stood there before
  came_from : (s t : CoreRow T Sat) → KeepsWords table_by HasBegun s t → SameLength s t → (i : ℕ) (c : Core T Sat) → IsCoreAt t.cores i c
      → (b : Core T Sat) × IsCoreAt s.cores i b × (c.shard ≡ b.shard) × (c.words.table ≡ b.words.table)
  came_from s t keeps long i c at =
      let inside = at.0 in
      let b = get_or s.cores i c in
      let was : IsCoreAt s.cores i b = (omega (arith, inside, long), get_or_default s.cores i b c (omega (arith, inside, long))) in
      let k = keeps i b was in
      let same = one_at t.cores i k.0 c k.1 at in
      (b, was, ap (λ (x : Core T Sat). x.shard) (sym same) ∙ k.2, ap (λ (x : Core T Sat). x.words.table) (sym same) ∙ k.3)

  pub brings_none : (s t : StoreState T Sat) → KeepsWords table_by HasBegun s.cores t.cores → SameLength s.cores t.cores → BringsNoCore s t
  brings_none s t keeps long i c at = let b = came_from s.cores t.cores keeps long i c at in (i, b.0, b.1, b.2, b.3)

  pub still_claimed : (s t : StoreState T Sat) (claims : List (Claimed Open)) → BringsNoCore s t → AreClaimed s.cores.cores claims → AreClaimed t.cores.cores claims
  still_claimed s t claims brings claimed i c at =
      let b = brings i c at in
      let k = claimed b.0 b.1 b.2 in
      (k.0, k.1, k.2, (k.3.0 ∙ sym b.3, k.3.1 ∙ sym b.4))

  pub still_its_words : (s t : StoreState T Sat) (p : PromiseView) → BringsNoCore s t → IsOfItsWords s p → IsOfItsWords t p
  still_its_words s t p brings its i c at =
      let b = brings i c at.0 in
      b.4 ∙ its b.0 b.1 (b.2, sym b.3 ∙ at.1)

  pub same_cores : (s t : StoreState T Sat) → t.cores ≡ s.cores → BringsNoCore s t
  same_cores s t e i c at = let P : CoreRow T Sat → Type 0 = λ r. IsCoreAt r.cores i c in (i, c, subst P e at, refl, refl)

  -- what a call on the store's size made of it
  pub comes_open : (s t : StoreState T Sat) (c : Core T Sat) (r : Result (Unit {0}) (TakeError × Core T Sat)) → OnOk r (ComesInto s c t) → OnOk r (OpensWanted s.cores t.cores)
      → OnOk r (ComesInto s c t × OpensWanted s.cores t.cores)
  comes_open s t c (Ok done) comes opens = (comes, opens)
  comes_open s t c (Err e) comes opens = tt {0}

  -- a core that is refused comes back, and the store is as it was
  pub comes_not : (s : StoreState T Sat) (c : Core T Sat) (e : TakeError) → StoreTakesIn c (Err (e, c)) s s
  comes_not s c e = (tt {0}, (refl, refl, refl), all_stand (StandsFor s), (λ u past used. all_keep s u used), (λ u used tick none. none))

  pub gives_of : (s t : StoreState T Sat) (r : Option (Core T Sat)) → IfSome r (λ c. IsFoldable c × WasBeside s.cores c) → IfSome r (λ c. HasNo t.cores.cores c.shard)
      → IfSome r (λ c. IsFoldable c × WasBeside s.cores c × HasNo t.cores.cores c.shard)
  gives_of s t (Some c) drained gone = (drained.0, drained.1, gone)
  gives_of s t None drained gone = tt {0}

  -- which core is open has changed at most
  pub opens_none : (s t : StoreState T Sat) → OnlyOpens s t → BringsNoCore s t
  opens_none s t opens i c at = let P : CoreRow T Sat → Type 0 = λ r. IsCoreAt r.cores i c in (i, c, subst P opens.0.1 at, refl, refl)

  next_long : (s t : StoreState T Sat) (w v : Sweep) → SweepsNext true 256 w s v t → SameLength s.cores t.cores
  next_long s t w v (notes, inl y) = same_row s.cores t.cores y.1
  next_long s t w v (notes, inr y) = at_long s.cores t.cores w.place _ y.1

  pub sweeps_long : (s t : StoreState T Sat) (w v : Sweep) (looked : Bool) → (looked ≡ true → SweepsNext true 256 w s v t) → (looked ≡ false → t ≡ s) → SameLength s.cores t.cores
  sweeps_long s t w v true swept rests = next_long s t w v (swept refl)
  sweeps_long s t w v false swept rests = same_store s t (rests refl)

  -- each core was there before
  pub were_there : (s t : StoreState T Sat) → AllWere s.cores t.cores → BringsNoCore s t
  were_there s t were i c at = let j = were i c at in (j.0, c, j.1, refl, refl)

  -- a value that waited is taken out of a core, whose number and words stay
  deferred_at : (s t : StoreState T Sat) (v : T) (i : ℕ) → OnCoreAt i (TakesDeferredAt v) s.cores t.cores → BringsNoCore s t
  deferred_at s t v i on j c at =
      let P : CoreRow T Sat → Type 0 = λ r. IsCoreAt r.cores j c in
      ⊎_elim
      (λ y. let is : c ≡ record on.before { deferred = on.after.deferred } = y.1 ∙ on.did.1 in
      (i, on.before, on.at, ap (λ (k : Core T Sat). k.shard) is, ap (λ (k : Core T Sat). k.words.table) is))
      (λ y. (j, c, y.1, refl, refl))
      (at_after s.cores.cores i j on.after c on.at.0 (subst P on.rest at))

  pub deferred_none : (s t : StoreState T Sat) (r : Option T) → TakesDeferredIn s.cores r t.cores → BringsNoCore s t
  deferred_none s t (Some v) (i, on) = deferred_at s t v i on
  deferred_none s t None (none, is) = same_cores s t is

  -- a core comes in, whose words are claimed
  pub comes_claimed : (s t : StoreState T Sat) (c : Core T Sat) (claims : List (Claimed Open)) → ComesInto s c t → AreClaimed s.cores.cores claims → IsClaimed claims c
      → AreClaimed t.cores.cores claims
  comes_claimed s t c claims takes claimed own i d at =
      let P : List (Core T Sat) → Type 0 = λ l. IsCoreAt l i d in
      ⊎_elim
      (λ (y : IsCoreAt s.cores.cores i d). claimed i d y)
      (λ (y : (i ≡ length s.cores.cores) × (c ≡ d)). let Q : Core T Sat → Type 0 = λ x. IsClaimed claims x in subst Q y.1 own)
      (at_snoc s.cores.cores c d i (subst P takes.0 at))

  pub more_claimed : (cores : List (Core T Sat)) (was is : List (Claimed Open)) → ((j : ℕ) (k : Claimed Open) → IsClaimAt was j k → IsClaimAt is j k) → AreClaimed cores was → AreClaimed cores is
  more_claimed cores was is more claimed i c at = let k = claimed i c at in (k.0, k.1, more k.0 k.1 k.2, k.3)
