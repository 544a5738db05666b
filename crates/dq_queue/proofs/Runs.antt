-- What a shard's calls leave of the ids that entries have had, and what follows over its history.
use Rattle.std.proofs.Common.{true, ◌≡◌, ◌≢◌, ◌⊎◌, ℕ, List, [], ◌∷◌, ◌++◌, arith, set, length-set, Option, Some, None, Result, Ok, Err, IfOk, IfSome, refl, sym, ap, ◌∙◌, subst, inl, inr, ⊎_elim, append_assoc}
use Rattle.dq_ticks.specs.declared.keys.Key.{Key}
use Rattle.dq_ticks.specs.declared.keys.EntryId.{EntryId}
use Rattle.dq_core.specs.declared.errors.CoreError.{CoreError}
use Rattle.dq_core.specs.declared.outcomes.Removed.{Removed}
use Rattle.dq_core.specs.Core.{Core}
use Rattle.dq_core.specs.Machine.{Entry as Stood}
use Rattle.dq_queue.specs.declared.journal.views.Entry.{Entry}
use Rattle.dq_growing.specs.declared.cores.TakeError.{TakeError}
use Rattle.dq_growing.specs.declared.moving.Moved.{Moved}
use Rattle.dq_growing.specs.declared.moving.Moved.TheVariants.{To, Out}
use Rattle.std.proofs.lemmas.List.{get_or-set_same}
use Rattle.dq_growing.specs.Cores.{CoreRow, HasAt, InsertsIn, IsCoreAt, closed_error, missing_error}
use Rattle.dq_growing.specs.Sizing.{ComesInto}
use Rattle.dq_growing.specs.Moving.{IfCameOut}
use Rattle.dq_growing.specs.Notes.{ArePastBy, Book, numbers_of}
use Rattle.dq_growing.specs.Runs.{IsUsedId, KeepsId, KeepsIds, KeepsOtherIds, GivesId, KeepsItsDeadline, NotDueBefore, HoldsDeadline, HoldsDeadlines, LeavesInForce}
use Rattle.dq_growing.specs.Stands.{OneLeaves}
use Rattle.dq_growing.specs.Sized.{SizedState}
use Rattle.dq_growing.specs.Store.{StoreState, AfterReset, ChangesFor, ChangesThere, RemovesIfDueFor, reset_as, StandsFor, HasFor, HasOneValue, NoneStandsFor, ComesFor, GoesOut}
use Rattle.dq_growing.specs.declared.moving.NextDeadline.{NextDeadline}
use Rattle.dq_growing.specs.declared.moving.NextDeadline.TheVariants.{Same, At, SameIfAfter}
use Rattle.dq_growing.proofs.Leasts.{some_not_none}
use Rattle.dq_growing.proofs.Pairing.{one_or_two}
use Rattle.dq_growing.proofs.Standing.{some_is}
use Rattle.dq_growing.proofs.Stored.{stored}
use Rattle.dq_words.specs.Seats.{Sat}
use Rattle.dq_queue.specs.Calls.{Exchanges, IsStoreCall, OnlyValueChanges, StoreChanges, StoreExchanges, StoreRemovesIfDue, StoreTakesIn, StoreResets, StoreResetsThere, StoreRelocates, HasOnly, ComesNew}
use Rattle.dq_queue.specs.Runs.{ByCall, ByEach, WasGivenIn, KeepsGiven, KeepsGivenIds, HasNext, StandsOn, StandsThrough, LeavesWith, StaysEnded, LeftOnce, SetsDeadline, SetsNone, LeavesNoSooner, StaysDue, EntriesLeaveOnceIn, EndedStaysEndedIn, DeadlinesHoldIn}
use Rattle.dq_queue.specs.Shards.{IsAsLeft, IsStoreHistory}

-- a move asks for no deadline, or for one
next_keeps : (next : NextDeadline) → KeepsItsDeadline next ⊎ (¬ KeepsItsDeadline next)
next_keeps Same = inl (tt {0})
next_keeps (At tick) = inr (λ keeps. keeps)
next_keeps (SameIfAfter tick) = inl (tt {0})

not_ok : {X E : Type 0} (x : X) (e : E) → Ok x ≡ Err e → ⊥
not_ok x e same = grind arith

module _ {T : Type 0} where
  set_here : (cores : List (Core T Sat)) (i : ℕ) (b c : Core T Sat) → IsCoreAt cores i b → IsCoreAt (set cores i c) i c
  set_here cores i b c at =
      let long = length-set cores i c in
      let inside = at.0 in
      (omega (arith, long, inside), get_or-set_same cores i c c inside)

  -- what a removal or a move gave out, and what an insert put in

  pub went_out : (s t : StoreState T Sat) (u : EntryId) (r : Result (Removed T) CoreError) → IfOk r (λ x. OneLeaves (StandsFor s) (StandsFor t) u x.value)
      → IfOk r (λ x. GoesOut s u x.value t)
  went_out s t u (Ok x) left = (left.was, left.gone)
  went_out s t u (Err e) left = tt {0}

  pub due_out : (s t : StoreState T Sat) (u : EntryId) (tick : ℕ) (r : Result (Option (Removed T)) CoreError) → RemovesIfDueFor true s u tick r t → KeepsIds s t
      → IfOk r (λ found. IfSome found (λ x. OneLeaves (StandsFor s) (StandsFor t) u x.value)) → HoldsDeadlines s t → IfOk r (λ found. IfSome found (λ x. LeavesInForce s u x.deadline))
      → StoreRemovesIfDue u tick r s t
  due_out s t u tick (Ok (Some x)) did keeps left holds in_force = (did.0, (did.1, keeps, (left.was, left.gone), holds, in_force))
  due_out s t u tick (Ok None) did keeps left holds in_force = (did.0, did.1, (did.2, keeps, holds))
  due_out s t u tick (Err e) did keeps left holds in_force = (did, keeps, tt {0}, holds, tt {0})

  -- a removal of what is due is a removal, or a look
  pub due_call : (s t : StoreState T Sat) (u : EntryId) (tick : ℕ) (r : Result (Option (Removed T)) CoreError) → StoreRemovesIfDue u tick r s t → IsStoreCall s t
  due_call s t u tick (Ok (Some x)) did = inr (inl (u, Ok x, did.1))
  due_call s t u tick (Ok None) did = inr (inr (inr (inl (u, Ok did.0, did.2))))
  due_call s t u tick (Err e) did = inr (inl (u, Err e, did))

  pub moved_out : (s t : StoreState T Sat) (u : EntryId) (r : Result (Moved T) CoreError) → IfOk r (λ m. IfCameOut m (λ x. OneLeaves (StandsFor s) (StandsFor t) u x.value))
      → IfOk r (λ m. IfCameOut m (λ x. GoesOut s u x.value t))
  moved_out s t u (Ok (To k d)) left = tt {0}
  moved_out s t u (Ok (Out x)) left = (left.was, left.gone)
  moved_out s t u (Err e) left = tt {0}

  -- the core of a key that an insert gave is there
  its_core : (s t : StoreState T Sat) (v : T) (when : ℕ) (k : Key) (beside : Option T) → InsertsIn s.cores v when (Ok k, beside) t.cores
      → (i : ℕ) × (c : Core T Sat) × HasAt t.cores.cores k.entry.shard i c
  its_core s t v when k beside (inl on) =
      let did = on.did.0 in
      let P : CoreRow T Sat → Type 0 = λ r. IsCoreAt r.cores s.cores.opened on.after in
      let at : IsCoreAt (set s.cores.cores s.cores.opened on.after) s.cores.opened on.after = set_here s.cores.cores s.cores.opened on.before on.after on.at in
      (s.cores.opened, on.after, (subst P (sym on.rest) at, did.same_shard ∙ sym did.shard))
  its_core s t v when k beside (inr y) = absurd (not_ok k (closed_error when, v) (ap (λ (r : Result Key (CoreError × T) × Option T). r.0) y.1))

  pub came_new : (s t : StoreState T Sat) (v : T) (when : ℕ) (r : Result Key (CoreError × T)) (beside : Option T) → InsertsIn s.cores v when (r, beside) t.cores → IfOk r (λ k. ComesFor s k v when t)
      → IfOk r (λ k. GivesId s k.entry t) → ((id : EntryId) → HasOneValue t id) → IfOk r (λ k. ComesNew s k.entry v t)
  came_new s t v when (Ok k) beside inserts comes gives one =
      let c = comes.2 in
      (gives, ((record { born = k.entry.born; value = v; due = Some comes.0 }, c.here, refl), one k.entry), (gives.1, its_core s t v when k beside inserts))
  came_new s t v when (Err e) beside inserts comes gives one = tt {0}

  -- what a closure made of a value
  only_value : {R : Type 0} (Makes : T → R → T → Type 0) (s t : StoreState T Sat) (u : EntryId) (a : R) → ChangesThere Makes s u (Some a) t → OnlyValueChanges u s t
  only_value {R} Makes s t u a (inl (p, meant, (inl on, notes))) =
      let did = on.did in
      (p, meant, record { place = on.place; before = on.before; after = on.after; at = on.at; did = (did.1, did.4); rest = on.rest }, notes)
  only_value {R} Makes s t u a (inl (p, meant, (inr y, notes))) = absurd (some_not_none a y.1)
  only_value {R} Makes s t u a (inr (nowhere, (is, same))) = absurd (some_not_none a is)

  pub changed_by : {R : Type 0} (Makes : T → R → T → Type 0) (s t : StoreState T Sat) (u : EntryId) (r : Option R) → ((id : EntryId) → HasOneValue s id) → ((id : EntryId) → HasOneValue t id)
      → ChangesFor Makes s u r t → ChangesThere Makes s u r t → KeepsOtherIds u s t → HoldsDeadlines s t → StoreChanges Makes u r s t
  changed_by {R} Makes s t u None was is did there keeps holds = did
  changed_by {R} Makes s t u (Some a) was is did there keeps holds =
      let e : Stood T = did.entry in
      let f : Stood T = record e { value = did.value } in (
        e.value,
        did.value,
        did.made,
        record {
          only = only_value Makes s t u a there;
          had = ((e, did.was, refl), was u);
          has = ((f, did.here, refl), is u);
          others = did.others;
          keeps = keeps;
          holds = holds;
        },
      )

  pub changes_call : {R : Type 0} (Makes : T → R → T → Type 0) (s t : StoreState T Sat) (u : EntryId) (r : Option R) → StoreChanges Makes u r s t → IsStoreCall s t
  changes_call {R} Makes s t u None did = inr (inr (inr (inr (inr (inr (inr (inr (inr (inr (inr (inl (u, inl did.1))))))))))))
  changes_call {R} Makes s t u (Some a) did = inr (inr (inr (inr (inr (inr (inr (inr (inr (inr (inr (inl (u, inr (did.0, did.1, did.3)))))))))))))

  -- a call kept an id

  -- no core came in that gives an id anew
  abbrev pub BringsNone : EntryId → StoreState T Sat → StoreState T Sat → Type 0
  BringsNone u s t = (c : Core T Sat) → ComesInto s c t → ArePastBy (numbers_of u) c

  same_id : (s : StoreState T Sat) (u : EntryId) → IsUsedId s u → KeepsId s (stored s.cores s.notes) u
  same_id s u used = record { given = used; stays = λ v z. inl z; stood = λ v z. z }

  takes_keep : (u : EntryId) (s t : StoreState T Sat) (c : Core T Sat) (r : Result (Unit {0}) (TakeError × Core T Sat)) → StoreTakesIn c r s t → BringsNone u s t → IsUsedId s u
      → KeepsId s t u
  takes_keep u s t c (Ok done) y brings used = y.3 u (brings c y.0.0) used
  takes_keep u s t c (Err e) y brings used =
      let P : CoreRow T Sat × Book → Type 0 = λ x. KeepsId s (stored x.0 x.1) u in
      let cores = y.1.1 in
      let notes = y.1.2 in
      subst P (λ n. (sym cores n, sym notes n)) (same_id s u used)

  -- so of an exchange
  exchange_keeps : (u id : EntryId) (s t : StoreState T Sat) → StoreExchanges id s t → IsUsedId s u → KeepsGiven u s t
  exchange_keeps u id s t (inl same) used = let P : StoreState T Sat → Type 0 = λ k. KeepsId s k u in inl (subst P (sym same) (same_id s u used))
  exchange_keeps u id s t (inr (was, now, x)) used =
      ⊎_elim
      (λ (is : u ≡ id). let P : EntryId → Type 0 = λ k. Exchanges k was now s t in inr (was, now, subst P (sym is) x))
      (λ (ne : u ≢ id). let k = x.keeps u used in inl (k.1 ne))
      (one_or_two u id)

  pub keeps_id : (u : EntryId) (s t : StoreState T Sat) → IsStoreCall s t → BringsNone u s t → IsUsedId s u → KeepsGiven u s t
  keeps_id u s t (inl y) brings used = let did = y.3 in inl (did.2 u used)
  keeps_id u s t (inr (inl y)) brings used = let did = y.2 in inl (did.1 u used)
  keeps_id u s t (inr (inr (inl y))) brings used = let did = y.3 in inl (did.1.0 u used)
  keeps_id u s t (inr (inr (inr (inl y)))) brings used = let did = y.2 in inl (did.1 u used)
  keeps_id u s t (inr (inr (inr (inr (inl y))))) brings used = let did = y.3 in inl (did.1 u used)
  keeps_id u s t (inr (inr (inr (inr (inr (inl y)))))) brings used = inl (takes_keep u s t y.0 y.1 y.2 brings used)
  keeps_id u s t (inr (inr (inr (inr (inr (inr (inl y))))))) brings used = let did = y.1 in inl (did.5 u used)
  keeps_id u s t (inr (inr (inr (inr (inr (inr (inr (inl y)))))))) brings used = let did = y.3 in inl (did.1 u used)
  keeps_id u s t (inr (inr (inr (inr (inr (inr (inr (inr (inl y))))))))) brings used = let did = y.2 in inl (did.1 u used)
  keeps_id u s t (inr (inr (inr (inr (inr (inr (inr (inr (inr (inl y)))))))))) brings used = let did = y.3 in inl (did.1.0 u used)
  keeps_id u s t (inr (inr (inr (inr (inr (inr (inr (inr (inr (inr (inl y))))))))))) brings used = let did = y.1 in inl (did.2 u used)
  keeps_id u s t (inr (inr (inr (inr (inr (inr (inr (inr (inr (inr (inr (inl y)))))))))))) brings used = let did = y.1 in exchange_keeps u y.0 s t did used
  keeps_id u s t (inr (inr (inr (inr (inr (inr (inr (inr (inr (inr (inr (inr (inl y))))))))))))) brings used = let did = y.2 in inl (did.3 u used)
  keeps_id u s t (inr (inr (inr (inr (inr (inr (inr (inr (inr (inr (inr (inr (inr (inl y)))))))))))))) brings used = inl (y.2 u used)
  keeps_id u s t (inr (inr (inr (inr (inr (inr (inr (inr (inr (inr (inr (inr (inr (inr y)))))))))))))) brings used = let did = y.1 in inl (did.2 u used)

  reset_holds : (u : EntryId) (s t : StoreState T Sat) (id : EntryId) (when : ℕ) (r : Result Key CoreError × Option T) → StoreResets id when r s t → (¬ SetsDeadline u s t) → IsUsedId s u
      → HoldsDeadline s t u
  reset_holds u s t id when (Ok k, beside) did sets used =
      ⊎_elim
      (λ (is : u ≡ id). let P : EntryId → Type 0 = λ e. StoreResets e when (Ok k, beside) s t in absurd (sets (inl (when, k, beside, subst P (sym is) did))))
      (λ (ne : u ≢ id). did.1.1 u ne used)
      (one_or_two u id)
  reset_holds u s t id when (Err e, beside) did sets used = did.1.2 u used

  -- a reset that was accepted at its place is a reset
  there_after : (s t : StoreState T Sat) (u : EntryId) (when : ℕ) (k : Key) (made : Result Key CoreError) → Ok k ≡ reset_as u made → t.notes ≡ s.notes
      → AfterReset true (stored t.cores s.notes) u when made (Ok k, None) t
  there_after s t u when k (Ok l) is notes = (is, refl, ap (λ n. stored t.cores n) notes)
  there_after s t u when k (Err e) is notes = absurd (not_ok k e is)

  there_resets : (s t : StoreState T Sat) (u : EntryId) (when : ℕ) (k : Key) → StoreResetsThere u when (Ok k) s t → StoreResets u when (Ok k, None) s t
  there_resets s t u when k (inl (p, meant, (made, on, is, notes)), kept) = (inl (p, meant, (made, t.cores, on, there_after s t u when k made is notes)), kept)
  there_resets s t u when k (inr (none, (is, same)), kept) = absurd (not_ok k (missing_error when) is)

  there_holds : (u : EntryId) (s t : StoreState T Sat) (id : EntryId) (when : ℕ) (r : Result Key CoreError) → StoreResetsThere id when r s t → (¬ SetsDeadline u s t) → IsUsedId s u
      → HoldsDeadline s t u
  there_holds u s t id when (Ok k) did sets used = reset_holds u s t id when (Ok k, None) (there_resets s t id when k did) sets used
  there_holds u s t id when (Err e) did sets used = did.1.2 u used

  move_holds : (u : EntryId) (s t : StoreState T Sat) (id : EntryId) (next : NextDeadline) (r : Result (Moved T) CoreError × Option T) → StoreRelocates id next r s t → (¬ SetsDeadline u s t)
      → IsUsedId s u → HoldsDeadline s t u
  move_holds u s t id next (Ok (To k d), beside) did sets used =
      ⊎_elim
      (λ (keeps : KeepsItsDeadline next). did.5 keeps u used)
      (λ (asks : ¬ KeepsItsDeadline next). ⊎_elim
      (λ (is : u ≡ id). let P : EntryId → Type 0 = λ e. StoreRelocates e next (Ok (To k d), beside) s t in absurd (sets (inr (next, k, d, beside, asks, subst P (sym is) did))))
      (λ (ne : u ≢ id). did.3 u ne used)
      (one_or_two u id))
      (next_keeps next)
  move_holds u s t id next (Ok (Out x), beside) did sets used = did.4 u used
  move_holds u s t id next (Err e, beside) did sets used = did.4 u used

  exchange_holds : (u id : EntryId) (s t : StoreState T Sat) → StoreExchanges id s t → IsUsedId s u → HoldsDeadline s t u
  exchange_holds u id s t (inl same) used d none = let P : StoreState T Sat → Type 0 = λ k. NotDueBefore k u d in subst P (sym same) none
  exchange_holds u id s t (inr (was, now, x)) used d none = (x.holds u used) d none

  -- a call that gave an entry no deadline held the one that it had
  none_set : (u : EntryId) (s t : StoreState T Sat) → IsStoreCall s t → (¬ SetsDeadline u s t) → IsUsedId s u → HoldsDeadline s t u
  none_set u s t (inl y) sets used = let did = y.3 in did.4 u used
  none_set u s t (inr (inl y)) sets used = let did = y.2 in did.3 u used
  none_set u s t (inr (inr (inl y))) sets used = reset_holds u s t y.0 y.1 y.2 y.3 sets used
  none_set u s t (inr (inr (inr (inl y)))) sets used = let did = y.2 in did.2 u used
  none_set u s t (inr (inr (inr (inr (inl y))))) sets used = let did = y.3 in did.3 u used
  none_set u s t (inr (inr (inr (inr (inr (inl y)))))) sets used = let did = y.2 in did.4 u used
  none_set u s t (inr (inr (inr (inr (inr (inr (inl y))))))) sets used = let did = y.1 in did.6 u used
  none_set u s t (inr (inr (inr (inr (inr (inr (inr (inl y)))))))) sets used = move_holds u s t y.0 y.1 y.2 y.3 sets used
  none_set u s t (inr (inr (inr (inr (inr (inr (inr (inr (inl y))))))))) sets used = let did = y.2 in did.2 u used
  none_set u s t (inr (inr (inr (inr (inr (inr (inr (inr (inr (inl y)))))))))) sets used = there_holds u s t y.0 y.1 y.2 y.3 sets used
  none_set u s t (inr (inr (inr (inr (inr (inr (inr (inr (inr (inr (inl y))))))))))) sets used = let did = y.1 in did.3 u used
  none_set u s t (inr (inr (inr (inr (inr (inr (inr (inr (inr (inr (inr (inl y)))))))))))) sets used = let did = y.1 in exchange_holds u y.0 s t did used
  none_set u s t (inr (inr (inr (inr (inr (inr (inr (inr (inr (inr (inr (inr (inl y))))))))))))) sets used = let did = y.2 in did.4 u used
  none_set u s t (inr (inr (inr (inr (inr (inr (inr (inr (inr (inr (inr (inr (inr (inl y)))))))))))))) sets used = y.3 u used
  none_set u s t (inr (inr (inr (inr (inr (inr (inr (inr (inr (inr (inr (inr (inr (inr y)))))))))))))) sets used = let did = y.1 in did.3 u used

  pub holds_due : (u : EntryId) (s t : StoreState T Sat) → IsStoreCall s t → SetsNone u s t → IsUsedId s u → HoldsDeadline s t u
  holds_due u s t did (inl moves) used = let m = moves.5 in m.5 moves.4 u used
  holds_due u s t did (inr sets) used = none_set u s t did sets used

  leaves_due : (u : EntryId) (tick : ℕ) (s t : StoreState T Sat) → NotDueBefore s u tick → LeavesNoSooner u tick s t
  leaves_due u tick s t none = record {
    removed = λ x did. did.4 tick none;
    moved = λ next x beside did. did.7 tick none;
    polled = λ at most x did is. let P : EntryId → Type 0 = λ k. NotDueBefore s k tick in did.4 tick (subst P (sym is) none);
  }

  -- what that makes of an entry

  pub stands_on : (u : EntryId) (v : T) (s t : StoreState T Sat) → KeepsId s t u → IsUsedId s u → HasOnly s u v → HasFor t u v → StandsOn u v s t
  stands_on u v s t k used only has = ((has, (λ a b y z. only.1 a b (k.stood a y) (k.stood b z))), ((λ w z. z.1 has.0 has.1), (λ g. g.0 used)))

  leaves_with : (u : EntryId) (v : T) (s t : StoreState T Sat) → IsUsedId s u → HasOnly s u v → NoneStandsFor t u → LeavesWith u v s t
  leaves_with u v s t used only none = (none, (λ w z. only.1 w v z.0 only.0), (λ g. g.0 used))

  pub stays_ended : (u : EntryId) (s t : StoreState T Sat) → KeepsGiven u s t → IsUsedId s u → NoneStandsFor s u → StaysEnded u s t
  stays_ended u s t (inl k) used none = (
    (λ e z. let f = k.stood e.value (e, z, refl) in none f.0 f.1),
    ((λ v z. let f = z.0 in none f.0 f.1), (λ g. g.0 used)),
  )
  stays_ended u s t (inr (was, now, x)) used none = let f = x.had.0 in absurd (none f.0 f.1)

  pub still_used : (u : EntryId) (s t : StoreState T Sat) → KeepsGiven u s t → IsUsedId s u → IsUsedId t u
  still_used u s t (inl k) used = k.given
  still_used u s t (inr (was, now, x)) used = (x.keeps u used).0

  -- an entry whose value was exchanged had no other, and nothing went out
  pub exchanged_on : (u : EntryId) (v was now : T) (s t : StoreState T Sat) → IsUsedId s u → HasOnly s u v → Exchanges u was now s t → StandsOn u now s t × HasNext u v now s t
  exchanged_on u v was now s t used only x =
      let P : T → Type 0 = λ k. Exchanges u k now s t in
      let here = x.has.0 in
      ((x.has, ((λ w z. z.1 here.0 here.1), (λ g. g.0 used))), inr (subst P (x.had.1 was v x.had.0 only.0) x))

  -- the store that the newest entry left

  one_store : (e : Entry (SizedState T Sat)) (a b : SizedState T Sat) → ((p : SizedState T Sat) × (e.left ≡ Some p) × (p.store ≡ a.store))
      → ((q : SizedState T Sat) × (e.left ≡ Some q) × (q.store ≡ b.store)) → a.store ≡ b.store
  one_store e a b p q = sym p.2 ∙ (ap (λ (s : SizedState T Sat). s.store) (some_is p.0 q.0 (sym p.1 ∙ q.1)) ∙ q.2)

  one_left : (es : List (Entry (SizedState T Sat))) (x : Entry (SizedState T Sat)) (xs : List (Entry (SizedState T Sat))) (a b : SizedState T Sat) → IsAsLeft (es ++ x ∷ xs) a → IsAsLeft (es ++ x ∷ xs) b → a.store ≡ b.store
  one_left [] x xs a b p q = one_store x a b p q
  one_left (e ∷ es) x xs a b p q = one_store e a b p q

  pub by_call : (Did : StoreState T Sat → StoreState T Sat → Type 0) (e : Entry (SizedState T Sat)) (es : List (Entry (SizedState T Sat))) (x : Entry (SizedState T Sat)) (xs : List (Entry (SizedState T Sat))) (s t : SizedState T Sat)
      → IsAsLeft (es ++ x ∷ xs) s → e.left ≡ Some t → Did s.store t.store → ByCall Did e (es ++ x ∷ xs)
  by_call Did e es x xs s t was left did = λ a b p q.
      let P : StoreState T Sat × SizedState T Sat → Type 0 = λ y. Did y.0 y.1.store in
      let first = one_left es x xs s a was p in
      let second = some_is t b (sym left ∙ q) in
      subst P (λ n. (first n, second n)) did

  -- an id that had been given is a used one in the store that the history left
  pub used_in : (log : List (Entry (SizedState T Sat))) → IsStoreHistory log → KeepsGivenIds log → (u : EntryId) → WasGivenIn log u → (s : SizedState T Sat) → IsAsLeft log s → IsUsedId s.store u
  used_in [] history kept u given s at = absurd given
  used_in (e ∷ es) history kept u (inl now) s at = let P : StoreState T Sat → Type 0 = λ k. IsUsedId k u in subst P (ap (λ (k : SizedState T Sat). k.store) (some_is now.0 at.0 (sym now.1 ∙ at.1)) ∙ at.2) now.2.0
  used_in (e ∷ es) history kept u (inr older) s at =
      let before = history.0 in
      let P : StoreState T Sat → Type 0 = λ k. IsUsedId k u in
      subst P at.2 (still_used u before.store at.0.store (kept.0 u older before at.0 history.3 at.1) (used_in es history.5 kept.1 u older before history.3))

  -- since a call that left a shard
  module _ (x : Entry (SizedState T Sat)) (xs : List (Entry (SizedState T Sat))) (h : SizedState T Sat) (left : x.left ≡ Some h) (u : EntryId) (given : WasGivenIn (x ∷ xs) u) where
    given_then : (es : List (Entry (SizedState T Sat))) → WasGivenIn (es ++ x ∷ xs) u
    given_then [] = given
    given_then (e ∷ es) = inr (given_then es)

    used_then : (es : List (Entry (SizedState T Sat))) → IsStoreHistory (es ++ x ∷ xs) → KeepsGivenIds (es ++ x ∷ xs) → (s : SizedState T Sat) → IsAsLeft (es ++ x ∷ xs) s → IsUsedId s.store u
    used_then es history kept s at = used_in (es ++ x ∷ xs) history kept u (given_then es) s at

    abbrev Ended : List (Entry (SizedState T Sat)) → Type 0
    Ended es = (k : SizedState T Sat) × IsAsLeft (es ++ x ∷ xs) k × NoneStandsFor k.store u × ByEach (StaysEnded u) es (x ∷ xs)

    pub ended_since : NoneStandsFor h.store u → (es : List (Entry (SizedState T Sat))) → IsStoreHistory (es ++ x ∷ xs) → KeepsGivenIds (es ++ x ∷ xs) → Ended es
    ended_since none [] history kept = (h, (h, left, refl), none, tt {0})
    ended_since none (e ∷ es) history kept =
        let r = ended_since none es history.5 kept.1 in
        let s = history.0 in
        let t = history.1 in
        let same = one_left es x xs r.0 s r.1 history.3 in
        let P : StoreState T Sat → Type 0 = λ k. NoneStandsFor k u in
        let at = subst P same r.2 in
        let used = used_then es history.5 kept.1 s history.3 in
        let k = kept.0 u (given_then es) s t history.3 history.2 in
        let did = stays_ended u s.store t.store k used at in
        (t, (t, history.2, refl), did.0, (by_call (StaysEnded u) e es x xs s t history.3 history.2 did, r.3))

    abbrev Due : ℕ → List (Entry (SizedState T Sat)) → Type 0
    Due tick es = (k : SizedState T Sat) × IsAsLeft (es ++ x ∷ xs) k × NotDueBefore k.store u tick × ByEach (StaysDue u tick) es (x ∷ xs)

    pub due_since : (tick : ℕ) → NotDueBefore h.store u tick → (es : List (Entry (SizedState T Sat))) → IsStoreHistory (es ++ x ∷ xs) → KeepsGivenIds (es ++ x ∷ xs)
        → ByEach (SetsNone u) es (x ∷ xs) → Due tick es
    due_since tick none [] history kept sets = (h, (h, left, refl), none, tt {0})
    due_since tick none (e ∷ es) history kept sets =
        let r = due_since tick none es history.5 kept.1 sets.1 in
        let s = history.0 in
        let t = history.1 in
        let same = one_left es x xs r.0 s r.1 history.3 in
        let P : StoreState T Sat → Type 0 = λ k. NotDueBefore k u tick in
        let at = subst P same r.2 in
        let used = used_then es history.5 kept.1 s history.3 in
        let held = holds_due u s.store t.store history.4 (sets.0 s t history.3 history.2) used tick at in
        let did : StaysDue u tick s.store t.store = (held, leaves_due u tick s.store t.store at) in
        (t, (t, history.2, refl), held, (by_call (StaysDue u tick) e es x xs s t history.3 history.2 did, r.3))

    abbrev Either : T → List (Entry (SizedState T Sat)) → StoreState T Sat → Type 0
    Either v es s = ((w : T) × HasOnly s u w × StandsThrough u v es w (x ∷ xs)) ⊎ (NoneStandsFor s u × LeftOnce u v es (x ∷ xs))

    abbrev Goes : T → List (Entry (SizedState T Sat)) → Type 0
    Goes v es = (k : SizedState T Sat) × IsAsLeft (es ++ x ∷ xs) k × Either v es k.store

    -- the newest call of one more
    stands_more : (v w : T) (e : Entry (SizedState T Sat)) (es : List (Entry (SizedState T Sat))) (s t : SizedState T Sat) → IsAsLeft (es ++ x ∷ xs) s → e.left ≡ Some t → IsUsedId s.store u → KeepsGiven u s.store t.store
        → HasOnly s.store u w → StandsThrough u v es w (x ∷ xs) → Either v (e ∷ es) t.store
    stands_more v w e es s t was is given (inr (a, b, exchanged)) only through =
        let did = exchanged_on u w a b s.store t.store given only exchanged in
        inl (b, exchanged.has, (w, through, by_call (λ y z. StandsOn u b y z × HasNext u w b y z) e es x xs s t was is did))
    stands_more v w e es s t was is given (inl kept) only through = ⊎_elim
        (λ (has : HasFor t.store u w).
        let did = stands_on u w s.store t.store kept given only has in
        inl (w, did.0, (w, through, by_call (λ y z. StandsOn u w y z × HasNext u w w y z) e es x xs s t was is (did, inl refl))))
        (λ (none : NoneStandsFor t.store u).
        let did = leaves_with u w s.store t.store given only none in
        inr (none, record { gone = []; entry = e; here = es; last = w; all = refl; stood = through; left = by_call (LeavesWith u w) e es x xs s t was is did; ended = tt {0} }))
        (kept.stays w only.0)

    one_more : (v : T) (e : Entry (SizedState T Sat)) (es : List (Entry (SizedState T Sat))) (s t : SizedState T Sat) → IsAsLeft (es ++ x ∷ xs) s → e.left ≡ Some t → IsUsedId s.store u → KeepsGiven u s.store t.store
        → Either v es s.store → Either v (e ∷ es) t.store
    one_more v e es s t was is given kept (inl y) = stands_more v y.0 e es s t was is given kept y.1 y.2
    one_more v e es s t was is given kept (inr y) =
        let l = y.1 in
        let did = stays_ended u s.store t.store kept given y.0 in
        let P : List (Entry (SizedState T Sat)) → Type 0 = λ k. ByCall (StaysEnded u) e k in
        let long : es ++ x ∷ xs ≡ l.gone ++ (l.entry ∷ (l.here ++ x ∷ xs)) = ap (λ k. k ++ x ∷ xs) l.all ∙ append_assoc l.gone (l.entry ∷ l.here) (x ∷ xs) in
        inr (
          did.0,
          record {
            gone = e ∷ l.gone;
            entry = l.entry;
            here = l.here;
            last = l.last;
            all = ap (λ k. e ∷ k) l.all;
            stood = l.stood;
            left = l.left;
            ended = (subst P long (by_call (StaysEnded u) e es x xs s t was is did), l.ended);
          },
        )

    pub goes_since : (v : T) → HasOnly h.store u v → (es : List (Entry (SizedState T Sat))) → IsStoreHistory (es ++ x ∷ xs) → KeepsGivenIds (es ++ x ∷ xs) → Goes v es
    goes_since v only [] history kept = (h, (h, left, refl), inl (v, only, refl))
    goes_since v only (e ∷ es) history kept =
        let r = goes_since v only es history.5 kept.1 in
        let s = history.0 in
        let t = history.1 in
        let same = one_left es x xs r.0 s r.1 history.3 in
        let P : StoreState T Sat → Type 0 = λ k. Either v es k in
        let at = subst P same r.2 in
        let used = used_then es history.5 kept.1 s history.3 in
        let k = kept.0 u (given_then es) s t history.3 history.2 in
        (t, (t, history.2, refl), one_more v e es s t history.3 history.2 used k at)

-- over a history

pub leave_once : {T : Type 0} (log : List (Entry (SizedState T Sat))) → IsStoreHistory log → KeepsGivenIds log → EntriesLeaveOnceIn log
leave_once {T} log history kept u v h since is only =
    let P : List (Entry (SizedState T Sat)) → Type 0 = λ k. IsStoreHistory k × KeepsGivenIds k in
    let now = subst P is.all (history, kept) in
    let r = goes_since is.entry is.before h is.left u is.given v only since now.0 now.1 in
    ⊎_elim (λ y. inl (y.0, y.2)) (λ y. inr y.1) r.2

pub ended_stays : {T : Type 0} (log : List (Entry (SizedState T Sat))) → IsStoreHistory log → KeepsGivenIds log → EndedStaysEndedIn log
ended_stays {T} log history kept u h since is none =
    let P : List (Entry (SizedState T Sat)) → Type 0 = λ k. IsStoreHistory k × KeepsGivenIds k in
    let now = subst P is.all (history, kept) in
    let r = ended_since is.entry is.before h is.left u is.given none since now.0 now.1 in
    r.3

pub deadlines_hold : {T : Type 0} (log : List (Entry (SizedState T Sat))) → IsStoreHistory log → KeepsGivenIds log → DeadlinesHoldIn log
deadlines_hold {T} log history kept u tick h since is none sets =
    let P : List (Entry (SizedState T Sat)) → Type 0 = λ k. IsStoreHistory k × KeepsGivenIds k in
    let now = subst P is.all (history, kept) in
    let r = due_since is.entry is.before h is.left u is.given tick none since now.0 now.1 sets in
    r.3
