-- What holds over all calls of a shard's history, whoever made them.
use Rattle.std.specs.Prelude.{◌≡◌, ◌≢◌, ◌⊎◌, ℕ, ◌≤◌, Ok, Option, List, [], ◌∷◌, ◌++◌, Some}
use Rattle.dq_ticks.specs.declared.keys.EntryId.{EntryId}
use Rattle.dq_ticks.specs.declared.keys.Key.{Key}
use Rattle.dq_core.specs.declared.outcomes.Expired.{Expired}
use Rattle.dq_core.specs.declared.outcomes.Removed.{Removed}
use Rattle.dq_core.specs.declared.outcomes.Turn.TheVariants.{Out as CameOut}
use Rattle.dq_core.specs.declared.outcomes.Piece.TheVariants.{Answer}
use Rattle.dq_queue.specs.declared.journal.views.Entry.{Entry}
use Rattle.dq_growing.specs.Runs.{KeepsId, GivesId, KeepsItsDeadline, NotDueBefore}
use Rattle.dq_growing.specs.Sized.{SizedState}
use Rattle.dq_growing.specs.Store.{StoreState, NoneStandsFor, GoesOut}
use Rattle.dq_growing.specs.declared.moving.Moved.TheVariants.{To, Out}
use Rattle.dq_growing.specs.declared.moving.NextDeadline.{NextDeadline}
use Rattle.dq_words.specs.Seats.{Sat}
use Rattle.dq_queue.specs.Calls.{Exchanges, HasGiven, HasOnly, StoreRemoves, StoreResets, StoreRelocates, StorePolls}
use Rattle.dq_queue.specs.Shards.{IsAsLeft}

module _ {T : Type 0} where
  -- the call of an entry did so, from what the entries before it had left to what it left
  abbrev pub ByCall : (StoreState T Sat → StoreState T Sat → Type 0) → Entry (SizedState T Sat) →
      List (Entry (SizedState T Sat)) → Type 0
  ByCall Did e before =
      (s t : SizedState T Sat) → IsAsLeft before s → e.left ≡ Some t → Did s.store t.store

  -- so of each call of some newest entries; the others came before
  abbrev pub ByEach : (StoreState T Sat → StoreState T Sat → Type 0) →
      List (Entry (SizedState T Sat)) → List (Entry (SizedState T Sat)) → Type 0
  ByEach Did [] before = Unit {0}
  ByEach Did (e ∷ es) before = ByCall Did e (es ++ before) × ByEach Did es before

  -- a call of a history left a store that had given an id
  abbrev pub WasGivenIn : List (Entry (SizedState T Sat)) → EntryId → Type 0
  WasGivenIn [] u = ⊥
  WasGivenIn (e ∷ es) u =
      ((h : SizedState T Sat) × (e.left ≡ Some h) × HasGiven h.store u) ⊎ WasGivenIn es u

  -- no call of a history left a store that had given an id of a number
  abbrev pub IsNewNumber : List (Entry (SizedState T Sat)) → ℕ → Type 0
  IsNewNumber log number = (u : EntryId) → WasGivenIn log u → u.shard ≢ number

  -- a call kept an id, or exchanged the value of its entry
  abbrev pub KeepsGiven : EntryId → StoreState T Sat → StoreState T Sat → Type 0
  KeepsGiven u s t = KeepsId s t u ⊎ ((was : T) × (now : T) × Exchanges u was now s t)

  -- each call of a history did so with each id that had been given by then
  abbrev pub KeepsGivenIds : List (Entry (SizedState T Sat)) → Type 0
  KeepsGivenIds [] = Unit {0}
  KeepsGivenIds (e ∷ es) =
      ((u : EntryId) → WasGivenIn es u → ByCall (KeepsGiven u) e es) × KeepsGivenIds es

  -- In a history an entry's call left that shard, and these newer entries came since. The id
  -- had been given by then.
  pub record IsSince (log : List (Entry (SizedState T Sat))) (u : EntryId) (h : SizedState T Sat)
      (since : List (Entry (SizedState T Sat))) : Type 0 where
    pub entry : Entry (SizedState T Sat)
    pub before : List (Entry (SizedState T Sat))
    pub all : log ≡ since ++ entry ∷ before
    pub left : entry.left ≡ Some h
    pub given : WasGivenIn (entry ∷ before) u

  -- nothing went out under an id, and no entry was given it
  abbrev pub GivesNone : EntryId → StoreState T Sat → StoreState T Sat → Type 0
  GivesNone u s t = ((v : T) → ¬ GoesOut s u v t) × (¬ GivesId s u t)

  -- an entry stands with its value, and nothing went out under its id
  abbrev pub StandsOn : EntryId → T → StoreState T Sat → StoreState T Sat → Type 0
  StandsOn u v s t = HasOnly t u v × GivesNone u s t

  -- a call left an entry its value, or exchanged that for another
  abbrev pub HasNext : EntryId → T → T → StoreState T Sat → StoreState T Sat → Type 0
  HasNext u was now s t = (now ≡ was) ⊎ Exchanges u was now s t

  -- an entry stands on by each of some newest calls: each left it its value, or exchanged it; so it
  -- had one value before them, and has the last one after them
  abbrev pub StandsThrough :
      EntryId → T → List (Entry (SizedState T Sat)) → T → List (Entry (SizedState T Sat)) → Type 0
  StandsThrough u v [] last before = last ≡ v
  StandsThrough u v (e ∷ es) last before =
      (was : T) × StandsThrough u v es was before
      × ByCall (λ s t. StandsOn u last s t × HasNext u was last s t) e (es ++ before)

  -- an entry left: none stands under its id, and what went out under it is its value
  abbrev pub LeavesWith : EntryId → T → StoreState T Sat → StoreState T Sat → Type 0
  LeavesWith u v s t =
      NoneStandsFor t u × ((w : T) → GoesOut s u w t → w ≡ v) × (¬ GivesId s u t)

  -- none stands under an id, and nothing went out under it
  abbrev pub StaysEnded : EntryId → StoreState T Sat → StoreState T Sat → Type 0
  StaysEnded u s t = NoneStandsFor t u × GivesNone u s t

  -- an entry stood until one call, by which it left with the value that it had last; under its id
  -- none stands from then on, and nothing goes out
  pub record LeftOnce (u : EntryId) (v : T)
      (since before : List (Entry (SizedState T Sat))) : Type 0 where
    pub gone : List (Entry (SizedState T Sat))
    pub entry : Entry (SizedState T Sat)
    pub here : List (Entry (SizedState T Sat))
    pub last : T
    pub all : since ≡ gone ++ entry ∷ here
    pub stood : StandsThrough u v here last before
    pub left : ByCall (LeavesWith u last) entry (here ++ before)
    pub ended : ByEach (StaysEnded u) gone (entry ∷ (here ++ before))

  -- in a history an entry leaves at most once, whoever calls, and until then has its value, or the
  -- one for which a call exchanged that
  abbrev pub EntriesLeaveOnceIn : List (Entry (SizedState T Sat)) → Type 0
  EntriesLeaveOnceIn log =
      (u : EntryId) (v : T) (h : SizedState T Sat) (since : List (Entry (SizedState T Sat)))
      (is : IsSince log u h since) → HasOnly h.store u v →
      ((last : T) × StandsThrough u v since last (is.entry ∷ is.before))
      ⊎ LeftOnce u v since (is.entry ∷ is.before)

  -- in a history none ever stands again under an id whose entry has left, and nothing goes out
  abbrev pub EndedStaysEndedIn : List (Entry (SizedState T Sat)) → Type 0
  EndedStaysEndedIn log =
      (u : EntryId) (h : SizedState T Sat) (since : List (Entry (SizedState T Sat)))
      (is : IsSince log u h since) →
      NoneStandsFor h.store u → ByEach (StaysEnded u) since (is.entry ∷ is.before)

  -- a call gave an entry a deadline that was asked for: a reset did, or a move
  abbrev pub SetsDeadline : EntryId → StoreState T Sat → StoreState T Sat → Type 0
  SetsDeadline u s t =
      ((when : ℕ) × (k : Key) × (beside : Option T) × StoreResets u when (Ok k, beside) s t)
      ⊎ ((next : NextDeadline) × (k : Key) × (d : ℕ) × (beside : Option T)
      × (¬ KeepsItsDeadline next) × StoreRelocates u next (Ok (To k d), beside) s t)

  -- a move took an entry on that asked for no deadline
  abbrev pub MovesOn : EntryId → StoreState T Sat → StoreState T Sat → Type 0
  MovesOn u s t =
      (next : NextDeadline) × (k : Key) × (d : ℕ) × (beside : Option T) × KeepsItsDeadline next
      × StoreRelocates u next (Ok (To k d), beside) s t

  -- No call did, or it was a move that asks for none: what that did, a move could have done that
  -- asks for the deadline which the entry had.
  abbrev pub SetsNone : EntryId → StoreState T Sat → StoreState T Sat → Type 0
  SetsNone u s t = MovesOn u s t ⊎ (¬ SetsDeadline u s t)

  -- if a call took an entry out, by a removal, a move or a poll, then at no deadline before a tick
  pub record LeavesNoSooner (u : EntryId) (tick : ℕ) (s t : StoreState T Sat) : Type 0 where
    pub removed : (x : Removed T) → StoreRemoves u (Ok x) s t → tick ≤ x.deadline
    pub moved :
        (next : NextDeadline) (x : Removed T) (beside : Option T) →
        StoreRelocates u next (Ok (Out x), beside) s t → tick ≤ x.deadline
    pub polled :
        (at : ℕ) (most : Option ℕ) (x : Expired T) →
        StorePolls at most (Ok (Answer (CameOut x))) s t → x.key.entry ≡ u → tick ≤ x.deadline

  -- an entry isn't due before a tick, and if the call took it out, then at no deadline before that
  abbrev pub StaysDue : EntryId → ℕ → StoreState T Sat → StoreState T Sat → Type 0
  StaysDue u tick s t = NotDueBefore t u tick × LeavesNoSooner u tick s t

  -- In a history the deadline of an entry never falls, and it leaves at none before the one that it
  -- had, whoever calls, unless a call gives it one that was asked for.
  abbrev pub DeadlinesHoldIn : List (Entry (SizedState T Sat)) → Type 0
  DeadlinesHoldIn log =
      (u : EntryId) (tick : ℕ) (h : SizedState T Sat) (since : List (Entry (SizedState T Sat)))
      (is : IsSince log u h since) → NotDueBefore h.store u tick →
      ByEach (SetsNone u) since (is.entry ∷ is.before) →
      ByEach (StaysDue u tick) since (is.entry ∷ is.before)
