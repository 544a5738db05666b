-- What one call does to what lies behind a shard's lock. Each keeps the ids that entries have had, and
-- the deadline of each entry but one that it gives another.
use Rattle.std.specs.Prelude.{◌≡◌, ◌⊎◌, ◌<◌, ◌≤◌, ℕ, Bool, true, false, Option, Some, None, Result, Ok, Err, IfOk, IfErr, IfSome, OnOk, OnErr}
use Rattle.dq_ticks.specs.declared.keys.Key.{Key}
use Rattle.dq_ticks.specs.declared.keys.EntryId.{EntryId}
use Rattle.dq_core.specs.declared.errors.CoreError.{CoreError}
use Rattle.dq_core.specs.declared.outcomes.Removed.{Removed}
use Rattle.dq_core.specs.declared.outcomes.Piece.{Piece}
use Rattle.dq_core.specs.declared.outcomes.Expired.{Expired}
use Rattle.dq_core.specs.Core.{Core}
use Rattle.dq_core.specs.Folds.{IsFoldable}
use Rattle.dq_core.specs.Values.{with_value_at}
use Rattle.dq_growing.specs.declared.cores.TakeError.{TakeError}
use Rattle.dq_growing.specs.Cores.{HasAt, HasNo, InsertsIn, IsCoreAt, OnCore}
use Rattle.dq_growing.specs.Notes.{Book, SameNotes, meant_place}
use Rattle.dq_growing.specs.Moving.{HasOpenRoom, IfTo, IfCameOut, UnlessTo}
use Rattle.dq_growing.specs.Polls.{DoesPiece, DoesPoll, IfPieceOut, TakesDeferredIn}
use Rattle.dq_growing.specs.Runs.{IsUsedId, KeepsIds, KeepsIdsBeside, KeepsOtherIds, GivesId, HoldsDeadlines, HoldsOtherDeadlines, KeepsItsDeadline, LeavesInForce, NotDueBefore}
use Rattle.dq_core.specs.declared.errors.ReapError.{ReapError}
use Rattle.dq_growing.specs.declared.moving.Moved.{Moved}
use Rattle.dq_growing.specs.declared.moving.NextDeadline.{NextDeadline}
use Rattle.dq_growing.specs.Sizing.{AllWere, ComesInto, HasClearAt, HasNoRoom, OnlyOpens, OpensOne, OpensWanted, StaysOpen, SweepsNext, WasBeside}
use Rattle.dq_growing.specs.declared.sweeping.Sweep.{Sweep}
use Rattle.dq_growing.specs.Stands.{OthersStand, SameStand}
use Rattle.dq_growing.specs.Store.{StoreState, StandsFor, RemovesFor, TellsFor, ResetsFor, ResetsThere, RelocatesFor, ReapsFor, PollsFor, HasFor, HasOneValue, NoneStandsFor, GoesOut, TakeRefusedFor}
use Rattle.dq_words.specs.Plays.{Covers}
use Rattle.dq_words.specs.Seats.{Sat}
use Rattle.dq_queue.specs.Words.{PromiseView}

module _ {T : Type 0} where
  -- What came out, from the place that the notes told of it, keeps what a call promised: where the
  -- call was made on the words of that place's core, it promised no later deadline of what stood
  -- there under that stamp, and didn't cancel it.
  abbrev pub KeepsPromise : Book → PromiseView → Expired T → Type 0
  KeepsPromise n p x =
      (place : EntryId) → meant_place n x.key.entry ≡ Some place → place.shard ≡ p.claim.number →
      Covers p.receipt.view.calls place.index x.key.stamp x.deadline

  -- under an id an entry stands with that value, and what stands there has no other
  abbrev pub HasOnly : StoreState T Sat → EntryId → T → Type 0
  HasOnly s u v = HasFor s u v × HasOneValue s u

  -- a store has given an id: it is a used one, and the core of its number is there
  abbrev pub HasGiven : StoreState T Sat → EntryId → Type 0
  HasGiven s u =
      IsUsedId s u × ((i : ℕ) × (c : Core T Sat) × HasAt s.cores.cores u.shard i c)

  -- an entry stands with that value under an id that none had had
  abbrev pub ComesNew : StoreState T Sat → EntryId → T → StoreState T Sat → Type 0
  ComesNew s u v t = GivesId s u t × HasOnly t u v × HasGiven t u

  -- each core has the number that the one at its place had
  abbrev pub KeepsNumbers : StoreState T Sat → StoreState T Sat → Type 0
  KeepsNumbers s t =
      (i : ℕ) (b c : Core T Sat) → IsCoreAt s.cores.cores i b → IsCoreAt t.cores.cores i c →
      c.shard ≡ b.shard

  -- no entry left: where none stands under an id any more, none stood there before
  abbrev pub NoneLeft : StoreState T Sat → StoreState T Sat → Type 0
  NoneLeft s t = (u : EntryId) → NoneStandsFor t u → NoneStandsFor s u

  -- a value comes in at a deadline, under an id that no entry has had, and the notes stay
  abbrev pub StoreInserts : T → ℕ → Result Key (CoreError × T) × Option T → StoreState T Sat →
      StoreState T Sat → Type 0
  StoreInserts v when r s t =
      InsertsIn s.cores v when r t.cores × (t.notes ≡ s.notes) × KeepsIds s t
      × IfOk r.0 (λ k. ComesNew s k.entry v t) × HoldsDeadlines s t
      × IfOk r.0 (λ k. NotDueBefore t k.entry when)

  -- an entry is taken out, and leaves with its value, at no deadline before the one that it had
  abbrev pub StoreRemoves : EntryId → Result (Removed T) CoreError → StoreState T Sat →
      StoreState T Sat → Type 0
  StoreRemoves id r s t =
      RemovesFor true s id r t × KeepsIds s t × IfOk r (λ x. GoesOut s id x.value t)
      × HoldsDeadlines s t × IfOk r (λ x. LeavesInForce s id x.deadline)

  -- an entry's deadline is told
  abbrev pub StoreTells : EntryId → Result ℕ CoreError → StoreState T Sat → StoreState T Sat → Type 0
  StoreTells id r s t = TellsFor true s id r t × KeepsIds s t × HoldsDeadlines s t

  -- what is due by a tick is removed; of what is due later the deadline is told, and it stays
  abbrev pub StoreRemovesIfDue : EntryId → ℕ → Result (Option (Removed T)) CoreError →
      StoreState T Sat → StoreState T Sat → Type 0
  StoreRemovesIfDue id tick (Ok (Some x)) s t = (x.deadline ≤ tick) × StoreRemoves id (Ok x) s t
  StoreRemovesIfDue id tick (Ok None) s t = (d : ℕ) × (tick < d) × StoreTells id (Ok d) s t
  StoreRemovesIfDue id tick (Err e) s t = StoreRemoves id (Err e) s t

  -- what a reset keeps: none leaves; no other deadline falls, and none where it is refused
  abbrev pub KeepsByReset : EntryId → ℕ → Result Key CoreError → StoreState T Sat →
      StoreState T Sat → Type 0
  KeepsByReset id when r s t =
      KeepsIds s t × HoldsOtherDeadlines id s t
      × OnErr r (HoldsDeadlines s t) × OnOk r (NotDueBefore t id when) × NoneLeft s t

  -- an entry gets another deadline
  abbrev pub StoreResets : EntryId → ℕ → Result Key CoreError × Option T → StoreState T Sat →
      StoreState T Sat → Type 0
  StoreResets id when r s t = ResetsFor true s id when r t × KeepsByReset id when r.0 s t

  -- so where it is: if its slot has no stamp left, it is refused, and doesn't move
  abbrev pub StoreResetsThere : EntryId → ℕ → Result Key CoreError → StoreState T Sat →
      StoreState T Sat → Type 0
  StoreResetsThere id when r s t = ResetsThere true s id when r t × KeepsByReset id when r s t

  -- what a poll does in a core: at most so many steps of it, or all where no number is told
  abbrev pub DoesSteps : Option ℕ → ℕ → Piece T → Core T Sat → Core T Sat → Type 0
  DoesSteps (Some most) = DoesPiece true most
  DoesSteps None = DoesPoll true

  -- a tick is noted, and a poll is made, whole or a piece of it; what comes out leaves with its
  -- value, at no deadline before the one that it had
  abbrev pub StorePolls : ℕ → Option ℕ → Result (Piece T) CoreError → StoreState T Sat →
      StoreState T Sat → Type 0
  StorePolls tick most r s t =
      PollsFor (DoesSteps most) s tick r t × KeepsIds s t
      × IfPieceOut r (λ x. GoesOut s x.key.entry x.value t) × HoldsDeadlines s t
      × IfPieceOut r (λ x. LeavesInForce s x.key.entry x.deadline) × KeepsNumbers s t

  -- such a poll, of which what comes out keeps what a call promised
  abbrev pub StorePollsBeside : PromiseView → ℕ → Option ℕ → Result (Piece T) CoreError →
      StoreState T Sat → StoreState T Sat → Type 0
  StorePollsBeside p tick most r s t =
      StorePolls tick most r s t × IfPieceOut r (KeepsPromise s.notes p)

  -- a core comes in, and that or the one that was open is open; or it comes back, and the store
  -- stays. Each entry stands with its value as before, and the ids stay that the core doesn't give anew
  abbrev pub StoreTakesIn : Core T Sat → Result (Unit {0}) (TakeError × Core T Sat) →
      StoreState T Sat → StoreState T Sat → Type 0
  StoreTakesIn c r s t =
      OnOk r (ComesInto s c t × OpensWanted s.cores t.cores)
      × IfErr r (λ e. (e.1 ≡ c) × (t.cores ≡ s.cores) × (t.notes ≡ s.notes))
      × SameStand (StandsFor s) (StandsFor t) × KeepsIdsBeside c s t × HoldsDeadlines s t

  -- refused, it is so for what the store and the core are
  abbrev pub StoreRefuses : Core T Sat → Result (Unit {0}) (TakeError × Core T Sat) →
      StoreState T Sat → Type 0
  StoreRefuses c r s = IfErr r (λ e. TakeRefusedFor s c e.0)

  -- a core that has drained is taken out: it wasn't the open one, which stays open, and none of its
  -- number is left; or none is. Each core that is left was there before, though at another place
  -- maybe, and each entry stands with its value as before
  abbrev pub StoreGives : Option (Core T Sat) → StoreState T Sat → StoreState T Sat → Type 0
  StoreGives r s t =
      IfSome r (λ c. IsFoldable c × WasBeside s.cores c × HasNo t.cores.cores c.shard)
      × StaysOpen s.cores t.cores × AllWere s.cores t.cores × (t.notes ≡ s.notes)
      × SameStand (StandsFor s) (StandsFor t) × KeepsIds s t × HoldsDeadlines s t

  -- an entry goes on in the open core, or leaves with its value; unless a deadline is asked for, it
  -- goes on at none before the one that it had
  abbrev pub StoreRelocates : EntryId → NextDeadline → Result (Moved T) CoreError × Option T →
      StoreState T Sat → StoreState T Sat → Type 0
  StoreRelocates id next r s t =
      RelocatesFor true s id next r t × KeepsIds s t
      × IfOk r.0 (λ moved. IfCameOut moved (λ x. GoesOut s id x.value t))
      × HoldsOtherDeadlines id s t × UnlessTo r.0 (HoldsDeadlines s t)
      × (KeepsItsDeadline next → HoldsDeadlines s t)
      × (KeepsItsDeadline next → IfOk r.0 (λ moved. IfTo moved (λ k d. LeavesInForce s id d)))
      × IfOk r.0 (λ moved. IfCameOut moved (λ x. LeavesInForce s id x.deadline))
      × IfOk r.0 (λ moved. IfTo moved (λ k d. NotDueBefore t id d))
      × IfOk r.0 (λ moved. IfTo moved (λ k d. NoneLeft s t))

  -- a cancelled entry is freed
  abbrev pub StoreReaps : EntryId → Result (Unit {0}) ReapError → StoreState T Sat →
      StoreState T Sat → Type 0
  StoreReaps id r s t =
      ReapsFor true s id r t × KeepsIds s t × HoldsDeadlines s t × KeepsNumbers s t

  -- a freed value that waits for its drop is taken out; no entry changes
  abbrev pub StoreTakesDeferred : Option T → StoreState T Sat → StoreState T Sat → Type 0
  StoreTakesDeferred r s t =
      TakesDeferredIn s.cores r t.cores × (t.notes ≡ s.notes) × KeepsIds s t × HoldsDeadlines s t

  -- no more changes than the value that is held at the place of a user's entry: no word, no
  -- deadline, no note
  abbrev pub OnlyValueChanges : EntryId → StoreState T Sat → StoreState T Sat → Type 0
  OnlyValueChanges id s t =
      (p : EntryId) × (meant_place s.notes id ≡ Some p)
      × OnCore p.shard (λ b c. (v : T) × (c ≡ with_value_at b p.index v)) s.cores t.cores
      × (t.notes ≡ s.notes)

  -- the only value of an entry is exchanged for another one; every other entry stands as before
  pub record Exchanges (id : EntryId) (was now : T) (s t : StoreState T Sat) : Type 0 where
    pub only : OnlyValueChanges id s t
    pub had : HasOnly s id was
    pub has : HasOnly t id now
    pub others : OthersStand (StandsFor s) (StandsFor t) id id
    pub keeps : KeepsOtherIds id s t
    pub holds : HoldsDeadlines s t

  -- a closure exchanges the value of an entry, and answers; where none stands, nothing changes
  abbrev pub StoreChanges : {R : Type 0} → (T → R → T → Type 0) → EntryId → Option R →
      StoreState T Sat → StoreState T Sat → Type 0
  StoreChanges Makes id None s t = NoneStandsFor s id × (t ≡ s)
  StoreChanges Makes id (Some answer) s t =
      (was : T) × (now : T) × Makes was answer now × Exchanges id was now s t

  -- so whatever the closure is
  abbrev pub StoreExchanges : EntryId → StoreState T Sat → StoreState T Sat → Type 0
  StoreExchanges id s t = (t ≡ s) ⊎ ((was : T) × (now : T) × Exchanges id was now s t)

  -- a look for a free slot: nothing changes, or a core is open that may be opened, and no more does.
  -- The open one has such a slot where one was found, and it stays open where it has one
  abbrev pub StoreFindsRoom : Bool → Bool → StoreState T Sat → StoreState T Sat → Type 0
  StoreFindsRoom any found s t =
      OnlyOpens s t
      × (found ≡ true → HasOpenRoom t.cores × HasClearAt t.cores t.cores.opened)
      × (found ≡ false → HasNoRoom any s.cores × (t ≡ s)) × KeepsIds s t × HoldsDeadlines s t
      × (HasClearAt s.cores s.cores.opened → t ≡ s) × ((t ≡ s) ⊎ OpensOne any t.cores)

  -- memory is taken ahead, or is refused; no entry changes
  abbrev pub StoreReserves : StoreState T Sat → StoreState T Sat → Type 0
  StoreReserves s t =
      (t.cores ≡ s.cores) × SameNotes s.notes t.notes × KeepsIds s t × HoldsDeadlines s t

  -- cancelled entries are freed at the next slots of some way, if some are looked at; else nothing
  -- changes
  abbrev pub StoreSweeps : Bool → StoreState T Sat → StoreState T Sat → Type 0
  StoreSweeps looked s t =
      (looked ≡ true → (w : Sweep) × (v : Sweep) × SweepsNext true 256 w s v t)
      × (looked ≡ false → t ≡ s) × KeepsIds s t × HoldsDeadlines s t × KeepsNumbers s t

  -- a call for the store's size, which gives out no entry
  abbrev pub IsUpkeep : StoreState T Sat → StoreState T Sat → Type 0
  IsUpkeep s t =
      ((any : Bool) × (found : Bool) × StoreFindsRoom any found s t)
      ⊎ (StoreReserves s t ⊎ ((looked : Bool) × StoreSweeps looked s t))

  -- one call took a store from one state to another; a removal of what is due is a removal, or a
  -- look at a deadline
  abbrev pub IsStoreCall : StoreState T Sat → StoreState T Sat → Type 0
  IsStoreCall s t =
      ((v : T) × (when : ℕ) × (r : Result Key (CoreError × T) × Option T)
      × StoreInserts v when r s t)
      ⊎ (((id : EntryId) × (r : Result (Removed T) CoreError) × StoreRemoves id r s t)
      ⊎ (((id : EntryId) × (when : ℕ) × (r : Result Key CoreError × Option T)
      × StoreResets id when r s t)
      ⊎ (((id : EntryId) × (r : Result ℕ CoreError) × StoreTells id r s t)
      ⊎ (((tick : ℕ) × (most : Option ℕ) × (r : Result (Piece T) CoreError)
      × StorePolls tick most r s t)
      ⊎ (((c : Core T Sat) × (r : Result (Unit {0}) (TakeError × Core T Sat))
      × StoreTakesIn c r s t)
      ⊎ (((r : Option (Core T Sat)) × StoreGives r s t)
      ⊎ (((id : EntryId) × (next : NextDeadline) × (r : Result (Moved T) CoreError × Option T)
      × StoreRelocates id next r s t)
      ⊎ (((id : EntryId) × (r : Result (Unit {0}) ReapError) × StoreReaps id r s t)
      ⊎ (((id : EntryId) × (when : ℕ) × (r : Result Key CoreError)
      × StoreResetsThere id when r s t)
      ⊎ (((r : Option T) × StoreTakesDeferred r s t)
      ⊎ (((id : EntryId) × StoreExchanges id s t) ⊎ IsUpkeep s t)))))))))))
