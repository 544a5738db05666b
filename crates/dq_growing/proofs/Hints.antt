-- A tick before which no live entry of a store has a deadline stays such a one, but by an insert or a reset to an earlier
-- deadline; and a poll that finds nothing due tells such a tick.
use Rattle.std.specs.Prelude.{unwrap_or, OnOk, IfOk, IfErr, IfSome, IfNone, ◌+◌}
use Rattle.std.proofs.lemmas.Bool.{lt-ltb, le-ltb}
use Rattle.dq_wheel.proofs.Links.{nat_le_or_lt}
use Rattle.std.proofs.Common.{◌≡◌, ◌≢◌, ◌⊎◌, ℕ, ◌≤◌, Bool, true, false, List, length, min, is_ok, Option, Some, None, Result, Ok, Err, refl, sym, ap, ◌∙◌, subst, inl, inr, ⊎_elim, arith}
use Rattle.dq_ticks.specs.declared.keys.Key.{Key}
use Rattle.dq_ticks.specs.declared.keys.EntryId.{EntryId}
use Rattle.dq_core.specs.declared.errors.CoreError.{CoreError}
use Rattle.dq_core.specs.declared.errors.CoreError.TheVariants.{TooFar, Full, Missing, WasCancelled, Worn, TickTooLarge, BadConfig, NoMemory}
use Rattle.dq_core.specs.declared.errors.ReapError.{ReapError}
use Rattle.dq_core.specs.declared.errors.ReapError.TheVariants.{Missing as NotThere}
use Rattle.dq_core.specs.declared.outcomes.Removed.{Removed}
use Rattle.dq_core.specs.declared.outcomes.Swept.{Swept}
use Rattle.dq_core.specs.declared.outcomes.Turn.TheVariants.{Out as CameOut, Waiting, Idle}
use Rattle.dq_core.specs.declared.outcomes.Piece.{Piece}
use Rattle.dq_core.specs.declared.outcomes.Piece.TheVariants.{Answer, Working}
use Rattle.dq_core.specs.Core.{Core, machine, IsLawfulCore}
use Rattle.dq_core.specs.Machine.{Entry, NoneLiveBefore}
use Rattle.dq_core.specs.AtTheCall.{linked_in}
use Rattle.dq_core.specs.Calls.{FindRefused, IsRemoved, Resets, TellsDeadline}
use Rattle.dq_core.specs.Sweeps.{Reaps}
use Rattle.dq_growing.specs.declared.TheConstants.{NEVER}
use Rattle.dq_growing.specs.declared.cores.TakeError.{TakeError}
use Rattle.dq_growing.specs.declared.moving.Moved.{Moved}
use Rattle.dq_growing.specs.declared.moving.Moved.TheVariants.{To, Out}
use Rattle.dq_growing.specs.declared.moving.NextDeadline.{NextDeadline}
use Rattle.dq_growing.specs.declared.moving.NextDeadline.TheVariants.{Same, At, SameIfAfter}
use Rattle.dq_growing.specs.declared.store.SizedStore.TheInside.{Inside}
use Rattle.dq_growing.specs.declared.sweeping.Sweep.{Sweep}
use Rattle.dq_growing.specs.Cores.{CoreRow, IsClosed, closed_error, AreCores, IsCoreAt, OnCoreAt, OnCore, OnCoreOr, HasNo, GivesDrained, NoneDrained, InsertsBeside, InsertsIn, SweepsFrom, with_core, missing_error}
use Rattle.dq_growing.specs.Moving.{IfTo, PutsIn, Relocates, GoesTo, IsTakenOut, next_of}
use Rattle.dq_growing.specs.Polls.{NoneLiveIn, PollsRow, PollsCore, RestsIn, DoesPoll, DoesPiece, TakesDeferredAt, TakesDeferredIn, IfPieceRests, WakeBounds, noting_in}
use Rattle.dq_growing.specs.Sized.{hint_after, hint_asked}
use Rattle.dq_growing.specs.Sizing.{AllWere, GoesOnBehind, ComesInto, OnlyOpens, SweepsNext}
use Rattle.dq_growing.specs.Notes.{Book, user_at, meant_place}
use Rattle.dq_growing.specs.Store.{StoreState, IsStore, StandsFor, AtPlace, RemovesAt, RemovesFor, RemovesIfDueFor, TellsFor, ChangesFor, RelocatesAt, RelocatesFor, HasNoMemory, AfterReset, ResetsFor, ResetsThere, PollsFor, ReapsFor, NotesReaped, reset_as, answer_as, key_told, piece_as}
use Rattle.dq_growing.proofs.Sizes.{gives_were}
use Rattle.dq_growing.proofs.Rows.{at_after, at_snoc, one_at}
use Rattle.dq_growing.proofs.Leasts.{earlier, some_not_none}
use Rattle.dq_growing.proofs.Pairing.{one_or_two}
use Rattle.dq_growing.proofs.Keeping.{one_entry}
use Rattle.dq_growing.proofs.Stored.{unlinked}
use Rattle.dq_growing.proofs.Quiet.{find_refused_late, removes_late, tells_late, inserts_late, resets_late, reap_late, sweeps_late, polls_late, pieces_late, run_late, quiet_fresh, quiet_wake}

-- a move that asks for a deadline asks for none before a tick
abbrev pub IsAfter : ℕ → NextDeadline → Type 0
IsAfter t Same = Unit {0}
IsAfter t (At when) = t ≤ when
IsAfter t (SameIfAfter when) = Unit {0}

goes_after : (t had d : ℕ) (next : NextDeadline) → IsAfter t next → t ≤ had → next_of next had ≡ Some d → t ≤ d
goes_after t had d Same after le is = let same : had ≡ d = cc in omega arith
goes_after t had d (At when) after le is = let same : when ≡ d = cc in omega arith
goes_after t had d (SameIfAfter when) after le is =
    elim (nat_le_or_lt had when) [
      | inl past ↦ absurd (some_not_none d (sym is ∙ rw (le-ltb when had past) refl))
      | inr lt ↦ let same : Some had ≡ Some d = rw (lt-ltb when had lt) at is in let same' : had ≡ d = cc in omega arith
    ]

-- what holds of the answer that its user has holds of the one that was made
renamed : (u : EntryId) (P : Type 0) (made r : Result Key CoreError) → r ≡ reset_as u made → OnOk r P → OnOk made P
renamed u P (Ok k) r is ok = let Q : Result Key CoreError → Type 0 = λ x. OnOk x P in subst Q is ok
renamed u P (Err e) r is ok = tt {0}

module _ {T : Type 0} where
  moved_after : (t : ℕ) (u : EntryId) (next : NextDeadline) (made r : Result (Moved T) CoreError) → r ≡ answer_as u made → IfOk r (λ moved. IfTo moved (λ key d. IsAfter t next))
      → IfOk made (λ moved. IfTo moved (λ key d. IsAfter t next))
  moved_after t u next (Ok (To k d)) r is after = let Q : Result (Moved T) CoreError → Type 0 = λ x. IfOk x (λ moved. IfTo moved (λ key d. IsAfter t next)) in subst Q is after
  moved_after t u next (Ok (Out x)) r is after = tt {0}
  moved_after t u next (Err e) r is after = tt {0}

  -- a move with the deadline that the entry has asks for none
  stays_after : (t : ℕ) (r : Result (Moved T) CoreError) → IfOk r (λ moved. IfTo moved (λ key d. IsAfter t Same))
  stays_after t (Ok (To k d)) = tt {0}
  stays_after t (Ok (Out x)) = tt {0}
  stays_after t (Err e) = tt {0}

  -- a move that asks for a deadline lowers the tick to it
  asked_after : (t : ℕ) (next : NextDeadline) (r : Result (Moved T) CoreError) → IfOk r (λ moved. IfTo moved (λ key d. IsAfter (hint_asked next r t) next))
  asked_after t (At when) (Ok (To k d)) = omega arith
  asked_after t (At when) (Ok (Out x)) = tt {0}
  asked_after t (At when) (Err e) = tt {0}
  asked_after t Same r = stays_after t r
  asked_after t (SameIfAfter when) (Ok (To k d)) = tt {0}
  asked_after t (SameIfAfter when) (Ok (Out x)) = tt {0}
  asked_after t (SameIfAfter when) (Err e) = tt {0}

  asked_least : (t : ℕ) (next : NextDeadline) (r : Result (Moved T) CoreError) → hint_asked next r t ≤ t
  asked_least t (At when) (Ok moved) = omega arith
  asked_least t (At when) (Err e) = omega arith
  asked_least t Same r = omega arith
  asked_least t (SameIfAfter when) r = omega arith

  told_after : (t when : ℕ) (moved : Result (Moved T) CoreError) (r : Result Key CoreError) → r ≡ key_told moved → OnOk r (t ≤ when)
      → IfOk moved (λ x. IfTo x (λ key d. IsAfter t (At when)))
  told_after t when (Ok (To k d)) r is ok = let Q : Result Key CoreError → Type 0 = λ x. OnOk x (t ≤ when) in subst Q is ok
  told_after t when (Ok (Out x)) r is ok = tt {0}
  told_after t when (Err e) r is ok = tt {0}

  -- what the store tells is what its cores told
  pub rests_for : (n : Book) (made : Result (Piece T) CoreError) (P : Option ℕ → Type 0) → IfPieceRests made P → IfPieceRests (piece_as n made) P
  rests_for n (Ok (Answer (Waiting next))) P rests = rests
  rests_for n (Ok (Answer Idle)) P rests = rests
  rests_for n (Ok (Answer (CameOut x))) P rests = tt {0}
  rests_for n (Ok Working) P rests = tt {0}
  rests_for n (Err e) P rests = tt {0}

module _ {T W : Type 0} where
  -- an earlier tick is one, too
  pub sooner : (s : CoreRow T W) (t u : ℕ) → u ≤ t → NoneLiveIn s t → NoneLiveIn s u
  sooner s t u le late i c at = earlier (machine c) t u (late i c at) le

  -- so of a sized store by its parts
  pub held_late : {A : Type 0} (s k : Inside T W A) → s ≡ k → NoneLiveIn k.store.cores k.hint → NoneLiveIn s.store.cores s.hint
  held_late {A} s k same late = let P : Inside T W A → Type 0 = λ x. NoneLiveIn x.store.cores x.hint in subst P (sym same) late

  -- the cores stay
  pub same_late : (s k : CoreRow T W) (t : ℕ) → k ≡ s → NoneLiveIn s t → NoneLiveIn k t
  same_late s k t same late = let P : CoreRow T W → Type 0 = λ r. NoneLiveIn r t in subst P (sym same) late

  pub cores_late : (s k : CoreRow T W) (t : ℕ) → k.cores ≡ s.cores → NoneLiveIn s t → NoneLiveIn k t
  cores_late s k t same late = let P : List (Core T W) → Type 0 = λ l. (i : ℕ) (c : Core T W) → IsCoreAt l i c → NoneLiveBefore (machine c) t in subst P (sym same) late

  -- one core changes, and gets no earlier deadline
  with_late : (s : CoreRow T W) (i t : ℕ) (b c : Core T W) → IsCoreAt s.cores i b → (NoneLiveBefore (machine b) t → NoneLiveBefore (machine c) t)
      → NoneLiveIn s t → NoneLiveIn (with_core s i c) t
  with_late s i t b c at change late j d there =
      ⊎_elim
      (λ (y : (j ≡ i) × (d ≡ c)). let P : Core T W → Type 0 = λ k. NoneLiveBefore (machine k) t in subst P (sym y.1) (change (late i b at)))
      (λ (y : (j ≢ i) × IsCoreAt s.cores j d). late j d y.1)
      (at_after s.cores i j c d at.0 there)

  at_late : (P : Core T W → Core T W → Type 0) (s k : CoreRow T W) (i t : ℕ) → ((b c : Core T W) → P b c → NoneLiveBefore (machine b) t → NoneLiveBefore (machine c) t)
      → OnCoreAt i P s k → NoneLiveIn s t → NoneLiveIn k t
  at_late P s k i t change on late = same_late (with_core s i on.after) k t on.rest (with_late s i t on.before on.after on.at (change on.before on.after on.did) late)

  core_late : (P : Core T W → Core T W → Type 0) (s k : CoreRow T W) (number t : ℕ) → ((b c : Core T W) → P b c → NoneLiveBefore (machine b) t → NoneLiveBefore (machine c) t)
      → OnCore number P s k → NoneLiveIn s t → NoneLiveIn k t
  core_late P s k number t change on late =
      same_late (with_core s on.place on.after) k t on.rest (with_late s on.place t on.before on.after on.at.0 (change on.before on.after on.did) late)

  or_late : (P : Core T W → Core T W → Type 0) (R : Type 0) (s k : CoreRow T W) (number t : ℕ)
      → ((b c : Core T W) → P b c → NoneLiveBefore (machine b) t → NoneLiveBefore (machine c) t) → OnCoreOr number P R s k → NoneLiveIn s t → NoneLiveIn k t
  or_late P R s k number t change on late =
      ⊎_elim
      (λ (y : OnCore number P s k). core_late P s k number t change y late)
      (λ (y : HasNo s.cores number × R × (k ≡ s)). same_late s k t y.2 late)
      on

  -- where what stands stood before, with the same deadline
  stand_late : (s k : StoreState T W) (t : ℕ)
      → ((o : EntryId) (e : Entry T) → StandsFor k o e → (f : Entry T) × (q : EntryId) × StandsFor s q f × (f.due ≡ e.due)) → NoneLiveIn s.cores t → NoneLiveIn k.cores t
  stand_late s k t stood late i c at j e d linked due =
      let p : EntryId = record { shard = c.shard; index = j; born = e.born } in
      let x = stood (user_at k.notes p) e (p, refl, (i, c, at, record { shard = refl; linked = linked; born = refl })) in
      let y = x.2.2 in
      late y.0 y.1 y.2 x.2.0.index x.0 d y.3.linked (x.3 ∙ due)

  poll_late : (shared : Bool) (t until : ℕ) (piece : Piece T) (b c : Core T W) → DoesPoll shared until piece b c → NoneLiveBefore (machine b) t → NoneLiveBefore (machine c) t
  poll_late shared t until (Answer turn) b c did before = polls_late shared b c t before until turn did
  poll_late shared t until Working b c did before = absurd did

  -- a removal, or a look at a deadline
  refused_late : (shared : Bool) (s k : CoreRow T W) (t : ℕ) (p : EntryId) (e : CoreError) (R : Type 0) → OnCoreOr p.shard (λ b c. FindRefused shared b p e c) R s k
      → NoneLiveIn s t → NoneLiveIn k t
  refused_late shared s k t p e R on = or_late (λ b c. FindRefused shared b p e c) R s k p.shard t (λ b c did before. find_refused_late shared b c t before p e did) on

  removed_late : (shared : Bool) (s k : StoreState T W) (t : ℕ) (u p : EntryId) (r : Result (Removed T) CoreError) → RemovesAt shared s u r k p → NoneLiveIn s.cores t
      → NoneLiveIn k.cores t
  removed_late shared s k t u p (Ok x) did =
      core_late (λ b c. IsRemoved shared b p did.0 c) s.cores k.cores p.shard t (λ b c out before. removes_late shared b c t before p (Ok did.0) out) did.1
  removed_late shared s k t u p (Err e) did = refused_late shared s.cores k.cores t p e _ did.0

  -- a call by a user's id: at the place that the notes tell, or nothing changes
  place_late : (s k : StoreState T W) (t : ℕ) (u : EntryId) (Did : EntryId → Type 0) (R : Type 0) → (R → k ≡ s) → ((p : EntryId) → Did p → NoneLiveIn k.cores t)
      → AtPlace s u Did R → NoneLiveIn s.cores t → NoneLiveIn k.cores t
  place_late s k t u Did R same there did late =
      ⊎_elim
      (λ (y : (p : EntryId) × (meant_place s.notes u ≡ Some p) × Did p). there y.0 y.2)
      (λ (y : (meant_place s.notes u ≡ None) × R). same_late s.cores k.cores t (ap (λ z. z.cores) (same y.1)) late)
      did

  pub removes_for : (shared : Bool) (s k : StoreState T W) (t : ℕ) (u : EntryId) (r : Result (Removed T) CoreError) → RemovesFor shared s u r k → NoneLiveIn s.cores t
      → NoneLiveIn k.cores t
  removes_for shared s k t u r did late =
      place_late s k t u (RemovesAt shared s u r k) ((r ≡ Err Missing) × (k ≡ s)) (λ y. y.1) (λ p at. removed_late shared s k t u p r at late) did late

  pub tells_for : (shared : Bool) (s k : StoreState T W) (t : ℕ) (u : EntryId) (r : Result ℕ CoreError) → TellsFor shared s u r k → NoneLiveIn s.cores t → NoneLiveIn k.cores t
  tells_for shared s k t u r did late =
      place_late s k t u
      (λ p. OnCoreOr p.shard (λ b c. TellsDeadline shared b p r c) (r ≡ Err Missing) s.cores k.cores × (k.notes ≡ s.notes))
      ((r ≡ Err Missing) × (k ≡ s))
      (λ y. y.1)
      (λ p at. or_late (λ b c. TellsDeadline shared b p r c) (r ≡ Err Missing) s.cores k.cores p.shard t (λ b c tells before. tells_late shared b c t before p r tells) at.0 late)
      did late

  pub dues_for : (shared : Bool) (s k : StoreState T W) (t tick : ℕ) (u : EntryId) (r : Result (Option (Removed T)) CoreError) → RemovesIfDueFor shared s u tick r k
      → NoneLiveIn s.cores t → NoneLiveIn k.cores t
  dues_for shared s k t tick u (Ok (Some x)) did late = removes_for shared s k t u (Ok x) did.1 late
  dues_for shared s k t tick u (Ok None) did late = tells_for shared s k t u (Ok did.0) did.2 late
  dues_for shared s k t tick u (Err e) did late = removes_for shared s k t u (Err e) did late

  pub reaps_for : (shared : Bool) (s k : StoreState T W) (t : ℕ) (u : EntryId) (r : Result (Unit {0}) ReapError) → ReapsFor shared s u r k → NoneLiveIn s.cores t → NoneLiveIn k.cores t
  reaps_for shared s k t u r did late =
      place_late s k t u
      (λ p. OnCoreOr p.shard (λ b c. Reaps shared b p r c) (r ≡ Err NotThere) s.cores k.cores × NotesReaped s r k p)
      ((r ≡ Err NotThere) × (k ≡ s))
      (λ y. y.1)
      (λ p at. or_late (λ b c. Reaps shared b p r c) (r ≡ Err NotThere) s.cores k.cores p.shard t (λ b c reaps before. reap_late shared b c t before p r reaps) at.0 late)
      did late

  -- an insert
  pub inserts_in : (s k : CoreRow T W) (t : ℕ) (v : T) (when : ℕ) (r : Result Key (CoreError × T) × Option T) → OnOk r.0 (t ≤ when) → InsertsIn s v when r k → NoneLiveIn s t
      → NoneLiveIn k t
  inserts_in s k t v when r le did late =
      ⊎_elim
      (λ (y : OnCoreAt s.opened (InsertsBeside v when r) s k).
      at_late (InsertsBeside v when r) s k s.opened t (λ b c puts before. inserts_late true b c t before v when r.0 le puts.0) y late)
      (λ (y : IsClosed s × (r ≡ (Err (closed_error when, v), None)) × (k ≡ s)). same_late s k t y.2 late)
      did

  -- so with the hint lowered by one that was accepted
  pub inserts_hint : (s k : CoreRow T W) (h n : ℕ) (v : T) (when : ℕ) (r : Result Key (CoreError × T) × Option T) → (is_ok r.0 ≡ true → n ≡ min h when) → (is_ok r.0 ≡ false → n ≡ h)
      → InsertsIn s v when r k → NoneLiveIn s h → NoneLiveIn k n
  inserts_hint s k h n v when (Ok key, beside) low stays did late = let is : n ≡ min h when = low refl in inserts_in s k n v when (Ok key, beside) (omega arith) did (sooner s h n (omega arith) late)
  inserts_hint s k h n v when (Err e, beside) low stays did late = let is : n ≡ h = stays refl in inserts_in s k n v when (Err e, beside) (tt {0}) did (sooner s h n (omega arith) late)

  -- a reset, where the entry is
  pub resets_there : (shared : Bool) (s k : StoreState T W) (t : ℕ) (u : EntryId) (when : ℕ) (r : Result Key CoreError) → OnOk r (t ≤ when) → ResetsThere shared s u when r k
      → NoneLiveIn s.cores t → NoneLiveIn k.cores t
  resets_there shared s k t u when r le did late =
      place_late s k t u
      (λ p. (made : Result Key CoreError)
      × OnCoreOr p.shard (λ b c. Resets shared b p when made c) (made ≡ Err (missing_error when)) s.cores k.cores
      × (r ≡ reset_as u made) × (k.notes ≡ s.notes))
      ((r ≡ Err (missing_error when)) × (k ≡ s))
      (λ y. y.1)
      (λ p at. or_late (λ b c. Resets shared b p when at.0 c) (at.0 ≡ Err (missing_error when)) s.cores k.cores p.shard t
      (λ b c resets before. resets_late shared b c t before p when at.0 (renamed u (t ≤ when) at.0 r at.2 le) resets) at.1 late)
      did late

  -- a move: it puts the entry in with the deadline that it has, or with the one that is asked for
  goes_late : (shared : Bool) (s m k : CoreRow T W) (t : ℕ) (id : EntryId) (next : NextDeadline) (x : Removed T) (moved : Moved T) (beside : Option T) → IfTo moved (λ key d. IsAfter t next)
      → IsTakenOut shared id x s m → GoesTo m x next moved beside k → NoneLiveIn s t → NoneLiveIn k t
  goes_late shared s m k t id next x (To key d) beside after out goes late =
      let mid = core_late (λ b c. IsRemoved shared b id x c) s m id.shard t (λ b c did before. removes_late shared b c t before id (Ok x) did) out late in
      let b = out.before in
      let had : t ≤ x.deadline = run_late shared b.slots.last_stamp t (machine b) out.did.run.0 out.did.run.1 (late out.place b out.at.0) id.index _ x.deadline out.did.run.3.1 refl in
      at_late (PutsIn x.value d key beside) m k m.opened t
      (λ b c puts before. inserts_late shared b c t before x.value d (Ok key) (goes_after t x.deadline d next after had goes.0) puts.0) goes.1 mid
  goes_late shared s m k t id next x (Out y) beside after out goes late =
      same_late m k t goes.3 (core_late (λ b c. IsRemoved shared b id x c) s m id.shard t (λ b c did before. removes_late shared b c t before id (Ok x) did) out late)

  move_refused_late : (shared : Bool) (s k : CoreRow T W) (t : ℕ) (id : EntryId) (next : NextDeadline) (e : CoreError) (beside : Option T)
      → Relocates shared id next (Err e, beside) s k → NoneLiveIn s t → NoneLiveIn k t
  move_refused_late shared s k t id next (TooFar l) beside did = same_late s k t did.3
  move_refused_late shared s k t id next (Full l w) beside did = same_late s k t did.3
  move_refused_late shared s k t id next Missing beside did = refused_late shared s k t id Missing _ did.3
  move_refused_late shared s k t id next WasCancelled beside did = refused_late shared s k t id WasCancelled _ did.3
  move_refused_late shared s k t id next Worn beside did = refused_late shared s k t id Worn _ did.3
  move_refused_late shared s k t id next (TickTooLarge l) beside did = refused_late shared s k t id (TickTooLarge l) _ did.3
  move_refused_late shared s k t id next BadConfig beside did = refused_late shared s k t id BadConfig _ did.3
  move_refused_late shared s k t id next NoMemory beside did = refused_late shared s k t id NoMemory _ did.3

  relocates_late : (shared : Bool) (s k : CoreRow T W) (t : ℕ) (id : EntryId) (next : NextDeadline) (made : Result (Moved T) CoreError) (beside : Option T)
      → IfOk made (λ moved. IfTo moved (λ key d. IsAfter t next)) → Relocates shared id next (made, beside) s k → NoneLiveIn s t → NoneLiveIn k t
  relocates_late shared s k t id next (Ok moved) beside after did late = goes_late shared s did.2.1 k t id next did.2.0 moved beside after did.2.2 did.2.3 late
  relocates_late shared s k t id next (Err e) beside after did late = move_refused_late shared s k t id next e beside did late

  pub relocates_for : (shared : Bool) (s k : StoreState T W) (t : ℕ) (u : EntryId) (next : NextDeadline) (r : Result (Moved T) CoreError × Option T)
      → IfOk r.0 (λ moved. IfTo moved (λ key d. IsAfter t next)) → RelocatesFor shared s u next r k → NoneLiveIn s.cores t → NoneLiveIn k.cores t
  relocates_for shared s k t u next r after did late =
      place_late s k t u (λ p. HasNoMemory s r k ⊎ RelocatesAt shared s u next r k p) ((r ≡ (Err Missing, None)) × (k ≡ s)) (λ y. y.1)
      (λ p at.
      ⊎_elim
      (λ (y : HasNoMemory s r k). same_late s.cores k.cores t y.1 late)
      (λ (y : RelocatesAt shared s u next r k p). relocates_late shared s.cores k.cores t p next y.0 r.1 (moved_after t u next y.0 r.0 y.2 after) y.1 late)
      at)
      did late

  pub asked_for : (shared : Bool) (s k : StoreState T W) (t : ℕ) (u : EntryId) (next : NextDeadline) (r : Result (Moved T) CoreError × Option T) → RelocatesFor shared s u next r k
      → NoneLiveIn s.cores t → NoneLiveIn k.cores (hint_asked next r.0 t)
  asked_for shared s k t u next r did late =
      relocates_for shared s k (hint_asked next r.0 t) u next r (asked_after t next r.0) did (sooner s.cores t (hint_asked next r.0 t) (asked_least t next r.0) late)

  -- a reset, after which the entry may be in the open core
  after_late : (shared : Bool) (m k : StoreState T W) (t : ℕ) (u : EntryId) (when : ℕ) (made r : Result Key CoreError) (beside : Option T) → OnOk r (t ≤ when)
      → AfterReset shared m u when made (r, beside) k → NoneLiveIn m.cores t → NoneLiveIn k.cores t
  after_late shared m k t u when (Ok key) r beside le did late = same_late m.cores k.cores t (ap (λ z. z.cores) did.2) late
  after_late shared m k t u when (Err e) r beside le did late =
      ⊎_elim
      (λ (y : (e ≡ Worn) × ((moved : Result (Moved T) CoreError) × RelocatesFor shared m u (At when) (moved, beside) k × (r ≡ key_told moved))).
      relocates_for shared m k t u (At when) (y.1.0, beside) (told_after t when y.1.0 r y.1.2 le) y.1.1 late)
      (λ (y : (e ≢ Worn) × (r ≡ Err e) × (beside ≡ None) × (k ≡ m)). same_late m.cores k.cores t (ap (λ z. z.cores) y.3) late)
      did

  reset_after : (shared : Bool) (m k : StoreState T W) (t : ℕ) (u : EntryId) (when : ℕ) (made r : Result Key CoreError) (beside : Option T)
      → AfterReset shared m u when made (r, beside) k → OnOk r (t ≤ when) → OnOk made (t ≤ when)
  reset_after shared m k t u when (Ok key) r beside did ok = let Q : Result Key CoreError → Type 0 = λ x. OnOk x (t ≤ when) in subst Q did.0 ok
  reset_after shared m k t u when (Err e) r beside did ok = tt {0}

  pub resets_for : (shared : Bool) (s k : StoreState T W) (t : ℕ) (u : EntryId) (when : ℕ) (r : Result Key CoreError × Option T) → OnOk r.0 (t ≤ when) → ResetsFor shared s u when r k
      → NoneLiveIn s.cores t → NoneLiveIn k.cores t
  resets_for shared s k t u when (r, beside) le did late =
      place_late s k t u
      (λ p. (made : Result Key CoreError) × (m : CoreRow T W)
      × OnCoreOr p.shard (λ b c. Resets shared b p when made c) (made ≡ Err (missing_error when)) s.cores m
      × AfterReset shared (record s { cores = m }) u when made (r, beside) k)
      (((r, beside) ≡ (Err (missing_error when), None)) × (k ≡ s))
      (λ y. y.1)
      (λ p at. let m : StoreState T W = record s { cores = at.1 } in
      after_late shared m k t u when at.0 r beside le at.3
      (or_late (λ b c. Resets shared b p when at.0 c) (at.0 ≡ Err (missing_error when)) s.cores at.1 p.shard t
      (λ b c resets before. resets_late shared b c t before p when at.0 (reset_after shared m k t u when at.0 r beside at.3 le) resets) at.2 late))
      did late

  -- a value that waits is taken out
  pub takes_late : (s k : CoreRow T W) (t : ℕ) (r : Option T) → TakesDeferredIn s r k → NoneLiveIn s t → NoneLiveIn k t
  takes_late s k t None did late = same_late s k t did.1 late
  takes_late s k t (Some v) did late =
      at_late (TakesDeferredAt v) s k did.0 t (λ b c takes before. let P : Core T W → Type 0 = λ x. NoneLiveBefore (machine x) t in subst P (sym takes.1) before) did.1 late

  -- a change of a value
  pub changes_for : {R : Type 0} (Makes : T → R → T → Type 0) (s k : StoreState T W) (t : ℕ) (u : EntryId) (r : Option R) → IsStore k → AreCores k.cores → ChangesFor Makes s u r k
      → NoneLiveIn s.cores t → NoneLiveIn k.cores t
  changes_for Makes s k t u None law has did late = same_late s.cores k.cores t (ap (λ z. z.cores) did.1) late
  changes_for Makes s k t u (Some a) law has did late =
      stand_late s k t
      (λ o e stands.
      ⊎_elim
      (λ (y : o ≡ u). let A : EntryId → Type 0 = λ x. StandsFor k x e in
      let one = one_entry k law has u _ e did.here (subst A y stands) in
      (did.entry, u, did.was, ap (λ z. z.due) one))
      (λ (y : o ≢ u). (e, o, did.others.1 o e y stands, refl))
      (one_or_two o u))
      late

  -- a poll
  polled_late : (Did : ℕ → Piece T → Core T W → Core T W → Type 0) (s k : CoreRow T W) (t tick : ℕ) (made : Result (Piece T) CoreError)
      → ((until : ℕ) (piece : Piece T) (b c : Core T W) → Did until piece b c → NoneLiveBefore (machine b) t → NoneLiveBefore (machine c) t) → PollsRow Did s tick made k
      → NoneLiveIn s t → NoneLiveIn k t
  polled_late Did s k t tick (Ok p) change did late =
      ⊎_elim
      (λ (y : RestsIn (noting_in s tick) p × (k ≡ noting_in s tick)). same_late (noting_in s tick) k t y.1 late)
      (λ (y : PollsCore Did (noting_in s tick) p k).
      at_late (Did (min (noting_in s tick).noted y.others) y.made) (noting_in s tick) k y.place t (change (min (noting_in s tick).noted y.others) y.made) y.did late)
      did.1
  polled_late Did s k t tick (Err e) change did late = same_late s k t did.2 late

  waits_late : (k : CoreRow T W) (h : ℕ) (r : Result (Piece T) CoreError) → NoneLiveIn k h → IfPieceRests r (λ next. NoneLiveIn k (unwrap_or next NEVER)) → NoneLiveIn k (hint_after r h)
  waits_late k h (Ok (Answer (Waiting next))) late rests = rests
  waits_late k h (Ok (Answer Idle)) late rests = rests
  waits_late k h (Ok (Answer (CameOut x))) late rests = late
  waits_late k h (Ok Working) late rests = late
  waits_late k h (Err e) late rests = late

  pub polls_for : (shared : Bool) (s k : StoreState T W) (h tick : ℕ) (r : Result (Piece T) CoreError) → PollsFor (DoesPoll shared) s tick r k
      → IfPieceRests r (λ next. NoneLiveIn k.cores (unwrap_or next NEVER)) → NoneLiveIn s.cores h → NoneLiveIn k.cores (hint_after r h)
  polls_for shared s k h tick r did rests late =
      waits_late k.cores h r (polled_late (DoesPoll shared) s.cores k.cores h tick did.0 (poll_late shared h) did.1 late) rests

  pub pieces_for : (shared : Bool) (most : ℕ) (s k : StoreState T W) (h tick : ℕ) (r : Result (Piece T) CoreError) → PollsFor (DoesPiece shared most) s tick r k
      → IfPieceRests r (λ next. NoneLiveIn k.cores (unwrap_or next NEVER)) → NoneLiveIn s.cores h → NoneLiveIn k.cores (hint_after r h)
  pieces_for shared most s k h tick r did rests late =
      waits_late k.cores h r (polled_late (DoesPiece shared most) s.cores k.cores h tick did.0 (λ until piece b c polls before. pieces_late shared b c h before until most piece polls) did.1 late) rests

  -- a sweep
  pub sweeps_for : (shared : Bool) (most : ℕ) (w v : Sweep) (s k : StoreState T W) (t : ℕ) → SweepsNext shared most w s v k → NoneLiveIn s.cores t → NoneLiveIn k.cores t
  sweeps_for shared most w v s k t did late =
      ⊎_elim
      (λ (y : ((c : Core T W) → IsCoreAt s.cores.cores w.place c → linked_in c ≡ 0) × (k.cores ≡ s.cores) × GoesOnBehind w None s.cores v). same_late s.cores k.cores t y.1 late)
      (λ (y : (swept : Swept) × OnCoreAt w.place (SweepsFrom shared w.slot (w.slot + most) swept) s.cores k.cores × GoesOnBehind w swept.next s.cores v).
      at_late (SweepsFrom shared w.slot (w.slot + most) y.0) s.cores k.cores w.place t
      (λ b c sweeps before. sweeps_late shared b c t before w.slot (w.slot + most) y.0.reaped sweeps.0) y.1 late)
      did.1

  -- cores come, go and are opened
  pub opens_late : (s k : StoreState T W) (t : ℕ) → OnlyOpens s k → NoneLiveIn s.cores t → NoneLiveIn k.cores t
  opens_late s k t did late = same_late (record s.cores { opened = did.0.0 }) k.cores t did.0.1 late

  pub comes_late : (s k : StoreState T W) (c : Core T W) (t : ℕ) → IsLawfulCore c → ComesInto s c k → NoneLiveIn s.cores t → NoneLiveIn k.cores t
  comes_late s k c t lawful comes late i d at =
      let L : List (Core T W) → Type 0 = λ l. IsCoreAt l i d in
      ⊎_elim
      (λ (y : IsCoreAt s.cores.cores i d). late i d y)
      (λ (y : (i ≡ length s.cores.cores) × (c ≡ d)). let P : Core T W → Type 0 = λ k. NoneLiveBefore (machine k) t in
      subst P y.1 (λ j e x linked due. absurd (unlinked c lawful comes.2.0 (record { shard = c.shard; index = j; born = e.born }) e (record { shard = refl; linked = linked; born = refl }))))
      (at_snoc s.cores.cores c d i (subst L comes.0 at))

  pub brings_late : (s k : StoreState T W) (c : Core T W) (t : ℕ) (r : Result (Unit {0}) (TakeError × Core T W)) → IsLawfulCore c → OnOk r (ComesInto s c k)
      → IfErr r (λ e. (e.1 ≡ c) × (k.cores ≡ s.cores)) → NoneLiveIn s.cores t → NoneLiveIn k.cores t
  brings_late s k c t (Ok done) lawful comes back late = comes_late s k c t lawful comes late
  brings_late s k c t (Err b) lawful comes back late = same_late s.cores k.cores t back.1 late

  pub were_late : (s k : CoreRow T W) (t : ℕ) → AllWere s k → NoneLiveIn s t → NoneLiveIn k t
  were_late s k t were late i c at = let was = were i c at in late was.0 c was.1

  -- a core that has drained is taken out, or none is
  pub given_late : (s k : CoreRow T W) (t : ℕ) (r : Option (Core T W)) → IfSome r (λ c. GivesDrained s c k) → IfNone r (NoneDrained s × (k ≡ s)) → NoneLiveIn s t → NoneLiveIn k t
  given_late s k t (Some c) gives none late = were_late s k t (gives_were s k c gives) late
  given_late s k t None gives none late = same_late s k t none.1 late

  pub none_late : (s : CoreRow T W) (t : ℕ) → length s.cores ≡ 0 → NoneLiveIn s t
  none_late s t none i c at = let inside = at.0 in absurd (omega arith)
