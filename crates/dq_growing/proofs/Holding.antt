-- Deadlines don't fall, from an event of a core to a call of a store.
use Rattle.std.proofs.Common.{◌≡◌, ◌≢◌, ℕ, ◌<◌, ◌≤◌, max, min, Bool, true, false, if◌then◌else◌, nat_lt, ◌+◌, List, [], ◌∷◌, length, Option, MatchOption, Some, None, Result, Ok, Err, IfOk, IfErr, IfSome, IfNone, OnOk, OnErr, refl, sym, ap, ◌∙◌, subst, inl, inr, ⊎_elim, arith}
use Rattle.std.specs.List.{AllByRecursion}
use mathlib.Core.Logic.{dite}
use native.Mathlib.Decide.{ℕ_discrete}
use Rattle.dq_ticks.specs.declared.keys.Key.{Key}
use Rattle.dq_ticks.specs.declared.keys.EntryId.{EntryId}
use Rattle.dq_ticks.specs.declared.words.Parts.{Parts}
use Rattle.dq_core.specs.declared.errors.CoreError.{CoreError}
use Rattle.dq_core.specs.declared.errors.CoreError.TheVariants.{TooFar, Full, Missing, WasCancelled, Worn, TickTooLarge, BadConfig, NoMemory}
use Rattle.dq_core.specs.declared.errors.ReapError.{ReapError}
use Rattle.dq_core.specs.declared.errors.ReapError.TheVariants.{Missing as NotThere, Live}
use Rattle.dq_core.specs.declared.outcomes.Removed.{Removed}
use Rattle.dq_core.specs.declared.outcomes.Expired.{Expired}
use Rattle.dq_core.specs.declared.outcomes.Swept.{Swept}
use Rattle.dq_core.specs.declared.outcomes.Turn.{Turn}
use Rattle.dq_core.specs.declared.outcomes.Turn.TheVariants.{Out as CameOut, Waiting, Idle}
use Rattle.dq_core.specs.declared.outcomes.Piece.{Piece}
use Rattle.dq_core.specs.declared.outcomes.Piece.TheVariants.{Answer, Working}
use Rattle.dq_wheel.specs.State.{Filing}
use Rattle.dq_core.specs.Calls.{IsLookedAt, Removes, FindRefused, Resets, ResetRefused, TellsDeadline, IsTurn, noting}
use Rattle.dq_core.specs.Core.{Core, IsLawfulCore, machine}
use Rattle.dq_core.specs.Machine.{Entry, TableRow, Machine, Event, Note, Pass, Insert, Reset, Extend, Cancel, Remove, Reap, Expire, Has, Step, Run, RunOf, Callers, IsCallers, IsOnTheWay, IsReaping, table_at, put, with_due}
use Rattle.dq_core.specs.Sweeps.{Reaps, SweepsSome}
use Rattle.dq_core.proofs.RunsMoves.{put_same, put_other}
use Rattle.dq_growing.specs.Cores.{CoreRow, AreCores, IsCoreAt, OnCoreAt, OnCoreOr, InsertsIn, SweepsFrom, TakesIn, TakeRefused, GivesDrained, NoneDrained, with_core}
use Rattle.dq_growing.specs.Moving.{next_of, IfTo, IfCameOut, IsTakenOut, GoesOnIn, Relocates, UnlessTo}
use Rattle.dq_growing.specs.Notes.{Book, SameNotes, Forgets, meant_place, or_own, user_at}
use Rattle.dq_growing.specs.Polls.{PollsRow, PollsCore, RestsIn, DoesPiece, DoesPoll, IfPieceOut, TakesDeferredIn, noting_in}
use Rattle.dq_growing.specs.Runs.{IsUsedId, KeepsIds, GivesId, IsNotBefore, NotDueBefore, HoldsDeadline, HoldsDeadlines, HoldsOtherDeadlines, LeavesInForce, KeepsItsDeadline}
use Rattle.dq_growing.specs.Sizing.{AllWere, ComesInto}
use Rattle.dq_growing.specs.Stands.{IsThere, HasEntry, HasNoEntry, KeepsWords, OneLeaves}
use Rattle.dq_growing.specs.Store.{StoreState, ChangesFor, IsStore, StandsFor, ComesFor, GoesOnFor, RelocatesFor, NotesAfter, NotesAnswered, piece_as, answer_as, key_told}
use Rattle.dq_growing.specs.declared.cores.TakeError.{TakeError}
use Rattle.dq_growing.specs.declared.moving.Moved.{Moved}
use Rattle.dq_growing.specs.declared.moving.Moved.TheVariants.{To, Out}
use Rattle.dq_growing.specs.declared.moving.NextDeadline.{NextDeadline}
use Rattle.dq_growing.specs.declared.moving.NextDeadline.TheVariants.{Same, At, SameIfAfter}
use Rattle.dq_growing.proofs.Keeping.{LeavesRow, one_entry, told_out}
use Rattle.dq_growing.proofs.Leasts.{some_not_none}
use Rattle.dq_growing.proofs.Moves.{ok_not_err}
use Rattle.dq_growing.proofs.Pairing.{one_or_two}
use Rattle.dq_growing.proofs.Rows.{at_after, at_snoc, one_at, removed_at}
use Rattle.dq_growing.proofs.Standing.{some_is, same_id, set_there}
use Rattle.dq_growing.proofs.Stored.{stored, apart, forgets_user, goes_on_for, place_is, reserved_forgets, then_same, unlinked}

-- one entry's deadline isn't before another's
abbrev pub IsRaised : {T : Type 0} → Entry T → Entry T → Type 0
IsRaised f e = (d : ℕ) → IsNotBefore d f.due → IsNotBefore d e.due

not_sooner : (x d : ℕ) (o : Option ℕ) → x ≤ d → IsNotBefore d o → IsNotBefore x o
not_sooner x d None low h = tt {0}
not_sooner x d (Some due) low h = omega (arith, low, h)

-- what stands in a slot stood there before under its birth, with a deadline that wasn't later
abbrev pub Raises : {T : Type 0} → Option (Entry T) → Option (Entry T) → Type 0
Raises {T} a z = (e : Entry T) → z ≡ Some e → (f : Entry T) × (a ≡ Some f) × (f.born ≡ e.born) × IsRaised f e

abbrev pub entry_at : {T : Type 0} → Machine T → ℕ → Option (Entry T)
entry_at m i = (table_at m i).entry

-- no event of an insert or of a reset at a slot
abbrev pub IsUnset : {T : Type 0} → ℕ → Event T → Type 0
IsUnset i (Insert j v w) = i ≢ j
IsUnset i (Reset j b w) = i ≢ j
IsUnset i e = Unit {0}

at_slot : (P : ℕ → Type 0) (i j : ℕ) → P j → (i ≢ j → P i) → P i
at_slot P i j here others = dite (ℕ_discrete i j) (λ same. subst P (sym same) here) (λ ne. others ne)

-- the deadline with which a moved entry goes on, where none was asked for
if_some : (b : Bool) (x d : ℕ) → (if b then Some x else None) ≡ Some d → x ≡ d
if_some true x d is = some_is x d is
if_some false x d is = absurd (some_not_none d (sym is))

pub next_same : (next : NextDeadline) (x d : ℕ) → KeepsItsDeadline next → next_of next x ≡ Some d → x ≡ d
next_same Same x d keeps is = some_is x d is
next_same (At tick) x d keeps is = absurd keeps
next_same (SameIfAfter tick) x d keeps is = if_some (nat_lt tick x) x d is

module _ {T : Type 0} where
  pub raises_same : (a z : TableRow T) → z ≡ a → Raises a.entry z.entry
  raises_same a z is e at = (e, sym (ap (λ r. r.entry) is) ∙ at, refl, (λ d h. h))

  raises_more : (a b c : Option (Entry T)) → Raises a b → Raises b c → Raises a c
  raises_more a b c ab bc e at =
      let h = bc e at in
      let g = ab h.0 h.1 in
      (g.0, g.1, g.2 ∙ h.2, (λ d x. h.3 d (g.3 d x)))

  raises_gone : (a : Option (Entry T)) → Raises a None
  raises_gone a e at = absurd (some_not_none e (sym at))

  raises_due : (a : Option (Entry T)) (x : Entry T) (d : Option ℕ) → a ≡ Some x → ((t : ℕ) → IsNotBefore t x.due → IsNotBefore t d) → Raises a (with_due x d)
  raises_due a x d here up e at =
      let now : Entry T = record { born = x.born; value = x.value; due = d } in
      let same : now ≡ e = some_is now e at in
      let P : Entry T → Type 0 = λ k. IsRaised x k in
      (x, here, ap (λ k. k.born) same, subst P same up)

  raises_put : (m k : Machine T) (i j s : ℕ) (o : Option (Entry T)) → j < length m.table → k ≡ put m j s o → Raises (entry_at m j) o → Raises (entry_at m i) (entry_at k i)
  raises_put m k i j s o inside is here =
      at_slot (λ x. Raises (entry_at m x) (entry_at k x)) i j
      (let P : Option (Entry T) → Type 0 = λ r. Raises (entry_at m j) r in subst P (sym (ap (λ r. r.entry) (put_same m k j s o inside is))) here)
      (λ ne. raises_same (table_at m i) (table_at k i) (put_other m k i j s o ne is))

  pub step_raises : (last : ℕ) (m k : Machine T) (e : Event T) (i : ℕ) → IsUnset i e → Step last m e k → Raises (entry_at m i) (entry_at k i)
  step_raises last m k (Note t) i un s = raises_same _ _ (ap (λ x. table_at x i) s)
  step_raises last m k (Pass t) i un s = raises_same _ _ (ap (λ x. table_at x i) s.3)
  step_raises last m k (Insert j v w) i un s = raises_same _ _ (put_other m k i j _ _ un s.3)
  step_raises last m k (Reset j b w) i un s = raises_same _ _ (put_other m k i j _ _ un s.6)
  step_raises last m k (Extend j st w) i un s =
      let up : (t : ℕ) → IsNotBefore t s.0.due → IsNotBefore t (Some (max w s.1)) = λ t h.
      let P : Option ℕ → Type 0 = λ o. IsNotBefore t o in
      let low : t ≤ s.1 = subst P s.4 h in
      omega (arith, low) in
      raises_put m k i j st _ s.2.0 s.5 (raises_due (entry_at m j) s.0 (Some (max w s.1)) s.2.1 up)
  step_raises last m k (Cancel j st) i un s = raises_put m k i j st _ s.2.0 s.5 (raises_due (entry_at m j) s.0 None s.2.1 (λ t h. tt {0}))
  step_raises last m k (Remove j b) i un s = raises_put m k i j (table_at m j).stamp None s.2.0 s.5 (raises_gone (entry_at m j))
  step_raises last m k (Reap j b) i un s = raises_put m k i j (table_at m j).stamp None s.1.0 s.4 (raises_gone (entry_at m j))
  step_raises last m k (Expire j b at) i un s = raises_put m k i j (table_at m j).stamp None s.1.0 s.7 (raises_gone (entry_at m j))

  run_raises : (P : Event T → Type 0) (last i : ℕ) → ((e : Event T) → P e → IsUnset i e) → (m k : Machine T) (es : List (Event T))
      → AllByRecursion P es → Run last m es k → Raises (entry_at m i) (entry_at k i)
  run_raises P last i un m k [] all run = raises_same _ _ (ap (λ x. table_at x i) run)
  run_raises P last i un m k (e ∷ es) all run =
      raises_more _ (entry_at run.0 i) _ (step_raises last m run.0 e i (un e all.0) run.1) (run_raises P last i un run.0 k es all.1 run.2)

  callers_unset : (shared : Bool) (i : ℕ) (e : Event T) → IsCallers shared e → IsUnset i e
  callers_unset shared i (Extend j s w) h = tt {0}
  callers_unset shared i (Cancel j s) h = tt {0}
  callers_unset shared i e h = absurd h

  way_unset : (shared : Bool) (i : ℕ) (e : Event T) → IsOnTheWay shared e → IsUnset i e
  way_unset shared i (Reap j b) h = tt {0}
  way_unset shared i (Pass t) h = tt {0}
  way_unset shared i (Extend j s w) h = tt {0}
  way_unset shared i (Cancel j s) h = tt {0}
  way_unset shared i e h = absurd h

  reaping_unset : (shared : Bool) (i : ℕ) (e : Event T) → IsReaping shared e → IsUnset i e
  reaping_unset shared i (Reap j b) h = tt {0}
  reaping_unset shared i (Extend j s w) h = tt {0}
  reaping_unset shared i (Cancel j s) h = tt {0}
  reaping_unset shared i e h = absurd h

  callers_raise : (shared : Bool) (last i : ℕ) (m k : Machine T) → Callers shared last m k → Raises (entry_at m i) (entry_at k i)
  callers_raise shared last i m k way = run_raises (IsCallers shared) last i (callers_unset shared i) m k way.0 way.1 way.2

  pub way_raises : (shared : Bool) (last i : ℕ) (m k : Machine T) → RunOf (IsOnTheWay shared) last m k → Raises (entry_at m i) (entry_at k i)
  way_raises shared last i m k way = run_raises (IsOnTheWay shared) last i (way_unset shared i) m k way.0 way.1 way.2

  reaping_raises : (shared : Bool) (last i : ℕ) (m k : Machine T) → RunOf (IsReaping shared) last m k → Raises (entry_at m i) (entry_at k i)
  reaping_raises shared last i m k way = run_raises (IsReaping shared) last i (reaping_unset shared i) m k way.0 way.1 way.2

  turn_raises : (shard last i : ℕ) (m n : Machine T) (turn : Turn T) (w : Filing) → IsTurn shard last m turn n w → Raises (entry_at m i) (entry_at n i)
  turn_raises shard last i m n (CameOut x) w t = step_raises last m n (Expire x.key.entry.index x.key.entry.born x.deadline) i (tt {0}) t.0.0
  turn_raises shard last i m n (Waiting next) w t = raises_same _ _ (ap (λ x. table_at x i) t.0)
  turn_raises shard last i m n Idle w t = raises_same _ _ (ap (λ x. table_at x i) t.0)

module _ {T W : Type 0} where
  -- so of each slot of a core
  abbrev pub CoreRaises : Core T W → Core T W → Type 0
  CoreRaises b c = (i : ℕ) → Raises (entry_at (machine b) i) (entry_at (machine c) i)

  core_same : (b c : Core T W) → c ≡ b → CoreRaises b c
  core_same b c is i = raises_same _ _ (ap (λ k. table_at (machine k) i) is)

  looked_raises : (shared : Bool) (b c : Core T W) (j : ℕ) (v : Parts) → IsLookedAt shared b j v c → CoreRaises b c
  looked_raises shared b c j v l i = callers_raise shared b.slots.last_stamp i (machine b) (machine c) l.callers

  refused_raises : (shared : Bool) (b c : Core T W) (id : EntryId) (e : CoreError) → FindRefused shared b id e c → CoreRaises b c
  refused_raises shared b c id Missing h = core_same b c h.1
  refused_raises shared b c id WasCancelled h = looked_raises shared b c _ _ h.looked
  refused_raises shared b c id e h = absurd h

  pub removes_raise : (shared : Bool) (b c : Core T W) (id : EntryId) (r : Result (Removed T) CoreError) → Removes shared b id r c → CoreRaises b c
  removes_raise shared b c id (Ok x) r i =
      raises_more _ (entry_at r.run.0 i) _ (callers_raise shared b.slots.last_stamp i (machine b) r.run.0 r.run.1)
      (step_raises b.slots.last_stamp r.run.0 (machine c) (Remove id.index id.born) i (tt {0}) r.run.2)
  removes_raise shared b c id (Err e) r i = refused_raises shared b c id e r i

  pub tells_raise : (shared : Bool) (b c : Core T W) (id : EntryId) (r : Result ℕ CoreError) → TellsDeadline shared b id r c → CoreRaises b c
  tells_raise shared b c id (Ok d) r = looked_raises shared b c _ _ r.looked
  tells_raise shared b c id (Err e) r = refused_raises shared b c id e r

  pub reaps_raise : (shared : Bool) (b c : Core T W) (id : EntryId) (r : Result (Unit {0}) ReapError) → Reaps shared b id r c → CoreRaises b c
  reaps_raise shared b c id (Ok done) r i = reaping_raises shared b.slots.last_stamp i (machine b) (machine c) r.1.reaped.run
  reaps_raise shared b c id (Err Live) r i = reaping_raises shared b.slots.last_stamp i (machine b) (machine c) r.1.reaped.run
  reaps_raise shared b c id (Err NotThere) r i = core_same b c r.1 i

  pub sweeps_raise : (shared : Bool) (b c : Core T W) (from upto n : ℕ) → SweepsSome shared b from upto n c → CoreRaises b c
  sweeps_raise shared b c from upto n s i = reaping_raises shared b.slots.last_stamp i (machine b) (machine c) s.reaped.2.run

  pub polls_raise : (shared : Bool) (tick : ℕ) (p : Piece T) (b c : Core T W) → DoesPoll shared tick p b c → CoreRaises b c
  polls_raise shared tick (Answer turn) b c (accepted, note, answered, noted) i =
      let last = b.slots.last_stamp in
      let m = answered.run.0 in
      raises_more _ (entry_at m i) _ (way_raises shared last i (machine (noting b tick)) m answered.run.1)
      (turn_raises b.shard last i m (machine c) turn c.wheel.filing answered.run.2)
  polls_raise shared tick Working b c did i = absurd did

  pub pieces_raise : (shared : Bool) (most tick : ℕ) (p : Piece T) (b c : Core T W) → DoesPiece shared most tick p b c → CoreRaises b c
  pieces_raise shared most tick (Answer turn) b c (accepted, note, answered, noted) i =
      let last = b.slots.last_stamp in
      let m = answered.run.0 in
      raises_more _ (entry_at m i) _ (way_raises shared last i (machine (noting b tick)) m answered.run.1)
      (turn_raises b.shard last i m (machine c) turn c.wheel.filing answered.run.2)
  pieces_raise shared most tick Working b c (accepted, note, came, noted) i =
      way_raises shared b.slots.last_stamp i (machine (noting b tick)) (machine c) came.0.way

  -- what stands in a core stood there, with a deadline that wasn't later
  abbrev pub ThereRaises : Core T W → Core T W → EntryId → Type 0
  ThereRaises b c id = (e : Entry T) → IsThere c id e → (f : Entry T) × IsThere b id f × IsRaised f e

  there_raises : (b c : Core T W) (id : EntryId) → c.shard ≡ b.shard → CoreRaises b c → ThereRaises b c id
  there_raises b c id same up e z =
      let f = up id.index e z.linked in
      (f.0, record { shard = z.shard ∙ same; linked = f.1; born = f.2 ∙ z.born }, f.3)

  -- a reset that is refused, of every entry
  pub reset_refused_raises : (shared : Bool) (b c : Core T W) (p : EntryId) (when : ℕ) (e : CoreError) → ResetRefused shared b p when e c → CoreRaises b c
  reset_refused_raises shared b c p when (TooFar limit) r = core_same b c r.2
  reset_refused_raises shared b c p when Missing r = core_same b c r.2
  reset_refused_raises shared b c p when WasCancelled r = looked_raises shared b c _ _ r.1.looked
  reset_refused_raises shared b c p when Worn r = looked_raises shared b c _ _ r.1.1.looked
  reset_refused_raises shared b c p when other r = absurd r

  -- a reset, of every entry but its own
  resets_there : (shared : Bool) (b c : Core T W) (p id : EntryId) (when : ℕ) (r : Result Key CoreError) → id ≢ p → c.shard ≡ b.shard
      → Resets shared b p when r c → ThereRaises b c id
  resets_there shared b c p id when (Ok k) ne same r e z =
      let step = r.run.2 in
      let m = r.run.0 in
      dite (ℕ_discrete id.index p.index)
      (λ here.
      let now = ap (λ (x : TableRow T). x.entry) (put_same m (machine c) p.index _ _ step.2.0 step.6) in
      let P : ℕ → Type 0 = λ i. (table_at (machine c) i).entry ≡ Some e in
      let is = some_is _ e (sym now ∙ subst P here z.linked) in
      let born = ap (λ (x : Entry T). x.born) is in
      absurd (ne (same_id id p (z.shard ∙ (same ∙ sym r.shard)) here (sym z.born ∙ (sym born ∙ step.3)))))
      (λ other.
      let row = raises_more _ (entry_at m id.index) _ (callers_raise shared b.slots.last_stamp id.index (machine b) m r.run.1)
      (step_raises b.slots.last_stamp m (machine c) (Reset p.index p.born when) id.index other step) in
      let f = row e z.linked in
      (f.0, record { shard = z.shard ∙ same; linked = f.1; born = f.2 ∙ z.born }, f.3))
  resets_there shared b c p id when (Err other) ne same r e z = there_raises b c id same (reset_refused_raises shared b c p when other r) e z

  -- so of a row of cores
  abbrev pub RowRaises : CoreRow T W → CoreRow T W → EntryId → Type 0
  RowRaises s t id = (e : Entry T) → HasEntry t id e → (f : Entry T) × HasEntry s id f × IsRaised f e

  pub row_same : (s t : CoreRow T W) (id : EntryId) → t.cores ≡ s.cores → RowRaises s t id
  row_same s t id is e z = let P : List (Core T W) → Type 0 = λ l. IsCoreAt l z.0 z.1 in (e, (z.0, z.1, subst P is z.2, z.3), (λ d h. h))

  row_raises : (s : CoreRow T W) (i : ℕ) (b c : Core T W) (id : EntryId) → IsCoreAt s.cores i b → ThereRaises b c id → RowRaises s (with_core s i c) id
  row_raises s i b c id at up e z =
      ⊎_elim
      (λ (y : (z.0 ≡ i) × (z.1 ≡ c)).
      let P : Core T W → Type 0 = λ k. IsThere k id e in
      let f = up e (subst P y.1 z.3) in
      (f.0, (i, b, at, f.1), f.2))
      (λ (y : (z.0 ≢ i) × IsCoreAt s.cores z.0 z.1). (e, (z.0, z.1, y.1, z.3), (λ d h. h)))
      (at_after s.cores i z.0 c z.1 at.0 z.2)

  -- a core keeps its number where the words of each are kept
  number_kept : {O : Type 0} (origin : W → O) (begun : W → ℕ → ℕ → ℕ → Type 0) (s t : CoreRow T W) (i : ℕ) (b c : Core T W) → KeepsWords origin begun s t → IsCoreAt s.cores i b
      → t ≡ with_core s i c → c.shard ≡ b.shard
  number_kept origin begun s t i b c words at rest =
      let k = words i b at in
      let P : CoreRow T W → Type 0 = λ r. IsCoreAt r.cores i k.0 in
      let N : Core T W → ℕ = λ x. x.shard in
      let same = one_at (with_core s i c).cores i c k.0 (set_there s.cores i b c at) (subst P rest k.1) in
      ap N same ∙ k.2

  -- a call on one core, by what it does there
  pub on_raises : {O : Type 0} (origin : W → O) (begun : W → ℕ → ℕ → ℕ → Type 0) (s t : CoreRow T W) (i : ℕ) (P : Core T W → Core T W → Type 0) (id : EntryId) → KeepsWords origin begun s t
      → OnCoreAt i P s t → ((b c : Core T W) → c.shard ≡ b.shard → P b c → ThereRaises b c id) → RowRaises s t id
  on_raises origin begun s t i P id words on did =
      let same = number_kept origin begun s t i on.before on.after words on.at on.rest in
      let A : CoreRow T W → Type 0 = λ k. RowRaises s k id in
      subst A (sym on.rest) (row_raises s i on.before on.after id on.at (did on.before on.after same on.did))

  pub or_raises : {O : Type 0} (origin : W → O) (begun : W → ℕ → ℕ → ℕ → Type 0) (s t : CoreRow T W) (number : ℕ) (P : Core T W → Core T W → Type 0) (R : Type 0) (id : EntryId)
      → KeepsWords origin begun s t → OnCoreOr number P R s t → ((b c : Core T W) → c.shard ≡ b.shard → P b c → ThereRaises b c id) → RowRaises s t id
  or_raises origin begun s t number P R id words (inl on) did =
      let same = number_kept origin begun s t on.place on.before on.after words on.at.0 on.rest in
      let A : CoreRow T W → Type 0 = λ k. RowRaises s k id in
      subst A (sym on.rest) (row_raises s on.place on.before on.after id on.at.0 (did on.before on.after same on.did))
  or_raises origin begun s t number P R id words (inr y) did = row_same s t id (ap (λ k. k.cores) y.2)

  pub each_raises : {O : Type 0} (origin : W → O) (begun : W → ℕ → ℕ → ℕ → Type 0) (s t : CoreRow T W) (number : ℕ) (P : Core T W → Core T W → Type 0) (R : Type 0)
      → KeepsWords origin begun s t → OnCoreOr number P R s t → ((b c : Core T W) → P b c → CoreRaises b c) → (id : EntryId) → RowRaises s t id
  each_raises origin begun s t number P R words on did id = or_raises origin begun s t number P R id words on (λ b c same x. there_raises b c id same (did b c x))

  pub polled_raises : {O : Type 0} (origin : W → O) (begun : W → ℕ → ℕ → ℕ → Type 0) (Did : ℕ → Piece T → Core T W → Core T W → Type 0) (s t : CoreRow T W) (tick : ℕ)
      (made : Result (Piece T) CoreError) → ((limit : ℕ) (p : Piece T) (b c : Core T W) → Did limit p b c → CoreRaises b c) → KeepsWords origin begun s t
      → PollsRow Did s tick made t → (id : EntryId) → RowRaises s t id
  polled_raises origin begun Did s t tick (Ok p) did words polled id = ⊎_elim
      (λ (r : RestsIn (noting_in s tick) p × (t ≡ noting_in s tick)). row_same s t id (ap (λ k. k.cores) r.1))
      (λ (k : PollsCore Did (noting_in s tick) p t). on_raises origin begun (noting_in s tick) t k.place _ id words k.did
      (λ b c same x. there_raises b c id same (did _ k.made b c x)))
      polled.1
  polled_raises origin begun Did s t tick (Err e) did words polled id = row_same s t id (ap (λ k. k.cores) polled.2)

  -- what comes out, comes out at no deadline before the one with which it stood

  abbrev pub LeftAt : CoreRow T W → EntryId → ℕ → Type 0
  LeftAt s id at = (f : Entry T) × HasEntry s id f × ((d : ℕ) → IsNotBefore d f.due → d ≤ at)

  pub taken_at : (shared : Bool) (s m : CoreRow T W) (id : EntryId) (x : Removed T) → IsTakenOut shared id x s m → LeftAt s id x.deadline
  taken_at shared s m id x on =
      let b = on.before in
      let r = on.did in
      let e : Entry T = record { born = id.born; value = x.value; due = Some x.deadline } in
      let f = callers_raise shared b.slots.last_stamp id.index (machine b) r.run.0 r.run.1 e r.run.3.1 in
      (f.0, (on.place, b, on.at.0, record { shard = r.shard; linked = f.1; born = f.2 }), f.3)

  abbrev OutAt : Core T W → Expired T → Type 0
  OutAt b x = (f : Entry T) × IsThere b x.key.entry f × ((d : ℕ) → IsNotBefore d f.due → d ≤ x.deadline)

  out_at : (shared : Bool) (tick : ℕ) (b : Core T W) (m : Machine T) (x : Expired T) → x.key.entry.shard ≡ b.shard
      → RunOf (IsOnTheWay shared) b.slots.last_stamp (machine (noting b tick)) m → Has m x.key.entry.index (record { born = x.key.entry.born; value = x.value; due = Some x.deadline })
      → OutAt b x
  out_at shared tick b m x number way has =
      let f = way_raises shared b.slots.last_stamp x.key.entry.index (machine (noting b tick)) m way _ has.1 in
      (f.0, record { shard = number; linked = f.1; born = f.2 }, f.3)

  pub piece_at : (shared : Bool) (most tick : ℕ) (b c : Core T W) (x : Expired T) → DoesPiece shared most tick (Answer (CameOut x)) b c → OutAt b x
  piece_at shared most tick b c x (accepted, note, answered, noted) = let left = answered.run.2 in out_at shared tick b answered.run.0 x left.1 answered.run.1 left.0.1

  pub poll_at : (shared : Bool) (tick : ℕ) (b c : Core T W) (x : Expired T) → DoesPoll shared tick (Answer (CameOut x)) b c → OutAt b x
  poll_at shared tick b c x (accepted, note, answered, noted) = let left = answered.run.2 in out_at shared tick b answered.run.0 x left.1 answered.run.1 left.0.1

  pub polled_at : (Did : ℕ → Piece T → Core T W → Core T W → Type 0) (s t : CoreRow T W) (tick : ℕ) (made : Result (Piece T) CoreError)
      → ((limit : ℕ) (b c : Core T W) (x : Expired T) → Did limit (Answer (CameOut x)) b c → OutAt b x) → PollsRow Did s tick made t
      → IfPieceOut made (λ x. LeftAt s x.key.entry x.deadline)
  polled_at Did s t tick (Ok (Answer (CameOut x))) at polled =
      let noting = noting_in s tick in
      let core : PollsCore Did noting (Answer (CameOut x)) t =
      ⊎_elim (λ (r : RestsIn noting (Answer (CameOut x)) × (t ≡ noting)). absurd r.0) (λ (c : PollsCore Did noting (Answer (CameOut x)) t). c) polled.1 in
      let on = core.did in
      let P : Piece T → Type 0 = λ p. Did (min noting.noted core.others) p on.before on.after in
      let did = subst P (told_out noting.noted core.others core.made x core.tells) on.did in
      let f = at (min noting.noted core.others) on.before on.after x did in
      (f.0, (core.place, on.before, on.at, f.1), f.2)
  polled_at Did s t tick (Ok (Answer (Waiting next))) at polled = tt {0}
  polled_at Did s t tick (Ok (Answer Idle)) at polled = tt {0}
  polled_at Did s t tick (Ok Working) at polled = tt {0}
  polled_at Did s t tick (Err e) at polled = tt {0}

  -- the deadline with which a moved entry goes on, or comes out
  moved_at : (shared : Bool) (s t : CoreRow T W) (id : EntryId) (next : NextDeadline) (k : Key) (d : ℕ) (beside : Option T) → Relocates shared id next (Ok (To k d), beside) s t
      → KeepsItsDeadline next → LeftAt s id d
  moved_at shared s t id next k d beside (near, room, (x, m, taken, goes)) keeps =
      let P : ℕ → Type 0 = λ n. LeftAt s id n in
      subst P (next_same next x.deadline d keeps goes.0) (taken_at shared s m id x taken)

  out_moved_at : (shared : Bool) (s t : CoreRow T W) (id : EntryId) (next : NextDeadline) (y : Removed T) (beside : Option T) → Relocates shared id next (Ok (Out y), beside) s t
      → LeftAt s id y.deadline
  out_moved_at shared s t id next y beside (near, room, (x, m, taken, goes)) =
      let P : Removed T → Type 0 = λ n. LeftAt s id n.deadline in
      subst P (sym goes.1) (taken_at shared s m id x taken)

  -- calls of a store

  holds_users : (s t : StoreState T W) → ((q : EntryId) → RowRaises s.cores t.cores q)
      → ((q : EntryId) (e : Entry T) → HasEntry t.cores q e → user_at t.notes q ≡ user_at s.notes q) → (u : EntryId) → HoldsDeadline s t u
  holds_users s t up same u d none e z =
      let q = z.0 in
      let f = up q e z.2 in
      f.2 d (none f.0 (q, sym (same q e z.2) ∙ z.1, f.1))

  pub holds_noted : (s : StoreState T W) (cores : CoreRow T W) → ((q : EntryId) → RowRaises s.cores cores q) → HoldsDeadlines s (stored cores s.notes)
  holds_noted s cores up u given = holds_users s (stored cores s.notes) up (λ q e z. refl) u

  pub holds_reserved : (s : StoreState T W) (cores : CoreRow T W) (m : Book) → ((q : EntryId) → RowRaises s.cores cores q) → SameNotes s.notes m → HoldsDeadlines s (stored cores m)
  holds_reserved s cores m up same u given = holds_users s (stored cores m) up (λ q e z. ap (or_own q) (same.1 q)) u

  pub holds_forgotten : (s t : StoreState T W) (p : EntryId) (o : Option EntryId) → ((q : EntryId) → RowRaises s.cores t.cores q) → Forgets s.notes p o t.notes → HasNoEntry t.cores p
      → HoldsDeadlines s t
  holds_forgotten s t p o up f none u given =
      holds_users s t up (λ q e z. forgets_user s.notes t.notes p o f q (λ is. let P : EntryId → Type 0 = λ k. HasEntry t.cores k e in none e (subst P is z))) u

  pub holds_after : (s t : StoreState T W) (made : Result (Piece T) CoreError) → ((q : EntryId) → RowRaises s.cores t.cores q) → NotesAfter s.notes made t.notes
      → IfPieceOut made (LeavesRow s.cores t.cores) → HoldsDeadlines s t
  holds_after s t (Ok (Answer (CameOut x))) up after none u given = holds_forgotten s t x.key.entry after.0 up after.1 none.0 u given
  holds_after s t (Ok (Answer (Waiting next))) up after none u given = holds_users s t up (λ q e z. ap (λ n. user_at n q) after) u
  holds_after s t (Ok (Answer Idle)) up after none u given = holds_users s t up (λ q e z. ap (λ n. user_at n q) after) u
  holds_after s t (Ok Working) up after none u given = holds_users s t up (λ q e z. ap (λ n. user_at n q) after) u
  holds_after s t (Err e) up after none u given = holds_users s t up (λ q e z. ap (λ n. user_at n q) after) u

  -- an entry that leaves its place leaves the others as they were
  pub others_raise : (s t : CoreRow T W) (p : EntryId) (v : T) → OneLeaves (HasEntry s) (HasEntry t) p v → (q : EntryId) → RowRaises s t q
  others_raise s t p v l q e z =
      ⊎_elim
      (λ (is : q ≡ p). let P : EntryId → Type 0 = λ k. HasEntry t k e in absurd (l.gone e (subst P is z)))
      (λ (ne : q ≢ p). (e, l.others.1 q e ne z, (λ d h. h)))
      (one_or_two q p)

  -- a reset, of every entry but its own
  pub holds_reset : {O : Type 0} (origin : W → O) (begun : W → ℕ → ℕ → ℕ → Type 0) (shared : Bool) (s : StoreState T W) (cores : CoreRow T W) (u p : EntryId) (when : ℕ) (made : Result Key CoreError) (R : Type 0)
      → user_at s.notes p ≡ u → KeepsWords origin begun s.cores cores → OnCoreOr p.shard (λ b c. Resets shared b p when made c) R s.cores cores → HoldsOtherDeadlines u s (stored cores s.notes)
  holds_reset origin begun shared s cores u p when made R named words did w ne given d none e z =
      let q = z.0 in
      let far : q ≢ p = λ is. let P : EntryId → Type 0 = λ k. user_at s.notes k ≡ w in ne (sym (subst P is z.1) ∙ named) in
      let f = or_raises origin begun s.cores cores p.shard _ R q words did (λ b c same r. resets_there shared b c p q when made far same r) e z.2 in
      f.2 d (none f.0 (q, z.1, f.1))

  -- an entry that is reset isn't due before the deadline that it was given
  pub reset_due : {O : Type 0} (origin : W → O) (begun : W → ℕ → ℕ → ℕ → Type 0) (shared : Bool) (s : StoreState T W) (cores : CoreRow T W) (u p : EntryId) (when : ℕ) (k : Key) (R : Type 0)
      → IsStore s → AreCores cores → user_at s.notes p ≡ u → KeepsWords origin begun s.cores cores → (R → ⊥) → OnCoreOr p.shard (λ b c. Resets shared b p when (Ok k) c) R s.cores cores
      → NotDueBefore (stored cores s.notes) u when
  reset_due origin begun shared s cores u p when k R law has named words never (inl on) e z =
      let b = on.before in
      let c = on.after in
      let r = on.did in
      let m = r.run.0 in
      let step = r.run.2 in
      let stood = callers_raise shared b.slots.last_stamp p.index (machine b) m r.run.1 step.0 step.2.1 in
      let was : HasEntry s.cores p stood.0 = (on.place, b, on.at.0, record { shard = r.shard; linked = stood.1; born = stood.2 ∙ step.3 }) in
      let all : OnCoreOr p.shard (λ b c. Resets shared b p when (Ok k) c) R s.cores cores = inl on in
      ⊎_elim
      (λ (is : z.0 ≡ p).
      let P : EntryId → Type 0 = λ q. HasEntry cores q e in
      let here = subst P is z.2 in
      let M : CoreRow T W → Type 0 = λ x. IsCoreAt x.cores on.place c in
      let there : IsCoreAt cores.cores on.place c = subst M (sym on.rest) (set_there s.cores.cores on.place b c on.at.0) in
      let place = has.apart here.0 on.place here.1 c here.2 there (sym here.3.shard ∙ (r.shard ∙ sym r.same_shard)) in
      let A : ℕ → Type 0 = λ n. IsCoreAt cores.cores n here.1 in
      let same = one_at cores.cores on.place here.1 c (subst A place here.2) there in
      let C : Core T W → Type 0 = λ x. IsThere x p e in
      let linked = (subst C same here.3).linked in
      let now = ap (λ (x : TableRow T). x.entry) (put_same m (machine c) p.index _ _ step.2.0 step.6) in
      let entry = some_is _ e (sym now ∙ linked) in
      let D : Option ℕ → Type 0 = λ o. IsNotBefore when o in
      subst D (ap (λ (x : Entry T). x.due) entry) (omega arith))
      (λ (ne : z.0 ≢ p).
      let f = or_raises origin begun s.cores cores p.shard _ R z.0 words all (λ b c same x. resets_there shared b c p z.0 when (Ok k) ne same x) e z.2 in
      absurd (ne (apart s law z.0 p f.0 stood.0 f.1 was (z.1 ∙ sym named))))
      (one_or_two z.0 p)
  reset_due origin begun shared s cores u p when k R law has named words never (inr y) e z = absurd (never y.1)

  -- an insert
  pub holds_insert : {O : Type 0} (origin : W → O) (begun : W → ℕ → ℕ → ℕ → Type 0) (s : StoreState T W) (cores : CoreRow T W) (v : T) (when : ℕ) (r : Result Key (CoreError × T) × Option T)
      → KeepsWords origin begun s.cores cores → InsertsIn s.cores v when r cores → IfOk r.0 (λ k. ComesFor s k v when (stored cores s.notes))
      → IfOk r.0 (λ k. GivesId s k.entry (stored cores s.notes)) → HoldsDeadlines s (stored cores s.notes)
  holds_insert origin begun s cores v when (Ok k, beside) words did comes gives u given = λ d none e z.
      none e (comes.2.others.1 u e (λ is. let P : EntryId → Type 0 = λ x. IsUsedId s x in gives.0 (subst P is given)) z)
  holds_insert origin begun s cores v when (Err e, beside) words (inl on) comes gives u given =
      holds_noted s cores (λ q. on_raises origin begun s.cores cores s.cores.opened _ q words on (λ b c same x. there_raises b c q same (core_same b c x.0.2))) u given
  holds_insert origin begun s cores v when (Err e, beside) words (inr y) comes gives u given = holds_noted s cores (λ q. row_same s.cores cores q (ap (λ k. k.cores) y.2)) u given

  -- what leaves a place leaves its user's id so
  pub leaves_in_force : (s : StoreState T W) (u p : EntryId) (at : ℕ) → user_at s.notes p ≡ u → LeftAt s.cores p at → LeavesInForce s u at
  leaves_in_force s u p at named left d none = left.2 d (none left.0 (p, named, left.1))

  pub piece_in_force : (s : StoreState T W) (made : Result (Piece T) CoreError) → IfPieceOut made (λ x. LeftAt s.cores x.key.entry x.deadline)
      → IfPieceOut (piece_as s.notes made) (λ x. LeavesInForce s x.key.entry x.deadline)
  piece_in_force s (Ok (Answer (CameOut x))) left = leaves_in_force s (user_at s.notes x.key.entry) x.key.entry x.deadline refl left
  piece_in_force s (Ok (Answer (Waiting next))) left = tt {0}
  piece_in_force s (Ok (Answer Idle)) left = tt {0}
  piece_in_force s (Ok Working) left = tt {0}
  piece_in_force s (Err e) left = tt {0}

  -- an entry that comes in isn't due before the deadline that it was given
  pub comes_due : (s t : StoreState T W) (v : T) (when : ℕ) (r : Result Key (CoreError × T)) → IsStore t → AreCores t.cores → IfOk r (λ k. ComesFor s k v when t)
      → IfOk r (λ k. NotDueBefore t k.entry when)
  comes_due s t v when (Ok k) law has comes = λ e z.
      let raised = comes.1.2 in
      let base : when ≤ comes.0 = omega (arith, raised) in
      let now : Entry T = record { born = k.entry.born; value = v; due = Some comes.0 } in
      let same : now ≡ e = one_entry t law has k.entry now e comes.2.here z in
      let P : Option ℕ → Type 0 = λ o. IsNotBefore when o in
      subst P (ap (λ (x : Entry T). x.due) same) base
  comes_due s t v when (Err e) law has comes = tt {0}

  -- an entry that goes on isn't due before the deadline that is told
  pub going_due : (s t : StoreState T W) (w : EntryId) (d : ℕ) → IsStore t → AreCores t.cores → GoesOnFor s w d t → NotDueBefore t w d
  going_due s t w d law has goes e z =
      let raised = goes.raised.2 in
      let base : d ≤ goes.base = omega (arith, raised) in
      let same = one_entry t law has w goes.here.0 e goes.here.1 z in
      let P : Option ℕ → Type 0 = λ o. IsNotBefore d o in
      subst P (sym (sym (ap (λ (k : Entry T). k.due) same) ∙ goes.here.3)) base

  -- an entry goes on with the deadline that it had
  pub holds_going : (s t : StoreState T W) (w : EntryId) (d : ℕ) → IsStore t → AreCores t.cores → GoesOnFor s w d t → (u : EntryId) → (u ≡ w → LeavesInForce s w d) → HoldsDeadline s t u
  holds_going s t w d law has goes u told x none e z =
      ⊎_elim
      (λ (is : u ≡ w).
      let N : EntryId → Type 0 = λ k. NotDueBefore s k x in
      let S : EntryId → Type 0 = λ k. StandsFor t k e in
      let low : x ≤ d = told is x (subst N is none) in
      not_sooner x d e.due low (going_due s t w d law has goes e (subst S is z)))
      (λ (ne : u ≢ w). none e (goes.others.1 u e ne z))
      (one_or_two u w)

  -- a change of a value, by its answer: the entry has the deadline that it had
  pub changed_hold : {R : Type 0} (Makes : T → R → T → Type 0) (s t : StoreState T W) (u : EntryId) (r : Option R) → IsStore t → AreCores t.cores → ChangesFor Makes s u r t → HoldsDeadlines s t
  changed_hold {R} Makes s t u None law has did w given x none e z = let P : StoreState T W → Type 0 = λ k. StandsFor k w e in none e (subst P did.1 z)
  changed_hold {R} Makes s t u (Some a) law has did w given x none e z =
      ⊎_elim
      (λ (is : w ≡ u).
      let S : EntryId → Type 0 = λ k. StandsFor t k e in
      let N : EntryId → Type 0 = λ k. NotDueBefore s k x in
      let was : Entry T = did.entry in
      let now : Entry T = record was { value = did.value } in
      let same : now ≡ e = one_entry t law has u now e did.here (subst S is z) in
      let D : Option ℕ → Type 0 = λ o. IsNotBefore x o in
      subst D (ap (λ (k : Entry T). k.due) same) ((subst N is none) was did.was))
      (λ (ne : w ≢ u). none e (did.others.1 w e ne z))
      (one_or_two w u)

  relocation_raises : {O : Type 0} (origin : W → O) (begun : W → ℕ → ℕ → ℕ → Type 0) (shared : Bool) (s t : CoreRow T W) (id : EntryId) (next : NextDeadline) (e : CoreError) (beside : Option T)
      → KeepsWords origin begun s t → Relocates shared id next (Err e, beside) s t → (q : EntryId) → RowRaises s t q
  relocation_raises origin begun shared s t id next (TooFar limit) beside words r q = row_same s t q (ap (λ k. k.cores) r.3)
  relocation_raises origin begun shared s t id next (Full linked worn) beside words r q = row_same s t q (ap (λ k. k.cores) r.3)
  relocation_raises origin begun shared s t id next Missing beside words r q = each_raises origin begun s t id.shard _ _ words r.3 (λ b c x. refused_raises shared b c id Missing x) q
  relocation_raises origin begun shared s t id next WasCancelled beside words r q = each_raises origin begun s t id.shard _ _ words r.3 (λ b c x. refused_raises shared b c id WasCancelled x) q
  relocation_raises origin begun shared s t id next Worn beside words r q = each_raises origin begun s t id.shard _ _ words r.3 (λ b c x. refused_raises shared b c id Worn x) q
  relocation_raises origin begun shared s t id next (TickTooLarge limit) beside words r q = each_raises origin begun s t id.shard _ _ words r.3 (λ b c x. refused_raises shared b c id (TickTooLarge limit) x) q
  relocation_raises origin begun shared s t id next BadConfig beside words r q = each_raises origin begun s t id.shard _ _ words r.3 (λ b c x. refused_raises shared b c id BadConfig x) q
  relocation_raises origin begun shared s t id next NoMemory beside words r q = each_raises origin begun s t id.shard _ _ words r.3 (λ b c x. refused_raises shared b c id NoMemory x) q

  -- a move, by its answer
  module _ {O : Type 0} (origin : W → O) (begun : W → ℕ → ℕ → ℕ → Type 0) (shared : Bool) (s : StoreState T W) (cores : CoreRow T W) (n m : Book) (u p : EntryId) (next : NextDeadline) (law : IsStore s)
      (at : meant_place s.notes u ≡ Some p) (same : SameNotes s.notes n) where
    pub holds_moved : (made : Result (Moved T) CoreError) (beside : Option T) → IsStore (stored cores m) → AreCores cores → KeepsWords origin begun s.cores cores → NotesAnswered n u p made m
        → Relocates shared p next (made, beside) s.cores cores → IfOk made (λ x. IfTo x (λ k d. GoesOnIn s.cores p k d cores))
        → IfOk made (λ x. IfCameOut x (λ y. OneLeaves (HasEntry s.cores) (HasEntry cores) p y.value)) → (w : EntryId) → (w ≡ u → KeepsItsDeadline next) → HoldsDeadline s (stored cores m) w
    holds_moved (Ok (To k d)) beside law' has words noted did goes out w keeps =
        holds_going s (stored cores m) u d law' has (goes_on_for s cores n m u p k d law at goes same noted) w
        (λ is. leaves_in_force s u p d (place_is s.notes u p law.noted at) (moved_at shared s.cores cores p next k d beside did (keeps is)))
    holds_moved (Ok (Out x)) beside law' has words noted did goes out w keeps =
        holds_users s (stored cores m) (others_raise s.cores cores p x.value out)
        (λ q e z. forgets_user s.notes m p noted.0 (reserved_forgets s.notes n m p noted.0 same noted.1) q (λ is. let P : EntryId → Type 0 = λ k. HasEntry cores k e in out.gone e (subst P is z))) w
    holds_moved (Err e) beside law' has words noted did goes out w keeps =
        holds_users s (stored cores m) (relocation_raises origin begun shared s.cores cores p next e beside words did) (λ q f z. ap (or_own q) ((then_same s.notes n m same noted).1 q)) w

    -- where the entry isn't in again, no deadline fell
    pub holds_unless : (made : Result (Moved T) CoreError) (beside : Option T) → IsStore (stored cores m) → AreCores cores → KeepsWords origin begun s.cores cores → NotesAnswered n u p made m
        → Relocates shared p next (made, beside) s.cores cores → IfOk made (λ x. IfTo x (λ k d. GoesOnIn s.cores p k d cores))
        → IfOk made (λ x. IfCameOut x (λ y. OneLeaves (HasEntry s.cores) (HasEntry cores) p y.value)) → UnlessTo (answer_as u made) (HoldsDeadlines s (stored cores m))
    holds_unless (Ok (To k d)) beside law' has words noted did goes out = tt {0}
    holds_unless (Ok (Out x)) beside law' has words noted did goes out = λ w given.
        holds_users s (stored cores m) (others_raise s.cores cores p x.value out)
        (λ q e z. forgets_user s.notes m p noted.0 (reserved_forgets s.notes n m p noted.0 same noted.1) q (λ is. let P : EntryId → Type 0 = λ k. HasEntry cores k e in out.gone e (subst P is z))) w
    holds_unless (Err e) beside law' has words noted did goes out = λ w given.
        holds_users s (stored cores m) (relocation_raises origin begun shared s.cores cores p next e beside words did) (λ q f z. ap (or_own q) ((then_same s.notes n m same noted).1 q)) w

    pub moved_due : (made : Result (Moved T) CoreError) → IsStore (stored cores m) → AreCores cores → NotesAnswered n u p made m
        → IfOk made (λ x. IfTo x (λ k d. GoesOnIn s.cores p k d cores)) → IfOk (answer_as u made) (λ x. IfTo x (λ k d. NotDueBefore (stored cores m) u d))
    moved_due (Ok (To k d)) law' has noted goes = going_due s (stored cores m) u d law' has (goes_on_for s cores n m u p k d law at goes same noted)
    moved_due (Ok (Out x)) law' has noted goes = tt {0}
    moved_due (Err e) law' has noted goes = tt {0}

    pub told_in_force : (made : Result (Moved T) CoreError) (beside : Option T) → Relocates shared p next (made, beside) s.cores cores → KeepsItsDeadline next
        → IfOk (answer_as u made) (λ x. IfTo x (λ k d. LeavesInForce s u d))
    told_in_force (Ok (To k d)) beside did keeps = leaves_in_force s u p d (place_is s.notes u p law.noted at) (moved_at shared s.cores cores p next k d beside did keeps)
    told_in_force (Ok (Out x)) beside did keeps = tt {0}
    told_in_force (Err e) beside did keeps = tt {0}

    pub out_in_force : (made : Result (Moved T) CoreError) (beside : Option T) → Relocates shared p next (made, beside) s.cores cores
        → IfOk (answer_as u made) (λ x. IfCameOut x (λ y. LeavesInForce s u y.deadline))
    out_in_force (Ok (To k d)) beside did = tt {0}
    out_in_force (Ok (Out x)) beside did = leaves_in_force s u p x.deadline (place_is s.notes u p law.noted at) (out_moved_at shared s.cores cores p next x beside did)
    out_in_force (Err e) beside did = tt {0}

  -- a core comes in, or leaves
  pub holds_takes : (s : StoreState T W) (cores : CoreRow T W) (c : Core T W) (r : Result (Unit {0}) (TakeError × Core T W)) → IsLawfulCore c
      → OnOk r (TakesIn s.cores c cores) → IfErr r (λ e. TakeRefused s.cores c e.0 × (e.1 ≡ c) × (cores ≡ s.cores)) → HoldsDeadlines s (stored cores s.notes)
  holds_takes s cores c (Ok done) lawful takes refused = holds_noted s cores (λ q e z.
      let P : List (Core T W) → Type 0 = λ l. IsCoreAt l z.0 z.1 in
      ⊎_elim
      (λ (y : IsCoreAt s.cores.cores z.0 z.1). (e, (z.0, z.1, y, z.3), (λ d h. h)))
      (λ (y : (z.0 ≡ length s.cores.cores) × (c ≡ z.1)). let N : Core T W → Type 0 = λ k. (v : EntryId) (f : Entry T) → IsThere k v f → ⊥ in
      absurd ((subst N y.1 (unlinked c lawful takes.may.0)) q e z.3))
      (at_snoc s.cores.cores c z.1 z.0 (subst P takes.cores z.2)))
  holds_takes s cores c (Err e) lawful takes refused = holds_noted s cores (λ q. row_same s.cores cores q (ap (λ k. k.cores) refused.2))

  -- a core comes in with nothing linked, and another one may be open
  pub comes_hold : (s t : StoreState T W) (c : Core T W) → IsLawfulCore c → ComesInto s c t → HoldsDeadlines s t
  comes_hold s t c lawful comes u given =
      holds_users s t (λ q e z.
      let P : List (Core T W) → Type 0 = λ l. IsCoreAt l z.0 z.1 in
      ⊎_elim
      (λ (y : IsCoreAt s.cores.cores z.0 z.1). (e, (z.0, z.1, y, z.3), (λ d h. h)))
      (λ (y : (z.0 ≡ length s.cores.cores) × (c ≡ z.1)). let N : Core T W → Type 0 = λ k. (v : EntryId) (f : Entry T) → IsThere k v f → ⊥ in
      absurd ((subst N y.1 (unlinked c lawful comes.2.0)) q e z.3))
      (at_snoc s.cores.cores c z.1 z.0 (subst P comes.0 z.2)))
      (λ q e z. ap (λ n. user_at n q) comes.1) u

  pub opened_comes : (s m t : StoreState T W) (c : Core T W) (o : Bool) (place : ℕ) → TakesIn s.cores c m.cores → m.notes ≡ s.notes
      → (o ≡ true → (place < length m.cores.cores) × (t.cores ≡ record m.cores { opened = place })) → (o ≡ false → (length m.cores.cores ≤ place) × (t.cores ≡ m.cores))
      → t.notes ≡ m.notes → ComesInto s c t
  opened_comes s m t c true place takes notes opens refused same = (ap (λ k. k.cores) (opens refl).1 ∙ takes.cores, same ∙ notes, takes.may, ap (λ k. k.next) (opens refl).1 ∙ takes.next, ap (λ k. k.noted) (opens refl).1 ∙ takes.noted)
  opened_comes s m t c false place takes notes opens refused same = (ap (λ k. k.cores) (refused refl).1 ∙ takes.cores, same ∙ notes, takes.may, ap (λ k. k.next) (refused refl).1 ∙ takes.next, ap (λ k. k.noted) (refused refl).1 ∙ takes.noted)

  pub given_raises : (s t : CoreRow T W) (o : Option (Core T W)) → IfSome o (λ c. GivesDrained s c t) → IfNone o (NoneDrained s × (t ≡ s)) → (q : EntryId) → RowRaises s t q
  given_raises s t (Some c) gives none q = λ e z.
      let P : CoreRow T W → Type 0 = λ r. IsCoreAt r.cores z.0 z.1 in
      ⊎_elim
      (λ (y : (z.0 < gives.place) × IsCoreAt s.cores z.0 z.1). (e, (z.0, z.1, y.1, z.3), (λ d h. h)))
      (λ (y : (gives.place ≤ z.0) × IsCoreAt s.cores (z.0 + 1) z.1). (e, (z.0 + 1, z.1, y.1, z.3), (λ d h. h)))
      (removed_at s.cores gives.place z.0 z.1 gives.drained.0.0 (subst P gives.rest z.2))
  given_raises s t None gives none q = row_same s t q (ap (λ k. k.cores) none.1)

  pub opened_raises : (s t : CoreRow T W) (o : Bool) (place : ℕ) → (o ≡ true → (place < length s.cores) × (t ≡ record s { opened = place }))
      → (o ≡ false → (length s.cores ≤ place) × (t ≡ s)) → (q : EntryId) → RowRaises s t q
  opened_raises s t true place opens refused q = row_same s t q (ap (λ k. k.cores) (opens refl).1)
  opened_raises s t false place opens refused q = row_same s t q (ap (λ k. k.cores) (refused refl).1)

  -- a value that was deferred is taken out
  pub deferred_raises : (s t : CoreRow T W) (o : Option T) → TakesDeferredIn s o t → (q : EntryId) → RowRaises s t q
  deferred_raises s t None did q = row_same s t q (ap (λ k. k.cores) did.1)
  deferred_raises s t (Some v) did q =
      let on = did.1 in
      let same = on.did.1 in
      let A : CoreRow T W → Type 0 = λ k. RowRaises s k q in
      subst A (sym on.rest)
      (row_raises s did.0 on.before on.after q on.at
      (there_raises on.before on.after q (ap (λ k. k.shard) same) (λ i. raises_same _ _ (ap (λ k. table_at (machine k) i) same))))

  pub swept_raises : {O : Type 0} (origin : W → O) (begun : W → ℕ → ℕ → ℕ → Type 0) (shared : Bool) (s t : CoreRow T W) (place from end : ℕ) (o : Option Swept) → KeepsWords origin begun s t
      → MatchOption o ((length s.cores ≤ place) × (t ≡ s)) (λ w. OnCoreAt place (SweepsFrom shared from end w) s t) → (q : EntryId) → RowRaises s t q
  swept_raises origin begun shared s t place from end None words did q = row_same s t q (ap (λ k. k.cores) did.1)
  swept_raises origin begun shared s t place from end (Some w) words did q =
      on_raises origin begun s t place _ q words did (λ b c same x. there_raises b c q same (sweeps_raise shared b c from end w.reaped x.0))

  -- a call after a call
  pub then_others_hold : (s m t : StoreState T W) (id : EntryId) → KeepsIds s m → HoldsOtherDeadlines id s m → HoldsOtherDeadlines id m t → HoldsOtherDeadlines id s t
  then_others_hold s m t id keeps one two u ne given d none = two u ne (keeps u given).given d (one u ne given d none)

  pub then_hold : (s m t : StoreState T W) → KeepsIds s m → HoldsDeadlines s m → HoldsDeadlines m t → HoldsDeadlines s t
  then_hold s m t keeps one two u given d none = two u (keeps u given).given d (one u given d none)

-- the answer of a reset that went on as a move
pub told_unless : {T P Q : Type 0} (r : Result (Moved T) CoreError) → (P → Q) → UnlessTo r P → OnErr (key_told r) Q
told_unless (Ok (To k d)) f x = tt {0}
told_unless (Ok (Out y)) f x = f x
told_unless (Err e) f x = f x

abbrev told_or : {T : Type 0} → ℕ → Result (Moved T) CoreError → ℕ
told_or other (Ok (To k d)) = d
told_or other (Ok (Out x)) = other
told_or other (Err e) = other

asked_by : {T W : Type 0} (shared : Bool) (s t : CoreRow T W) (u p : EntryId) (when : ℕ) (k : Key) (d : ℕ) (made : Result (Moved T) CoreError) (beside : Option T)
    → Relocates shared p (At when) (made, beside) s t → Ok (To k d) ≡ answer_as u made → when ≡ d
asked_by shared s t u p when k d (Ok (To l x)) beside (near, room, (y, m, taken, goes)) is = some_is when x goes.0 ∙ sym (ap (told_or 0) is)
asked_by {T} shared s t u p when k d (Ok (Out y)) beside did is =
    let P : Result (Moved T) CoreError → Type 0 = λ r. IfOk r (λ m. IfCameOut m (λ x. ⊥)) in absurd (subst P is (tt {0}))
asked_by shared s t u p when k d (Err e) beside did is = absurd (ok_not_err (To k d) e is)

asked_at : {T W : Type 0} (shared : Bool) (s t : StoreState T W) (u : EntryId) (when : ℕ) (k : Key) (d : ℕ) (beside : Option T)
    → RelocatesFor shared s u (At when) (Ok (To k d), beside) t → when ≡ d
asked_at shared s t u when k d beside (inl (p, at, inl (is, cores, notes, room))) = absurd (ok_not_err (To k d) NoMemory (ap (λ y. y.0) is))
asked_at shared s t u when k d beside (inl (p, at, inr (made, did, is, notes))) = asked_by shared s.cores t.cores u p when k d made beside did is
asked_at shared s t u when k d beside (inr (none, (is, same))) = absurd (ok_not_err (To k d) Missing (ap (λ y. y.0) is))

-- a move for which a deadline is asked goes on with that one
pub asked : {T W : Type 0} (shared : Bool) (s t : StoreState T W) (u : EntryId) (when : ℕ) (r : Result (Moved T) CoreError) (beside : Option T) (P : ℕ → Type 0)
    → RelocatesFor shared s u (At when) (r, beside) t → IfOk r (λ x. IfTo x (λ k d. P d)) → OnOk (key_told r) (P when)
asked shared s t u when (Err e) beside P did due = tt {0}
asked shared s t u when (Ok (Out y)) beside P did due = tt {0}
asked {T} shared s t u when (Ok (To k d)) beside P did due = subst P (sym (asked_at shared s t u when k d beside did)) due
