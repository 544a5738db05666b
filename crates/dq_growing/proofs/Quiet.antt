-- What no call but an insert or a reset does: give an entry an earlier deadline. So where no live entry has a deadline before
-- a tick, none has after it.
use Rattle.std.specs.Prelude.{unwrap_or, OnOk}
use Rattle.dq_growing.specs.declared.TheConstants.{NEVER}
use Rattle.std.proofs.Common.{◌≡◌, ◌≢◌, ℕ, ◌<◌, ◌≤◌, Bool, List, [], ◌∷◌, length, max, min, nat_eq, true, false, IfSome, Option, Some, None, Result, Ok, Err, refl, sym, ap, ◌∙◌, subst, inl, inr, ⊎_elim, arith}
use Rattle.std.specs.List.{AllByRecursion}
use Rattle.dq_ticks.specs.declared.keys.Key.{Key}
use Rattle.dq_ticks.specs.declared.keys.EntryId.{EntryId}
use Rattle.dq_core.specs.declared.errors.CoreError.{CoreError}
use Rattle.dq_core.specs.declared.errors.CoreError.TheVariants.{TooFar, Full, Missing, WasCancelled, Worn, TickTooLarge, BadConfig, NoMemory}
use Rattle.dq_core.specs.declared.errors.ReapError.{ReapError}
use Rattle.dq_core.specs.declared.errors.ReapError.TheVariants.{Missing as NotThere, Live}
use Rattle.dq_core.specs.declared.outcomes.Removed.{Removed}
use Rattle.dq_core.specs.Machine.{Entry, Machine, Event, Note, Pass, Insert, Reset, Extend, Cancel, Remove, Reap, Expire, table_at, put, NoneLiveBefore, Step, Run, RunOf, IsCallers, IsOnTheWay, IsReaping}
use Rattle.dq_core.specs.Core.{Core, machine}
use Rattle.dq_core.specs.Calls.{Inserts, Removes, RemovesIfDue, Resets, TellsDeadline, FindRefused, Polls, IsTurn, noting}
use Rattle.dq_core.specs.Sweeps.{Reaps, SweepsSome, Clears}
use Rattle.dq_core.specs.Values.{ChangesEntry, ChangesValue}
use Rattle.dq_core.proofs.RunsMoves.{put_same, put_other}
use Rattle.std.proofs.lemmas.Bool.{cases_eq}
use Rattle.std.proofs.lemmas.Bool.Decides.{nat_tests}
use Rattle.dq_core.specs.declared.outcomes.Turn.{Turn}
use Rattle.dq_core.specs.declared.outcomes.Turn.TheVariants.{Out, Waiting, Idle}
use Rattle.dq_core.specs.declared.outcomes.Piece.{Piece}
use Rattle.dq_core.specs.declared.outcomes.Piece.TheVariants.{Answer, Working}
use Rattle.dq_wheel.specs.State.{Filing}
use Rattle.dq_core.specs.Pieces.{PollsSome}
use Rattle.dq_growing.specs.Cores.{CoreRow, IsCoreAt, with_core, lowered_to}
use Rattle.dq_growing.specs.Polls.{OthersAreQuiet, AreBounded, KeepsTurns, TurnState, bound_at, WakeBounds}
use Rattle.dq_growing.specs.declared.cores.TheConstants.{KNOWN}
use Rattle.dq_wheel.proofs.Links.{nat_le_or_lt}
use Rattle.dq_growing.proofs.Rows.{at_after, one_at}
use Rattle.dq_growing.proofs.Leasts.{earlier, none_ever}

is_equal : (i j : ℕ) → i ≡ j → nat_eq i j ≡ true
is_equal i j same = grind (arith, nat_tests)

is_unequal : (i j : ℕ) → i ≢ j → nat_eq i j ≡ false
is_unequal i j other = grind (arith, nat_tests)

by_slot : (P : ℕ → Type 0) (i j : ℕ) → P j → (i ≢ j → P i) → P i
by_slot P i j here others = elim (cases_eq i j) [ inl same ↦ subst P (sym same) here | inr other ↦ others other ]

module _ {T : Type 0} where
  -- an event gives no entry a deadline before t
  pub IsLate : ℕ → Event T → Type 0
  IsLate t (Insert i v when) = t ≤ when
  IsLate t (Reset i b when) = t ≤ when
  IsLate t (Note n) = Unit {0}
  IsLate t (Pass n) = Unit {0}
  IsLate t (Extend i s when) = Unit {0}
  IsLate t (Cancel i s) = Unit {0}
  IsLate t (Remove i b) = Unit {0}
  IsLate t (Reap i b) = Unit {0}
  IsLate t (Expire i b at) = Unit {0}

  pub same_table : (m k : Machine T) (t : ℕ) → ((i : ℕ) → table_at k i ≡ table_at m i) → NoneLiveBefore m t → NoneLiveBefore k t
  same_table m k t same before i e d linked due = before i e d (sym (ap (λ x. x.entry) (same i)) ∙ linked) due

  pub put_late : (m k : Machine T) (j s t : ℕ) (o : Option (Entry T)) → j < length m.table → k ≡ put m j s o
      → ((e : Entry T) (d : ℕ) → o ≡ Some e → e.due ≡ Some d → t ≤ d) → NoneLiveBefore m t → NoneLiveBefore k t
  put_late m k j s t o inside is own before i =
      by_slot (λ x. (e : Entry T) (d : ℕ) → (table_at k x).entry ≡ Some e → e.due ≡ Some d → t ≤ d) i j
      (λ e d linked due. own e d (sym (ap (λ x. x.entry) (put_same m k j s o inside is)) ∙ linked) due)
      (λ other e d linked due. before i e d (sym (ap (λ x. x.entry) (put_other m k i j s o other is)) ∙ linked) due)

  -- an entry that is live until d
  pub live_late : (t d : ℕ) (o : Option (Entry T)) (f : Entry T) → o ≡ Some f → f.due ≡ Some d → t ≤ d
      → (e : Entry T) (x : ℕ) → o ≡ Some e → e.due ≡ Some x → t ≤ x
  live_late t d o f is until late e x same due = let y : d ≡ x = cc in omega arith

  pub none_late : (t : ℕ) (o : Option (Entry T)) → o ≡ None → (e : Entry T) (x : ℕ) → o ≡ Some e → e.due ≡ Some x → t ≤ x
  none_late t o none e x same due = let y : ⊥ = cc in absurd y

  pub over_late : (t : ℕ) (o : Option (Entry T)) (f : Entry T) → o ≡ Some f → f.due ≡ None → (e : Entry T) (x : ℕ) → o ≡ Some e → e.due ≡ Some x
      → t ≤ x
  over_late t o f is over e x same due = let y : ⊥ = cc in absurd y

  pub late_step : (last : ℕ) (m k : Machine T) (e : Event T) (t : ℕ) → IsLate t e → Step last m e k → NoneLiveBefore m t → NoneLiveBefore k t
  unfolding IsLate
  late_step last m k (Note n) t late s before = same_table m k t (λ i. ap (λ x. table_at x i) s) before
  late_step last m k (Pass n) t late s before = same_table m k t (λ i. ap (λ x. table_at x i) s.3) before
  late_step last m k (Insert j v w) t late s before =
      put_late m k j _ t _ s.0 s.3 (live_late t (max w m.tick) _ _ refl refl (omega arith)) before
  late_step last m k (Reset j b w) t late s before =
      put_late m k j _ t _ s.2.0 s.6 (live_late t (max w m.tick) _ _ refl refl (omega arith)) before
  late_step last m k (Extend j st w) t late s before =
      let had : t ≤ s.1 = before j s.0 s.1 s.2.1 s.4 in
      put_late m k j _ t _ s.2.0 s.5 (live_late t (max w s.1) _ _ refl refl (omega arith)) before
  late_step last m k (Cancel j st) t late s before = put_late m k j _ t _ s.2.0 s.5 (over_late t _ _ refl refl) before
  late_step last m k (Remove j b) t late s before = put_late m k j _ t _ s.2.0 s.5 (none_late t _ refl) before
  late_step last m k (Reap j b) t late s before = put_late m k j _ t _ s.1.0 s.4 (none_late t _ refl) before
  late_step last m k (Expire j b at) t late s before = put_late m k j _ t _ s.1.0 s.7 (none_late t _ refl) before

  pub late_run : (P : Event T → Type 0) (last t : ℕ) → ((e : Event T) → P e → IsLate t e) → (m k : Machine T) (es : List (Event T))
      → AllByRecursion P es → Run last m es k → NoneLiveBefore m t → NoneLiveBefore k t
  late_run P last t late m k [] all run before = let M : Machine T → Type 0 = λ x. NoneLiveBefore x t in subst M (sym run) before
  late_run P last t late m k (e ∷ es) all run before =
      late_run P last t late run.0 k es all.1 run.2 (late_step last m run.0 e t (late e all.0) run.1 before)

  callers_late : (shared : Bool) (t : ℕ) (e : Event T) → IsCallers shared e → IsLate t e
  unfolding IsLate
  callers_late shared t (Extend i s w) h = tt {0}
  callers_late shared t (Cancel i s) h = tt {0}
  callers_late shared t (Insert i v w) h = absurd h
  callers_late shared t (Reset i b w) h = absurd h
  callers_late shared t (Note n) h = absurd h
  callers_late shared t (Pass n) h = absurd h
  callers_late shared t (Remove i b) h = absurd h
  callers_late shared t (Reap i b) h = absurd h
  callers_late shared t (Expire i b at) h = absurd h

  reaping_late : (shared : Bool) (t : ℕ) (e : Event T) → IsReaping shared e → IsLate t e
  unfolding IsLate
  reaping_late shared t (Reap i b) h = tt {0}
  reaping_late shared t (Extend i s w) h = tt {0}
  reaping_late shared t (Cancel i s) h = tt {0}
  reaping_late shared t (Insert i v w) h = absurd h
  reaping_late shared t (Reset i b w) h = absurd h
  reaping_late shared t (Note n) h = absurd h
  reaping_late shared t (Pass n) h = absurd h
  reaping_late shared t (Remove i b) h = absurd h
  reaping_late shared t (Expire i b at) h = absurd h

  pub run_late : (shared : Bool) (last t : ℕ) (m k : Machine T) → RunOf (IsCallers shared) last m k → NoneLiveBefore m t → NoneLiveBefore k t
  run_late shared last t m k run before = late_run (IsCallers shared) last t (callers_late shared t) m k run.0 run.1 run.2 before

  way_late : (shared : Bool) (t : ℕ) (e : Event T) → IsOnTheWay shared e → IsLate t e
  unfolding IsLate
  way_late shared t (Reap i b) h = tt {0}
  way_late shared t (Pass n) h = tt {0}
  way_late shared t (Extend i s w) h = tt {0}
  way_late shared t (Cancel i s) h = tt {0}
  way_late shared t (Insert i v w) h = absurd h
  way_late shared t (Reset i b w) h = absurd h
  way_late shared t (Note n) h = absurd h
  way_late shared t (Remove i b) h = absurd h
  way_late shared t (Expire i b at) h = absurd h

  pub ways_late : (shared : Bool) (last t : ℕ) (m k : Machine T) → RunOf (IsOnTheWay shared) last m k → NoneLiveBefore m t → NoneLiveBefore k t
  ways_late shared last t m k run before = late_run (IsOnTheWay shared) last t (way_late shared t) m k run.0 run.1 run.2 before

  pub turn_late : (shard last t : ℕ) (m n : Machine T) (turn : Turn T) (w : Filing) → IsTurn shard last m turn n w → NoneLiveBefore m t → NoneLiveBefore n t
  unfolding IsLate
  turn_late shard last t m n (Out x) w is before =
      late_step last m n (Expire x.key.entry.index x.key.entry.born x.deadline) t (tt {0}) is.0.0 before
  turn_late shard last t m n (Waiting next) w is before = let M : Machine T → Type 0 = λ x. NoneLiveBefore x t in subst M (sym is.0) before
  turn_late shard last t m n Idle w is before = let M : Machine T → Type 0 = λ x. NoneLiveBefore x t in subst M (sym is.0) before

  pub reaps_late : (shared : Bool) (last t : ℕ) (m k : Machine T) → RunOf (IsReaping shared) last m k → NoneLiveBefore m t → NoneLiveBefore k t
  reaps_late shared last t m k run before = late_run (IsReaping shared) last t (reaping_late shared t) m k run.0 run.1 run.2 before

-- what holds holds of an accepted call
pub on_ok : {X E : Type 0} (P : Type 0) (r : Result X E) → P → OnOk r P
on_ok P (Ok x) p = p
on_ok P (Err e) p = tt {0}

-- before tick 0 nothing is live
pub quiet_fresh : {T : Type 0} (m : Machine T) (u : ℕ) → u ≡ 0 → NoneLiveBefore m u
quiet_fresh m u none i e d linked due = omega arith

-- a core has nothing live before it wakes
pub quiet_wake : {T W : Type 0} (c : Core T W) (r : Option ℕ) → WakeBounds c r → NoneLiveBefore (machine c) (unwrap_or r NEVER)
quiet_wake c None bounds = none_ever (machine c) NEVER bounds
quiet_wake c (Some w) bounds = bounds.0

module _ {T W : Type 0} (shared : Bool) (b c : Core T W) (t : ℕ) (before : NoneLiveBefore (machine b) t) where
  unchanged : c ≡ b → NoneLiveBefore (machine c) t
  unchanged same = let P : Core T W → Type 0 = λ k. NoneLiveBefore (machine k) t in subst P (sym same) before

  pub find_refused_late : (id : EntryId) (e : CoreError) → FindRefused shared b id e c → NoneLiveBefore (machine c) t
  find_refused_late id Missing r = unchanged r.1
  find_refused_late id WasCancelled r = run_late shared b.slots.last_stamp t (machine b) (machine c) r.looked.callers before
  find_refused_late id (TooFar l) r = absurd r
  find_refused_late id (Full l w) r = absurd r
  find_refused_late id Worn r = absurd r
  find_refused_late id (TickTooLarge l) r = absurd r
  find_refused_late id BadConfig r = absurd r
  find_refused_late id NoMemory r = absurd r

  pub removes_late : (id : EntryId) (r : Result (Removed T) CoreError) → Removes shared b id r c → NoneLiveBefore (machine c) t
  unfolding IsLate
  removes_late id (Ok x) r =
      let mid = run_late shared b.slots.last_stamp t (machine b) r.run.0 r.run.1 before in
      late_step b.slots.last_stamp r.run.0 (machine c) (Remove id.index id.born) t (tt {0}) r.run.2 mid
  removes_late id (Err e) r = find_refused_late id e r

  pub tells_late : (id : EntryId) (r : Result ℕ CoreError) → TellsDeadline shared b id r c → NoneLiveBefore (machine c) t
  tells_late id (Ok d) r = run_late shared b.slots.last_stamp t (machine b) (machine c) r.looked.callers before
  tells_late id (Err e) r = find_refused_late id e r

  pub dues_late : (id : EntryId) (tick : ℕ) (r : Result (Option (Removed T)) CoreError) → RemovesIfDue shared b id tick r c → NoneLiveBefore (machine c) t
  dues_late id tick (Ok (Some x)) r = removes_late id (Ok x) r.1
  dues_late id tick (Ok None) r = tells_late id (Ok r.0) r.2
  dues_late id tick (Err e) r = find_refused_late id e r

  pub inserts_late : (v : T) (when : ℕ) (r : Result Key (CoreError × T)) → OnOk r (t ≤ when) → Inserts b v when r c → NoneLiveBefore (machine c) t
  unfolding IsLate
  inserts_late v when (Ok k) late r =
      late_step b.slots.last_stamp (machine b) (machine c) (Insert k.entry.index v when) t late r.step before
  inserts_late v when (Err e) late r = unchanged r.2

  pub reset_refused_late : (id : EntryId) (when : ℕ) (e : CoreError) → Resets shared b id when (Err e) c → NoneLiveBefore (machine c) t
  reset_refused_late id when (TooFar l) r = unchanged r.2
  reset_refused_late id when Missing r = unchanged r.2
  reset_refused_late id when WasCancelled r = run_late shared b.slots.last_stamp t (machine b) (machine c) r.1.looked.callers before
  reset_refused_late id when Worn r = run_late shared b.slots.last_stamp t (machine b) (machine c) r.1.1.looked.callers before
  reset_refused_late id when (Full l w) r = absurd r
  reset_refused_late id when (TickTooLarge l) r = absurd r
  reset_refused_late id when BadConfig r = absurd r
  reset_refused_late id when NoMemory r = absurd r

  pub resets_late : (id : EntryId) (when : ℕ) (r : Result Key CoreError) → OnOk r (t ≤ when) → Resets shared b id when r c → NoneLiveBefore (machine c) t
  unfolding IsLate
  resets_late id when (Ok k) late r =
      let mid = run_late shared b.slots.last_stamp t (machine b) r.run.0 r.run.1 before in
      late_step b.slots.last_stamp r.run.0 (machine c) (Reset id.index id.born when) t late r.run.2 mid
  resets_late id when (Err e) late r = reset_refused_late id when e r

  pub reap_late : (id : EntryId) (r : Result (Unit {0}) ReapError) → Reaps shared b id r c → NoneLiveBefore (machine c) t
  reap_late id (Ok done) r = reaps_late shared b.slots.last_stamp t (machine b) (machine c) r.1.reaped.run before
  reap_late id (Err Live) r = reaps_late shared b.slots.last_stamp t (machine b) (machine c) r.1.reaped.run before
  reap_late id (Err NotThere) r = unchanged r.1

  pub sweeps_late : (from upto n : ℕ) → SweepsSome shared b from upto n c → NoneLiveBefore (machine c) t
  sweeps_late from upto n r = reaps_late shared b.slots.last_stamp t (machine b) (machine c) r.reaped.2.run before

  pub polls_late : (tick : ℕ) (turn : Turn T) → Polls shared b tick (Ok turn) c → NoneLiveBefore (machine c) t
  unfolding IsLate
  polls_late tick turn r =
      let last = b.slots.last_stamp in
      let n = noting b tick in
      let noted = late_step last (machine b) (machine n) (Note tick) t (tt {0}) r.1 before in
      let mid = ways_late shared last t (machine n) r.2.run.0 r.2.run.1 noted in
      turn_late b.shard last t r.2.run.0 (machine c) turn c.wheel.filing r.2.run.2 mid

  pub pieces_late : (tick most : ℕ) (piece : Piece T) → PollsSome shared b tick most (Ok piece) c → NoneLiveBefore (machine c) t
  unfolding IsLate
  pieces_late tick most (Answer turn) r =
      let last = b.slots.last_stamp in
      let n = noting b tick in
      let noted = late_step last (machine b) (machine n) (Note tick) t (tt {0}) r.1 before in
      let mid = ways_late shared last t (machine n) r.2.run.0 r.2.run.1 noted in
      turn_late b.shard last t r.2.run.0 (machine c) turn c.wheel.filing r.2.run.2 mid
  pieces_late tick most Working r =
      let last = b.slots.last_stamp in
      let n = noting b tick in
      let noted = late_step last (machine b) (machine n) (Note tick) t (tt {0}) r.1 before in
      ways_late shared last t (machine n) (machine c) r.2.0.way noted

-- a change of a value gives no entry another deadline
module _ {T W R : Type 0} (Makes : T → R → T → Type 0) (b c : Core T W) (id : EntryId) where
  pub changes_late : (t : ℕ) → NoneLiveBefore (machine b) t → (r : Option R) → ChangesValue Makes b id r c → IfSome r (λ a. ChangesEntry Makes (machine b) id a (machine c))
      → NoneLiveBefore (machine c) t
  changes_late t before None did entry = let P : Core T W → Type 0 = λ k. NoneLiveBefore (machine k) t in subst P (sym did.1) before
  changes_late t before (Some a) did (e, v, has, born, made, is) =
      put_late (machine b) (machine c) id.index _ t _ has.0 is
      (λ x d same due. let f : Entry T = record e { value = v } in
      let one : f ≡ x = cc in
      before id.index e d has.1 (ap (λ k. k.due) one ∙ due)) before

  pub changes_noted : (r : Option R) → ChangesValue Makes b id r c → c.noted ≡ b.noted
  changes_noted None did = ap (λ (k : Core T W). k.noted) did.1
  changes_noted (Some a) did = ap (λ (k : Core T W). k.noted) did.4

-- where one bound is lowered, none is raised
no_more : (known new : List ℕ) (i : ℕ) → ((j : ℕ) → j ≢ i → bound_at new j ≡ bound_at known j) → bound_at new i ≤ bound_at known i
    → (j : ℕ) → bound_at new j ≤ bound_at known j
no_more known new i rest own j = by_slot (λ k. bound_at new k ≤ bound_at known k) j i own (λ other. let same = rest j other in omega arith)

-- what is noted of a core is no later than its wake
noted_low : (new : List ℕ) (at wake : ℕ) → (at < KNOWN → bound_at new at ≡ wake) → (KNOWN ≤ at → bound_at new at ≡ 0) → bound_at new at ≤ wake
noted_low new at wake noted unknown = elim (nat_le_or_lt KNOWN at) [ inl le ↦ let none = unknown le in omega arith | inr lt ↦ let is = noted lt in omega arith ]

module _ {T W : Type 0} where
  -- where one core changes, every other one stays quiet, and so does it if it has to
  pub quiet_after : (s : CoreRow T W) (turn u t i : ℕ) (b c : Core T W) → OthersAreQuiet s turn u → IsCoreAt s.cores i b → t ≤ u
      → (NoneLiveBefore (machine b) t → NoneLiveBefore (machine c) t) → OthersAreQuiet (with_core s i c) turn t
  quiet_after s turn u t i b c quiet at le change j d ne there =
      ⊎_elim
      (λ (y : (j ≡ i) × (d ≡ c)).
      let N : ℕ → Type 0 = λ k. k ≢ turn in
      let P : Core T W → Type 0 = λ k. NoneLiveBefore (machine k) t in
      subst P (sym y.1) (change (earlier (machine b) u t (quiet i b (subst N y.0 ne) at) le)))
      (λ (y : (j ≢ i) × IsCoreAt s.cores j d). earlier (machine d) u t (quiet j d ne y.1) le)
      (at_after s.cores i j c d at.0 there)

  -- and so what is known of each core
  pub bounds_after : (s : CoreRow T W) (known new : List ℕ) (i : ℕ) (b c : Core T W) → AreBounded s known → IsCoreAt s.cores i b
      → ((j : ℕ) → bound_at new j ≤ bound_at known j) → (NoneLiveBefore (machine b) (bound_at new i) → NoneLiveBefore (machine c) (bound_at new i))
      → AreBounded (with_core s i c) new
  bounds_after s known new i b c before at le change j d there =
      ⊎_elim
      (λ (y : (j ≡ i) × (d ≡ c)).
      let own = change (earlier (machine b) (bound_at known i) (bound_at new i) (before i b at) (le i)) in
      let P : Core T W → Type 0 = λ k. NoneLiveBefore (machine k) (bound_at new i) in
      let R : ℕ → Type 0 = λ k. NoneLiveBefore (machine d) (bound_at new k) in
      subst R (sym y.0) (subst P (sym y.1) own))
      (λ (y : (j ≢ i) × IsCoreAt s.cores j d). earlier (machine d) (bound_at known j) (bound_at new j) (before j d y.1) (le j))
      (at_after s.cores i j c d at.0 there)

  -- where a core gets an entry with a later deadline
  pub quiet_later : (s : CoreRow T W) (turn u when i : ℕ) (b c : Core T W) → OthersAreQuiet s turn u → IsCoreAt s.cores i b
      → ((t : ℕ) → t ≤ when → NoneLiveBefore (machine b) t → NoneLiveBefore (machine c) t)
      → OthersAreQuiet (with_core s i c) turn (lowered_to u when (nat_eq i turn))
  quiet_later s turn u when i b c quiet at change =
      elim (cases_eq i turn) [
        | inl same ↦ rw (is_equal i turn same) (λ j d ne there.
            ⊎_elim
            (λ (y : (j ≡ i) × (d ≡ c)). absurd (ne (y.0 ∙ same)))
            (λ (y : (j ≢ i) × IsCoreAt s.cores j d). quiet j d ne y.1)
            (at_after s.cores i j c d at.0 there))
        | inr other ↦ rw (is_unequal i turn other) (quiet_after s turn u (min u when) i b c quiet at (omega arith) (change (min u when) (omega arith)))
      ]

  -- so where a core gets the turn
  pub turns_given : (s : CoreRow T W) (t u : TurnState) (place others : ℕ) → KeepsTurns s t → OthersAreQuiet s place others → u.place ≡ place
      → u.others ≡ others → ((i : ℕ) → i ≢ place → bound_at u.bounds i ≡ bound_at t.bounds i) → bound_at u.bounds place ≡ 0 → KeepsTurns s u
  turns_given s t u place others keeps quiet is at rest own =
      let bounds = no_more t.bounds u.bounds place rest (omega arith) in
      let P : ℕ → Type 0 = λ p. OthersAreQuiet s p u.others in
      let Q : ℕ → Type 0 = λ o. OthersAreQuiet s place o in
      (subst P (sym is) (subst Q (sym at) quiet), λ i c there. earlier (machine c) (bound_at t.bounds i) (bound_at u.bounds i) (keeps.1 i c there) (bounds i))

  -- and where it is noted when a core wakes
  pub turns_noted : (s : CoreRow T W) (t u : TurnState) (at wake : ℕ) (c : Core T W) → KeepsTurns s t → IsCoreAt s.cores at c
      → NoneLiveBefore (machine c) wake → u.others ≡ 0 → ((i : ℕ) → i ≢ at → bound_at u.bounds i ≡ bound_at t.bounds i)
      → (at < KNOWN → bound_at u.bounds at ≡ wake) → (KNOWN ≤ at → bound_at u.bounds at ≡ 0) → KeepsTurns s u
  turns_noted s t u at wake c keeps there quiet none rest noted unknown =
      let low = noted_low u.bounds at wake noted unknown in (
        λ i d ne is. quiet_fresh (machine d) u.others none,
        λ i d is. by_slot (λ x. IsCoreAt s.cores x d → NoneLiveBefore (machine d) (bound_at u.bounds x)) i at
            (λ here. let P : Core T W → Type 0 = λ k. NoneLiveBefore (machine k) (bound_at u.bounds at) in
            subst P (one_at s.cores at c d there here) (earlier (machine c) wake (bound_at u.bounds at) quiet low))
            (λ other here. let same = rest i other in earlier (machine d) (bound_at t.bounds i) (bound_at u.bounds i) (keeps.1 i d here) (omega arith))
            is,
      )

  -- what is known of the turns stays so where one core changes, and gets no earlier deadline
  pub turns_after : (s : CoreRow T W) (t : TurnState) (i : ℕ) (b c : Core T W) → KeepsTurns s t → IsCoreAt s.cores i b
      → ((u : ℕ) → NoneLiveBefore (machine b) u → NoneLiveBefore (machine c) u) → KeepsTurns (with_core s i c) t
  turns_after s t i b c keeps at change =
      (quiet_after s t.place t.others t.others i b c keeps.0 at (omega arith) (change t.others), bounds_after s t.bounds t.bounds i b c keeps.1 at (λ j. omega arith) (change (bound_at t.bounds i)))

  -- or one that isn't before what is known from then on
  pub turns_later : (s : CoreRow T W) (t u : TurnState) (when i : ℕ) (b c : Core T W) → KeepsTurns s t → IsCoreAt s.cores i b
      → ((x : ℕ) → x ≤ when → NoneLiveBefore (machine b) x → NoneLiveBefore (machine c) x) → u.place ≡ t.place
      → u.others ≡ lowered_to t.others when (nat_eq i t.place) → ((j : ℕ) → j ≢ i → bound_at u.bounds j ≡ bound_at t.bounds j)
      → bound_at u.bounds i ≡ min (bound_at t.bounds i) when → KeepsTurns (with_core s i c) u
  turns_later s t u when i b c keeps at change place others rest low =
      let bounds = no_more t.bounds u.bounds i rest (omega arith) in
      let Q : ℕ → ℕ → Type 0 = λ p o. OthersAreQuiet (with_core s i c) p o in
      let quiet = quiet_later s t.place t.others when i b c keeps.0 at change in
      let P : ℕ → Type 0 = λ o. Q t.place o in
      let R : ℕ → Type 0 = λ p. Q p u.others in
      (subst R (sym place) (subst P (sym others) quiet), bounds_after s t.bounds u.bounds i b c keeps.1 at bounds (change (bound_at u.bounds i) (omega arith)))

-- what no call but a poll does: note a later tick
module _ {T W : Type 0} (shared : Bool) (b c : Core T W) where
  noted_as : c ≡ b → c.noted ≡ b.noted
  noted_as same = let N : Core T W → ℕ = λ k. k.noted in ap N same

  find_refused_noted : (id : EntryId) (e : CoreError) → FindRefused shared b id e c → c.noted ≡ b.noted
  find_refused_noted id Missing r = noted_as r.1
  find_refused_noted id WasCancelled r = r.looked.noted
  find_refused_noted id (TooFar l) r = absurd r
  find_refused_noted id (Full l w) r = absurd r
  find_refused_noted id Worn r = absurd r
  find_refused_noted id (TickTooLarge l) r = absurd r
  find_refused_noted id BadConfig r = absurd r
  find_refused_noted id NoMemory r = absurd r

  pub removes_noted : (id : EntryId) (r : Result (Removed T) CoreError) → Removes shared b id r c → c.noted ≡ b.noted
  removes_noted id (Ok x) r = r.noted
  removes_noted id (Err e) r = find_refused_noted id e r

  pub tells_noted : (id : EntryId) (r : Result ℕ CoreError) → TellsDeadline shared b id r c → c.noted ≡ b.noted
  tells_noted id (Ok d) r = r.looked.noted
  tells_noted id (Err e) r = find_refused_noted id e r

  pub dues_noted : (id : EntryId) (tick : ℕ) (r : Result (Option (Removed T)) CoreError) → RemovesIfDue shared b id tick r c → c.noted ≡ b.noted
  dues_noted id tick (Ok (Some x)) r = r.1.noted
  dues_noted id tick (Ok None) r = r.2.looked.noted
  dues_noted id tick (Err e) r = find_refused_noted id e r

  pub inserts_noted : (v : T) (when : ℕ) (r : Result Key (CoreError × T)) → Inserts b v when r c → c.noted ≡ b.noted
  inserts_noted v when (Ok k) r = r.noted
  inserts_noted v when (Err e) r = noted_as r.2

  pub resets_noted : (id : EntryId) (when : ℕ) (r : Result Key CoreError) → Resets shared b id when r c → c.noted ≡ b.noted
  resets_noted id when (Ok k) r = r.noted
  resets_noted id when (Err (TooFar l)) r = noted_as r.2
  resets_noted id when (Err Missing) r = noted_as r.2
  resets_noted id when (Err WasCancelled) r = r.1.looked.noted
  resets_noted id when (Err Worn) r = r.1.1.looked.noted
  resets_noted id when (Err (Full l w)) r = absurd r
  resets_noted id when (Err (TickTooLarge l)) r = absurd r
  resets_noted id when (Err BadConfig) r = absurd r
  resets_noted id when (Err NoMemory) r = absurd r
