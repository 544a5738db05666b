-- Each call is a run: what its clause says has one in it. And no entry of a lawful queue was born ahead of its slot.
use Rattle.std.proofs.Common.{◌≡◌, ℕ, ◌≤◌, Bool, List, [], ◌∷◌, ◌++◌, length, Option, Some, None, Result, Ok, Err, refl, sym, ap, ◌∙◌, inl, inr, arith}
use Rattle.std.proofs.lemmas.Bool.{cases_lt}
use Rattle.std.proofs.lemmas.List.{get_or_past}
use Rattle.dq_ticks.specs.declared.words.Parts.{Parts}
use Rattle.dq_ticks.specs.declared.keys.Key.{Key}
use Rattle.dq_ticks.specs.declared.keys.EntryId.{EntryId}
use Rattle.dq_core.specs.declared.words.CallError.{CallError}
use Rattle.dq_core.specs.declared.errors.CoreError.{CoreError}
use Rattle.dq_core.specs.declared.errors.CoreError.TheVariants.{TooFar, Missing, WasCancelled, Worn}
use Rattle.dq_core.specs.declared.outcomes.Removed.{Removed}
use Rattle.dq_core.specs.declared.outcomes.Turn.{Turn}
use Rattle.dq_core.specs.declared.outcomes.Turn.TheVariants.{Out, Waiting, Idle}
use Rattle.dq_core.specs.declared.outcomes.Piece.{Piece}
use Rattle.dq_core.specs.declared.outcomes.Piece.TheVariants.{Answer, Working}
use Rattle.dq_core.specs.Pieces.{PollsSome}
use Rattle.dq_wheel.specs.State.{Filing}
use Rattle.dq_core.specs.Machine.{Entry, Machine, Event, Note, Insert, Reset, Extend, Cancel, Remove, Expire, Step, Run, RunOf, Callers, IsCallers, IsOnTheWay, IsReaping, IsClearing}
use Rattle.dq_core.specs.Core.{Core, machine, entry_of, IsPlaced}
use Rattle.dq_core.specs.Words.{word_at}
use Rattle.dq_core.specs.Slots.{unused}
use Rattle.dq_core.specs.declared.slots.Held.{Held}
use Rattle.dq_core.specs.Calls.{IsLookedAt, IsTurn, FindRefused, ResetRefused, Inserts, Removes, Resets, TellsDeadline, Polls, noting}
use Rattle.dq_core.specs.declared.errors.ReapError.{ReapError}
use Rattle.dq_core.specs.declared.errors.ReapError.TheVariants.{Live}
use Rattle.dq_core.specs.Sweeps.{AreReaped, Reaps, Clears}
use Rattle.dq_core.specs.Runs.{outs}
use Rattle.std.specs.List.{AllByRecursion}
use Rattle.dq_core.specs.KeyCalls.{Extends, Cancels}
use Rattle.dq_core.specs.RunsOfCalls.{GoesByRun, given, given_by_piece, CallsAreRuns, NoBirthIsAhead}
use Rattle.dq_core.proofs.RunsKept.{some_same}
use Rattle.dq_core.proofs.Ways.{table_row_is}
use Rattle.dq_core.proofs.RunsOrdered.{runs_join}

-- what comes out of two runs, one after the other
pub outs_join : {T : Type 0} (es fs : List (Event T)) → outs (es ++ fs) ≡ outs es ++ outs fs
outs_join [] fs = refl
outs_join (Expire i b at ∷ es) fs = ap (λ xs. at ∷ xs) (outs_join es fs)
outs_join (e ∷ es) fs = outs_join es fs

-- nothing comes out where no event expires an entry
no_outs : {T : Type 0} (P : Event T → Type 0) → ((i b at : ℕ) → P (Expire i b at) → ⊥) → (es : List (Event T)) → AllByRecursion P es → outs es ≡ []
no_outs P none [] a = refl
no_outs P none (Expire i b at ∷ es) a = absurd (none i b at a.0)
no_outs P none (e ∷ es) a = no_outs P none es a.1

-- a run between two machines, on which entries of those deadlines expire
abbrev Reaches : {T : Type 0} → ℕ → Machine T → List ℕ → Machine T → Type 0
Reaches {T} last m ds n = (es : List (Event T)) × Run last m es n × (outs es ≡ ds)

one : {T : Type 0} (last : ℕ) (m n : Machine T) (e : Event T) → Step last m e n → Reaches last m (outs (e ∷ [])) n
one last m n e step = (e ∷ [], (n, step, refl), refl)

then : {T : Type 0} (last : ℕ) (m k n : Machine T) (ds : List ℕ) → Reaches last m [] k → Reaches last k ds n → Reaches last m ds n
then {T} last m k n ds a b = (a.0 ++ b.0, runs_join T last m k n a.0 b.0 a.1 b.1, outs_join a.0 b.0 ∙ ap (λ xs. xs ++ outs b.0) a.2 ∙ b.2)

-- a run of events of a kind that expires nothing
of_kind : {T : Type 0} (P : Event T → Type 0) → ((i b at : ℕ) → P (Expire i b at) → ⊥) → (last : ℕ) (m n : Machine T) → RunOf P last m n → Reaches last m [] n
of_kind P none last m n a = (a.0, a.2, no_outs P none a.0 a.1)

by_callers : {T : Type 0} (shared : Bool) (last : ℕ) (m n : Machine T) → Callers shared last m n → Reaches last m [] n
by_callers shared last m n a = of_kind (IsCallers shared) (λ i b at h. h) last m n a

turned : {T : Type 0} (shard last : ℕ) (m n : Machine T) (turn : Turn T) (w : Filing) → IsTurn shard last m turn n w → Reaches last m (given (Ok turn)) n
turned shard last m n (Out x) w h = one last m n (Expire x.key.entry.index x.key.entry.born x.deadline) h.0.0
turned shard last m n (Waiting next) w h = ([], h.0, refl)
turned shard last m n Idle w h = ([], h.0, refl)

module _ {T W : Type 0} (shared : Bool) (b c : Core T W) where
  same : c ≡ b → GoesByRun b [] c
  same is = ([], ap machine is, refl)

  looked : (i : ℕ) (v : Parts) → IsLookedAt shared b i v c → GoesByRun b [] c
  looked i v h = by_callers shared b.slots.last_stamp (machine b) (machine c) h.callers

  find_refused : (id : EntryId) (e : CoreError) → FindRefused shared b id e c → GoesByRun b [] c
  find_refused id Missing h = same h.1
  find_refused id WasCancelled h = looked _ _ h.looked
  find_refused id e h = absurd h

  reset_refused : (id : EntryId) (when : ℕ) (e : CoreError) → ResetRefused shared b id when e c → GoesByRun b [] c
  reset_refused id when (TooFar limit) h = same h.2
  reset_refused id when Missing h = same h.2
  reset_refused id when WasCancelled h = looked _ _ h.1.looked
  reset_refused id when Worn h = looked _ _ h.1.1.looked
  reset_refused id when e h = absurd h

  -- callers' steps, and then one event
  after_callers : (m : Machine T) (e : Event T) → Callers shared b.slots.last_stamp (machine b) m → Step b.slots.last_stamp m e (machine c) → GoesByRun b (outs (e ∷ [])) c
  after_callers m e callers step =
      let last = b.slots.last_stamp in
      then last (machine b) m (machine c) _ (by_callers shared last (machine b) m callers) (one last m (machine c) e step)

  inserting : (value : T) (when : ℕ) (r : Result Key (CoreError × T)) → Inserts b value when r c → GoesByRun b [] c
  inserting value when (Ok k) h = one _ _ _ (Insert k.entry.index value when) h.step
  inserting value when (Err e) h = same h.2

  removing : (id : EntryId) (r : Result (Removed T) CoreError) → Removes shared b id r c → GoesByRun b [] c
  removing id (Ok x) h = after_callers h.run.0 (Remove id.index id.born) h.run.1 h.run.2
  removing id (Err e) h = find_refused id e h

  resetting : (id : EntryId) (when : ℕ) (r : Result Key CoreError) → Resets shared b id when r c → GoesByRun b [] c
  resetting id when (Ok k) h = after_callers h.run.0 (Reset id.index id.born when) h.run.1 h.run.2
  resetting id when (Err e) h = reset_refused id when e h

  telling : (id : EntryId) (r : Result ℕ CoreError) → TellsDeadline shared b id r c → GoesByRun b [] c
  telling id (Ok d) h = looked _ _ h.looked
  telling id (Err e) h = find_refused id e h

  polling : (tick : ℕ) (r : Result (Turn T) CoreError) → Polls shared b tick r c → GoesByRun b (given r) c
  polling tick (Ok turn) (accepted, note, answered, noted) =
      let last = b.slots.last_stamp in
      let k = machine (noting b tick) in
      let m = answered.run.0 in
      let noted_first = one last (machine b) k (Note tick) note in
      let way = of_kind (IsOnTheWay shared) (λ i b' at h. h) last k m answered.run.1 in
      let end = turned b.shard last m (machine c) turn c.wheel.filing answered.run.2 in
      then last (machine b) k (machine c) _ noted_first (then last k m (machine c) _ way end)
  polling tick (Err e) h = same h.2

  reaped : (is : List ℕ) → AreReaped shared b is c → GoesByRun b [] c
  reaped is h = of_kind (IsReaping shared) (λ i b' at x. x) _ _ _ h.run

  reaping : (id : EntryId) (r : Result (Unit {0}) ReapError) → Reaps shared b id r c → GoesByRun b [] c
  reaping id (Ok done) h = reaped _ h.1.reaped
  reaping id (Err Live) h = reaped _ h.1.reaped
  reaping id (Err e) h = same h.1

  polling_some : (tick most : ℕ) (r : Result (Piece T) CoreError) → PollsSome shared b tick most r c → GoesByRun b (given_by_piece r) c
  polling_some tick most (Ok (Answer turn)) (accepted, note, answered, noted) =
      let last = b.slots.last_stamp in
      let k = machine (noting b tick) in
      let m = answered.run.0 in
      let noted_first = one last (machine b) k (Note tick) note in
      let way = of_kind (IsOnTheWay shared) (λ i b' at h. h) last k m answered.run.1 in
      let end = turned b.shard last m (machine c) turn c.wheel.filing answered.run.2 in
      then last (machine b) k (machine c) _ noted_first (then last k m (machine c) _ way end)
  polling_some tick most (Ok Working) (accepted, note, came, noted) =
      let last = b.slots.last_stamp in
      let k = machine (noting b tick) in
      let noted_first = one last (machine b) k (Note tick) note in
      then last (machine b) k (machine c) _ noted_first (of_kind (IsOnTheWay shared) (λ i b' at h. h) last k (machine c) came.0.way)
  polling_some tick most (Err e) h = same h.2

  clearing : (removed : ℕ) → Clears shared b removed c → GoesByRun b [] c
  clearing removed h =
      let run = h.ended.1.run in
      (run.0, run.2, no_outs (IsClearing shared) (λ i b' at x. x) run.0 run.1)

  extending : (k : Key) (when : ℕ) (r : Result ℕ CallError) → Extends b k when r c → GoesByRun b [] c
  extending k when (Ok d) h = one _ _ _ (Extend k.entry.index k.stamp when) h.step
  extending k when (Err e) h = same h.1

  cancelling : (k : Key) (r : Result ℕ CallError) → Cancels b k r c → GoesByRun b [] c
  cancelling k (Ok d) h = one _ _ _ (Cancel k.entry.index k.stamp) h.step
  cancelling k (Err e) h = same h.1

pub calls_are_runs : (T W : Type 0) → CallsAreRuns T W
calls_are_runs T W shared b c = record {
  insert = inserting shared b c;
  remove = removing shared b c;
  reset = resetting shared b c;
  deadline = telling shared b c;
  poll = polling shared b c;
  poll_some = polling_some shared b c;
  sweep = λ n h. reaped shared b c _ h.reaped.2;
  sweep_some = λ from upto n h. reaped shared b c _ h.reaped.2;
  reap = reaping shared b c;
  clear = clearing shared b c;
  extend = extending shared b c;
  cancel = cancelling shared b c;
}

born_had : {T : Type 0} (tick noted stamp : ℕ) (o : Option (Held T)) (w : Parts) (f : Option ℕ) → IsPlaced tick noted stamp o w f → (e : Entry T) → entry_of o w ≡ Some e → e.born ≤ stamp
born_had tick noted stamp None w f p e is = cc
born_had tick noted stamp (Some h) w None p e is = absurd p
born_had tick noted stamp (Some h) w (Some f) p e is =
    let born = ap (λ x. x.born) (some_same _ e is) in
    omega (arith, p.3, born)

pub no_birth_is_ahead : (T W : Type 0) → NoBirthIsAhead T W
no_birth_is_ahead T W c law i e is =
    let row = table_row_is c.slots.rows c.known law.as_known i in
    let stamp = ap (λ x. x.stamp) row in
    let linked = sym (ap (λ x. x.entry) row) ∙ is in
    elim (cases_lt i (length c.slots.rows)) [
      | inl inside ↦
          let had = born_had _ _ _ _ _ _ (law.each i inside).placed e linked in
          omega (arith, had, stamp)
      | inr past ↦
          let gone = ap (λ r. entry_of r.held (word_at c.known i)) (get_or_past c.slots.rows i unused past) in
          cc
    ]
