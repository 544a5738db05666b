-- No new entry gets an id that one has had.
use Rattle.std.proofs.Common.{◌≡◌, ◌≢◌, ◌⊎◌, ℕ, ◌<◌, Bool, true, List, [], length, get_or, Option, Result, Ok, Err, refl, sym, ap, ◌∙◌, subst, inl, inr, ⊎_elim, arith}
use Rattle.dq_ticks.specs.declared.keys.Key.{Key}
use Rattle.dq_ticks.specs.declared.keys.EntryId.{EntryId}
use Rattle.dq_core.specs.declared.errors.CoreError.{CoreError}
use Rattle.dq_core.specs.declared.errors.CoreError.TheVariants.{TooFar, Full, Missing, WasCancelled, Worn, TickTooLarge, BadConfig, NoMemory}
use Rattle.dq_core.specs.declared.outcomes.Removed.{Removed}
use Rattle.dq_core.specs.declared.outcomes.Piece.{Piece}
use Rattle.dq_core.specs.declared.outcomes.Turn.{Turn}
use Rattle.dq_core.specs.Pieces.{PollsSome}
use Rattle.dq_core.specs.Calls.{Inserts, Removes, Resets, TellsDeadline, Polls}
use Rattle.dq_core.specs.Sweeps.{Reaps, SweepsSome}
use Rattle.dq_core.specs.declared.errors.ReapError.{ReapError}
use Rattle.dq_core.specs.Core.{Core, machine}
use Rattle.dq_core.specs.Machine.{Entry}
use Rattle.dq_core.specs.RunsOfCalls.{GoesByRun, given, given_by_piece}
use Rattle.dq_core.specs.Runs.{HasAlike, NoneBornAt, ends_of}
use Rattle.dq_core.proofs.RunsEnding.{entries_leave_once}
use Rattle.dq_core.proofs.RunsKept.{stamps_never_fall, values_stay}
use Rattle.dq_core.proofs.RunsOfCalls.{calls_are_runs}
use Rattle.dq_growing.specs.Cores.{CoreRow, AreCores, IsCoreAt, OnCoreOr, OnCoreAt, with_core}
use Rattle.dq_growing.specs.Moving.{PutsIn}
use Rattle.dq_growing.specs.Stands.{IsThere, IsPastAt, HasEntry, StandsAlike, Ages}
use Rattle.dq_growing.proofs.Rows.{at_after}
use Rattle.dq_growing.proofs.Standing.{back, split, there, never, set_there, Elsewhere, stood}

module _ {T W : Type 0} where
  -- so of one core
  abbrev pub AgesAt : Core T W → Core T W → Type 0
  AgesAt b c =
      (id : EntryId) → IsPastAt b id → IsPastAt c id × ((e : Entry T) → IsThere c id e → StandsAlike (IsThere b) id e)
      × ((e : Entry T) → IsThere b id e → StandsAlike (IsThere c) id e ⊎ ((f : Entry T) → ¬ IsThere c id f))

  pub run_ages : (b c : Core T W) (ds : List ℕ) → c.shard ≡ b.shard → GoesByRun b ds c → AgesAt b c
  run_ages b c ds same run id past =
      let last = b.slots.last_stamp in
      let up = stamps_never_fall T last (machine b) (machine c) run.0 run.1 id.index in (
        omega (arith, up, past),
        (λ e x. let born = x.born in
            let alike = values_stay T last (machine b) (machine c) run.0 run.1 id.index e x.linked (omega (arith, born, past)) in
            (alike.0, record { shard = x.shard ∙ same; linked = alike.1; born = alike.2 ∙ x.born }, alike.3)),
        (λ e x. let born = x.born in
            ⊎_elim
            (λ (y : (ends_of id.index e.born run.0 ≡ 0) × HasAlike (machine c) id.index e). let f = y.1 in
            inl (f.0, record { shard = x.shard ∙ sym same; linked = f.1; born = f.2 ∙ x.born }, f.3))
            (λ (y : (ends_of id.index e.born run.0 ≡ 1) × NoneBornAt (machine c) id.index e.born). inr (λ f z. y.1 f z.linked (z.born ∙ sym x.born)))
            (entries_leave_once T last (machine b) (machine c) run.0 run.1 id.index e x.linked (omega (arith, born, past)))),
      )

  pub ages_in : (s : CoreRow T W) (i : ℕ) (b c : Core T W) → AreCores s → IsCoreAt s.cores i b → c.shard ≡ b.shard → AgesAt b c → Ages s (with_core s i c)
  ages_in s i b c law at same ages id past = (
    (λ j d x number. ⊎_elim
        (λ (y : (j ≡ i) × (d ≡ c)). let N : Core T W → ℕ = λ k. k.shard in
        let P : Core T W → Type 0 = λ k. IsPastAt k id in
        subst P (sym y.1) (ages id (past i b at (sym same ∙ (sym (ap N y.1) ∙ number)))).0)
        (λ (y : (j ≢ i) × IsCoreAt s.cores j d). past j d y.1 number)
        (at_after s.cores i j c d at.0 x)),
    (λ e z. ⊎_elim
        (λ (x : IsThere c id e). let was = (ages id (past i b at (sym same ∙ sym x.shard))).1 e x in
        (was.0, (i, b, at, was.1), was.2))
        (λ (x : Elsewhere s i b c law at same id e). (e, stood s i b c law at same id e x, refl))
        (back s i b c law at same id e z)),
    (λ e z. ⊎_elim
        (λ (x : IsThere b id e). ⊎_elim
        (λ (f : StandsAlike (IsThere c) id e). inl (f.0, (i, c, (set_there s.cores i b c at), f.1), f.2))
        (λ (none : (f : Entry T) → ¬ IsThere c id f). inr (λ f y. ⊎_elim
        (λ (there : IsThere c id f). none f there)
        (λ (far : Elsewhere s i b c law at same id f). never s i b c law at same id f x.shard far)
        (back s i b c law at same id f y)))
        ((ages id (past i b at (sym x.shard))).2 e x))
        (λ (x : Elsewhere s i b c law at same id e). inl (e, there s i b c law at same id e x, refl))
        (split s i b c law at same id e z)),
    (λ n. n),
  )

  pub all_age : (s : CoreRow T W) → Ages s s
  all_age s id past = (past, (λ e z. (e, z, refl)), (λ e z. inl (e, z, refl)), (λ n. n))

  pub then_age : (s m t : CoreRow T W) → Ages s m → Ages m t → Ages s t
  then_age s m t one two id past =
      let a = one id past in
      let b = two id a.0 in (
        b.0,
        (λ e z. let f = b.1 e z in let g = a.1 f.0 f.1 in (g.0, g.1, g.2 ∙ f.2)),
        (λ e z. ⊎_elim
            (λ (f : StandsAlike (HasEntry m) id e). ⊎_elim
            (λ (g : StandsAlike (HasEntry t) id f.0). inl (g.0, g.1, g.2 ∙ f.2))
            (λ (none : (g : Entry T) → ¬ HasEntry t id g). inr none)
            (b.2 f.0 f.1))
            (λ (none : (f : Entry T) → ¬ HasEntry m id f). inr (λ g y. let f = b.1 g y in none f.0 f.1))
            (a.2 e z)),
        (λ n. b.3 (a.3 n)),
      )

  -- a call on one core ages the store, if it keeps the core's number and is a run of its machine
  pub ages_on : (s t : CoreRow T W) (i : ℕ) (P : Core T W → Core T W → Type 0) → AreCores s → OnCoreAt i P s t
      → ((b c : Core T W) → P b c → (c.shard ≡ b.shard) × ((ds : List ℕ) × GoesByRun b ds c)) → Ages s t
  ages_on s t i P law on run =
      let r = run on.before on.after on.did in
      let A : CoreRow T W → Type 0 = λ k. Ages s k in
      subst A (sym on.rest) (ages_in s i on.before on.after law on.at r.0 (run_ages on.before on.after r.1.0 r.0 r.1.1))

  pub ages_or : (s t : CoreRow T W) (number : ℕ) (P : Core T W → Core T W → Type 0) (R : Type 0) → AreCores s → OnCoreOr number P R s t
      → ((b c : Core T W) → P b c → (c.shard ≡ b.shard) × ((ds : List ℕ) × GoesByRun b ds c)) → Ages s t
  ages_or s t number P R law (inl on) run =
      let r = run on.before on.after on.did in
      let A : CoreRow T W → Type 0 = λ k. Ages s k in
      subst A (sym on.rest) (ages_in s on.place on.before on.after law on.at.0 r.0 (run_ages on.before on.after r.1.0 r.0 r.1.1))
  ages_or s t number P R law (inr y) run = let A : CoreRow T W → Type 0 = λ k. Ages s k in subst A (sym y.2) (all_age s)

  same_shard : (b c : Core T W) → c ≡ b → c.shard ≡ b.shard
  same_shard b c e = ap (λ k. k.shard) e

  removes_number : (shared : Bool) (id : EntryId) (r : Result (Removed T) CoreError) (b c : Core T W) → Removes shared b id r c → c.shard ≡ b.shard
  removes_number shared id (Ok x) b c r = r.same_shard
  removes_number shared id (Err Missing) b c r = same_shard b c r.1
  removes_number shared id (Err WasCancelled) b c r = r.looked.shard
  removes_number shared id (Err (TooFar limit)) b c r = absurd r
  removes_number shared id (Err (Full linked worn)) b c r = absurd r
  removes_number shared id (Err Worn) b c r = absurd r
  removes_number shared id (Err (TickTooLarge limit)) b c r = absurd r
  removes_number shared id (Err BadConfig) b c r = absurd r
  removes_number shared id (Err NoMemory) b c r = absurd r

  pub removes_age : (shared : Bool) (s t : CoreRow T W) (id : EntryId) (r : Result (Removed T) CoreError) (R : Type 0) → AreCores s
      → OnCoreOr id.shard (λ b c. Removes shared b id r c) R s t → Ages s t
  removes_age shared s t id r R law on =
      ages_or s t id.shard (λ b c. Removes shared b id r c) R law on
      (λ b c did. (removes_number shared id r b c did, ([], (calls_are_runs T W shared b c).remove id r did)))

  tells_number : (shared : Bool) (id : EntryId) (r : Result ℕ CoreError) (b c : Core T W) → TellsDeadline shared b id r c → c.shard ≡ b.shard
  tells_number shared id (Ok d) b c r = r.looked.shard
  tells_number shared id (Err Missing) b c r = same_shard b c r.1
  tells_number shared id (Err WasCancelled) b c r = r.looked.shard
  tells_number shared id (Err (TooFar limit)) b c r = absurd r
  tells_number shared id (Err (Full linked worn)) b c r = absurd r
  tells_number shared id (Err Worn) b c r = absurd r
  tells_number shared id (Err (TickTooLarge limit)) b c r = absurd r
  tells_number shared id (Err BadConfig) b c r = absurd r
  tells_number shared id (Err NoMemory) b c r = absurd r

  pub tells_age : (shared : Bool) (s t : CoreRow T W) (id : EntryId) (r : Result ℕ CoreError) (R : Type 0) → AreCores s
      → OnCoreOr id.shard (λ b c. TellsDeadline shared b id r c) R s t → Ages s t
  tells_age shared s t id r R law on =
      ages_or s t id.shard (λ b c. TellsDeadline shared b id r c) R law on
      (λ b c did. (tells_number shared id r b c did, ([], (calls_are_runs T W shared b c).deadline id r did)))

  resets_number : (shared : Bool) (id : EntryId) (when : ℕ) (r : Result Key CoreError) (b c : Core T W) → Resets shared b id when r c → c.shard ≡ b.shard
  resets_number shared id when (Ok k) b c r = r.same_shard
  resets_number shared id when (Err (TooFar limit)) b c r = same_shard b c r.2
  resets_number shared id when (Err Missing) b c r = same_shard b c r.2
  resets_number shared id when (Err WasCancelled) b c r = r.1.looked.shard
  resets_number shared id when (Err Worn) b c r = r.1.1.looked.shard
  resets_number shared id when (Err (Full linked worn)) b c r = absurd r
  resets_number shared id when (Err (TickTooLarge limit)) b c r = absurd r
  resets_number shared id when (Err BadConfig) b c r = absurd r
  resets_number shared id when (Err NoMemory) b c r = absurd r

  pub resets_age : (shared : Bool) (s t : CoreRow T W) (id : EntryId) (when : ℕ) (r : Result Key CoreError) (R : Type 0) → AreCores s
      → OnCoreOr id.shard (λ b c. Resets shared b id when r c) R s t → Ages s t
  resets_age shared s t id when r R law on =
      ages_or s t id.shard (λ b c. Resets shared b id when r c) R law on
      (λ b c did. (resets_number shared id when r b c did, ([], (calls_are_runs T W shared b c).reset id when r did)))

  pub inserts_number : (v : T) (when : ℕ) (r : Result Key (CoreError × T)) (b c : Core T W) → Inserts b v when r c → c.shard ≡ b.shard
  inserts_number v when (Ok k) b c r = r.same_shard
  inserts_number v when (Err e) b c r = same_shard b c r.2

  pub put_run : (b c : Core T W) (v : T) (d : ℕ) (k : Key) (beside : Option T) → PutsIn v d k beside b c → GoesByRun b [] c
  put_run b c v d k beside puts = (calls_are_runs T W true b c).insert v d (Ok k) puts.0

  -- a poll of one core, by its answer
  pub piece_run : (shared : Bool) (b c : Core T W) (tick most : ℕ) (r : Result (Piece T) CoreError) → PollsSome shared b tick most r c → (ds : List ℕ) × GoesByRun b ds c
  piece_run shared b c tick most r did = (given_by_piece r, (calls_are_runs T W shared b c).poll_some tick most r did)

  pub poll_run : (shared : Bool) (b c : Core T W) (tick : ℕ) (r : Result (Turn T) CoreError) → Polls shared b tick r c → (ds : List ℕ) × GoesByRun b ds c
  poll_run shared b c tick r did = (given r, (calls_are_runs T W shared b c).poll tick r did)

  pub ages_at : (s : CoreRow T W) (i : ℕ) (b c : Core T W) → AreCores s → i < length s.cores → b ≡ get_or s.cores i b → c.shard ≡ b.shard
      → (ds : List ℕ) × GoesByRun b ds c → Ages s (with_core s i c)
  ages_at s i b c law inside at same run = ages_in s i b c law (inside, sym at) same (run_ages b c run.0 same run.1)

  pub inserts_run : (v : T) (when : ℕ) (r : Result Key (CoreError × T)) (b c : Core T W) → Inserts b v when r c → (ds : List ℕ) × GoesByRun b ds c
  inserts_run v when r b c did = ([], (calls_are_runs T W true b c).insert v when r did)

  pub reap_run : (shared : Bool) (b c : Core T W) (id : EntryId) (r : Result (Unit {0}) ReapError) → Reaps shared b id r c → (ds : List ℕ) × GoesByRun b ds c
  reap_run shared b c id r did = ([], (calls_are_runs T W shared b c).reap id r did)

  pub sweep_run : (shared : Bool) (b c : Core T W) (from upto n : ℕ) → SweepsSome shared b from upto n c → (ds : List ℕ) × GoesByRun b ds c
  sweep_run shared b c from upto n did = ([], (calls_are_runs T W shared b c).sweep_some from upto n did)
