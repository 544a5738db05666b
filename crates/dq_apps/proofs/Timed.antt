-- What an insert, a reset and a removal do to the timers of a queue.
use Rattle.std.proofs.Common.{◌≡◌, ◌≢◌, ℕ, ◌+◌, ◌<◌, ◌≤◌, false, List, length, set, replicate, Some, None, max, Bool, refl, sym, ap, ◌∙◌, subst, inl, inr, arith}
use Rattle.std.specs.List.{count_by}
use Rattle.std.proofs.lemmas.List.{get_or_past}
use Rattle.std.proofs.lemmas.List.Sums.{count_by-le-length}
use Rattle.std.proofs.lemmas.Bool.{cases_lt}
use Rattle.dq_ticks.specs.Keys.{KeyName}
use Rattle.dq_ticks.specs.declared.TheConstants.{LAST_TICK}
use Rattle.dq_core.specs.declared.errors.CoreError.{CoreError}
use Rattle.dq_core.specs.declared.errors.CoreError.TheVariants.{TooFar, Full, Missing, WasCancelled, Worn, TickTooLarge, BadConfig, NoMemory}
use Rattle.dq_core.specs.declared.outcomes.Removed.{Removed}
use Rattle.dq_core.specs.Slots.{row_at, unused}
use Rattle.dq_ticks.specs.declared.words.Parts.{Parts}
use Rattle.dq_core.specs.Words.{Counts, never}
use Rattle.dq_core.specs.Machine.{Entry, TableRow, Machine, Has, OwnEventsAlone, table_at, put}
use Rattle.dq_core.specs.Core.{Core, machine, table_of, IsLawfulCore}
use Rattle.dq_core.specs.Calls.{SameCore, IsInserted, InsertRefused, IsMissing, IsFoundCancelled, FindRefused, IsReset, ResetRefused, IsRemoved, new_core}
use Rattle.dq_apps.specs.TimerTable.{timer_at, running, AllRun, IsRunning, IsTimer, is_set, is_spent, stopped, set_at, with_slots, Restarts, timers_of, AreTimers, AreWithin, unset, fresh_timers}
use Rattle.dq_apps.proofs.TimerRows.{slot_is, length-slots, count_set, count_spent, new_slots, none_run, set_here}
use Rattle.dq_apps.proofs.TimerRuns.{timers_is, timers_changed}

-- past the wheel's tick a base is what was asked for
base_is : {K W : Type 0} (b : Core K W) (when : ℕ) → IsLawfulCore b → b.noted ≤ when → max when (machine b).tick ≡ when
base_is b when law later = let tick = law.tick in omega (arith, tick, later)

-- what a timer's entry is
runs : {K : Type 0} (born d : ℕ) (key : K) (e : Entry K) → running born key d ≡ Some e → (x : ℕ) × (e.due ≡ Some x)
runs {K} born d key e is =
    let r : Entry K = record { born = born; value = key; due = Some d } in
    let same : r ≡ e = cc in
    (d, ap (λ x. x.due) (sym same))

-- insert
module _ {K W : Type 0} (b c : Core K W) (when : ℕ) where
  pub inserted_timers : (key : K) (k : KeyName) → SameCore b c → AreTimers b → IsInserted b key when k c → AreTimers c
  inserted_timers key k same t ins =
      let s = (timer_at (machine b).table k.entry.index).stamp + 1 in
      let d = max when (machine b).tick in
      timers_changed b c k.entry.index (record { stamp = s; entry = running s key d }) same t ins.step.0 (ap (λ m. m.table) ins.step.3) (runs s d key)

  -- where a slot is free, an insert up to the last tick isn't refused
  pub insert_refused : (e : CoreError) → IsLawfulCore b → when ≤ LAST_TICK → count_by is_set (machine b).table + count_by (is_spent b.slots.last_stamp) (machine b).table ≢ length (machine b).table → InsertRefused b when e → ⊥
  insert_refused (TooFar limit) law small room r = let far = r.1 in absurd (omega (arith, far, small))
  insert_refused (Full linked worn) law small room r =
      let full = r.3 in
      let held = r.1 ∙ count_set b.slots.rows b.known law.as_known in
      let spent = r.2 ∙ count_spent b.slots.last_stamp b.slots.rows b.known law.as_known in
      let size = length-slots b.slots.rows b.known law.as_known in
      room (omega (arith, full, held, spent, size))
  insert_refused Missing law small room r = r
  insert_refused WasCancelled law small room r = r
  insert_refused Worn law small room r = r
  insert_refused (TickTooLarge limit) law small room r = r
  insert_refused BadConfig law small room r = r
  insert_refused NoMemory law small room r = r

-- a timer that a key names
module _ {K W : Type 0} (b c : Core K W) (own : OwnEventsAlone false K) (same : SameCore b c) (t : AreTimers b) (k : KeyName) where
  -- its entry
  entry_at : (key : K) (d : ℕ) (e : Entry K) → IsRunning (machine b).table k key d → (table_at (machine b) k.entry.index).entry ≡ Some e → e ≡ record { born = k.entry.born; value = key; due = Some d }
  entry_at key d e r at =
      let here : (timer_at (machine b).table k.entry.index).entry ≡ running k.entry.born key d = ap (λ s. s.entry) r.timer in
      cc

  there : IsTimer (machine b).table k → IsMissing b k.entry → ⊥
  there r m = m (r.2.shard ∙ sym t.0) (record { born = k.entry.born; value = r.0; due = Some r.1 }) (ap (λ s. s.entry) r.2.timer) refl

  uncancelled : IsTimer (machine b).table k → IsFoundCancelled false b k.entry c → ⊥
  uncancelled r f =
      let alone = own.1 b.slots.last_stamp (machine b) (machine c) f.looked.callers in
      let P : Machine K → Type 0 = λ m. Has m k.entry.index f.entry.0 in
      let e = entry_at r.0 r.1 f.entry.0 r.2 (subst P alone f.entry.1).1 in
      let live : f.entry.0.due ≡ Some r.1 = ap (λ x. x.due) e in
      let none : f.entry.0.due ≡ None = f.entry.3 in
      absurd (cc)

  pub find_refused : (e : CoreError) → IsTimer (machine b).table k → FindRefused false b k.entry e c → ⊥
  find_refused (TooFar limit) r f = f
  find_refused (Full linked worn) r f = f
  find_refused Missing r f = there r f.0
  find_refused WasCancelled r f = uncancelled r f
  find_refused Worn r f = f
  find_refused (TickTooLarge limit) r f = f
  find_refused BadConfig r f = f
  find_refused NoMemory r f = f

  slot_stamp : IsLawfulCore b → IsTimer (machine b).table k → (row_at b.slots.rows k.entry.index).stamp ≡ k.stamp
  slot_stamp law r = sym (ap (λ s. s.stamp) (slot_is b.slots.rows b.known law.as_known k.entry.index)) ∙ ap (λ s. s.stamp) r.2.timer

  -- a reset up to the last tick is refused only at the last stamp
  pub reset_refused : (when : ℕ) (e : CoreError) → IsLawfulCore b → when ≤ LAST_TICK → IsTimer (machine b).table k → ResetRefused false b k.entry when e c → Restarts (timers_of b) k when None (timers_of c) × AreTimers c
  reset_refused when (TooFar limit) law small r f = let far = f.1 in absurd (omega (arith, far, small))
  reset_refused when (Full linked worn) law small r f = absurd f
  reset_refused when Missing law small r f = absurd (there r f.1)
  reset_refused when WasCancelled law small r f = absurd (uncancelled r f.1)
  reset_refused when Worn law small r f =
      let alone = own.1 b.slots.last_stamp (machine b) (machine c) f.1.1.looked.callers in
      let slots : (machine c).table ≡ (machine b).table = ap (λ m. m.table) alone in
      let P : List (TableRow K) → Type 0 = λ ss. AllRun ss in
      ((sym (slot_stamp law r) ∙ f.2, timers_is b c b.noted (machine b).table same f.1.1.looked.noted slots), (same.0 ∙ t.0, subst P (sym slots) t.1))
  reset_refused when (TickTooLarge limit) law small r f = absurd f
  reset_refused when BadConfig law small r f = absurd f
  reset_refused when NoMemory law small r f = absurd f

  -- reset
  module _ (new : KeyName) (when : ℕ) (law : IsLawfulCore b) (later : b.noted ≤ when) (timer : IsTimer (machine b).table k) (r : IsReset false b k.entry when new c) where
    old_stamp : (timer_at (machine b).table k.entry.index).stamp ≡ k.stamp
    old_stamp = ap (λ s. s.stamp) timer.2.timer

    reset_made : (key : K) (d : ℕ) → IsRunning (machine b).table k key d → (k.stamp < b.slots.last_stamp) × ((machine c).table ≡ set_at (machine b).table k.entry.index (k.stamp + 1) k.entry.born key when)
    reset_made key d run =
        let alone = own.1 b.slots.last_stamp (machine b) r.run.0 r.run.1 in
        let P : Machine K → Type 0 = λ m.
        (e : Entry K) × (x : ℕ) × Has m k.entry.index e × (e.born ≡ k.entry.born) × (e.due ≡ Some x)
        × ((table_at m k.entry.index).stamp < b.slots.last_stamp)
        × (machine c ≡ put m k.entry.index ((table_at m k.entry.index).stamp + 1) (Some (record { born = e.born; value = e.value; due = Some (max when m.tick) }))) in
        let step = subst P alone r.run.2 in
        let e = entry_at key d step.0 run step.2.1 in
        let below = step.5 in
        let base = base_is b when law later in
        let made : (machine c).table ≡ set (machine b).table k.entry.index (record { stamp = (timer_at (machine b).table k.entry.index).stamp + 1; entry = Some (record { born = step.0.born; value = step.0.value; due = Some (max when (machine b).tick) }) }) = ap (λ m. m.table) step.6 in
        let Q : ℕ → Type 0 = λ n. n < b.slots.last_stamp in (
          subst Q old_stamp below,
          made ∙ (λ i. set (machine b).table k.entry.index (record { stamp = old_stamp i + 1; entry = running (e i).born (e i).value (base i) })),
        )

    new_stamp : new.stamp ≡ k.stamp + 1
    new_stamp =
        let made = (reset_made timer.0 timer.1 timer.2).1 in
        sym r.stamp ∙ (ap (λ ss. (timer_at ss k.entry.index).stamp) made ∙ ap (λ s. s.stamp) (set_here (machine b).table k.entry.index (record { stamp = k.stamp + 1; entry = running k.entry.born timer.0 when }) timer.2.inside))

    pub reset_restarts : Restarts (timers_of b) k when (Some new) (timers_of c)
    reset_restarts = (
      (reset_made timer.0 timer.1 timer.2).0,
      (λ i. record { entry = r.key i; stamp = new_stamp i }),
      λ key d run. timers_is b c b.noted (set_at (machine b).table k.entry.index (k.stamp + 1) k.entry.born key when) same r.noted (reset_made key d run).1,
    )

    pub reset_timers : AreTimers c
    reset_timers = timers_changed b c k.entry.index (record { stamp = k.stamp + 1; entry = running k.entry.born timer.0 when }) same t timer.2.inside (reset_made timer.0 timer.1 timer.2).1 (runs k.entry.born when timer.0)

  -- remove
  module _ (x : Removed K) (timer : IsTimer (machine b).table k) (r : IsRemoved false b k.entry x c) where
    removed_made : (machine c).table ≡ stopped (machine b).table k.entry.index
    removed_made =
        let alone = own.1 b.slots.last_stamp (machine b) r.run.0 r.run.1 in
        ap (λ m. m.table) r.run.2.5 ∙ ap (λ m. stopped m.table k.entry.index) alone

    pub removed_stops : timers_of c ≡ with_slots (timers_of b) b.noted (stopped (machine b).table k.entry.index)
    removed_stops = timers_is b c b.noted (stopped (machine b).table k.entry.index) same r.noted removed_made

    pub removed_timers : AreTimers c
    removed_timers = timers_changed b c k.entry.index (record { stamp = (timer_at (machine b).table k.entry.index).stamp; entry = None }) same t timer.2.inside removed_made (λ e is. absurd (cc))

-- what the law of a queue says of its timers
module _ {K W : Type 0} (b : Core K W) (law : IsLawfulCore b) where
  pub capacity_within : length (machine b).table ≤ 65536
  capacity_within = let size = length-slots b.slots.rows b.known law.as_known in let few = law.capacity in omega (arith, size, few)

  pub counted_within : (p : TableRow K → Bool) → count_by p (machine b).table ≤ 65536
  counted_within p = let few = capacity_within in omega (arith, few, count_by-le-length p (machine b).table)

  pub stamps_within : AreWithin b.slots.last_stamp (machine b).table
  stamps_within i = elim (cases_lt i (length (machine b).table)) [
    | inl inside ↦
        let size = length-slots b.slots.rows b.known law.as_known in
        let bound = (law.each i (omega (arith, inside, size))).bound in
        let stamp = ap (λ s. s.stamp) (slot_is b.slots.rows b.known law.as_known i) in
        omega (arith, bound, stamp)
    | inr past ↦
        let none : (timer_at (machine b).table i).stamp ≡ 0 = ap (λ s. s.stamp) (get_or_past (machine b).table i unset past) in
        omega (arith, none)
  ]

-- a fresh queue
pub fresh_is : {K W : Type 0} (c : Core K W) (capacity last : ℕ) (known : List Parts) (counts : Counts) (words : W) → c ≡ new_core 0 capacity last c.wheel c.deferred known counts words → known ≡ replicate capacity never → (timers_of c ≡ fresh_timers capacity last) × AreTimers c
fresh_is {K} c capacity last known counts words is fresh =
    let slots : (machine c).table ≡ replicate capacity unset = (λ i. table_of (is i).slots.rows (is i).known) ∙ (ap (λ k. table_of (replicate capacity unused) k) fresh ∙ new_slots capacity) in
    let P : List (TableRow K) → Type 0 = λ ss. AllRun ss in
    ((λ i. record { last_stamp = (is i).slots.last_stamp; noted = (is i).noted; slots = slots i }), (ap (λ x. x.shard) is, subst P (sym slots) (none_run capacity)))
