-- What the runs of a queue leave of its timers, where nothing is cancelled.
use Rattle.std.proofs.Common.{◌≡◌, ℕ, ◌<◌, ◌≤◌, zero, suc, Bool, true, false, cond, List, [], ◌∷◌, length, set, Some, None, max, filter, refl, sym, ap, ◌∙◌, subst, arith}
use Rattle.std.specs.List.{AllByRecursion}
use Rattle.std.proofs.lemmas.Bool.{false≢true, leb-false}
use Rattle.dq_core.specs.declared.outcomes.Expired.{Expired}
use Rattle.dq_core.specs.declared.outcomes.Turn.{Turn}
use Rattle.dq_core.specs.declared.outcomes.Turn.TheVariants.{Out, Waiting, Idle}
use Rattle.dq_core.specs.Machine.{Entry, TableRow, Machine, Event, Note, Pass, Insert, Reset, Extend, Cancel, Remove, Reap, Expire, Step, Run, RunOf, IsOnTheWay, is_due_entry, due}
use Rattle.dq_core.specs.Core.{Core, machine}
use Rattle.dq_core.specs.Calls.{SameCore, IsPolled, noting}
use Rattle.dq_apps.specs.TimerTable.{timer_at, running, AllRun, stopped, with_slots, NoneDue, StopsDue, timers_of, AreTimers}
use Rattle.dq_apps.proofs.TimerRows.{all_run_set, inside_slots}

-- what a queue shows after a call that keeps its configuration
pub timers_is : {K W : Type 0} (b c : Core K W) (noted : ℕ) (slots : List (TableRow K)) → SameCore b c → c.noted ≡ noted → (machine c).table ≡ slots → timers_of c ≡ with_slots (timers_of b) noted slots
timers_is b c noted slots same en es = λ i. record { last_stamp = same.1 i; noted = en i; slots = es i }

-- slot i has another stamp and entry
pub timers_changed : {K W : Type 0} (b c : Core K W) (i : ℕ) (x : TableRow K) → SameCore b c → AreTimers b → i < length (machine b).table → (machine c).table ≡ set (machine b).table i x → ((e : Entry K) → x.entry ≡ Some e → (d : ℕ) × (e.due ≡ Some d)) → AreTimers c
timers_changed {K} b c i x same t inside es here =
    let P : List (TableRow K) → Type 0 = λ ss. AllRun ss in
    (same.0 ∙ t.0, subst P (sym es) (all_run_set (machine b).table i x inside t.1 here))

-- where nothing passes a filter, the first doesn't, nor do the others
filter_head : {A : Type 0} (p : A → Bool) (x : A) (xs : List A) → filter p (x ∷ xs) ≡ [] → (p x ≡ false) × (filter p xs ≡ [])
filter_head {A} p x xs h = by (p x) h
  where
    by : (t : Bool) → cond t (x ∷ filter p xs) (filter p xs) ≡ [] → (t ≡ false) × (filter p xs ≡ [])
    by true e = absurd (cons_nil (filter p xs) e)
      where
        cons_nil : (ys : List A) → ◌≡◌ {A = List A} (x ∷ ys) [] → ⊥
        cons_nil ys q = cc
    by false e = (refl, e)

module _ {K : Type 0} where
  -- on its way a poll passes to other ticks, and finds nothing to reap
  event_slots : (last : ℕ) (m n : Machine K) (e : Event K) → AllRun m.table → IsOnTheWay false e → Step last m e n → n.table ≡ m.table
  event_slots last m n (Note t) all w s = absurd w
  event_slots last m n (Pass t) all w s = ap (λ k. k.table) s.3
  event_slots last m n (Insert i v when) all w s = absurd w
  event_slots last m n (Reset i b when) all w s = absurd w
  event_slots last m n (Extend i b when) all w s = absurd (false≢true w)
  event_slots last m n (Cancel i b) all w s = absurd (false≢true w)
  event_slots last m n (Remove i b) all w s = absurd w
  event_slots last m n (Reap i b) all w s =
      let runs = all i s.0 s.1.1 in
      let due : s.0.due ≡ Some runs.0 = runs.1 in
      let none : s.0.due ≡ None = s.3 in
      absurd (cc)
  event_slots last m n (Expire i b at) all w s = absurd w

  run_slots : (last : ℕ) (m n : Machine K) (es : List (Event K)) → AllRun m.table → AllByRecursion (IsOnTheWay false) es → Run last m es n → n.table ≡ m.table
  run_slots last m n [] all ws r = ap (λ k. k.table) r
  run_slots last m n (e ∷ es) all ws r =
      let one = event_slots last m r.0 e all ws.0 r.1 in
      let P : List (TableRow K) → Type 0 = λ ss. AllRun ss in
      run_slots last r.0 n es (subst P (sym one) all) ws.1 r.2 ∙ one

  pub way_slots : (last : ℕ) (m n : Machine K) → AllRun m.table → RunOf (IsOnTheWay false) last m n → n.table ≡ m.table
  way_slots last m n all w = run_slots last m n w.0 all w.1 w.2

  -- where the due filter is empty, no timer is due
  pub none_due : (now : ℕ) (ss : List (TableRow K)) → filter (λ s. is_due_entry now s.entry) ss ≡ [] → NoneDue now ss
  none_due now [] h i born key d at = absurd (cc)
  none_due now (s ∷ ss) h zero born key d at =
      let late = (filter_head (λ s. is_due_entry now s.entry) s ss h).0 in
      leb-false d now (sym (ap (is_due_entry now) at) ∙ late)
  none_due now (s ∷ ss) h (suc i) born key d at =
      none_due now ss (filter_head (λ s. is_due_entry now s.entry) s ss h).1 i born key d at

-- poll
module _ {K W : Type 0} (b c : Core K W) (now : ℕ) (same : SameCore b c) (t : AreTimers b) (later : b.noted ≤ now) where
  noted_is : c.noted ≡ max b.noted now → c.noted ≡ now
  noted_is e = omega (arith, e, later)

  module _ (x : Expired K) (p : IsPolled false b now (Out x) c) where
    abbrev m : Machine K
    m = p.2.run.0

    kept : m.table ≡ (machine b).table
    kept = way_slots b.slots.last_stamp (machine (noting b now)) m t.1 p.2.run.1

    abbrev i : ℕ
    i = x.key.entry.index

    -- what came out stood at its slot
    was : (timer_at (machine b).table i).entry ≡ running x.key.entry.born x.value x.deadline
    was = let P : List (TableRow K) → Type 0 = λ ss. (timer_at ss i).entry ≡ running x.key.entry.born x.value x.deadline in subst P kept p.2.run.2.0.1.1

    left : (machine c).table ≡ stopped (machine b).table i
    left = ap (λ k. k.table) p.2.run.2.0.0.7 ∙ ap (λ ss. stopped ss i) kept

    reached : x.deadline ≤ now
    reached =
        let at = p.2.run.2.0.0.5 in
        let en : (machine c).noted ≡ m.noted = ap (λ k. k.noted) p.2.run.2.0.0.7 in
        let up = noted_is p.3 in
        omega (arith, at, en, up)

    pub out_stops : StopsDue (timers_of b) now (Some x.value) (timers_of c)
    out_stops =
        (i, x.key.entry.born, x.deadline, inside_slots (machine b).table i _ was, was, reached, timers_is b c now (stopped (machine b).table i) same (noted_is p.3) left)

    pub out_timers : AreTimers c
    out_timers = timers_changed b c i (record { stamp = (timer_at (machine b).table i).stamp; entry = None }) same t (inside_slots (machine b).table i _ was) left (λ e none. absurd (cc))

  rests : (n : Machine K) → n.table ≡ (machine b).table → machine c ≡ n → due (machine c) c.noted ≡ [] → c.noted ≡ max b.noted now → StopsDue (timers_of b) now None (timers_of c) × AreTimers c
  rests n kept same_machine none en =
      let slots : (machine c).table ≡ (machine b).table = ap (λ k. k.table) same_machine ∙ kept in
      let P : ℕ → Type 0 = λ k. NoneDue k (machine c).table in
      let late : NoneDue now (machine c).table = subst P (noted_is en) (none_due c.noted (machine c).table none) in
      let Q : List (TableRow K) → Type 0 = λ ss. NoneDue now ss in
      let R : List (TableRow K) → Type 0 = λ ss. AllRun ss in
      ((timers_is b c now (machine b).table same (noted_is en) slots, subst Q slots late), (same.0 ∙ t.0, subst R (sym slots) t.1))

  pub waiting_stops : (next : ℕ) → IsPolled false b now (Waiting next) c → StopsDue (timers_of b) now None (timers_of c) × AreTimers c
  waiting_stops next p = rests p.2.run.0 (way_slots b.slots.last_stamp (machine (noting b now)) p.2.run.0 t.1 p.2.run.1) p.2.run.2.0 p.2.run.2.2 p.3

  pub idle_stops : IsPolled false b now Idle c → StopsDue (timers_of b) now None (timers_of c) × AreTimers c
  idle_stops p = rests p.2.run.0 (way_slots b.slots.last_stamp (machine (noting b now)) p.2.run.0 t.1 p.2.run.1) p.2.run.2.0 p.2.run.2.2 p.3

  pub turn_timers : (turn : Turn K) → IsPolled false b now turn c → AreTimers c
  turn_timers (Out x) p = out_timers x p
  turn_timers (Waiting next) p = (waiting_stops next p).1
  turn_timers Idle p = (idle_stops p).1
