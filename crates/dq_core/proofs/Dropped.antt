-- What a call of the owner's leaves where it drops values that were deferred: all but these is as it was.
use Rattle.std.proofs.Common.{◌≡◌, ℕ, zero, suc, ◌+◌, ◌<◌, ◌≤◌, Bool, true, cond, ◌&&◌, nat_lt, List, [], ◌∷◌, length, get_or, set, Option, Some, None, is_some, is_none, Result, Ok, Err, refl, sym, ap, ◌∙◌, subst, inl, inr, arith}
use Rattle.std.specs.Prelude.{if◌then◌else◌, IfErr, IfOk, OnOk}
use Rattle.std.specs.List.{count_by}
use Rattle.std.proofs.lemmas.Bool.{cases_eq, false≢true, lt-ltb}
use Rattle.std.proofs.lemmas.List.{get_or-set_same, get_or-set_other, set-get_or}
use Rattle.std.proofs.lemmas.List.Sums.{sum_by-set}
use Rattle.dq_ticks.specs.declared.TheConstants.{LAST_TICK}
use Rattle.dq_ticks.specs.declared.keys.Key.{Key}
use Rattle.dq_core.specs.declared.errors.CoreError.{CoreError}
use Rattle.dq_core.specs.declared.errors.CoreError.TheVariants.{TooFar, Full, Missing, WasCancelled, Worn, TickTooLarge, BadConfig, NoMemory}
use Rattle.dq_core.specs.declared.outcomes.Turn.{Turn}
use Rattle.dq_core.specs.declared.outcomes.Expired.{Expired}
use Rattle.dq_core.specs.declared.outcomes.Turn.TheVariants.{Out, Waiting, Idle}
use Rattle.dq_core.specs.AtTheCall.{IfOut}
use Rattle.dq_core.specs.declared.outcomes.Piece.{Piece}
use Rattle.dq_core.specs.declared.outcomes.Piece.TheVariants.{Answer, Working}
use Rattle.dq_ticks.specs.declared.words.Parts.{Parts}
use Rattle.dq_core.specs.declared.slots.Held.{Held}
use Rattle.dq_core.specs.Slots.{Row, SlotRows, DeferredValues, row_at, is_free}
use Rattle.dq_core.specs.Core.{Core, entry_of, table_of}
use Rattle.dq_core.specs.Calls.{IsAnswered, IsPolled, IsInserted, InsertRefused, Inserts}
use Rattle.dq_core.specs.Pieces.{IsAnsweredBy, IsComing, IsPieceOf, IsPolledSome}
use Rattle.dq_core.specs.Sweeps.{AreOut, AreReaped, AreEnded, IsSwept, Sweeps, SweepsSome, Clears}
use Rattle.dq_core.specs.Deferring.{deferred_value_at, with_deferred, waiting_in, WillDisplace, MakesRoom, TakesDeferredValue, TakesDisplaced}
use Rattle.dq_core.proofs.SlotRows.{parted}

abbrev one : Bool → ℕ
one b = cond b 1 0

-- a queue with other deferred values
abbrev pub with_deferred_values : {T W : Type 0} → Core T W → DeferredValues T → Core T W
with_deferred_values c a = record c { deferred = a }

some_inside : {A : Type 0} (xs : List (Option A)) (i : ℕ) (x : A) → get_or xs i None ≡ Some x → i < length xs
some_inside [] i x is = cc
some_inside (y ∷ xs) zero x is = omega arith
some_inside (y ∷ xs) (suc i) x is = let h = some_inside xs i x is in omega (arith, h)

-- one fewer waits once one was taken out
pub took_one : {T : Type 0} (a b : DeferredValues T) (x : T) → TakesDeferredValue a (Some x) b → waiting_in b + 1 ≡ waiting_in a
took_one {T} a b x t =
    let values = a.values in
    let i = t.1.0 in
    let inside = some_inside values i x t.1.1 in
    let sum = sum_by-set (λ (o : Option T). one (is_some o)) values i None None inside in
    let was : one (is_some (get_or values i None)) ≡ 1 = ap (λ (o : Option T). one (is_some o)) t.1.1 in
    let old : waiting_in a ≡ count_by is_some values = ap (λ (d : Bool). if d then count_by is_some values else 0) t.0 in
    let new : waiting_in b ≡ count_by is_some (set values i None) = ap (λ (v : DeferredValues T). waiting_in v) t.1.2 ∙ ap (λ (d : Bool). if d then count_by is_some (set values i None) else 0) t.0 in
    omega (arith, sum, was, old, new)

module _ {T W : Type 0} (shared : Bool) (b c : Core T W) (a : DeferredValues T) where
  answered_dropped : (turn : Turn T) → IsAnswered shared b turn c → IsAnswered shared b turn (with_deferred_values c a)
  answered_dropped turn x = record { run = x.run; row = x.row; wheel = x.wheel; ticks = x.ticks; filed = x.filed; counts = x.counts }

  coming_dropped : (most : ℕ) → IsComing shared most b c → IsComing shared most b (with_deferred_values c a)
  coming_dropped most x = record { way = x.way; looks = x.looks; wheel = x.wheel; ticks = x.ticks; filed = x.filed; counts = x.counts }

  answered_by_dropped : (most : ℕ) (turn : Turn T) → IsAnsweredBy shared most b turn c → IsAnsweredBy shared most b turn (with_deferred_values c a)
  answered_by_dropped most turn x = record { run = x.run; row = x.row; wheel = x.wheel; ticks = x.ticks; filed = x.filed; counts = x.counts }

  piece_of_dropped : (most : ℕ) (piece : Piece T) → IsPieceOf shared b most piece c → IsPieceOf shared b most piece (with_deferred_values c a)
  piece_of_dropped most (Answer turn) x = answered_by_dropped most turn x
  piece_of_dropped most Working x = (coming_dropped most x.0, x.1)

  out_dropped : (is : List ℕ) → AreOut b is c → AreOut b is (with_deferred_values c a)
  out_dropped is x = record { filed = x.filed; slots = x.slots; held = x.held; noted = x.noted }

  reaped_dropped : (is : List ℕ) → AreReaped shared b is c → AreReaped shared b is (with_deferred_values c a)
  reaped_dropped is x = record { run = x.run; out = out_dropped is x.out; looks = x.looks; counts = x.counts }

  ended_dropped : (is : List ℕ) (n : ℕ) → AreEnded shared b is n c → AreEnded shared b is n (with_deferred_values c a)
  ended_dropped is n x = record { run = x.run; few = x.few; out = out_dropped is x.out; counts = x.counts }

  pub sweeps_dropped : (n : ℕ) → Sweeps shared b n c → Sweeps shared b n (with_deferred_values c a)
  sweeps_dropped n x = record { reaped = (x.reaped.0, x.reaped.1, reaped_dropped _ x.reaped.2); none = x.none }

  pub sweeps_some_dropped : (from upto n : ℕ) → SweepsSome shared b from upto n c → SweepsSome shared b from upto n (with_deferred_values c a)
  sweeps_some_dropped from upto n x = record { reaped = (x.reaped.0, x.reaped.1, reaped_dropped _ x.reaped.2); none = x.none; other = x.other }

  pub clears_dropped : (n : ℕ) → Clears shared b n c → Clears shared b n (with_deferred_values c a)
  clears_dropped n x = record { ended = (x.ended.0, ended_dropped _ n x.ended.1); words = x.words; none = x.none }

pub polled_dropped : {T W : Type 0} (shared : Bool) (b c : Core T W) (a : DeferredValues T) (tick : ℕ) (turn : Turn T) → IsPolled shared b tick turn c → IsPolled shared b tick turn (with_deferred_values c a)
polled_dropped shared b c a tick turn x = (x.0, x.1, answered_dropped shared _ c a turn x.2, x.3)

-- a poll that gave no entry
pub none_out : {T : Type 0} (P : Expired T → Type 0) (turn : Turn T) → ((x : Expired T) → turn ≡ Out x → ⊥) → IfOut (Ok turn) P
none_out P (Out x) not = absurd (not x refl)
none_out P (Waiting next) not = tt {0}
none_out P Idle not = tt {0}

pub polled_some_dropped : {T W : Type 0} (shared : Bool) (b c : Core T W) (a : DeferredValues T) (tick most : ℕ) (piece : Piece T) → IsPolledSome shared b tick most piece c → IsPolledSome shared b tick most piece (with_deferred_values c a)
polled_some_dropped shared b c a tick most piece x = (x.0, x.1, piece_of_dropped shared _ c a most piece x.2, x.3)

-- an insert after a drop
module _ {T W : Type 0} (b c : Core T W) (a : DeferredValues T) (v : T) (when : ℕ) where
  inserted_after : (k : Key) → IsInserted (with_deferred_values b a) v when k c → IsInserted b v when k c
  inserted_after k x = record {
    accepted = x.accepted;
    step = x.step;
    stamp = x.stamp;
    born = x.born;
    shard = x.shard;
    filed = x.filed;
    slots = x.slots;
    known = x.known;
    counts = x.counts;
    same_shard = x.same_shard;
    noted = x.noted;
  }

  pub inserts_after : (r : Result Key (CoreError × T)) → IfErr r (λ e. with_deferred_values b a ≡ b) → Inserts (with_deferred_values b a) v when r c → Inserts b v when r c
  inserts_after (Ok k) same x = inserted_after k x
  inserts_after (Err (TooFar limit, u)) same x = (x.0, x.1, x.2 ∙ same)
  inserts_after (Err (Full linked worn, u)) same x = (x.0, x.1, x.2 ∙ same)
  inserts_after (Err (Missing, u)) same x = absurd x.0
  inserts_after (Err (WasCancelled, u)) same x = absurd x.0
  inserts_after (Err (Worn, u)) same x = absurd x.0
  inserts_after (Err (TickTooLarge limit, u)) same x = absurd x.0
  inserts_after (Err (BadConfig, u)) same x = absurd x.0
  inserts_after (Err (NoMemory, u)) same x = absurd x.0

-- where an insert is refused for want of a slot none is free
pub full_none_free : {T W : Type 0} (b : Core T W) (when linked worn : ℕ) → InsertRefused b when (Full linked worn) → count_by (is_free b.slots.last_stamp) b.slots.rows ≡ 0
full_none_free b when linked worn x =
    let all = parted b.slots.last_stamp b.slots.rows in
    omega (arith, all, x.1, x.2, x.3)

-- so nothing is dropped before one that is refused
pub refused_same : {T W : Type 0} (b mid new : Core T W) (v : T) (when : ℕ) (r : Result Key (CoreError × T)) → when ≤ LAST_TICK → mid ≡ with_deferred_values b mid.deferred → (count_by (is_free b.slots.last_stamp) b.slots.rows ≡ 0 → mid ≡ b) → Inserts mid v when r new → IfErr r (λ e. mid ≡ b)
refused_same b mid new v when (Ok k) small is full x = tt
refused_same b mid new v when (Err (TooFar limit, u)) small is full x = let far = x.0.1 in absurd (omega (arith, far, small))
refused_same {T} {W} b mid new v when (Err (Full linked worn, u)) small is full x =
    let F : Core T W → Type 0 = λ q. count_by (is_free q.slots.last_stamp) q.slots.rows ≡ 0 in
    full (subst F is (full_none_free mid when linked worn x.0))
refused_same b mid new v when (Err (Missing, u)) small is full x = absurd x.0
refused_same b mid new v when (Err (WasCancelled, u)) small is full x = absurd x.0
refused_same b mid new v when (Err (Worn, u)) small is full x = absurd x.0
refused_same b mid new v when (Err (TickTooLarge limit, u)) small is full x = absurd x.0
refused_same b mid new v when (Err (BadConfig, u)) small is full x = absurd x.0
refused_same b mid new v when (Err (NoMemory, u)) small is full x = absurd x.0

pub refused_after : {T W : Type 0} (b mid new : Core T W) (v : T) (r : Result Key (CoreError × T)) → IfErr r (λ e. (e.1 ≡ v) × (new ≡ mid)) → IfErr r (λ e. mid ≡ b) → IfErr r (λ e. (e.1 ≡ v) × (new ≡ b))
refused_after b mid new v (Ok k) x same = tt
refused_after b mid new v (Err e) x same = (x.0, x.1 ∙ same)

pub same_after : {T W : Type 0} (b mid : Core T W) (a : DeferredValues T) (r : Result Key (CoreError × T)) → mid ≡ with_deferred_values b a → IfErr r (λ e. mid ≡ b) → IfErr r (λ e. with_deferred_values b a ≡ b)
same_after b mid a (Ok k) is same = tt
same_after b mid a (Err e) is same = sym is ∙ same

-- what is taken out for an insert, if anything is
pub makes_room : {T : Type 0} (s : SlotRows T) (a : DeferredValues T) (r : Option T) (b : DeferredValues T) → TakesDisplaced s a r b → MakesRoom s a b
makes_room s a None b t = inl t.1
makes_room s a (Some v) b t = inr (v, t)

empty_held : {T : Type 0} (o : Option (Held T)) (w : Parts) → entry_of o w ≡ None → o ≡ None
empty_held None w none = refl
empty_held (Some h) w none = absurd (cc)

-- a slot without an entry in the machine's table holds nothing
empty_row : {T : Type 0} (rows : List (Row T)) (ws : List Parts) (i : ℕ) → i < length (table_of rows ws) → (get_or (table_of rows ws) i (record { stamp = 0; entry = None })).entry ≡ None → (i < length rows) × ((row_at rows i).held ≡ None) × ((get_or (table_of rows ws) i (record { stamp = 0; entry = None })).stamp ≡ (row_at rows i).stamp)
empty_row [] ws i inside none = absurd (omega (arith, inside))
empty_row (r ∷ rs) [] i inside none = absurd (omega (arith, inside))
empty_row (r ∷ rs) (w ∷ ws) zero inside none = (omega arith, empty_held r.held w none, refl)
empty_row (r ∷ rs) (w ∷ ws) (suc i) inside none = let rest = empty_row rs ws i (omega (arith, inside)) none in (omega (arith, rest.0), rest.1, rest.2)

-- so the slot that an insert takes was free
was_free : {T W : Type 0} (b c : Core T W) (v : T) (when : ℕ) (k : Key) → IsInserted b v when k c → (k.entry.index < length b.slots.rows) × (is_free b.slots.last_stamp (row_at b.slots.rows k.entry.index) ≡ true)
was_free {T} b c v when k x =
    let i = k.entry.index in
    let r = row_at b.slots.rows i in
    let last = b.slots.last_stamp in
    let e = empty_row b.slots.rows b.known i x.step.0 x.step.1 in
    let left : r.stamp < last = omega (arith, e.2, x.step.2) in
    (e.0, ap (λ (o : Option (Held T)). is_none o && nat_lt r.stamp last) e.1 ∙ lt-ltb r.stamp last left)

-- an insert takes the slot in which room was made for it: what is deferred elsewhere stays
pub room_deferred : {T W : Type 0} (b mid new : Core T W) (v : T) (when : ℕ) (k : Key) (r : Option T) → mid.slots ≡ b.slots → MakesRoom b.slots b.deferred mid.deferred → IsInserted mid v when k new → (r ≡ deferred_value_at mid.deferred k.entry.index) × (new.deferred ≡ with_deferred mid.deferred k.entry.index None) → (mid.deferred.drops ≡ true → is_some r ≡ true → WillDisplace mid.slots mid.deferred) → new.deferred ≡ with_deferred b.deferred k.entry.index None
room_deferred b mid new v when k r same (inl none) x beside displaced = beside.1 ∙ ap (λ a. with_deferred a k.entry.index None) none
room_deferred {T} b mid new v when k r same (inr (u, took)) x beside displaced =
    let was = took.0 in
    let i = took.1.0 in
    let inside = took.1.1 in
    let free = took.1.2 in
    let some = took.1.3 in
    let is = took.1.4 in
    let at = k.entry.index in
    let values = b.deferred.values in
    let gone : get_or (set values i None) i None ≡ None = get_or-set_same values i None None (some_inside values i u some) in
    elim (cases_eq at i) [
      | inl e ↦
          let twice : set (set values i None) i None ≡ set values i None = ap (λ o. set (set values i None) i o) (sym gone) ∙ set-get_or (set values i None) i None in
          beside.1 ∙ ap (λ a. with_deferred a at None) is ∙ ap (λ j. with_deferred (with_deferred b.deferred i None) j None) e ∙ ap (λ vs. let a : DeferredValues T = record { drops = b.deferred.drops; values = vs } in a) twice ∙ ap (λ j. with_deferred b.deferred j None) (sym e)
      | inr ne ↦
          let on : mid.deferred.drops ≡ true = ap (λ (a : DeferredValues T). a.drops) is ∙ was.0 in
          let taken = was_free mid new v when k x in
          let there : is_some (deferred_value_at b.deferred at) ≡ true = was.2 at (subst (λ (s : SlotRows T). at < length s.rows) same taken.0) (subst (λ (s : SlotRows T). is_free s.last_stamp (row_at s.rows at) ≡ true) same taken.1) in
          let found : r ≡ deferred_value_at b.deferred at = beside.0 ∙ ap (λ (a : DeferredValues T). deferred_value_at a at) is ∙ get_or-set_other values i at None None ne in
          let all = displaced on (ap (λ o. is_some o) found ∙ there) in
          let here : is_some (deferred_value_at mid.deferred i) ≡ true = all.2 i (subst (λ (s : SlotRows T). i < length s.rows) (sym same) inside) (subst (λ (s : SlotRows T). is_free s.last_stamp (row_at s.rows i) ≡ true) (sym same) free) in
          absurd (false≢true (sym (ap (λ (o : Option T). is_some o) (ap (λ (a : DeferredValues T). deferred_value_at a i) is ∙ gone)) ∙ here))
    ]

-- likewise, by an insert's answer
pub insert_deferred : {T W : Type 0} (b mid new : Core T W) (v : T) (when : ℕ) (answer : Result Key (CoreError × T)) (r : Option T) → mid.slots ≡ b.slots → MakesRoom b.slots b.deferred mid.deferred → Inserts mid v when answer new → IfOk answer (λ k. (r ≡ deferred_value_at mid.deferred k.entry.index) × (new.deferred ≡ with_deferred mid.deferred k.entry.index None)) → OnOk answer (mid.deferred.drops ≡ true → is_some r ≡ true → WillDisplace mid.slots mid.deferred) → IfOk answer (λ k. new.deferred ≡ with_deferred b.deferred k.entry.index None)
insert_deferred b mid new v when (Ok k) r same room x beside displaced = room_deferred b mid new v when k r same room x beside displaced
insert_deferred b mid new v when (Err e) r same room x beside displaced = tt
