-- What one poll of a stream gives, and where it leaves its task.
use Rattle.std.proofs.Common.{◌≡◌, ℕ, ◌≤◌, ◌<◌, ◌+◌, ◌∙◌, max, [], length, refl, sym, ap, subst, inl, inr, arith, ◌⊎◌, true, Option, Some, None, Result, Ok, Err, IfSome, get_or-set_same}
use Rattle.std.proofs.lemmas.List.{get_or-set_other}
use Rattle.std.proofs.lemmas.Bool.{cases_eq}
use Rattle.futures.specs.Poll.{OnPending}
use Rattle.futures.specs.declared.task.Poll.TheVariants.{Ready, Pending}
use Rattle.futures.specs.declared.task.context.Context.{Context}
use Rattle.futures.specs.declared.task.waker.Waker.{Waker}
use Rattle.dq_core.specs.Calls.{TellsWake, IsOut, noting}
use Rattle.dq_core.specs.Core.{Core, machine}
use Rattle.dq_core.specs.Machine.{TableRow, Machine, put, table_at, due, NoneLiveBefore}
use Rattle.dq_core.specs.Pieces.{steps_left}
use Rattle.dq_core.specs.declared.outcomes.Expired.{Expired}
use Rattle.dq_core.specs.declared.outcomes.Piece.TheVariants.{Answer as Answered, Working}
use Rattle.dq_core.specs.declared.outcomes.Turn.TheVariants.{Out}
use Rattle.dq_words.specs.Seats.{Sat}
use Rattle.dq_shards.specs.declared.parking.sleeping.StreamFault.{StreamFault}
use Rattle.dq_shards.specs.declared.parking.sleeping.StreamFault.TheVariants.{TickTooLarge}
use Rattle.dq_shards.specs.declared.parking.sleeping.StreamFault.TheVariants.{NoMemory}
use Rattle.dq_shards.specs.declared.parking.parked.Parked.{Parked}
use Rattle.dq_shards.specs.EachPoll.{IsLeastDue, IsParkedAtWake, IsAtWork, TurnsAt, AnswersAt}
use Rattle.dq_shards.specs.Items.{Answer}
use Rattle.dq_shards.specs.Parking.{poller}
use Rattle.dq_shards.specs.Streaming.{ParksWith, PollsBy, rest_of, WaitsSo, PollsState, Turns, StreamPolls}
use Rattle.dq_shards.specs.Wakers.{LeavesWaker}

ok_err : (done : Unit {0}) → (r : Result (Unit {0}) StreamFault) → r ≡ Ok done → r ≡ Err NoMemory → ⊥
ok_err done r ok err = cc

-- what is parked is what a registration left
pub parks_slot : {S N : Type 0} (parks : S → Option (Parked N) → S) (old new : S) (next : N) (slot : Option Waker) (done : Unit {0})
    → ParksWith parks old next slot (Ok done) new → (waker : Waker) × (slot ≡ Some waker) × (new ≡ parks old (Some (poller next waker)))
parks_slot parks old new next None done with = absurd (ok_err done (Ok done) refl with.0)
parks_slot parks old new next (Some waker) done with = (waker, refl, with.1)

none_some : {A : Type 0} (o : Option A) (a : A) → o ≡ None → o ≡ Some a → ⊥
none_some o a none some = cc

-- no live entry is earlier where one entry less is linked
none_live_left : {T : Type 0} (m : Machine T) (i s t : ℕ) → i < length m.table → NoneLiveBefore m t → NoneLiveBefore (put m i s None) t
none_live_left {T} m i s t inside none j e d is live =
    let unused : TableRow T = record { stamp = 0; entry = None } in
    let left : TableRow T = record { stamp = s; entry = None } in
    elim (cases_eq j i) [
      | inl same ↦ absurd (none_some _ e (rw same (ap (λ r. r.entry) (get_or-set_same m.table i left unused inside))) is)
      | inr other ↦ none j e d (sym (ap (λ r. r.entry) (get_or-set_other m.table i j left unused other)) ∙ is) live
    ]

-- what came out is due and least
least : {T : Type 0} (m n : Machine T) (shard last : ℕ) (x : Expired T) → IsOut shard last m x n
    → (x.noted ≡ n.noted) × (x.deadline ≤ x.noted) × NoneLiveBefore n x.deadline
least {T} m n shard last x out =
    let step = out.0.0 in
    let i = x.key.entry.index in
    let left = none_live_left m i (table_at m i).stamp x.deadline out.0.1.0 step.6 in
    let noted : x.noted ≡ m.noted = out.2 ∙ ap (λ (k : Machine T). k.noted) step.7 in
    (out.2, subst (λ (t : ℕ). x.deadline ≤ t) (sym noted) step.5, subst (λ (k : Machine T). NoneLiveBefore k x.deadline) (sym step.7) left)

module _ {T : Type 0} where
  pub least_due : (most : Option ℕ) (b c : Core T Sat) (tick : ℕ) (x : Expired T) → PollsBy most b tick (Ok (Answered (Out x))) c → IsLeastDue c x
  least_due None b c tick x polled = least polled.2.run.0 (machine c) b.shard b.slots.last_stamp x polled.2.run.2
  least_due (Some many) b c tick x polled = least polled.2.run.0 (machine c) b.shard b.slots.last_stamp x polled.2.run.2

  -- where nothing is due, the next wake is after the noted tick
  rested : (most : Option ℕ) (b c : Core T Sat) (tick : ℕ) (wake : Option ℕ) → PollsBy most b tick (Ok (Answered (rest_of wake))) c
      → (due (machine c) c.noted ≡ []) × TellsWake c wake × IfSome wake (λ w. c.noted < w)
  rested None b c tick None polled = (polled.2.run.2.2, polled.2.run.2.3, tt)
  rested None b c tick (Some next) polled = (polled.2.run.2.2, polled.2.run.2.3, polled.2.run.2.4)
  rested (Some many) b c tick None polled = (polled.2.run.2.2, polled.2.run.2.3, tt)
  rested (Some many) b c tick (Some next) polled = (polled.2.run.2.2, polled.2.run.2.3, polled.2.run.2.4)

  noted_once : (b c : Core T Sat) (tick : ℕ) → c.noted ≡ max b.noted tick → noting b c.noted ≡ noting b tick
  noted_once b c tick is =
      let twice : max b.noted c.noted ≡ max b.noted tick = rw is (omega arith) in
      ap (λ n. record b { noted = n }) twice

  at_work : {N : Type 0} (cy : Context) (most : Option ℕ) (b c : Core T Sat) (tick : ℕ) (parked : Option (Parked N)) → cy.is_woken ≡ true → parked ≡ None
      → PollsBy most b tick (Ok Working) c → IsAtWork cy most b c parked
  at_work cy None b c tick parked woken none polled = absurd polled
  at_work cy (Some many) b c tick parked woken none polled =
      (woken, none, subst (λ k. steps_left c + many ≤ steps_left k) (sym (noted_once b c tick polled.3)) polled.2.1)

module _ {T S N : Type 0} (core : S → Core T Sat) (changes : S → S → Type 0) (parked : S → Option (Parked N))
    (parks : S → Option (Parked N) → S) (waits : Option ℕ → Option N) where
  -- a poll that finds nothing due, and then the task waits
  pub waited : (most : Option ℕ) (old left new : S) (tick : ℕ) (wake : Option ℕ) (slot : Option Waker) (a : Answer T)
      → PollsState core changes parked parks waits most old tick (Ok (Answered (rest_of wake))) left
      → WaitsSo parks waits wake slot left a new → Turns core changes parked parks waits most old tick slot (Some a) new
  waited most old left new tick wake slot (Ready (Some (Ok x))) polls so = absurd so
  waited most old left new tick wake slot (Ready None) polls (is, never, same) = (never, rw same (rw is at polls))
  waited most old left new tick wake slot (Ready (Some (Err (TickTooLarge limit)))) polls so = absurd so
  waited most old left new tick wake slot (Ready (Some (Err NoMemory))) polls (none, (next, at), same) = (none, (next, (wake, at, rw same polls)))
  waited most old left new tick wake slot Pending polls (next, waker, at, some, is) = (next, waker, left, (wake, at, polls), some, is)

  -- a pending poll leaves the task parked, or has woken it with less to do
  pub rests_or_works : ((s : S) (p : Option (Parked N)) → core (parks s p) ≡ core s) → ((s : S) (p : Option (Parked N)) → parked (parks s p) ≡ p)
      → (cx cy : Context) (most : Option ℕ) (old new : S) (tick : ℕ) (a : Answer T)
      → StreamPolls core changes parked parks waits cx cy most old tick a new
      → OnPending a (IsParkedAtWake waits cx cy (core new) (parked new) ⊎ IsAtWork cy most (core old) (core new) (parked new))
  rests_or_works same_core is_parked cx cy most old new tick (Ready x) polls = tt
  rests_or_works same_core is_parked cx cy most old new tick Pending (inl (slot, left, (next, waker, state, (wake, at, polls), some, is))) =
      let p : Option (Parked N) = Some (poller next waker) in
      let Q : Core T Sat → Type 0 = λ c. (due (machine c) c.noted ≡ []) × TellsWake c wake × IfSome wake (λ w. c.noted < w) in
      let q : Q (core (parks state p)) = subst Q (sym (same_core state p)) (rested most (core (parks old None)) (core state) tick wake polls.0) in
      let P : S → Type 0 = λ s. IsParkedAtWake waits cx cy (core s) (parked s) in
      inl (subst P (sym is) (wake, next, waker, q.0, q.1, q.2, at, is_parked state p, rw some at left))
  rests_or_works same_core is_parked cx cy most old new tick Pending (inr (pending, woken, polls)) =
      inr (subst (λ c. IsAtWork cy most c (core new) (parked new)) (same_core old None)
      (at_work cy most (core (parks old None)) (core new) tick (parked new) woken polls.2 polls.0))

  -- a poll where the poller was taken out before, by the waker that the task's registration left
  pub from_start : (cx cy : Context) (many most : Option ℕ) (start old new : S) (tick : ℕ) (slot : Option Waker) (a : Answer T)
      → many ≡ most → start ≡ parks old None → LeavesWaker cx cy slot
      → Turns core changes parked parks waits many start tick slot (Some a) new
      → StreamPolls core changes parked parks waits cx cy most old tick a new
  from_start cx cy many most start old new tick slot a paced begins left polls =
      let same = subst (λ m. Turns core changes parked parks waits m start tick slot (Some a) new) paced polls in
      inl (slot, left, subst (λ s. Turns core changes parked parks waits most s tick slot (Some a) new) begins same)

  -- an answer by the waker that the task's registration left
  pub answered : (keeps : S → Type 0) (stands : S → ℕ → ℕ → Type 0) (place places : ℕ) (cx cy : Context) (most : Option ℕ) (tick : ℕ) (slot : Option Waker) (a : Answer T)
      → LeavesWaker cx cy slot → TurnsAt core changes parked parks waits keeps stands place places most tick slot (Some a)
      → AnswersAt core changes parked parks waits keeps stands place places cx cy most tick a
  answered keeps stands place places cx cy most tick slot a left (old, new, law, at, after, polls) = (old, new, law, at, after, inl (slot, left, polls))
