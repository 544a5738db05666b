-- What each poll of a stream keeps to, and what polls of it may give one after another.
use Rattle.std.specs.Prelude.{◌≡◌, ℕ, ⊤, ◌+◌, ◌≤◌, ◌<◌, ◌⊎◌, Bool, true, false, List, [], ◌∷◌}
use Rattle.std.specs.Prelude.{Option, Some, None, Ok, Err, IfSome}
use Rattle.futures.specs.declared.task.Poll.TheVariants.{Ready, Pending}
use Rattle.futures.specs.declared.task.context.Context.{Context}
use Rattle.futures.specs.declared.task.waker.Waker.{Waker}
use Rattle.dq_ticks.specs.declared.TheConstants.{LAST_TICK}
use Rattle.dq_core.specs.Calls.{TellsWake, noting}
use Rattle.dq_core.specs.Core.{Core, machine}
use Rattle.dq_core.specs.Machine.{NoneLiveBefore, NoneLinked, due}
use Rattle.dq_core.specs.Pieces.{steps_left}
use Rattle.dq_core.specs.declared.outcomes.Expired.{Expired}
use Rattle.dq_core.specs.declared.outcomes.Piece.TheVariants.{Answer as Answered}
use Rattle.dq_core.specs.declared.outcomes.Turn.TheVariants.{Out}
use Rattle.dq_words.specs.Seats.{Sat}
use Rattle.dq_shards.specs.declared.parking.sleeping.StreamFault.{StreamFault}
use Rattle.dq_shards.specs.declared.parking.sleeping.StreamFault.TheVariants.{TickTooLarge}
use Rattle.dq_shards.specs.declared.parking.sleeping.StreamFault.TheVariants.{NoMemory}
use Rattle.dq_shards.specs.declared.parking.parked.Parked.{Parked}
use Rattle.dq_shards.specs.Items.{StreamItem, Answer, IfFault, OnEnd}
use Rattle.dq_shards.specs.Parking.{poller}
use Rattle.dq_shards.specs.Streaming.{PollsState, StreamPolls, Turns}
use Rattle.dq_shards.specs.Wakers.{LacksWaker, IsOwn}

-- An entry that a queue gave: its deadline in force is not after the tick that is noted then, and no
-- live entry has an earlier one.
abbrev pub IsLeastDue : {T : Type 0} → Core T Sat → Expired T → Type 0
IsLeastDue c x =
    (x.noted ≡ c.noted) × (x.deadline ≤ x.noted) × NoneLiveBefore (machine c) x.deadline

-- None is due, and the polled task is parked. It waits for the next wake, after the noted tick; or
-- for none, where nothing is linked.
abbrev pub IsParkedAtWake :
    {T N : Type 0} → (Option ℕ → Option N) → Context → Context → Core T Sat → Option (Parked N)
    → Type 0
IsParkedAtWake {T} {N} waits cx cy c parked =
    (wake : Option ℕ) × (next : N) × (waker : Waker)
    × (due (machine c) c.noted ≡ []) × TellsWake c wake × IfSome wake (λ w. c.noted < w)
    × (waits wake ≡ Some next) × (parked ≡ Some (poller next waker)) × IsOwn waker cx cy

-- The poll was stopped at its work: the task is woken, nothing is parked, and at least so many steps
-- fewer are left, up to the tick that is noted then. A whole poll never is.
abbrev pub IsAtWork :
    {T N : Type 0} → Context → Option ℕ → Core T Sat → Core T Sat → Option (Parked N) → Type 0
IsAtWork cy None old new parked = ⊥
IsAtWork cy (Some most) old new parked =
    (cy.is_woken ≡ true) × (parked ≡ None)
    × (steps_left new + most ≤ steps_left (noting old new.noted))

-- it gives nothing where nothing is linked, or where it had ended for good
abbrev pub EndsWhereEmpty : {T : Type 0} → Bool → Answer T → Core T Sat → Type 0
EndsWhereEmpty ended answer c = OnEnd answer ((ended ≡ true) ⊎ NoneLinked (machine c))

-- whether a stream has ended for good after this item: after a refused tick, where that ends it
abbrev pub ends_with : {T : Type 0} → Bool → StreamItem T → Bool
ends_with ends (Ok x) = false
ends_with ends (Err (TickTooLarge limit)) = ends
ends_with ends (Err NoMemory) = false

-- whether a stream has ended for good after this answer
abbrev pub is_over : {T : Type 0} → Bool → Answer T → Bool
is_over ends (Ready (Some item)) = ends_with ends item
is_over ends (Ready None) = false
is_over ends Pending = false

-- why no entry is given: the tick was refused, and the stream has ended for good, where that ends
-- it; or no waker could be made, and the stream goes on
abbrev pub IsFault : Bool → StreamFault → Context → Bool → Type 0
IsFault ends (TickTooLarge limit) cx ended = (limit ≡ LAST_TICK) × (ended ≡ ends)
IsFault ends NoMemory cx ended = LacksWaker cx × (ended ≡ false)

-- a fault tells why no entry is given, and it ends for good after a refused tick, and only then
abbrev pub EndsByFault : {T : Type 0} → Bool → Context → Bool → Answer T → Bool → Type 0
EndsByFault ends cx old answer new =
    IfFault answer (λ e. IsFault ends e cx new) × (old ≡ false → new ≡ is_over ends answer)

-- the state of the shard at a place of so many, with its poller taken out
abbrev pub IsEntered :
    {S N : Type 0} → (S → Option (Parked N) → S) → (S → Type 0) → (S → ℕ → ℕ → Type 0)
    → ℕ → ℕ → S → Type 0
IsEntered {S} parks keeps stands place places s =
    (old : S) × keeps old × stands old place places × (s ≡ parks old None)

-- Items in order, and then one more answer, of a stream which has ended for good, or hasn't. Nothing
-- comes after a refused tick, where that ends it; and none ends but where nothing may be awaited.
abbrev pub Gives :
    {T : Type 0} → (StreamItem T → Type 0) → Bool → Type 0 → Bool → List (StreamItem T)
    → Option (StreamItem T) → Type 0
Gives given ends empties true [] last = last ≡ None
Gives given ends empties true (x ∷ xs) last = ⊥
Gives given ends empties false [] None = empties
Gives given ends empties false [] (Some x) = given x
Gives given ends empties false (x ∷ xs) last =
    given x × Gives given ends empties (ends_with ends x) xs last

module _ {T S N : Type 0} (core : S → Core T Sat) (changes : S → S → Type 0)
    (parked : S → Option (Parked N)) (parks : S → Option (Parked N) → S)
    (waits : Option ℕ → Option N) (keeps : S → Type 0) (stands : S → ℕ → ℕ → Type 0) where
  -- a poll under the lock of the shard at a place, with the waker that a registration left
  abbrev pub TurnsAt : ℕ → ℕ → Option ℕ → ℕ → Option Waker → Option (Answer T) → Type 0
  TurnsAt place places most tick slot given =
      (old new : S) × keeps old × stands old place places × keeps new
      × Turns core changes parked parks waits most (parks old None) tick slot given new

  -- a poll of a stream at a tick gives an answer, on some state of the shard at its place
  abbrev pub AnswersAt :
      ℕ → ℕ → Context → Context → Option ℕ → ℕ → Answer T → Type 0
  AnswersAt place places cx cy most tick answer =
      (old new : S) × keeps old × stands old place places × keeps new
      × StreamPolls core changes parked parks waits cx cy most old tick answer new

  -- An entry that is given is what a poll gives at some tick, on some state of the shard at that
  -- place. So it was due, none was due before it, and its deadline was in force.
  abbrev pub IsGiven : ℕ → ℕ → StreamItem T → Type 0
  IsGiven place places (Ok x) =
      (most : Option ℕ) × (tick : ℕ) × (old new : S) × keeps old × stands old place places
      × keeps new
      × PollsState core changes parked parks waits most (parks old None) tick
      (Ok (Answered (Out x))) new
  IsGiven place places (Err (TickTooLarge limit)) = limit ≡ LAST_TICK
  IsGiven place places (Err NoMemory) = ⊤

  -- what polls of a stream of the shard at a place give, one after another
  abbrev pub GivesAt :
      Bool → ℕ → ℕ → Bool → List (StreamItem T) → Option (StreamItem T) → Type 0
  GivesAt ends place places ended items last =
      Gives (IsGiven place places) ends (waits None ≡ None) ended items last
