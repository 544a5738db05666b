-- One poll of a stream, as a relation between two states of its shard.
use Rattle.std.specs.Prelude.{◌≡◌, ℕ, ◌⊎◌, true, Option, Some, None, Result, Ok, Err}
use Rattle.futures.specs.declared.task.Poll.TheVariants.{Ready, Pending}
use Rattle.futures.specs.declared.task.context.Context.{Context}
use Rattle.futures.specs.declared.task.waker.Waker.{Waker}
use Rattle.dq_core.specs.Calls.{Polls}
use Rattle.dq_core.specs.Core.{Core}
use Rattle.dq_core.specs.Pieces.{PollsSome}
use Rattle.dq_core.specs.declared.errors.CoreError.{CoreError}
use Rattle.dq_core.specs.declared.errors.CoreError.TheVariants as Core
use Rattle.dq_core.specs.declared.outcomes.Piece.{Piece}
use Rattle.dq_core.specs.declared.outcomes.Piece.TheVariants.{Answer as Answered, Working}
use Rattle.dq_core.specs.declared.outcomes.Turn.{Turn}
use Rattle.dq_core.specs.declared.outcomes.Turn.TheVariants.{Out, Waiting, Idle}
use Rattle.dq_words.specs.Seats.{Sat}
use Rattle.dq_shards.specs.declared.parking.sleeping.StreamFault.{StreamFault}
use Rattle.dq_shards.specs.declared.parking.sleeping.StreamFault.TheVariants.{TickTooLarge}
use Rattle.dq_shards.specs.declared.parking.sleeping.StreamFault.TheVariants.{NoMemory}
use Rattle.dq_shards.specs.declared.parking.parked.Parked.{Parked}
use Rattle.dq_shards.specs.Items.{Answer}
use Rattle.dq_shards.specs.Parking.{poller}
use Rattle.dq_shards.specs.Wakers.{LeavesWaker}

-- a poll of a queue at a tick: whole, or by at most so many steps
abbrev pub PollsBy :
    {T : Type 0} → Option ℕ → Core T Sat → ℕ → Result (Piece T) CoreError → Core T Sat → Type 0
PollsBy None c tick (Ok Working) d = ⊥
PollsBy None c tick (Ok (Answered turn)) d = Polls true c tick (Ok turn) d
PollsBy None c tick (Err e) d = Polls true c tick (Err e) d
PollsBy (Some most) c tick piece d = PollsSome true c tick most piece d

-- where nothing is due: the next wake, or nothing is linked
abbrev pub rest_of : {T : Type 0} → Option ℕ → Turn T
rest_of (Some next) = Waiting next
rest_of None = Idle

-- the tick is beyond the last one
abbrev pub too_large : ℕ → CoreError
too_large limit = Core.TickTooLarge limit

-- a poller is parked in a shard with the waker that a registration left, if it left one
abbrev pub ParksWith :
    {S N : Type 0} → (S → Option (Parked N) → S) → S → N → Option Waker
    → Result (Unit {0}) StreamFault → S → Type 0
ParksWith parks old next (Some waker) result new =
    (result ≡ Ok tt) × (new ≡ parks old (Some (poller next waker)))
ParksWith parks old next None result new = (result ≡ Err NoMemory) × (new ≡ old)

-- A task waits in a shard where nothing is due till its next wake, or till an insert where none is
-- told. The waker that its registration left is parked; but for want of it nothing is, and nothing
-- is given where no poller may wait so.
abbrev pub WaitsSo :
    {T S N : Type 0} → (S → Option (Parked N) → S) → (Option ℕ → Option N)
    → Option ℕ → Option Waker → S → Answer T → S → Type 0
WaitsSo parks waits wake slot left (Ready (Some (Ok x))) new = ⊥
WaitsSo parks waits wake slot left (Ready None) new =
    (wake ≡ None) × (waits None ≡ None) × (new ≡ left)
WaitsSo parks waits wake slot left (Ready (Some (Err (TickTooLarge limit)))) new = ⊥
WaitsSo {T} {S} {N} parks waits wake slot left (Ready (Some (Err NoMemory))) new =
    (slot ≡ None) × ((next : N) × (waits wake ≡ Some next)) × (new ≡ left)
WaitsSo {T} {S} {N} parks waits wake slot left Pending new =
    (next : N) × (waker : Waker) × (waits wake ≡ Some next) × (slot ≡ Some waker)
    × (new ≡ parks left (Some (poller next waker)))

-- A shard's state is seen by its queue, by what a poll keeps of all else, by who is parked in it,
-- and by how another is; and by what one waits for who is parked at a next wake.
module _ {T S N : Type 0} (core : S → Core T Sat) (changes : S → S → Type 0)
    (parked : S → Option (Parked N)) (parks : S → Option (Parked N) → S)
    (waits : Option ℕ → Option N) where
  -- a shard where none is parked is polled, whole or by at most so many steps
  abbrev pub PollsState : Option ℕ → S → ℕ → Result (Piece T) CoreError → S → Type 0
  PollsState most old tick piece new =
      PollsBy most (core old) tick piece (core new) × changes old new × (parked new ≡ None)

  -- nothing is due after its poll, and a poller that waits so may be parked then
  abbrev pub Rests : Option ℕ → S → ℕ → N → S → Type 0
  Rests most old tick next left =
      (wake : Option ℕ) × (waits wake ≡ Some next)
      × PollsState most old tick (Ok (Answered (rest_of wake))) left

  -- One poll for a task, at a tick, of a shard where none is parked, with the waker that the task's
  -- registration left. What comes out is given. Where nothing is due the waker is parked; but for
  -- want of it nothing is, and nothing is given where no poller may wait so. No answer comes where
  -- more is to do.
  abbrev pub Turns : Option ℕ → S → ℕ → Option Waker → Option (Answer T) → S → Type 0
  Turns most old tick slot None new = PollsState most old tick (Ok Working) new
  Turns most old tick slot (Some (Ready (Some (Ok x)))) new =
      PollsState most old tick (Ok (Answered (Out x))) new
  Turns most old tick slot (Some (Ready None)) new =
      (waits None ≡ None) × PollsState most old tick (Ok (Answered Idle)) new
  Turns most old tick slot (Some (Ready (Some (Err (TickTooLarge limit))))) new =
      PollsState most old tick (Err (too_large limit)) new
  Turns most old tick slot (Some (Ready (Some (Err NoMemory)))) new =
      (slot ≡ None) × ((next : N) × Rests most old tick next new)
  Turns most old tick slot (Some Pending) new =
      (next : N) × (waker : Waker) × (left : S) × Rests most old tick next left
      × (slot ≡ Some waker) × (new ≡ parks left (Some (poller next waker)))

  -- One poll of a stream, at a tick. The poller is taken out, and then the shard is polled with the
  -- waker of the polled task. Or more is to do, and then nothing is parked, and the task is woken.
  abbrev pub StreamPolls : Context → Context → Option ℕ → S → ℕ → Answer T → S → Type 0
  StreamPolls cx cy most old tick answer new =
      ((slot : Option Waker) × LeavesWaker cx cy slot
      × Turns most (parks old None) tick slot (Some answer) new)
      ⊎ ((answer ≡ Pending) × (cy.is_woken ≡ true)
      × PollsState most (parks old None) tick (Ok Working) new)
