-- What the answer of a stream's poll tells, by the shard's own poll.
use Rattle.std.proofs.Common.{◌≡◌, ℕ, Bool, Option, Some, None, Ok, Err, subst}
use Rattle.futures.specs.declared.task.Poll.TheVariants.{Ready, Pending}
use Rattle.futures.specs.declared.task.context.Context.{Context}
use Rattle.futures.specs.declared.task.waker.Waker.{Waker}
use Rattle.dq_ticks.specs.declared.TheConstants.{LAST_TICK}
use Rattle.dq_core.specs.Core.{Core}
use Rattle.dq_core.specs.declared.errors.CoreError.TheVariants as Core
use Rattle.dq_words.specs.Seats.{Sat}
use Rattle.dq_shards.specs.declared.parking.sleeping.StreamFault.TheVariants.{TickTooLarge}
use Rattle.dq_shards.specs.declared.parking.sleeping.StreamFault.TheVariants.{NoMemory}
use Rattle.dq_shards.specs.declared.parking.parked.Parked.{Parked}
use Rattle.dq_shards.specs.EachPoll.{IsLeastDue, IsFault, is_over}
use Rattle.dq_shards.specs.Items.{Answer, IfGiven, IfFault}
use Rattle.dq_shards.specs.Streaming.{PollsBy, Turns, too_large}
use Rattle.dq_shards.specs.Wakers.{LeavesWaker}
use Rattle.dq_shards.proofs.Streamed.{least_due}

same_limit : (a b : ℕ) → Core.TickTooLarge a ≡ Core.TickTooLarge b → a ≡ b
same_limit a b is = cc

module _ {T : Type 0} (b c : Core T Sat) (tick : ℕ) where
  last_tick : (most : Option ℕ) (limit : ℕ) → PollsBy most b tick (Err (too_large limit)) c → limit ≡ LAST_TICK
  last_tick None limit polled = same_limit limit LAST_TICK polled.0
  last_tick (Some many) limit polled = same_limit limit LAST_TICK polled.0

module _ {T S N : Type 0} (core : S → Core T Sat) (changes : S → S → Type 0) (parked : S → Option (Parked N))
    (parks : S → Option (Parked N) → S) (waits : Option ℕ → Option N) (most : Option ℕ) (old new : S) (tick : ℕ) (slot : Option Waker) where
  pub given_due : (a : Answer T) → Turns core changes parked parks waits most old tick slot (Some a) new → IfGiven a (IsLeastDue (core new))
  given_due (Ready (Some (Ok x))) polls = least_due most (core old) (core new) tick x polls.0
  given_due (Ready (Some (Err e))) polls = tt
  given_due (Ready None) polls = tt
  given_due Pending polls = tt

  pub fault_is : (cx cy : Context) (ends ended : Bool) (a : Answer T) → LeavesWaker cx cy slot → ended ≡ is_over ends a
      → Turns core changes parked parks waits most old tick slot (Some a) new → IfFault a (λ e. IsFault ends e cy ended)
  fault_is cx cy ends ended (Ready (Some (Ok x))) left is polls = tt
  fault_is cx cy ends ended (Ready (Some (Err (TickTooLarge limit)))) left is polls = (last_tick (core old) (core new) tick most limit polls.0, is)
  fault_is cx cy ends ended (Ready (Some (Err NoMemory))) left is polls = (subst (LeavesWaker cx cy) polls.0 left, is)
  fault_is cx cy ends ended (Ready None) left is polls = tt
  fault_is cx cy ends ended Pending left is polls = tt
