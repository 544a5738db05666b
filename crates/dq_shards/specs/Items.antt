-- What a stream of expired entries gives, one at a time.
use Rattle.std.specs.Prelude.{ℕ, ⊤, Option, Some, None, Result, Ok, Err}
use Rattle.futures.specs.declared.task.Poll.{Poll}
use Rattle.futures.specs.declared.task.Poll.TheVariants.{Ready, Pending}
use Rattle.dq_core.specs.declared.outcomes.Expired.{Expired}
use Rattle.dq_shards.specs.declared.parking.sleeping.StreamFault.{StreamFault}

-- an item of a stream: an entry that expired, or why there is none
abbrev pub StreamItem : Type 0 → Type 0
StreamItem T = Result (Expired T) StreamFault

-- what one poll of a stream answers
abbrev pub Answer : Type 0 → Type 0
Answer T = Poll (Option (StreamItem T))

-- where an entry is given
abbrev pub IfGiven : {T : Type 0} → Answer T → (Expired T → Type 0) → Type 0
IfGiven (Ready (Some (Ok x))) P = P x
IfGiven (Ready (Some (Err e))) P = ⊤
IfGiven (Ready None) P = ⊤
IfGiven Pending P = ⊤

-- where a fault is given
abbrev pub IfFault : {T : Type 0} → Answer T → (StreamFault → Type 0) → Type 0
IfFault (Ready (Some (Ok x))) P = ⊤
IfFault (Ready (Some (Err e))) P = P e
IfFault (Ready None) P = ⊤
IfFault Pending P = ⊤

-- where nothing is given, now or for good
abbrev pub OnEnd : {T : Type 0} → Answer T → Type 0 → Type 0
OnEnd (Ready (Some x)) P = ⊤
OnEnd (Ready None) P = P
OnEnd Pending P = ⊤

-- how many of the values that are deferred are dropped behind an answer: none where it has an entry
abbrev pub dropped_after : {T : Type 0} → Answer T → ℕ → ℕ
dropped_after (Ready (Some (Ok x))) deferred = 0
dropped_after (Ready (Some (Err e))) deferred = deferred
dropped_after (Ready None) deferred = deferred
dropped_after Pending deferred = deferred
