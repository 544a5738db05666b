-- When a parked poller stays parked.
use Rattle.std.specs.Prelude.{◌≡◌, ℕ, if◌then◌else◌, Bool, false, Option, Some, None}
use Rattle.futures.specs.declared.task.waker.Waker.{Waker}
use Rattle.dq_shards.specs.declared.parking.parked.Parked.{Parked}

module _ {N : Type 0} where
  -- a poller that waits so
  abbrev pub poller : N → Waker → Parked N
  poller next waker = record { next = next; waker = waker }

  -- the poller that the parked law leaves, at a next wake
  abbrev pub still_parked : (N → Option ℕ → Bool) → Option (Parked N) → Option ℕ → Option (Parked N)
  still_parked lasts None wake = None
  still_parked lasts (Some p) wake = if lasts p.next wake then Some p else None

  -- who left is exactly who was parked and isn't any more
  abbrev pub Leaves : Option (Parked N) → Option (Parked N) → Option (Parked N) → Type 0
  Leaves old left None = left ≡ old
  Leaves old left (Some p) = (left ≡ None) × (old ≡ Some p)

  -- whether a poller's wait is over at a tick
  abbrev pub is_rung : (N → ℕ → Bool) → Option (Parked N) → ℕ → Bool
  is_rung ends None tick = false
  is_rung ends (Some p) tick = ends p.next tick

  -- the poller that a ring at a tick leaves parked
  abbrev pub after_ring : (N → ℕ → Bool) → Option (Parked N) → ℕ → Option (Parked N)
  after_ring ends None tick = None
  after_ring ends (Some p) tick = if ends p.next tick then None else Some p
