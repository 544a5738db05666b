-- A queue over shared words, and who waits for it.
use Rattle.std.specs.Prelude.{◌≡◌, ℕ, Bool, true, Option, Some, None}
use Rattle.dq_core.specs.Core.{Core}
use Rattle.dq_core.specs.Calls.{SameCore, TellsWake}
use Rattle.dq_core.specs.Words.{StillBegun}
use Rattle.dq_words.specs.KeeperCalls.{HasBegun}
use Rattle.dq_words.specs.Seats.{Sat}
use Rattle.dq_shards.specs.declared.parking.parked.Parked.{Parked}
use Rattle.dq_shards.specs.Parking.{still_parked, Leaves}

module _ {T N : Type 0} (lasts : N → Option ℕ → Bool) where
  -- one that waits so may be parked, at the next wake as it is now
  abbrev pub MayWaitSo : Core T Sat → N → Type 0
  MayWaitSo c next = (wake : Option ℕ) × TellsWake c wake × (lasts next wake ≡ true)

  -- the parked law: where a poller is parked it may wait on, at the next wake as it is now
  abbrev pub MayWait : Core T Sat → Option (Parked N) → Type 0
  MayWait c None = Unit {0}
  MayWait c (Some p) = MayWaitSo c p.next

  -- the poller stays parked exactly where the parked law holds with the queue as it is now
  abbrev pub KeepsOrLeaves : Core T Sat → Option (Parked N) → Option (Parked N) → Type 0
  KeepsOrLeaves c None new = new ≡ None
  KeepsOrLeaves c (Some p) new =
      (wake : Option ℕ) × TellsWake c wake × (new ≡ still_parked lasts (Some p) wake)

  -- what each call leaves, of the queue and of the poller, and who has left: the keeper sits at the
  -- same table, what was begun stays begun, and the poller is kept or has left
  abbrev pub Attends :
      Core T Sat → Option (Parked N) → Option (Parked N) → Core T Sat → Option (Parked N) → Type 0
  Attends c p left d q =
      SameCore c d × (d.words.table ≡ c.words.table) × StillBegun HasBegun c.words d.words
      × KeepsOrLeaves d p q × MayWait d q × Leaves p left q
