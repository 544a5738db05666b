-- A shard as a contract sees it, and what it keeps.
use Rattle.std.specs.Prelude.{◌≡◌, ℕ, ◌≤◌, Option, Some, None}
use Rattle.dq_core.specs.Core.{Core, IsLawfulCore}
use Rattle.dq_core.specs.Calls.{TellsWake}
use Rattle.dq_wheel.specs.Lawful.{IsLawfulWheel}
use Rattle.dq_words.specs.declared.views.View.{View}
use Rattle.dq_words.specs.Word.{parts_row}
use Rattle.dq_words.specs.Seats.{Sat}
use Rattle.dq_words.specs.Keeping.{IsKeeper, Stood, counts_of}
use Rattle.dq_shards.specs.declared.parking.parked.Parked.{Parked}
use Rattle.dq_shards.specs.Attending.{KeepsOrLeaves}
use Rattle.dq_shards.specs.Waits.{lasts_until}

-- a shard: its queue over the keeper's words, and the poller that is parked
pub record ShardView (T : Type 0) : Type 0 where
  pub core : Core T Sat
  pub parked : Option (Parked ℕ)

-- what the shard's keeper knows
abbrev pub keeper_of : {T : Type 0} → ShardView T → View
keeper_of s = s.core.words.view

-- the parked law: where a poller is parked there is a next wake, and the parked tick isn't after it
abbrev pub IsParked : {T : Type 0} → Core T Sat → Option (Parked ℕ) → Type 0
IsParked c None = Unit {0}
IsParked c (Some p) = (wake : ℕ) × TellsWake c (Some wake) × (p.next ≤ wake)

-- what every shard keeps
pub record IsShard {T : Type 0} (s : ShardView T) : Type 0 where
  -- the shard law of its queue, by what its keeper knows of the words
  pub core : IsLawfulCore s.core
  pub wheel : IsLawfulWheel s.core.wheel
  pub known : s.core.known ≡ parts_row (keeper_of s).seen
  pub counts : s.core.counts ≡ counts_of (keeper_of s).writes
  -- its keeper began no more than the stamps that it saw, and issued no more callers than it may
  pub keeper : IsKeeper (keeper_of s)
  -- at some moment the rule of the words held, and the keeper knew what it knows now
  pub stood : Stood (keeper_of s)
  pub parked : IsParked s.core s.parked

-- the poller stays parked exactly where the parked law holds with the queue as it is now
abbrev pub KeepsOrWakes : {T : Type 0} → Core T Sat → Option (Parked ℕ) → Option (Parked ℕ) → Type 0
KeepsOrWakes c old new = KeepsOrLeaves lasts_until c old new
