-- What the calls of a shard's state do, as relations between its states.
use Rattle.std.specs.Prelude.{◌≡◌, ℕ, ◌+◌, Bool, true, is_some, Option, Some, None, Result, IfOk}
use Rattle.std.specs.Prelude.{Ok, length, nat_lt, if◌then◌else◌}
use Rattle.dq_ticks.specs.declared.keys.Key.{Key}
use Rattle.dq_ticks.specs.declared.keys.EntryId.{EntryId}
use Rattle.dq_core.specs.declared.errors.CoreError.{CoreError}
use Rattle.dq_core.specs.declared.errors.ReapError.{ReapError}
use Rattle.dq_core.specs.declared.outcomes.Piece.{Piece}
use Rattle.dq_core.specs.declared.outcomes.Piece.TheVariants.{Working}
use Rattle.dq_core.specs.declared.outcomes.Removed.{Removed}
use Rattle.dq_core.specs.declared.outcomes.Swept.{Swept}
use Rattle.dq_core.specs.declared.outcomes.Turn.{Turn}
use Rattle.dq_core.specs.Calls.{SameCore, Inserts, Resets, Removes, Polls, TellsDeadline}
use Rattle.dq_core.specs.Calls.{base_for}
use Rattle.dq_core.specs.Pieces.{PollsSome}
use Rattle.dq_core.specs.Sweeps.{Sweeps, SweepsSome, Reaps, Clears}
use Rattle.dq_core.specs.Readers.{with_words}
use Rattle.dq_words.specs.Seats.{Sat}
use Rattle.dq_words.specs.declared.keeper.WordsError.{WordsError}
use Rattle.dq_words.specs.Endings.{WritesStay}
use Rattle.dq_words.specs.KeeperCalls.{HasBegun, Issues, Tells}
use Rattle.dq_shards.specs.declared.parking.parked.Parked.{Parked}
use Rattle.dq_shards.specs.Parking.{is_rung, after_ring}
use Rattle.dq_shards.specs.Waits.{ends_by_tick}
use Rattle.dq_shards.specs.Shard.{ShardView, IsShard, KeepsOrWakes, keeper_of}

-- the slot to go on from behind a piece that ends at one, none behind the last slot
abbrev pub going_on : ℕ → ℕ → Option ℕ
going_on end capacity = if nat_lt end capacity then Some end else None

-- where a poll in pieces has more to do
abbrev pub IfWorking : {T : Type 0} → Result (Piece T) CoreError → Type 0 → Type 0
IfWorking (Ok Working) P = P
IfWorking r P = Unit {0}

module _ {T : Type 0} where
  -- the keeper sits at the same table
  abbrev pub SameTable : ShardView T → ShardView T → Type 0
  SameTable old new = new.core.words.table ≡ old.core.words.table

  -- a call of the queue, after which the poller is kept or woken, and what was begun stays begun
  abbrev pub Changes : ShardView T → ShardView T → Type 0
  Changes old new =
      SameCore old.core new.core × SameTable old new × KeepsOrWakes new.core old.parked new.parked
      × WritesStay (keeper_of old) (keeper_of new)

  -- an insert: the keeper has begun what its key names
  abbrev pub ShardInserts : ShardView T → T → ℕ → Result Key (CoreError × T) → ShardView T → Type 0
  ShardInserts old value when result new =
      Inserts old.core value when result new.core × Changes old new
      × IfOk result
      (λ k. HasBegun new.core.words k.entry.index k.stamp (base_for old.core when))

  abbrev pub ShardResets : ShardView T → EntryId → ℕ → Result Key CoreError → ShardView T → Type 0
  ShardResets old id when result new =
      Resets true old.core id when result new.core × Changes old new

  abbrev pub ShardRemoves :
      ShardView T → EntryId → Result (Removed T) CoreError → ShardView T → Type 0
  ShardRemoves old id result new = Removes true old.core id result new.core × Changes old new

  abbrev pub ShardPolls : ShardView T → ℕ → Result (Turn T) CoreError → ShardView T → Type 0
  ShardPolls old tick result new = Polls true old.core tick result new.core × Changes old new

  -- a poll in pieces, by at most so many steps
  abbrev pub ShardPollsSome :
      ShardView T → ℕ → ℕ → Result (Piece T) CoreError → ShardView T → Type 0
  ShardPollsSome old tick most result new =
      PollsSome true old.core tick most result new.core × Changes old new

  abbrev pub ShardSweeps : ShardView T → ℕ → ShardView T → Type 0
  ShardSweeps old n new = Sweeps true old.core n new.core × Changes old new

  -- a sweep of so many slots, from one on, and where to go on
  abbrev pub ShardSweepsSome : ShardView T → ℕ → ℕ → Swept → ShardView T → Type 0
  ShardSweepsSome old from count swept new =
      SweepsSome true old.core from (from + count) swept.reaped new.core
      × (swept.next ≡ going_on (from + count) (length old.core.slots.rows)) × Changes old new

  abbrev pub ShardReaps :
      ShardView T → EntryId → Result (Unit {0}) ReapError → ShardView T → Type 0
  ShardReaps old id result new = Reaps true old.core id result new.core × Changes old new

  abbrev pub ShardClears : ShardView T → ℕ → ShardView T → Type 0
  ShardClears old n new = Clears true old.core n new.core × Changes old new

  -- a look at an entry leaves the poller
  abbrev pub ShardDeadline : ShardView T → EntryId → Result ℕ CoreError → ShardView T → Type 0
  ShardDeadline old id result new =
      TellsDeadline true old.core id result new.core
      × SameCore old.core new.core × SameTable old new
      × (new.parked ≡ old.parked) × WritesStay (keeper_of old) (keeper_of new)

  -- unpark answers whether a poller was parked, and leaves none
  abbrev pub Unparks : ShardView T → Bool → ShardView T → Type 0
  Unparks old result new =
      (result ≡ is_some old.parked) × (new ≡ record old { parked = None })

  -- the poller that was parked is taken out, and none is left
  abbrev pub TakesParked : ShardView T → Option (Parked ℕ) → ShardView T → Type 0
  TakesParked old taken new = (taken ≡ old.parked) × (new ≡ record old { parked = None })

  -- a ring at a tick takes out a poller that is parked at or before it
  abbrev pub Rings : ShardView T → ℕ → Bool → ShardView T → Type 0
  Rings old tick result new =
      (result ≡ is_rung ends_by_tick old.parked tick)
      × (new ≡ record old { parked = after_ring ends_by_tick old.parked tick })

  -- the shard with other words that are known alike
  abbrev pub with_keeper : ShardView T → Sat → ShardView T
  with_keeper s w = record { core = with_words s.core w; parked = s.parked }

  -- nothing changes but what the keeper knows, by a step that tells nothing of the entries
  abbrev pub OnlyKeeperGoesOn : ShardView T → ShardView T → Type 0
  OnlyKeeperGoesOn old new = new ≡ with_keeper old new.core.words

  -- one caller more, or its refusal
  abbrev pub ShardIssues : ShardView T → Result Sat WordsError → ShardView T → Type 0
  ShardIssues old result new =
      Issues old.core.words result new.core.words × OnlyKeeperGoesOn old new

  -- how many callers are out
  abbrev pub ShardTells : ShardView T → ℕ → ShardView T → Type 0
  ShardTells old out new =
      Tells old.core.words out new.core.words × OnlyKeeperGoesOn old new

  -- a call gives an answer on some state that every shard may have
  abbrev pub OnSome : {R : Type 0} → (ShardView T → R → ShardView T → Type 0) → R → Type 0
  OnSome {R} gives result =
      (old : ShardView T) × (new : ShardView T) × IsShard old × IsShard new × gives old result new

  -- the same on a state of the shard of that number
  abbrev pub OnNumbered :
      {R : Type 0} → ℕ → (ShardView T → R → ShardView T → Type 0) → R → Type 0
  OnNumbered number gives result =
      OnSome (λ old r new. (old.core.shard ≡ number) × gives old r new) result
