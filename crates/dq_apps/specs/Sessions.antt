-- Sessions that end when they were idle for long enough, as a contract sees them, and what their
-- calls answer. They are entries of a queue of shards, whose own definitions are cited here.
use Rattle.std.specs.Prelude.{◌≡◌, ℕ, ◌+◌, ◌<◌, ◌≤◌, ⊤, List, Result, Ok, Err}
use Rattle.dq_ticks.specs.declared.TheConstants.{LAST_TICK}
use Rattle.dq_ticks.specs.declared.keys.Key.{Key}
use Rattle.dq_core.specs.declared.errors.CoreError.TheVariants.{TooFar, NoMemory}
use Rattle.dq_core.specs.declared.outcomes.Expired.{Expired}
use Rattle.dq_core.specs.declared.outcomes.Turn.{Turn}
use Rattle.dq_core.specs.declared.outcomes.Turn.TheVariants.{Out, Waiting, Idle}
use Rattle.dq_shards.specs.declared.errors.QueueConfig.{QueueConfig}
use Rattle.dq_shards.specs.declared.errors.QueueError.{QueueError}
use Rattle.dq_shards.specs.declared.errors.QueueError.TheVariants.{Core}
use Rattle.dq_shards.specs.Shard.{ShardView, IsShard}
use Rattle.dq_shards.specs.Answers.{QueueIsMade, QueueInserts}
use Rattle.dq_shards.specs.Endings.{IsOutInForce}

-- sessions: the number of their shards, and for how many ticks one may be idle
pub record Sessions : Type 0 where
  pub shards : ℕ
  pub idle : ℕ

-- a name as its text
abbrev pub Text : Type 0
Text = List ℕ

-- the deadline of a session that was used last at `now`
abbrev pub deadline_from : Sessions → ℕ → ℕ
deadline_from s now = now + s.idle

-- sessions are made exactly where a queue is
abbrev pub SessionsAreMade : QueueConfig → ℕ → Result Sessions QueueError → Type 0
SessionsAreMade config idle (Ok s) = QueueIsMade config (Ok s.shards) × (s.idle ≡ idle)
SessionsAreMade config idle (Err e) = QueueIsMade config (Err e)

-- A login is the queue's insert of the name, at the deadline of a session that is used now. It is
-- refused first as too far, then where memory for the name is refused, and then as the insert is.
abbrev pub LogsIn : Sessions → ℕ → Text → ℕ → Result Key QueueError → Type 0
LogsIn s route name now (Ok key) =
    QueueInserts s.shards route name (deadline_from s now) (Ok key)
LogsIn s route name now (Err (Core (TooFar limit))) =
    (limit ≡ LAST_TICK) × (LAST_TICK < deadline_from s now)
LogsIn s route name now (Err (Core NoMemory)) = deadline_from s now ≤ LAST_TICK
LogsIn s route name now (Err e) =
    (deadline_from s now ≤ LAST_TICK)
    × QueueInserts s.shards route name (deadline_from s now) (Err (e, name))

-- where a session comes out
abbrev pub IfComesOut : Turn Text → (Expired Text → Type 0) → Type 0
IfComesOut (Out x) P = P x
IfComesOut (Waiting next) P = ⊤
IfComesOut Idle P = ⊤

-- A session that came out of the shard of that number was idle for long enough: its deadline in
-- force, the greatest of its login's and of all touches that were accepted, is not after the
-- shard's noted tick.
abbrev pub WasIdle : ℕ → Expired Text → Type 0
WasIdle number x =
    (s : ShardView Text) × (s.core.shard ≡ number) × IsShard s × IsOutInForce s x
