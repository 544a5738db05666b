-- What a login answers, by what the queue's insert does; and who comes out.
use Rattle.std.proofs.Common.{◌≡◌, ℕ, ◌≤◌, Result, Ok, Err, IfOk, subst, arith}
use Rattle.dq_ticks.specs.declared.TheConstants.{LAST_TICK}
use Rattle.dq_ticks.specs.declared.keys.Key.{Key}
use Rattle.dq_core.specs.declared.errors.CoreError.TheVariants.{TooFar, NoMemory}
use Rattle.dq_core.specs.declared.outcomes.Turn.{Turn}
use Rattle.dq_core.specs.declared.outcomes.Turn.TheVariants.{Out, Waiting, Idle}
use Rattle.dq_shards.specs.declared.errors.QueueError.{QueueError}
use Rattle.dq_shards.specs.declared.errors.QueueError.TheVariants.{Core}
use Rattle.dq_shards.specs.Answers.{with_value_handed_back, QueueInserts, OnShardOr}
use Rattle.dq_shards.specs.Changes.{ShardPolls}
use Rattle.dq_shards.specs.Endings.{OutsAreInForce}
use Rattle.dq_apps.specs.Sessions.{Sessions, Text, deadline_from, LogsIn, IfComesOut, WasIdle}

-- what the queue's insert answers to a name at a deadline is what the login answers
pub logged_in : (s : Sessions) (route now d : ℕ) (name text : Text) (r : Result Key QueueError)
    → name ≡ text → d ≡ deadline_from s now → d ≤ LAST_TICK
    → QueueInserts s.shards route name d (with_value_handed_back name r) → LogsIn s route text now r
logged_in s route now d name text (Ok key) same is small does =
    let named = subst (λ n. QueueInserts s.shards route n d (Ok key)) same does in
    subst (λ e. QueueInserts s.shards route text e (Ok key)) is named
logged_in s route now d name text (Err (Core (TooFar limit))) same is small (old, new, before, after, (at, does)) =
    absurd (omega (arith, small, does.0.0.1))
logged_in s route now d name text (Err (Core NoMemory)) same is small does = omega (arith, small, is)
logged_in s route now d name text (Err e) same is small does =
    let named = subst (λ n. QueueInserts s.shards route n d (Err (e, n))) same does in
    (omega (arith, small, is), subst (λ n. QueueInserts s.shards route text n (Err (e, text))) is named)

-- whoever comes out was idle
pub idle : (shards shard tick : ℕ) (r : Result (Turn Text) QueueError) → OutsAreInForce Text
    → OnShardOr {T = Text} shards shard (λ old a new. ShardPolls old tick a new) r
    → IfOk r (λ turn. IfComesOut turn (WasIdle shard))
idle shards shard tick (Ok (Out x)) in_force (inside, (old, new, before, after, (at, polled))) =
    (new, rw polled.1.0.0 at, after, in_force old new tick x after polled)
idle shards shard tick (Ok (Waiting next)) in_force does = tt {0}
idle shards shard tick (Ok Idle) in_force does = tt {0}
idle shards shard tick (Err e) in_force does = tt {0}
