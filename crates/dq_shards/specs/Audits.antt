-- What an audit adds up.
use Rattle.std.specs.Prelude.{◌≡◌, ℕ, ◌+◌, ◌<◌, ◌≤◌, List, [], ◌∷◌, Result, Ok, Err, length}
use Rattle.atomic_table.specs.Table.{State}
use Rattle.dq_core.specs.declared.outcomes.Tally.{Tally}
use Rattle.dq_words.specs.declared.views.View.{View}
use Rattle.dq_words.specs.Counts.{begins_in, expiries_in, removals_in, total, goes, own_cancels}
use Rattle.dq_words.specs.Counts.{lives, below, most_begins, NoPasserCancelled}
use Rattle.dq_words.specs.KeeperCalls.{Returns}
use Rattle.dq_shards.specs.declared.audit.Totals.{Totals}
use Rattle.dq_shards.specs.declared.audit.HandlesOut.{HandlesOut}
use Rattle.dq_shards.specs.Shard.{ShardView, keeper_of}
use Rattle.dq_shards.specs.Changes.{OnlyKeeperGoesOn, OnNumbered}
use Rattle.dq_shards.specs.Endings.{InEveryTable}
use Rattle.dq_shards.specs.Sums.{total_of}

-- Every caller that the keeper issued was given back. The accepted cancels of all callers, and the
-- entries that are live by the true words, are those of the totals; the live ones as long as no
-- passer cancelled, which nobody is where the words aren't opened.
abbrev pub CancelledAndLive : View → Totals → State ℕ View → Type 0
CancelledAndLive w totals t =
    (total goes t.views ≡ w.issued)
    × (total own_cancels t.views ≡ totals.cancelled)
    × (NoPasserCancelled t.views → below lives t.words (length w.seen) ≡ totals.live)

-- these are the entries that the keeper began and ended, and those that it did not end
pub record IsTotals (w : View) (t : Totals) : Type 0 where
  pub inserted : begins_in w.writes ≡ t.inserted
  pub expired : expiries_in w.writes ≡ t.expired
  pub removed : removals_in w.writes ≡ t.removed
  pub others : InEveryTable w (CancelledAndLive w t)

-- each entry that was inserted ended in one way, or is live
abbrev pub AddUp : Totals → Type 0
AddUp t = t.inserted ≡ t.expired + t.removed + t.cancelled + t.live

-- no more was inserted than a shard ever inserts
abbrev pub FewInserted : Totals → Type 0
FewInserted t = t.inserted ≤ most_begins

-- what the keeper ended, and what callers cancelled, is no more than what was inserted
abbrev pub EndsAreBegun : Tally → ℕ → Type 0
EndsAreBegun tally cancelled = tally.expired + tally.removed + cancelled ≤ tally.inserted

-- the totals by the keeper's tally and the callers' accepted cancels
pub record AreTotalsOf (tally : Tally) (cancelled : ℕ) (t : Totals) : Type 0 where
  pub inserted : t.inserted ≡ tally.inserted
  pub expired : t.expired ≡ tally.expired
  pub removed : t.removed ≡ tally.removed
  pub cancelled_is : t.cancelled ≡ cancelled
  pub sum : AddUp t

-- Audit of a shard's state: the totals of a moment at which no caller was out, or how many are out.
abbrev pub Audited : {T : Type 0} → ShardView T → Result Totals HandlesOut → ShardView T → Type 0
Audited old (Ok t) new =
    Returns old.core.words (Ok t.cancelled) new.core.words
    × IsTotals (keeper_of new) t × AddUp t × FewInserted t
Audited old (Err e) new = Returns old.core.words (Err e.out) new.core.words

-- the same, and nothing changed but what the keeper knows of the return word
abbrev pub ShardAudits :
    {T : Type 0} → ShardView T → Result Totals HandlesOut → ShardView T → Type 0
ShardAudits old result new = Audited old result new × OnlyKeeperGoesOn old new

-- the sum of two totals
pub record IsSum (one other t : Totals) : Type 0 where
  pub inserted : t.inserted ≡ one.inserted + other.inserted
  pub expired : t.expired ≡ one.expired + other.expired
  pub removed : t.removed ≡ one.removed + other.removed
  pub cancelled : t.cancelled ≡ one.cancelled + other.cancelled
  pub live : t.live ≡ one.live + other.live

-- the sums of some totals
pub record AreSums (parts : List Totals) (t : Totals) : Type 0 where
  pub inserted : t.inserted ≡ total_of (λ (p : Totals). p.inserted) parts
  pub expired : t.expired ≡ total_of (λ (p : Totals). p.expired) parts
  pub removed : t.removed ≡ total_of (λ (p : Totals). p.removed) parts
  pub cancelled : t.cancelled ≡ total_of (λ (p : Totals). p.cancelled) parts
  pub live : t.live ≡ total_of (λ (p : Totals). p.live) parts

-- totals that states answer, one for each shard: the last in the list is that of shard 0
abbrev pub OnePerShard : (T : Type 0) → List Totals → Type 0
OnePerShard T [] = Unit {0}
OnePerShard T (p ∷ ps) = OnNumbered {T = T} (length ps) ShardAudits (Ok p) × OnePerShard T ps

-- Audit of a queue of a number of shards: the sums of what their states answer, or the refusal of
-- the first of them that refuses: those before it answered totals.
abbrev pub QueueAudits : (T : Type 0) → ℕ → Result Totals HandlesOut → Type 0
QueueAudits T shards (Ok t) =
    (parts : List Totals) × (length parts ≡ shards) × OnePerShard T parts
    × AreSums parts t × AddUp t
QueueAudits T shards (Err e) =
    (parts : List Totals) × (length parts < shards) × OnePerShard T parts
    × OnNumbered {T = T} (length parts) ShardAudits (Err e)
