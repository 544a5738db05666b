-- How a queue is renewed: over fresh words, under a higher number.
use Rattle.std.specs.Prelude.{◌≡◌, ℕ, ◌<◌, ◌≤◌, ◌≢◌, List, None, Result, Ok, Err, length}
use Rattle.std.specs.Prelude.{replicate, slice_set}
use Rattle.std.specs.List.{count_by}
use Rattle.dq_ticks.specs.declared.words.Parts.{Parts}
use Rattle.dq_ticks.specs.declared.keys.EntryId.{EntryId}
use Rattle.dq_wheel.specs.Moves.{passed}
use Rattle.dq_core.specs.declared.renew.RenewError.{RenewError}
use Rattle.dq_core.specs.declared.renew.RenewError.TheVariants.{StillLinked, UsedNumber, WrongRows}
use Rattle.dq_core.specs.Words.{Counts}
use Rattle.dq_core.specs.Slots.{SlotRows, unused, is_held}
use Rattle.dq_core.specs.Machine.{Machine}
use Rattle.dq_core.specs.Core.{Core}
use Rattle.dq_core.specs.Calls.{IsMissing}

-- the slots, with slot i as if it had never been used
abbrev pub forgotten : {T : Type 0} → SlotRows T → ℕ → SlotRows T
forgotten s i = record s { rows = slice_set s.rows i unused }

-- the slots, each as if it had never been used
abbrev pub never_used : {T : Type 0} → SlotRows T → SlotRows T
never_used s = record s { rows = replicate (length s.rows) unused }

-- the queue under another number and over other words, with each slot as if it had never been
-- used; its ticks and its wheel go on
abbrev pub renewed_core : {T W : Type 0} → Core T W → ℕ → List Parts → Counts → W → Core T W
renewed_core b shard known counts words =
    record b {
      shard = shard;
      slots = never_used b.slots;
      known = known;
      counts = counts;
      words = words;
    }

-- a machine at the same ticks, whose table is as long and was never used
abbrev pub fresh_machine : {T : Type 0} → Machine T → Machine T
fresh_machine m =
    record m { table = replicate (length m.table) (record { stamp = 0; entry = None }) }

-- whatever was linked under the queue's number, or under a lower one, is missing
abbrev pub OldAreMissing : {T W : Type 0} → Core T W → Core T W → Type 0
OldAreMissing b c = (id : EntryId) → id.shard ≤ b.shard → IsMissing c id

-- why a queue isn't renewed: first while an entry is linked, then for a number that isn't higher,
-- and then for words that aren't as many as the slots
abbrev pub QueueRenewRefused : {T W : Type 0} → Core T W → ℕ → ℕ → RenewError → Type 0
QueueRenewRefused b shard rows (StillLinked linked) =
    (linked ≡ count_by is_held b.slots.rows) × (0 < linked)
QueueRenewRefused b shard rows (UsedNumber number) =
    (count_by is_held b.slots.rows ≡ 0) × (number ≡ b.shard) × (shard ≤ b.shard)
QueueRenewRefused b shard rows WrongRows =
    (count_by is_held b.slots.rows ≡ 0) × (b.shard < shard) × (rows ≢ length b.slots.rows)

-- a queue is renewed and its old words come back, or it is refused, which hands the new words back
-- and changes nothing
abbrev pub RenewsQueue : {T W : Type 0} →
    Core T W → ℕ → W → List Parts → Counts → Result W (RenewError × W) → Core T W → Type 0
RenewsQueue b shard words known counts (Ok old) c =
    (count_by is_held b.slots.rows ≡ 0) × (b.shard < shard)
    × (length known ≡ length b.slots.rows) × (old ≡ b.words)
    × (c ≡ renewed_core b shard known counts words)
RenewsQueue b shard words known counts (Err e) c =
    QueueRenewRefused b shard (length known) e.0 × (e.1 ≡ words) × (c ≡ b)

-- why a queue goes on as no other: first while an entry is linked, and then for a number that isn't
-- higher
abbrev pub RenewAsRefused : {T W : Type 0} → Core T W → ℕ → RenewError → Type 0
RenewAsRefused b shard (StillLinked linked) =
    (linked ≡ count_by is_held b.slots.rows) × (0 < linked)
RenewAsRefused b shard (UsedNumber number) =
    (count_by is_held b.slots.rows ≡ 0) × (number ≡ b.shard) × (shard ≤ b.shard)
RenewAsRefused b shard WrongRows = ⊥

-- a queue goes on as another, whose wheel goes to its noted tick, and comes back whole; or it is
-- refused, which hands the other back and changes nothing
abbrev pub RenewsQueueAs : {T W : Type 0} →
    Core T W → Core T W → Result (Core T W) (RenewError × Core T W) → Core T W → Type 0
RenewsQueueAs b f (Ok old) c =
    (count_by is_held b.slots.rows ≡ 0) × (b.shard < f.shard) × (old ≡ b)
    × (c.wheel.filing ≡ passed f.wheel.filing b.noted)
    × (c ≡ record f { noted = b.noted; wheel = c.wheel })
RenewsQueueAs b f (Err e) c = RenewAsRefused b f.shard e.0 × (e.1 ≡ f) × (c ≡ b)
