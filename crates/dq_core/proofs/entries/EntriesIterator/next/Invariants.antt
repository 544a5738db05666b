use Rattle.std.proofs.Common.{◌≡◌, ◌-◌, length, drop}
use Rattle.dq_core.specs.Core.{machine}
use Rattle.dq_core.specs.Entries.{listed_from}
use Rattle.dq_core.proofs.entries.EntriesIterator.next.Given as goal

-- no slot that was gone over has a live entry
abbrev pub invariant-loop-self : goal.invariant-loop-self
invariant-loop-self g l =
    listed_from l.self-inside.queue.now.shard l.self-inside.slot (drop l.self-inside.slot (machine l.self-inside.queue.now).table) ≡ l.fn.self

abbrev pub decreases-loop-self : goal.decreases-loop-self
decreases-loop-self g l = length l.self-inside.queue.now.slots.rows - l.self-inside.slot
