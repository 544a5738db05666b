use Rattle.std.proofs.Common.{◌≡◌, ℕ, ◌<◌, ◌≤◌, true, false, length, map, is_some, slice_index_or}
use Rattle.dq_bell.specs.Lines.{AllSleepOn}
use Rattle.dq_bell.proofs.sleepers.Sleepers.call_last.Given as goal

abbrev pub decreases-loop-call : goal.decreases-loop-call
decreases-loop-call g l = length l.self-inside.calls.items

abbrev pub invariant-loop-call : goal.invariant-loop-call
invariant-loop-call g l = AllSleepOn l.fn.self (map is_some l.self-inside.calls.items)
