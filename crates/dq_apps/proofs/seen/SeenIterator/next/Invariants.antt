use Rattle.std.proofs.Common.{◌≡◌, length}
use Rattle.dq_apps.specs.Tied.{pairs_seen}
use Rattle.dq_apps.proofs.seen.SeenIterator.next.Given as goal

abbrev pub invariant-loop-key : goal.invariant-loop-key
invariant-loop-key g l =
    (l.self-inside.moment ≡ l.initial.self-inside.moment)
    × (pairs_seen l.self-inside.moment l.self-inside.entries ≡ pairs_seen l.initial.self-inside.moment l.initial.self-inside.entries)

abbrev pub decreases-loop-key : goal.decreases-loop-key
decreases-loop-key g l = length l.self-inside.entries
