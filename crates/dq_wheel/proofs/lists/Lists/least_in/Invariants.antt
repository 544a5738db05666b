use Rattle.dq_wheel.specs.Rows.{nexts, homes, shown_numbers}
use Rattle.dq_wheel.specs.Seen.{homes_seen}
use Rattle.dq_wheel.proofs.Least.{IsLeastSoFar}
use Rattle.dq_wheel.proofs.lists.Lists.least_in.Given as goal

abbrev pub invariant-loop-turn : goal.invariant-loop-turn
invariant-loop-turn g l =
    IsLeastSoFar l.self-inside.capacity (nexts l.self-inside.rows.items) (homes_seen l.self-inside.capacity l.self-inside.opened (homes l.self-inside.rows.items))
    (shown_numbers l.self-inside.opened l.self-inside.since l.self-inside.rows.items) l.list l._turn l.at l.best
