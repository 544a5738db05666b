use Rattle.std.proofs.Common.{◌≡◌, ◌-◌}
use Rattle.dq_words.specs.Plays.{SeatGoesOn}
use Rattle.dq_words.proofs.Trying.{Loaded}
use Rattle.dq_words.proofs.keeper.finish_by.Given as goal

abbrev pub invariant-loop-deadline : goal.invariant-loop-deadline
invariant-loop-deadline g l = Loaded l.fn.seat.view l.seat.view l.index l.stamp l.seen × SeatGoesOn l.fn.seat.view l.seat.view × (l.seat.table ≡ l.fn.seat.table)

abbrev pub decreases-loop-deadline : goal.decreases-loop-deadline
decreases-loop-deadline g l = 18446744073709551616 - l.seen
