use Rattle.std.proofs.Common.{◌≡◌, ◌-◌}
use Rattle.dq_words.specs.Plays.{SeatGoesOn}
use Rattle.dq_words.proofs.Trying.{Loaded}
use Rattle.dq_words.proofs.keeper.renew.Given as goal

abbrev pub invariant-loop-seat : goal.invariant-loop-seat
invariant-loop-seat g l = Loaded l.fn.seat.view l.seat.view l.index l.stamp l.seen × SeatGoesOn l.fn.seat.view l.seat.view × (l.seat.table ≡ l.fn.seat.table)

abbrev pub decreases-loop-seat : goal.decreases-loop-seat
decreases-loop-seat g l = 18446744073709551616 - l.seen
