use Rattle.dq_growing.specs.Sizing.{IsRoomiest}
use Rattle.dq_growing.proofs.sizing.roomiest.Given as goal

abbrev pub invariant-loop-at : goal.invariant-loop-at
invariant-loop-at g l = IsRoomiest l.cores l.at l.any_will_do l.roomiest
