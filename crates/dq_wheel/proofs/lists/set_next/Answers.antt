use Rattle.std.proofs.Common.{refl}
use Rattle.std.proofs.lemmas.List.{map-set}
use Rattle.std.proofs.Math.Seq.{map-set_same}
use Rattle.dq_wheel.proofs.lists.set_next.Goals as goal

pub returns-clause-next : goal.returns-clause-next
returns-clause-next c = map-set _ _ _ _

pub returns-clause-prev : goal.returns-clause-prev
returns-clause-prev c = map-set_same _ _ _ _ _ refl

pub returns-clause-home : goal.returns-clause-home
returns-clause-home c = map-set_same _ _ _ _ _ refl

pub returns-clause-filed : goal.returns-clause-filed
returns-clause-filed c = map-set_same _ _ _ _ _ refl

pub returns-clause-moves : goal.returns-clause-moves
returns-clause-moves c = map-set_same _ _ _ _ _ refl
