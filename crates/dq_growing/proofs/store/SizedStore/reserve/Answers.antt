use Rattle.std.proofs.Common.{ap}
use Rattle.dq_growing.proofs.Aging.{all_age}
use Rattle.dq_growing.proofs.Stored.{stored, law_reserved, law_same_cores}
use Rattle.dq_growing.proofs.Keeping.{keeps_noted, keeps_reserved, same_age}
use Rattle.dq_growing.proofs.Holding.{row_same, holds_noted, holds_reserved}
use Rattle.dq_growing.proofs.Hints.{held_late, same_late}
use Rattle.dq_growing.proofs.store.SizedStore.reserve.Goals as goal

pub invariant_of-self-inside-2 : goal.invariant_of-self-inside-2
invariant_of-self-inside-2 g c =
    let i = c.self-inside.inside.0.0 in
    let cores = c.reserve.new.self in
    let same = c.reserve.ensures in
    let kept = law_same_cores (stored i.cores i.notes) cores c.self-inside.invariant same in
    law_reserved (stored cores i.notes) cores c.reserve-reserved.new.self kept (all_age cores) c.law.ensures c.reserve-reserved.ensures.same

pub returns-clause-keeps : goal.returns-clause-keeps
returns-clause-keeps g c =
    let i = c.self-inside.inside.0.0 in
    let cores = c.reserve.new.self in
    rw (← c.self.view_is, ← c.self-inside.view_is) (keeps_reserved (stored i.cores i.notes) cores c.reserve-reserved.new.self c.self-inside.invariant (same_age i.cores cores c.reserve.ensures) c.reserve-reserved.ensures.same)

pub returns-in_err-reserve-clause-keeps : goal.returns-in_err-reserve-clause-keeps
returns-in_err-reserve-clause-keeps g c =
    let i = c.self-inside.inside.0.0 in
    rw (← c.self.view_is, ← c.self-inside.view_is) (keeps_noted (stored i.cores i.notes) c.reserve.new.self c.self-inside.invariant (same_age i.cores c.reserve.new.self c.reserve.ensures))

pub returns-clause-holds : goal.returns-clause-holds
returns-clause-holds g c =
    let i = c.self-inside.inside.0.0 in
    let cores = c.reserve.new.self in
    rw (← c.self.view_is, ← c.self-inside.view_is) (holds_reserved (stored i.cores i.notes) cores c.reserve-reserved.new.self (λ q. row_same i.cores cores q (ap (λ k. k.cores) c.reserve.ensures)) c.reserve-reserved.ensures.same)

pub returns-in_err-reserve-clause-holds : goal.returns-in_err-reserve-clause-holds
returns-in_err-reserve-clause-holds g c =
    let i = c.self-inside.inside.0.0 in
    rw (← c.self.view_is, ← c.self-inside.view_is) (holds_noted (stored i.cores i.notes) c.reserve.new.self (λ q. row_same i.cores c.reserve.new.self q (ap (λ k. k.cores) c.reserve.ensures)))

pub invariant_of-self-2 : goal.invariant_of-self-2
invariant_of-self-2 g c =
    let i = c.self-inside.inside.0.0 in
    same_late i.cores c.reserve.new.self c.self-inside.inside.0.1.1.0 c.reserve.ensures (held_late _ c.self.inside c.self-inside.view_is c.self.invariant)

pub invariant_of-self : goal.invariant_of-self
invariant_of-self g c =
    let i = c.self-inside.inside.0.0 in
    same_late i.cores c.reserve.new.self c.self-inside.inside.0.1.1.0 c.reserve.ensures (held_late _ c.self.inside c.self-inside.view_is c.self.invariant)
