use Rattle.std.proofs.Common.{length, refl, subst}
use Rattle.dq_core.specs.Core.{Core}
use Rattle.dq_growing.specs.Cores.{CoreRow, HasDrained}
use Rattle.dq_growing.specs.Sizing.{IsNeedless, IsNeedlessAt, NoneNeedless}
use Rattle.dq_growing.proofs.Rows.{one_at}
use Rattle.dq_growing.proofs.Hints.{were_late}
use Rattle.dq_growing.proofs.Keeping.{all_keep}
use Rattle.dq_growing.proofs.Sizes.{all_were, gives_gone, gives_open, gives_same, gives_tick, gives_were, same_open, stays, was_beside}
use Rattle.dq_growing.proofs.store.SizedStore.take_needless.Goals as goal

pub returns-in_default-clause-opens : goal.returns-in_default-clause-opens
returns-in_default-clause-opens g c = rw (← c.self.view_is) (same_open c.self.inside.store.cores c.self.inside.store.cores refl)

pub returns-in_default-clause-were : goal.returns-in_default-clause-were
returns-in_default-clause-were g c = rw (← c.self.view_is) (all_were c.self.inside.store.cores c.self.inside.store.cores refl)

pub returns-in_default-clause-stands : goal.returns-in_default-clause-stands
returns-in_default-clause-stands g c = rw (← c.self.view_is) (stays c.self.inside.store c.self.inside.store refl refl)

pub returns-in_default-clause-keeps : goal.returns-in_default-clause-keeps
returns-in_default-clause-keeps g c = rw (← c.self.view_is) (all_keep c.self.inside.store)

pub returns-in_default-clause-holds : goal.returns-in_default-clause-holds
returns-in_default-clause-holds g c = rw (← c.self.view_is) (λ u used tick held. held)

pub returns-in_default-clause-none : goal.returns-in_default-clause-none
returns-in_default-clause-none g c =
    let P : CoreRow g.row.T.Denot g.row.W.Denot → Type 0 = λ k. NoneNeedless c.self.inside.sizing k (length k.cores) in
    rw (← c.self.view_is) (subst P c.cores.ensures c.in_default.ensures.none)

pub take_at-core-requires : goal.take_at-core-requires
take_at-core-requires g c =
    let found = c.in-Some.ensures.found in
    let P : CoreRow g.row.T.Denot g.row.W.Denot → Type 0 = λ k. (d : Core g.row.T.Denot g.row.W.Denot) × HasDrained k c.in-Some.at d in
    subst P c.cores.ensures (found.0, found.1.0)

pub returns-clause-needless : goal.returns-clause-needless
returns-clause-needless g c =
    let z = c.self.inside.sizing in
    let was = c.self.inside.store.cores in
    let found = c.in-Some.ensures.found in
    let P : CoreRow g.row.T.Denot g.row.W.Denot → Type 0 = λ k. IsNeedlessAt z k c.in-Some.at found.0 in
    let Q : Core g.row.T.Denot g.row.W.Denot → Type 0 = λ d. IsNeedless z was d in
    let here = subst P c.cores.ensures found.1 in
    rw (← c.self.view_is) (subst Q (one_at was.cores c.in-Some.at found.0 c.take_at-core.result here.0.0 c.take_at-core.ensures.at) here.1)

pub returns-clause-drained : goal.returns-clause-drained
returns-clause-drained g c =
    let gives = c.take_at-core.ensures.gives in
    rw (← c.self.view_is) (gives.drained.2, was_beside c.self.inside.store.cores c.take_at-core.new.self.cores c.take_at-core.result gives)

pub returns-clause-gone : goal.returns-clause-gone
returns-clause-gone g c = gives_gone c.self.inside.store.cores c.take_at-core.new.self.cores c.take_at-core.result c.law.ensures.cores c.take_at-core.ensures.gives

pub returns-clause-opens : goal.returns-clause-opens
returns-clause-opens g c = rw (← c.self.view_is) (gives_open c.self.inside.store.cores c.take_at-core.new.self.cores c.take_at-core.result c.take_at-core.ensures.gives)

pub returns-clause-were : goal.returns-clause-were
returns-clause-were g c = rw (← c.self.view_is) (gives_were c.self.inside.store.cores c.take_at-core.new.self.cores c.take_at-core.result c.take_at-core.ensures.gives)

pub returns-clause-stands : goal.returns-clause-stands
returns-clause-stands g c =
    let k = c.take_at-core in
    rw (← c.self.view_is) (gives_same c.self.inside.store k.new.self k.result c.law-2.ensures.shard k.ensures.gives k.ensures.notes)

pub returns-clause-tick : goal.returns-clause-tick
returns-clause-tick g c = rw (← c.self.view_is) (gives_tick c.self.inside.store.cores c.take_at-core.new.self.cores c.take_at-core.result c.take_at-core.ensures.gives)

pub returns-clause-keeps : goal.returns-clause-keeps
returns-clause-keeps g c = rw (← c.self.view_is) c.take_at-core.ensures.keeps

pub returns-clause-holds : goal.returns-clause-holds
returns-clause-holds g c = rw (← c.self.view_is) c.take_at-core.ensures.holds

pub invariant_of-self-2 : goal.invariant_of-self-2
invariant_of-self-2 g c =
    let i = c.self.inside in
    let k = c.take_at-core in
    were_late i.store.cores k.new.self.cores i.hint (gives_were i.store.cores k.new.self.cores k.result k.ensures.gives) c.self.invariant
