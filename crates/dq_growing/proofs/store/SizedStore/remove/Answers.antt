use Rattle.std.proofs.Common.{Ok, Err, sym, ◌∙◌}
use Rattle.dq_growing.proofs.Aging.{removes_age}
use Rattle.dq_growing.proofs.Moves.{taken_out}
use Rattle.dq_growing.proofs.Stored.{stored, place_is, law_same_notes, law_forgets, leaves_for, same_for, removes_for, removal_refused}
use Rattle.dq_growing.proofs.Keeping.{keeps_noted, keeps_forgotten}
use Rattle.dq_growing.proofs.Holding.{removes_raise, each_raises, taken_at, others_raise, holds_noted, holds_forgotten, leaves_in_force}
use Rattle.dq_growing.proofs.Hints.{held_late, removes_for as removes_late}
use Rattle.dq_growing.proofs.store.SizedStore.remove.Goals as goal

pub invariant_of-self-inside : goal.invariant_of-self-inside
invariant_of-self-inside g c =
    let i = c.self-inside.inside.0.0 in
    law_same_notes (stored i.cores i.notes) c.remove.new.self c.self-inside.invariant
    (removes_age g.W.Words.shared i.cores c.remove.new.self c.in-Some.place (Err c.in-Err.error) _ c.law.ensures c.in-Err.ensures.removes)

pub invariant_of-self-inside-2 : goal.invariant_of-self-inside-2
invariant_of-self-inside-2 g c =
    let i = c.self-inside.inside.0.0 in
    law_forgets (stored i.cores i.notes) (stored c.remove.new.self c.forget.new.self) c.in-Some.place c.forget.result c.self-inside.invariant
    (removes_age g.W.Words.shared i.cores c.remove.new.self c.in-Some.place (Ok c.in-Ok.removed) _ c.law.ensures c.in-Ok.ensures.removes) c.law-2.ensures c.forget.ensures

pub returns-in-Err-clause-refused : goal.returns-in-Err-clause-refused
returns-in-Err-clause-refused g c =
    let i = c.self-inside.inside.0.0 in
    rw (← c.self.view_is, ← c.self-inside.view_is) (same_for (stored i.cores i.notes) c.remove.new.self c.in-Err.ensures.refused)

pub returns-in-Err-clause-removes : goal.returns-in-Err-clause-removes
returns-in-Err-clause-removes g c =
    let i = c.self-inside.inside.0.0 in
    rw (← c.self.view_is, ← c.self-inside.view_is)
    (removal_refused g.W.Words.shared (stored i.cores i.notes) c.remove.new.self c.args.entry.now c.in-Some.place c.in-Err.error (sym c.place.ensures ∙ c.in-Some.is) c.in-Err.ensures.removes)

pub returns-clause-leaves : goal.returns-clause-leaves
returns-clause-leaves g c =
    let i = c.self-inside.inside.0.0 in
    rw (c.removed_as.ensures, ← c.self.view_is, ← c.self-inside.view_is)
    (leaves_for (stored i.cores i.notes) (stored c.remove.new.self c.forget.new.self) c.args.entry.now c.in-Some.place c.forget.result c.in-Ok.removed.value
    c.self-inside.invariant (sym c.place.ensures ∙ c.in-Some.is) c.in-Ok.ensures.leaves c.forget.ensures)

pub returns-clause-removes : goal.returns-clause-removes
returns-clause-removes g c =
    let i = c.self-inside.inside.0.0 in
    rw (c.removed_as.ensures, ← c.self.view_is, ← c.self-inside.view_is)
    (removes_for g.W.Words.shared (stored i.cores i.notes) (stored c.remove.new.self c.forget.new.self) c.args.entry.now c.in-Some.place c.in-Ok.removed c.forget.result
    (sym c.place.ensures ∙ c.in-Some.is) c.in-Ok.ensures.removes c.forget.ensures)

pub returns-clause-words : goal.returns-clause-words
returns-clause-words g c = rw (← c.self.view_is, ← c.self-inside.view_is) c.remove.ensures.words

pub returns-in-Err-clause-words : goal.returns-in-Err-clause-words
returns-in-Err-clause-words g c = rw (← c.self.view_is, ← c.self-inside.view_is) c.remove.ensures.words

pub returns-in-Err-clause-keeps : goal.returns-in-Err-clause-keeps
returns-in-Err-clause-keeps g c =
    let i = c.self-inside.inside.0.0 in
    rw (← c.self.view_is, ← c.self-inside.view_is)
    (keeps_noted (stored i.cores i.notes) c.remove.new.self c.self-inside.invariant
    (removes_age g.W.Words.shared i.cores c.remove.new.self c.in-Some.place (Err c.in-Err.error) _ c.law.ensures c.in-Err.ensures.removes))

pub returns-clause-keeps : goal.returns-clause-keeps
returns-clause-keeps g c =
    let i = c.self-inside.inside.0.0 in
    rw (← c.self.view_is, ← c.self-inside.view_is)
    (keeps_forgotten (stored i.cores i.notes) (stored c.remove.new.self c.forget.new.self) c.in-Some.place c.forget.result c.self-inside.invariant
    (removes_age g.W.Words.shared i.cores c.remove.new.self c.in-Some.place (Ok c.in-Ok.removed) _ c.law.ensures c.in-Ok.ensures.removes) c.forget.ensures c.in-Ok.ensures.leaves.gone)

pub returns-in-Err-clause-holds : goal.returns-in-Err-clause-holds
returns-in-Err-clause-holds g c =
    let i = c.self-inside.inside.0.0 in
    let p = c.in-Some.place in
    rw (← c.self.view_is, ← c.self-inside.view_is)
    (holds_noted (stored i.cores i.notes) c.remove.new.self
    (each_raises g.W.Words.origin g.W.Words.begun i.cores c.remove.new.self p.shard _ _ c.remove.ensures.words c.in-Err.ensures.removes (λ b k x. removes_raise g.W.Words.shared b k p (Err c.in-Err.error) x)))

pub returns-clause-holds : goal.returns-clause-holds
returns-clause-holds g c =
    let i = c.self-inside.inside.0.0 in
    rw (← c.self.view_is, ← c.self-inside.view_is)
    (holds_forgotten (stored i.cores i.notes) (stored c.remove.new.self c.forget.new.self) c.in-Some.place c.forget.result
    (others_raise i.cores c.remove.new.self c.in-Some.place c.in-Ok.removed.value c.in-Ok.ensures.leaves) c.forget.ensures c.in-Ok.ensures.leaves.gone)

pub returns-clause-in_force : goal.returns-clause-in_force
returns-clause-in_force g c =
    let i = c.self-inside.inside.0.0 in
    let p = c.in-Some.place in
    rw (c.removed_as.ensures, ← c.self.view_is, ← c.self-inside.view_is)
    (leaves_in_force (stored i.cores i.notes) c.args.entry.now p c.in-Ok.removed.deadline (place_is i.notes c.args.entry.now p c.self-inside.invariant.noted (sym c.place.ensures ∙ c.in-Some.is))
    (taken_at g.W.Words.shared i.cores c.remove.new.self p c.in-Ok.removed (taken_out g.W.Words.shared i.cores c.remove.new.self p c.in-Ok.removed c.in-Ok.ensures.removes)))

pub invariant_of-self : goal.invariant_of-self
invariant_of-self g c =
    let i = c.self-inside.inside.0.0 in
    removes_late g.W.Words.shared (stored i.cores i.notes) (stored c.remove.new.self i.notes) c.self-inside.inside.0.1.1.0 c.args.entry.now (Err c.in-Err.error)
    (removal_refused g.W.Words.shared (stored i.cores i.notes) c.remove.new.self c.args.entry.now c.in-Some.place c.in-Err.error (sym c.place.ensures ∙ c.in-Some.is) c.in-Err.ensures.removes) (held_late _ c.self.inside c.self-inside.view_is c.self.invariant)

pub invariant_of-self-2 : goal.invariant_of-self-2
invariant_of-self-2 g c =
    let i = c.self-inside.inside.0.0 in
    removes_late g.W.Words.shared (stored i.cores i.notes) (stored c.remove.new.self c.forget.new.self) c.self-inside.inside.0.1.1.0 c.args.entry.now _
    (removes_for g.W.Words.shared (stored i.cores i.notes) (stored c.remove.new.self c.forget.new.self) c.args.entry.now c.in-Some.place c.in-Ok.removed c.forget.result
    (sym c.place.ensures ∙ c.in-Some.is) c.in-Ok.ensures.removes c.forget.ensures) (held_late _ c.self.inside c.self-inside.view_is c.self.invariant)
