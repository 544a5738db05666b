use Rattle.std.proofs.Common.{Ok, Err, inl, refl, sym, ◌∙◌}
use Rattle.dq_growing.proofs.Aging.{removes_age, tells_age}
use Rattle.dq_growing.proofs.Moves.{taken_out}
use Rattle.dq_growing.proofs.Stored.{stored, place_is, law_same_notes, law_forgets, leaves_for, same_for, removes_for, removal_refused, due_taken, due_later, due_refused}
use Rattle.dq_growing.proofs.Keeping.{keeps_noted, keeps_forgotten}
use Rattle.dq_growing.proofs.Standing.{removes_leaves, refusal_same, look_same}
use Rattle.dq_growing.proofs.Holding.{removes_raise, tells_raise, each_raises, taken_at, others_raise, holds_noted, holds_forgotten, leaves_in_force}
use Rattle.dq_growing.proofs.Hints.{held_late, dues_for, removes_for as removes_late, tells_for}
use Rattle.dq_growing.proofs.store.SizedStore.remove_if_due.Goals as goal

pub invariant_of-self-inside : goal.invariant_of-self-inside
invariant_of-self-inside g c =
    let i = c.self-inside.inside.0.0 in
    let due = due_later g.W.Words.shared i.cores c.remove_if_due.new.self c.in-Some.place c.args.tick _ c.in-Ok-None.field-0-is c.in-Ok-None.ensures.removes in
    law_same_notes (stored i.cores i.notes) c.remove_if_due.new.self c.self-inside.invariant
    (tells_age g.W.Words.shared i.cores c.remove_if_due.new.self c.in-Some.place (Ok due.0) _ c.law.ensures due.2)

pub returns-in-Ok-None-clause-removes : goal.returns-in-Ok-None-clause-removes
returns-in-Ok-None-clause-removes g c =
    let i = c.self-inside.inside.0.0 in
    let due = due_later g.W.Words.shared i.cores c.remove_if_due.new.self c.in-Some.place c.args.tick _ c.in-Ok-None.field-0-is c.in-Ok-None.ensures.removes in
    rw (← c.self.view_is, ← c.self-inside.view_is) (due.0, due.1, inl (c.in-Some.place, sym c.place.ensures ∙ c.in-Some.is, (due.2, refl)))

pub returns-in-Ok-None-clause-words : goal.returns-in-Ok-None-clause-words
returns-in-Ok-None-clause-words g c = rw (← c.self.view_is, ← c.self-inside.view_is) c.remove_if_due.ensures.words

pub invariant_of-self-inside-in-Err-1 : goal.invariant_of-self-inside-in-Err-1
invariant_of-self-inside-in-Err-1 g c =
    let i = c.self-inside.inside.0.0 in
    law_same_notes (stored i.cores i.notes) c.remove_if_due.new.self c.self-inside.invariant
    (removes_age g.W.Words.shared i.cores c.remove_if_due.new.self c.in-Some.place (Err c.in-Err.error) _ c.law.ensures
    (due_refused g.W.Words.shared i.cores c.remove_if_due.new.self c.in-Some.place c.args.tick c.in-Err.error c.in-Err.ensures.removes))

pub returns-in-Err-clause-removes : goal.returns-in-Err-clause-removes
returns-in-Err-clause-removes g c =
    let i = c.self-inside.inside.0.0 in
    rw (← c.self.view_is, ← c.self-inside.view_is)
    (removal_refused g.W.Words.shared (stored i.cores i.notes) c.remove_if_due.new.self c.args.entry.now c.in-Some.place c.in-Err.error (sym c.place.ensures ∙ c.in-Some.is)
    (due_refused g.W.Words.shared i.cores c.remove_if_due.new.self c.in-Some.place c.args.tick c.in-Err.error c.in-Err.ensures.removes))

pub returns-in-Err-clause-words : goal.returns-in-Err-clause-words
returns-in-Err-clause-words g c = rw (← c.self.view_is, ← c.self-inside.view_is) c.remove_if_due.ensures.words

pub invariant_of-self-inside-2 : goal.invariant_of-self-inside-2
invariant_of-self-inside-2 g c =
    let i = c.self-inside.inside.0.0 in
    let due = due_taken g.W.Words.shared i.cores c.remove_if_due.new.self c.in-Some.place c.args.tick _ c.in-Ok-Some.removed c.in-Ok-Some.field-0-is c.in-Ok-Some.ensures.removes in
    law_forgets (stored i.cores i.notes) (stored c.remove_if_due.new.self c.forget.new.self) c.in-Some.place c.forget.result c.self-inside.invariant
    (removes_age g.W.Words.shared i.cores c.remove_if_due.new.self c.in-Some.place (Ok c.in-Ok-Some.removed) _ c.law.ensures due.1) c.law-2.ensures c.forget.ensures

pub returns-clause-removes : goal.returns-clause-removes
returns-clause-removes g c =
    let i = c.self-inside.inside.0.0 in
    let due = due_taken g.W.Words.shared i.cores c.remove_if_due.new.self c.in-Some.place c.args.tick _ c.in-Ok-Some.removed c.in-Ok-Some.field-0-is c.in-Ok-Some.ensures.removes in
    rw (c.removed_as.ensures, ← c.self.view_is, ← c.self-inside.view_is) (
      due.0,
      removes_for g.W.Words.shared (stored i.cores i.notes) (stored c.remove_if_due.new.self c.forget.new.self) c.args.entry.now c.in-Some.place c.in-Ok-Some.removed c.forget.result
          (sym c.place.ensures ∙ c.in-Some.is) due.1 c.forget.ensures,
    )

pub returns-clause-words : goal.returns-clause-words
returns-clause-words g c = rw (← c.self.view_is, ← c.self-inside.view_is) c.remove_if_due.ensures.words

pub returns-in-Ok-None-clause-stays : goal.returns-in-Ok-None-clause-stays
returns-in-Ok-None-clause-stays g c =
    let i = c.self-inside.inside.0.0 in
    let due = due_later g.W.Words.shared i.cores c.remove_if_due.new.self c.in-Some.place c.args.tick _ c.in-Ok-None.field-0-is c.in-Ok-None.ensures.removes in
    rw (← c.self.view_is, ← c.self-inside.view_is)
    (same_for (stored i.cores i.notes) c.remove_if_due.new.self (look_same g.W.Words.shared i.cores c.remove_if_due.new.self c.in-Some.place _ c.law.ensures due.0 due.2))

pub returns-in-Ok-None-clause-keeps : goal.returns-in-Ok-None-clause-keeps
returns-in-Ok-None-clause-keeps g c =
    let i = c.self-inside.inside.0.0 in
    let due = due_later g.W.Words.shared i.cores c.remove_if_due.new.self c.in-Some.place c.args.tick _ c.in-Ok-None.field-0-is c.in-Ok-None.ensures.removes in
    rw (← c.self.view_is, ← c.self-inside.view_is)
    (keeps_noted (stored i.cores i.notes) c.remove_if_due.new.self c.self-inside.invariant
    (tells_age g.W.Words.shared i.cores c.remove_if_due.new.self c.in-Some.place (Ok due.0) _ c.law.ensures due.2))

pub returns-in-Err-clause-refused : goal.returns-in-Err-clause-refused
returns-in-Err-clause-refused g c =
    let i = c.self-inside.inside.0.0 in
    rw (← c.self.view_is, ← c.self-inside.view_is)
    (same_for (stored i.cores i.notes) c.remove_if_due.new.self
    (refusal_same g.W.Words.shared i.cores c.remove_if_due.new.self c.in-Some.place _ c.law.ensures c.in-Err.error
    (due_refused g.W.Words.shared i.cores c.remove_if_due.new.self c.in-Some.place c.args.tick c.in-Err.error c.in-Err.ensures.removes)))

pub returns-in-Err-clause-keeps : goal.returns-in-Err-clause-keeps
returns-in-Err-clause-keeps g c =
    let i = c.self-inside.inside.0.0 in
    rw (← c.self.view_is, ← c.self-inside.view_is)
    (keeps_noted (stored i.cores i.notes) c.remove_if_due.new.self c.self-inside.invariant
    (removes_age g.W.Words.shared i.cores c.remove_if_due.new.self c.in-Some.place (Err c.in-Err.error) _ c.law.ensures
    (due_refused g.W.Words.shared i.cores c.remove_if_due.new.self c.in-Some.place c.args.tick c.in-Err.error c.in-Err.ensures.removes)))

pub returns-clause-leaves : goal.returns-clause-leaves
returns-clause-leaves g c =
    let i = c.self-inside.inside.0.0 in
    let due = due_taken g.W.Words.shared i.cores c.remove_if_due.new.self c.in-Some.place c.args.tick _ c.in-Ok-Some.removed c.in-Ok-Some.field-0-is c.in-Ok-Some.ensures.removes in
    rw (c.removed_as.ensures, ← c.self.view_is, ← c.self-inside.view_is)
    (leaves_for (stored i.cores i.notes) (stored c.remove_if_due.new.self c.forget.new.self) c.args.entry.now c.in-Some.place c.forget.result c.in-Ok-Some.removed.value
    c.self-inside.invariant (sym c.place.ensures ∙ c.in-Some.is) (removes_leaves g.W.Words.shared i.cores c.remove_if_due.new.self c.in-Some.place ⊥ c.law.ensures c.in-Ok-Some.removed due.1) c.forget.ensures)

pub returns-clause-due : goal.returns-clause-due
returns-clause-due g c =
    let i = c.self-inside.inside.0.0 in
    let due = due_taken g.W.Words.shared i.cores c.remove_if_due.new.self c.in-Some.place c.args.tick _ c.in-Ok-Some.removed c.in-Ok-Some.field-0-is c.in-Ok-Some.ensures.removes in
    rw (c.removed_as.ensures) due.0

pub returns-clause-keeps : goal.returns-clause-keeps
returns-clause-keeps g c =
    let i = c.self-inside.inside.0.0 in
    let due = due_taken g.W.Words.shared i.cores c.remove_if_due.new.self c.in-Some.place c.args.tick _ c.in-Ok-Some.removed c.in-Ok-Some.field-0-is c.in-Ok-Some.ensures.removes in
    rw (← c.self.view_is, ← c.self-inside.view_is)
    (keeps_forgotten (stored i.cores i.notes) (stored c.remove_if_due.new.self c.forget.new.self) c.in-Some.place c.forget.result c.self-inside.invariant
    (removes_age g.W.Words.shared i.cores c.remove_if_due.new.self c.in-Some.place (Ok c.in-Ok-Some.removed) _ c.law.ensures due.1) c.forget.ensures
    (removes_leaves g.W.Words.shared i.cores c.remove_if_due.new.self c.in-Some.place ⊥ c.law.ensures c.in-Ok-Some.removed due.1).gone)

pub returns-in-Ok-None-clause-holds : goal.returns-in-Ok-None-clause-holds
returns-in-Ok-None-clause-holds g c =
    let i = c.self-inside.inside.0.0 in
    let p = c.in-Some.place in
    let due = due_later g.W.Words.shared i.cores c.remove_if_due.new.self c.in-Some.place c.args.tick _ c.in-Ok-None.field-0-is c.in-Ok-None.ensures.removes in
    rw (← c.self.view_is, ← c.self-inside.view_is)
    (holds_noted (stored i.cores i.notes) c.remove_if_due.new.self
    (each_raises g.W.Words.origin g.W.Words.begun i.cores c.remove_if_due.new.self p.shard _ _ c.remove_if_due.ensures.words due.2 (λ b k x. tells_raise g.W.Words.shared b k p (Ok due.0) x)))

pub returns-in-Err-clause-holds : goal.returns-in-Err-clause-holds
returns-in-Err-clause-holds g c =
    let i = c.self-inside.inside.0.0 in
    let p = c.in-Some.place in
    rw (← c.self.view_is, ← c.self-inside.view_is)
    (holds_noted (stored i.cores i.notes) c.remove_if_due.new.self
    (each_raises g.W.Words.origin g.W.Words.begun i.cores c.remove_if_due.new.self p.shard _ _ c.remove_if_due.ensures.words
    (due_refused g.W.Words.shared i.cores c.remove_if_due.new.self p c.args.tick c.in-Err.error c.in-Err.ensures.removes) (λ b k x. removes_raise g.W.Words.shared b k p (Err c.in-Err.error) x)))

pub returns-clause-holds : goal.returns-clause-holds
returns-clause-holds g c =
    let i = c.self-inside.inside.0.0 in
    let due = due_taken g.W.Words.shared i.cores c.remove_if_due.new.self c.in-Some.place c.args.tick _ c.in-Ok-Some.removed c.in-Ok-Some.field-0-is c.in-Ok-Some.ensures.removes in
    let leaves = removes_leaves g.W.Words.shared i.cores c.remove_if_due.new.self c.in-Some.place ⊥ c.law.ensures c.in-Ok-Some.removed due.1 in
    rw (← c.self.view_is, ← c.self-inside.view_is)
    (holds_forgotten (stored i.cores i.notes) (stored c.remove_if_due.new.self c.forget.new.self) c.in-Some.place c.forget.result
    (others_raise i.cores c.remove_if_due.new.self c.in-Some.place c.in-Ok-Some.removed.value leaves) c.forget.ensures leaves.gone)

pub returns-clause-in_force : goal.returns-clause-in_force
returns-clause-in_force g c =
    let i = c.self-inside.inside.0.0 in
    let p = c.in-Some.place in
    let due = due_taken g.W.Words.shared i.cores c.remove_if_due.new.self c.in-Some.place c.args.tick _ c.in-Ok-Some.removed c.in-Ok-Some.field-0-is c.in-Ok-Some.ensures.removes in
    rw (c.removed_as.ensures, ← c.self.view_is, ← c.self-inside.view_is)
    (leaves_in_force (stored i.cores i.notes) c.args.entry.now p c.in-Ok-Some.removed.deadline (place_is i.notes c.args.entry.now p c.self-inside.invariant.noted (sym c.place.ensures ∙ c.in-Some.is))
    (taken_at g.W.Words.shared i.cores c.remove_if_due.new.self p c.in-Ok-Some.removed (taken_out g.W.Words.shared i.cores c.remove_if_due.new.self p c.in-Ok-Some.removed due.1)))

pub invariant_of-self : goal.invariant_of-self
invariant_of-self g c =
    let i = c.self-inside.inside.0.0 in
    let due = due_later g.W.Words.shared i.cores c.remove_if_due.new.self c.in-Some.place c.args.tick _ c.in-Ok-None.field-0-is c.in-Ok-None.ensures.removes in
    tells_for g.W.Words.shared (stored i.cores i.notes) (stored c.remove_if_due.new.self i.notes) c.self-inside.inside.0.1.1.0 c.args.entry.now (Ok due.0)
    (inl (c.in-Some.place, sym c.place.ensures ∙ c.in-Some.is, (due.2, refl))) (held_late _ c.self.inside c.self-inside.view_is c.self.invariant)

pub invariant_of-self-in-Err-1 : goal.invariant_of-self-in-Err-1
invariant_of-self-in-Err-1 g c =
    let i = c.self-inside.inside.0.0 in
    removes_late g.W.Words.shared (stored i.cores i.notes) (stored c.remove_if_due.new.self i.notes) c.self-inside.inside.0.1.1.0 c.args.entry.now (Err c.in-Err.error)
    (removal_refused g.W.Words.shared (stored i.cores i.notes) c.remove_if_due.new.self c.args.entry.now c.in-Some.place c.in-Err.error (sym c.place.ensures ∙ c.in-Some.is)
    (due_refused g.W.Words.shared i.cores c.remove_if_due.new.self c.in-Some.place c.args.tick c.in-Err.error c.in-Err.ensures.removes)) (held_late _ c.self.inside c.self-inside.view_is c.self.invariant)

pub invariant_of-self-2 : goal.invariant_of-self-2
invariant_of-self-2 g c =
    let i = c.self-inside.inside.0.0 in
    let due = due_taken g.W.Words.shared i.cores c.remove_if_due.new.self c.in-Some.place c.args.tick _ c.in-Ok-Some.removed c.in-Ok-Some.field-0-is c.in-Ok-Some.ensures.removes in
    removes_late g.W.Words.shared (stored i.cores i.notes) (stored c.remove_if_due.new.self c.forget.new.self) c.self-inside.inside.0.1.1.0 c.args.entry.now _
    (removes_for g.W.Words.shared (stored i.cores i.notes) (stored c.remove_if_due.new.self c.forget.new.self) c.args.entry.now c.in-Some.place c.in-Ok-Some.removed c.forget.result
    (sym c.place.ensures ∙ c.in-Some.is) due.1 c.forget.ensures) (held_late _ c.self.inside c.self-inside.view_is c.self.invariant)
