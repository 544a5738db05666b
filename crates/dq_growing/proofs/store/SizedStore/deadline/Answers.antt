use Rattle.std.proofs.Common.{inl, refl, sym, ◌∙◌}
use Rattle.dq_growing.proofs.Aging.{tells_age}
use Rattle.dq_growing.proofs.Stored.{stored, law_same_notes}
use Rattle.dq_growing.proofs.Keeping.{keeps_noted}
use Rattle.dq_growing.proofs.Holding.{tells_raise, each_raises, holds_noted}
use Rattle.dq_growing.proofs.Hints.{held_late, tells_for}
use Rattle.dq_growing.proofs.store.SizedStore.deadline.Goals as goal

pub invariant_of-self-inside : goal.invariant_of-self-inside
invariant_of-self-inside g c =
    let i = c.self-inside.inside.0.0 in
    let a = c.deadline-answer in
    law_same_notes (stored i.cores i.notes) a.new.self c.self-inside.invariant (tells_age g.W.Words.shared i.cores a.new.self c.in-Some.place a.result _ c.law.ensures a.ensures.tells)

pub returns-clause-tells : goal.returns-clause-tells
returns-clause-tells g c =
    rw (← c.self.view_is, ← c.self-inside.view_is)
    (inl (c.in-Some.place, sym c.place.ensures ∙ c.in-Some.is, (c.deadline-answer.ensures.tells, refl)))

pub returns-clause-words : goal.returns-clause-words
returns-clause-words g c =
    rw (← c.self.view_is, ← c.self-inside.view_is)
    (c.deadline-answer.ensures.words)

pub returns-clause-keeps : goal.returns-clause-keeps
returns-clause-keeps g c =
    let i = c.self-inside.inside.0.0 in
    let a = c.deadline-answer in
    rw (← c.self.view_is, ← c.self-inside.view_is)
    (keeps_noted (stored i.cores i.notes) a.new.self c.self-inside.invariant (tells_age g.W.Words.shared i.cores a.new.self c.in-Some.place a.result _ c.law.ensures a.ensures.tells))

pub returns-clause-holds : goal.returns-clause-holds
returns-clause-holds g c =
    let i = c.self-inside.inside.0.0 in
    let a = c.deadline-answer in
    rw (← c.self.view_is, ← c.self-inside.view_is)
    (holds_noted (stored i.cores i.notes) a.new.self
    (each_raises g.W.Words.origin g.W.Words.begun i.cores a.new.self c.in-Some.place.shard _ _ a.ensures.words a.ensures.tells (λ b k x. tells_raise g.W.Words.shared b k c.in-Some.place a.result x)))

pub invariant_of-self : goal.invariant_of-self
invariant_of-self g c =
    let i = c.self-inside.inside.0.0 in
    let a = c.deadline-answer in
    tells_for g.W.Words.shared (stored i.cores i.notes) (stored a.new.self i.notes) c.self-inside.inside.0.1.1.0 c.args.entry.now a.result
    (inl (c.in-Some.place, sym c.place.ensures ∙ c.in-Some.is, (a.ensures.tells, refl))) (held_late _ c.self.inside c.self-inside.view_is c.self.invariant)
