use Rattle.std.proofs.Common.{◌∙◌}
use Rattle.dq_growing.proofs.Hints.{held_late, inserts_hint}
use Rattle.dq_growing.proofs.Stored.{stored, ages_insert, law_inserts, inserts_for}
use Rattle.dq_growing.proofs.Keeping.{gives_new, keeps_noted}
use Rattle.dq_growing.proofs.Holding.{comes_due, holds_insert}
use Rattle.dq_growing.proofs.store.SizedStore.insert.Goals as goal

pub invariant_of-self-inside : goal.invariant_of-self-inside
invariant_of-self-inside g c =
    let i = c.self-inside.inside.0.0 in
    let a = c.insert-answer in
    law_inserts (stored i.cores i.notes) a.new.self c.args.value c.args.when a.result c.self-inside.invariant c.law.ensures a.ensures.inserts

pub returns-clause-comes : goal.returns-clause-comes
returns-clause-comes g c =
    let i = c.self-inside.inside.0.0 in
    let a = c.insert-answer in
    rw (← c.self.view_is, ← c.self-inside.view_is) (inserts_for (stored i.cores i.notes) a.new.self c.args.value c.args.when a.result c.self-inside.invariant c.law.ensures a.ensures.inserts)

pub returns-clause-words : goal.returns-clause-words
returns-clause-words g c = rw (← c.self.view_is, ← c.self-inside.view_is) c.insert-answer.ensures.words

pub returns-clause-begins : goal.returns-clause-begins
returns-clause-begins g c = rw (← c.self.view_is, ← c.self-inside.view_is) c.insert-answer.ensures.begins

pub returns-clause-gives : goal.returns-clause-gives
returns-clause-gives g c =
    let i = c.self-inside.inside.0.0 in
    let a = c.insert-answer in
    rw (← c.self.view_is, ← c.self-inside.view_is) (gives_new (stored i.cores i.notes) a.new.self c.args.value c.args.when a.result c.law.ensures a.ensures.inserts)

pub returns-clause-keeps : goal.returns-clause-keeps
returns-clause-keeps g c =
    let i = c.self-inside.inside.0.0 in
    let a = c.insert-answer in
    rw (← c.self.view_is, ← c.self-inside.view_is)
    (keeps_noted (stored i.cores i.notes) a.new.self c.self-inside.invariant (ages_insert i.cores a.new.self c.args.value c.args.when a.result c.law.ensures a.ensures.inserts))

pub returns-clause-holds : goal.returns-clause-holds
returns-clause-holds g c =
    let i = c.self-inside.inside.0.0 in
    let a = c.insert-answer in
    rw (← c.self.view_is, ← c.self-inside.view_is)
    (holds_insert g.W.Words.origin g.W.Words.begun (stored i.cores i.notes) a.new.self c.args.value c.args.when a.result a.ensures.words a.ensures.inserts
    (inserts_for (stored i.cores i.notes) a.new.self c.args.value c.args.when a.result c.self-inside.invariant c.law.ensures a.ensures.inserts)
    (gives_new (stored i.cores i.notes) a.new.self c.args.value c.args.when a.result c.law.ensures a.ensures.inserts))

pub returns-clause-due : goal.returns-clause-due
returns-clause-due g c =
    let i = c.self-inside.inside.0.0 in
    let a = c.insert-answer in
    comes_due (stored i.cores i.notes) (stored a.new.self i.notes) c.args.value c.args.when a.result.0
    (law_inserts (stored i.cores i.notes) a.new.self c.args.value c.args.when a.result c.self-inside.invariant c.law.ensures a.ensures.inserts) c.law-2.ensures
    (inserts_for (stored i.cores i.notes) a.new.self c.args.value c.args.when a.result c.self-inside.invariant c.law.ensures a.ensures.inserts)

pub invariant_of-self : goal.invariant_of-self
invariant_of-self g c =
    let i = c.self-inside.inside.0.0 in
    let a = c.insert-answer in
    inserts_hint i.cores a.new.self c.self-inside.inside.0.1.1.0 c.note_due.new.hint c.args.value c.args.when a.result
    (λ x. c.note_due.ensures.yes (c.is_ok.ensures.value ∙ x)) (λ x. c.note_due.ensures.no (c.is_ok.ensures.value ∙ x)) a.ensures.inserts
    (held_late _ c.self.inside c.self-inside.view_is c.self.invariant)

pub returns-clause-inserts : goal.returns-clause-inserts
returns-clause-inserts g c = rw (← c.self.view_is, ← c.self-inside.view_is) c.insert-answer.ensures.inserts
