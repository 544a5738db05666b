use Rattle.std.proofs.Common.{inl, refl, sym, ◌∙◌}
use Rattle.dq_growing.proofs.Stored.{stored, law_same_notes, law_forgets}
use Rattle.dq_growing.proofs.Keeping.{keeps_noted, keeps_forgotten}
use Rattle.dq_growing.proofs.Holding.{reaps_raise, each_raises, holds_noted, holds_forgotten}
use Rattle.dq_growing.proofs.Hints.{held_late, reaps_for}
use Rattle.dq_growing.proofs.store.SizedStore.reap.Goals as goal

pub invariant_of-self-inside : goal.invariant_of-self-inside
invariant_of-self-inside g c =
    let i = c.self-inside.inside.0.0 in
    law_same_notes (stored i.cores i.notes) c.reap.new.self c.self-inside.invariant c.reap.ensures.ages

pub returns-in-Err-clause-reaps : goal.returns-in-Err-clause-reaps
returns-in-Err-clause-reaps g c =
    rw (← c.self.view_is, ← c.self-inside.view_is)
    (inl (c.in-Some.place, sym c.place.ensures ∙ c.in-Some.is, (c.in-Err.ensures.reaps, refl)))

pub returns-in-Err-clause-words : goal.returns-in-Err-clause-words
returns-in-Err-clause-words g c =
    rw (← c.self.view_is, ← c.self-inside.view_is)
    (c.reap.ensures.words)

pub returns-in-Err-clause-keeps : goal.returns-in-Err-clause-keeps
returns-in-Err-clause-keeps g c =
    let i = c.self-inside.inside.0.0 in
    rw (← c.self.view_is, ← c.self-inside.view_is)
    (keeps_noted (stored i.cores i.notes) c.reap.new.self c.self-inside.invariant c.reap.ensures.ages)

pub returns-in-Err-clause-holds : goal.returns-in-Err-clause-holds
returns-in-Err-clause-holds g c =
    let i = c.self-inside.inside.0.0 in
    rw (← c.self.view_is, ← c.self-inside.view_is)
    (holds_noted (stored i.cores i.notes) c.reap.new.self
    (each_raises g.W.Words.origin g.W.Words.begun i.cores c.reap.new.self c.in-Some.place.shard _ _ c.reap.ensures.words c.reap.ensures.reaps (λ b k x. reaps_raise g.W.Words.shared b k c.in-Some.place c.reap.result x)))

pub invariant_of-self-inside-2 : goal.invariant_of-self-inside-2
invariant_of-self-inside-2 g c =
    let i = c.self-inside.inside.0.0 in
    law_forgets (stored i.cores i.notes) (stored c.reap.new.self c.forget.new.self) c.in-Some.place c.forget.result c.self-inside.invariant
    c.reap.ensures.ages c.law.ensures c.forget.ensures

pub returns-clause-reaps : goal.returns-clause-reaps
returns-clause-reaps g c =
    rw (← c.self.view_is, ← c.self-inside.view_is)
    (inl (c.in-Some.place, sym c.place.ensures ∙ c.in-Some.is, (c.in_default-reap.ensures.reaps, (c.forget.result, c.forget.ensures))))

pub returns-clause-words : goal.returns-clause-words
returns-clause-words g c =
    rw (← c.self.view_is, ← c.self-inside.view_is)
    (c.reap.ensures.words)

pub returns-clause-keeps : goal.returns-clause-keeps
returns-clause-keeps g c =
    let i = c.self-inside.inside.0.0 in
    rw (← c.self.view_is, ← c.self-inside.view_is)
    (keeps_forgotten (stored i.cores i.notes) (stored c.reap.new.self c.forget.new.self) c.in-Some.place c.forget.result c.self-inside.invariant c.reap.ensures.ages c.forget.ensures c.in_default-reap.ensures.gone)

pub returns-clause-holds : goal.returns-clause-holds
returns-clause-holds g c =
    let i = c.self-inside.inside.0.0 in
    rw (← c.self.view_is, ← c.self-inside.view_is)
    (holds_forgotten (stored i.cores i.notes) (stored c.reap.new.self c.forget.new.self) c.in-Some.place c.forget.result
    (each_raises g.W.Words.origin g.W.Words.begun i.cores c.reap.new.self c.in-Some.place.shard _ _ c.reap.ensures.words c.reap.ensures.reaps (λ b k x. reaps_raise g.W.Words.shared b k c.in-Some.place c.reap.result x))
    c.forget.ensures c.in_default-reap.ensures.gone)

pub invariant_of-self : goal.invariant_of-self
invariant_of-self g c =
    let i = c.self-inside.inside.0.0 in
    reaps_for g.W.Words.shared (stored i.cores i.notes) (stored c.reap.new.self i.notes) c.self-inside.inside.0.1.1.0 c.args.entry.now _
    (inl (c.in-Some.place, sym c.place.ensures ∙ c.in-Some.is, (c.in-Err.ensures.reaps, refl))) (held_late _ c.self.inside c.self-inside.view_is c.self.invariant)

pub invariant_of-self-2 : goal.invariant_of-self-2
invariant_of-self-2 g c =
    let i = c.self-inside.inside.0.0 in
    reaps_for g.W.Words.shared (stored i.cores i.notes) (stored c.reap.new.self c.forget.new.self) c.self-inside.inside.0.1.1.0 c.args.entry.now _
    (inl (c.in-Some.place, sym c.place.ensures ∙ c.in-Some.is, (c.in_default-reap.ensures.reaps, (c.forget.result, c.forget.ensures)))) (held_late _ c.self.inside c.self-inside.view_is c.self.invariant)
