use Rattle.std.proofs.Common.{inl, refl, sym, ◌∙◌}
use Rattle.std.specs.Fn.{FnOnceReturnsAtMut}
use Rattle.dq_growing.proofs.Holding.{changed_hold}
use Rattle.dq_growing.proofs.Keeping.{changed_keep, changed_used}
use Rattle.dq_growing.proofs.Stored.{stored, law_changes, changes_for}
use Rattle.dq_growing.proofs.Hints.{held_late, changes_for as changes_late}
use Rattle.dq_growing.proofs.store.SizedStore.with_value.Goals as goal

pub invariant_of-self-inside : goal.invariant_of-self-inside
invariant_of-self-inside g c =
    let i = c.self-inside.inside.0.0 in
    let a = c.with_value-answer in
    law_changes (FnOnceReturnsAtMut g.F.FnOnce c.args.call) (stored i.cores i.notes) a.new.self c.args.entry.now c.in-Some.place a.result c.self-inside.invariant
    (sym c.place.ensures ∙ c.in-Some.is) a.ensures.changes a.ensures.none a.ensures.past

pub returns-clause-changes : goal.returns-clause-changes
returns-clause-changes g c =
    let i = c.self-inside.inside.0.0 in
    let a = c.with_value-answer in
    rw (← c.self.view_is, ← c.self-inside.view_is)
    (changes_for (FnOnceReturnsAtMut g.F.FnOnce c.args.call) (stored i.cores i.notes) a.new.self c.args.entry.now c.in-Some.place a.result c.self-inside.invariant
    (sym c.place.ensures ∙ c.in-Some.is) a.ensures.changes a.ensures.none)

pub returns-clause-exact : goal.returns-clause-exact
returns-clause-exact g c =
    rw (← c.self.view_is, ← c.self-inside.view_is) (inl (c.in-Some.place, sym c.place.ensures ∙ c.in-Some.is, (c.with_value-answer.ensures.exact, refl)))

pub returns-clause-words : goal.returns-clause-words
returns-clause-words g c = rw (← c.self.view_is, ← c.self-inside.view_is) c.with_value-answer.ensures.words

pub returns-clause-keeps : goal.returns-clause-keeps
returns-clause-keeps g c =
    let i = c.self-inside.inside.0.0 in
    let a = c.with_value-answer in
    let s = stored i.cores i.notes in
    let Makes = FnOnceReturnsAtMut g.F.FnOnce c.args.call in
    let did = changes_for Makes s a.new.self c.args.entry.now c.in-Some.place a.result c.self-inside.invariant (sym c.place.ensures ∙ c.in-Some.is) a.ensures.changes a.ensures.none in
    rw (← c.self.view_is, ← c.self-inside.view_is) (changed_keep Makes s (stored a.new.self i.notes) c.args.entry.now a.result did (changed_used s a.new.self _ _ _ a.ensures.exact a.ensures.past))

pub returns-clause-holds : goal.returns-clause-holds
returns-clause-holds g c =
    let i = c.self-inside.inside.0.0 in
    let a = c.with_value-answer in
    let s = stored i.cores i.notes in
    let Makes = FnOnceReturnsAtMut g.F.FnOnce c.args.call in
    let at = sym c.place.ensures ∙ c.in-Some.is in
    let did = changes_for Makes s a.new.self c.args.entry.now c.in-Some.place a.result c.self-inside.invariant at a.ensures.changes a.ensures.none in
    let law = law_changes Makes s a.new.self c.args.entry.now c.in-Some.place a.result c.self-inside.invariant at a.ensures.changes a.ensures.none a.ensures.past in
    rw (← c.self.view_is, ← c.self-inside.view_is) (changed_hold Makes s (stored a.new.self i.notes) c.args.entry.now a.result law c.law.ensures did)

pub invariant_of-self : goal.invariant_of-self
invariant_of-self g c =
    let i = c.self-inside.inside.0.0 in
    let a = c.with_value-answer in
    let s = stored i.cores i.notes in
    let Makes = FnOnceReturnsAtMut g.F.FnOnce c.args.call in
    let at = sym c.place.ensures ∙ c.in-Some.is in
    let law = law_changes Makes s a.new.self c.args.entry.now c.in-Some.place a.result c.self-inside.invariant at a.ensures.changes a.ensures.none a.ensures.past in
    changes_late Makes s (stored a.new.self i.notes) c.self-inside.inside.0.1.1.0 c.args.entry.now a.result law c.law.ensures
    (changes_for Makes s a.new.self c.args.entry.now c.in-Some.place a.result c.self-inside.invariant at a.ensures.changes a.ensures.none) (held_late _ c.self.inside c.self-inside.view_is c.self.invariant)
