use Rattle.std.proofs.Common.{Ok, Err, sym, ◌∙◌, arith}
use Rattle.dq_growing.proofs.Moves.{ok_not_err}
use Rattle.dq_growing.proofs.Stored.{stored, place_is, law_resets, resets_there}
use Rattle.dq_growing.specs.Cores.{missing_error}
use Rattle.dq_growing.proofs.Aging.{resets_age}
use Rattle.dq_growing.proofs.Keeping.{keeps_noted}
use Rattle.dq_growing.proofs.Holding.{each_raises, holds_noted, reset_refused_raises, reset_due, holds_reset}
use Rattle.dq_growing.proofs.Hints.{held_late, sooner, resets_there as resets_late}
use Rattle.dq_growing.proofs.store.SizedStore.reset_in_place.Goals as goal

pub returns-in-Err-clause-resets : goal.returns-in-Err-clause-resets
returns-in-Err-clause-resets g c =
    let i = c.self-inside.inside.0.0 in
    rw (← c.self.view_is, ← c.self-inside.view_is)
    (resets_there g.W.Words.shared (stored i.cores i.notes) c.args.entry.now c.in-Some.place c.args.when (Err c.in-Err.error) c.reset.new.self
    (sym c.place.ensures ∙ c.in-Some.is) c.in-Err.ensures.resets)

pub returns-in-Err-clause-words : goal.returns-in-Err-clause-words
returns-in-Err-clause-words g c =
    rw (← c.self.view_is, ← c.self-inside.view_is)
    (c.reset.ensures.words)

pub returns-in-Err-clause-keeps : goal.returns-in-Err-clause-keeps
returns-in-Err-clause-keeps g c =
    let i = c.self-inside.inside.0.0 in
    rw (← c.self.view_is, ← c.self-inside.view_is)
    (keeps_noted (stored i.cores i.notes) c.reset.new.self c.self-inside.invariant
    (resets_age g.W.Words.shared i.cores c.reset.new.self c.in-Some.place c.args.when c.reset.result _ c.law.ensures c.reset.ensures.resets))

pub returns-in-Err-clause-holds : goal.returns-in-Err-clause-holds
returns-in-Err-clause-holds g c =
    let i = c.self-inside.inside.0.0 in
    rw (← c.self.view_is, ← c.self-inside.view_is)
    (holds_reset g.W.Words.origin g.W.Words.begun g.W.Words.shared (stored i.cores i.notes) c.reset.new.self c.args.entry.now c.in-Some.place c.args.when (Err c.in-Err.error) _
    (place_is i.notes c.args.entry.now c.in-Some.place c.self-inside.invariant.noted (sym c.place.ensures ∙ c.in-Some.is)) c.reset.ensures.words c.in-Err.ensures.resets)

pub returns-in-Err-clause-refused : goal.returns-in-Err-clause-refused
returns-in-Err-clause-refused g c =
    let i = c.self-inside.inside.0.0 in
    rw (← c.self.view_is, ← c.self-inside.view_is)
    (holds_noted (stored i.cores i.notes) c.reset.new.self
    (each_raises g.W.Words.origin g.W.Words.begun i.cores c.reset.new.self c.in-Some.place.shard _ _ c.reset.ensures.words c.in-Err.ensures.resets (λ b k x. reset_refused_raises g.W.Words.shared b k c.in-Some.place c.args.when c.in-Err.error x)))

pub returns-clause-resets : goal.returns-clause-resets
returns-clause-resets g c =
    let i = c.self-inside.inside.0.0 in
    rw (c.key_as.ensures, ← c.self.view_is, ← c.self-inside.view_is)
    (resets_there g.W.Words.shared (stored i.cores i.notes) c.args.entry.now c.in-Some.place c.args.when (Ok c.in-Ok.key) c.reset.new.self
    (sym c.place.ensures ∙ c.in-Some.is) c.in-Ok.ensures.resets)

pub returns-clause-words : goal.returns-clause-words
returns-clause-words g c =
    rw (← c.self.view_is, ← c.self-inside.view_is)
    (c.reset.ensures.words)

pub returns-clause-keeps : goal.returns-clause-keeps
returns-clause-keeps g c =
    let i = c.self-inside.inside.0.0 in
    rw (← c.self.view_is, ← c.self-inside.view_is)
    (keeps_noted (stored i.cores i.notes) c.reset.new.self c.self-inside.invariant
    (resets_age g.W.Words.shared i.cores c.reset.new.self c.in-Some.place c.args.when c.reset.result _ c.law.ensures c.reset.ensures.resets))

pub returns-clause-holds : goal.returns-clause-holds
returns-clause-holds g c =
    let i = c.self-inside.inside.0.0 in
    rw (← c.self.view_is, ← c.self-inside.view_is)
    (holds_reset g.W.Words.origin g.W.Words.begun g.W.Words.shared (stored i.cores i.notes) c.reset.new.self c.args.entry.now c.in-Some.place c.args.when (Ok c.in-Ok.key) _
    (place_is i.notes c.args.entry.now c.in-Some.place c.self-inside.invariant.noted (sym c.place.ensures ∙ c.in-Some.is)) c.reset.ensures.words c.in-Ok.ensures.resets)

pub returns-clause-due : goal.returns-clause-due
returns-clause-due g c =
    let i = c.self-inside.inside.0.0 in
    (reset_due g.W.Words.origin g.W.Words.begun g.W.Words.shared (stored i.cores i.notes) c.reset.new.self c.args.entry.now c.in-Some.place c.args.when c.in-Ok.key _ c.self-inside.invariant c.law-2.ensures
    (place_is i.notes c.args.entry.now c.in-Some.place c.self-inside.invariant.noted (sym c.place.ensures ∙ c.in-Some.is)) c.reset.ensures.words (ok_not_err c.in-Ok.key (missing_error c.args.when)) c.in-Ok.ensures.resets)

pub invariant_of-self-inside : goal.invariant_of-self-inside
invariant_of-self-inside g c =
    let i = c.self-inside.inside.0.0 in
    law_resets g.W.Words.shared (stored i.cores i.notes) c.reset.new.self c.in-Some.place c.args.when c.reset.result _ c.self-inside.invariant c.law.ensures c.reset.ensures.resets

pub invariant_of-self-inside-2 : goal.invariant_of-self-inside-2
invariant_of-self-inside-2 g c =
    let i = c.self-inside.inside.0.0 in
    law_resets g.W.Words.shared (stored i.cores i.notes) c.reset.new.self c.in-Some.place c.args.when c.reset.result _ c.self-inside.invariant c.law.ensures c.reset.ensures.resets

pub invariant_of-self : goal.invariant_of-self
invariant_of-self g c =
    let i = c.self-inside.inside.0.0 in
    resets_late g.W.Words.shared (stored i.cores i.notes) (stored c.reset.new.self i.notes) c.self-inside.inside.0.1.1.0 c.args.entry.now c.args.when (Err c.in-Err.error) (tt {0})
    (resets_there g.W.Words.shared (stored i.cores i.notes) c.args.entry.now c.in-Some.place c.args.when (Err c.in-Err.error) c.reset.new.self
    (sym c.place.ensures ∙ c.in-Some.is) c.in-Err.ensures.resets) (held_late _ c.self.inside c.self-inside.view_is c.self.invariant)

pub invariant_of-self-2 : goal.invariant_of-self-2
invariant_of-self-2 g c =
    let i = c.self-inside.inside.0.0 in
    let hint = c.min-self-inside-inside.result in
    let least = c.min-self-inside-inside.ensures in
    resets_late g.W.Words.shared (stored i.cores i.notes) (stored c.reset.new.self i.notes) hint c.args.entry.now c.args.when _ (omega arith)
    (resets_there g.W.Words.shared (stored i.cores i.notes) c.args.entry.now c.in-Some.place c.args.when (Ok c.in-Ok.key) c.reset.new.self
    (sym c.place.ensures ∙ c.in-Some.is) c.in-Ok.ensures.resets)
    (sooner i.cores c.self-inside.inside.0.1.1.0 hint (omega arith) (held_late _ c.self.inside c.self-inside.view_is c.self.invariant))
