use Rattle.std.proofs.Common.{ap, sym, arith}
use Rattle.std.specs.Fn.{FnOnceReturnsAtMut}
use Rattle.dq_growing.specs.Cores.{CoreRow, IsCoreAt}
use Rattle.dq_growing.proofs.Quiet.{turns_after, changes_late, changes_noted}
use Rattle.dq_growing.proofs.Rows.{keeps_law, on_found}
use Rattle.dq_growing.proofs.Standing.{found_at, found_changes, found_missing, still_past, changed_stamps, changed_words, same_begun, words_in}
use Rattle.dq_growing.proofs.cores.Cores.with_value.Goals as goal

pub returns-clause-exact : goal.returns-clause-exact
returns-clause-exact g c =
    rw (← c.self.view_is)
    (on_found _ c.in-Some.at _ _ _ c.index_mut.result.now c.with_value-answer.new.self
    (rw (c.shard.ensures, ← c.self.view_is) at c.in-Some.ensures.found) c.index_mut.ensures.value c.with_value-answer.ensures.changes)

pub returns-clause-changes : goal.returns-clause-changes
returns-clause-changes g c =
    let r = c.with_value-answer in
    rw (← c.self.view_is)
    (found_changes _ c.in-Some.at c.args.entry.now c.index_mut.result.now r.new.self c.self.invariant.0
    (rw (c.shard.ensures, ← c.self.view_is) at c.in-Some.ensures.found) c.index_mut.ensures.value r.ensures.same.0
    (FnOnceReturnsAtMut g.F.FnOnce c.args.call) r.result r.ensures.entry)

pub returns-clause-none : goal.returns-clause-none
returns-clause-none g c =
    let r = c.with_value-answer in
    rw (← c.self.view_is)
    (found_missing _ c.in-Some.at c.args.entry.now c.index_mut.result.now r.new.self c.self.invariant.0
    (rw (c.shard.ensures, ← c.self.view_is) at c.in-Some.ensures.found) c.index_mut.ensures.value r.ensures.same.0
    (FnOnceReturnsAtMut g.F.FnOnce c.args.call) r.result r.ensures.changes)

pub returns-clause-past : goal.returns-clause-past
returns-clause-past g c =
    let r = c.with_value-answer in
    let found = rw (c.shard.ensures, ← c.self.view_is) at c.in-Some.ensures.found in
    let at = found_at _ c.in-Some.at c.args.entry.now c.index_mut.result.now r.new.self c.self.invariant.0 found c.index_mut.ensures.value r.ensures.same.0 in
    let stamps = changed_stamps (FnOnceReturnsAtMut g.F.FnOnce c.args.call) c.index_mut.result.now r.new.self c.args.entry.now r.result r.ensures.changes r.ensures.entry in
    rw (← c.self.view_is)
    (still_past _ c.in-Some.at c.index_mut.result.now r.new.self c.self.invariant.0 at r.ensures.same.0 stamps)

pub invariant_of-self : goal.invariant_of-self
invariant_of-self g c =
    let i = c.self.inside in
    let s : CoreRow g.row.T.Denot g.row.W.Denot = record { cores = i.cores.items; opened = i.opened; next = i.next; noted = i.noted } in
    let r = c.with_value-answer in
    let b = c.index_mut.result.now in
    let a = r.new.self in
    let Makes = FnOnceReturnsAtMut g.F.FnOnce c.args.call in
    let inside = (rw (c.shard.ensures, ← c.self.view_is) at c.in-Some.ensures.found).1.0.0 in
    let at : IsCoreAt s.cores c.in-Some.at b = (inside, sym c.index_mut.ensures.value) in
    let noted = changes_noted Makes b a c.args.entry.now r.result r.ensures.changes in
    (keeps_law s c.in-Some.at b a c.self.invariant.0 at r.ensures.same.0 (omega arith), turns_after s i.turns c.in-Some.at b a c.self.invariant.1 at (λ u before. changes_late Makes b a c.args.entry.now u before r.result r.ensures.changes r.ensures.entry))

pub returns-clause-words : goal.returns-clause-words
returns-clause-words g c =
    let r = c.with_value-answer in
    let found = rw (c.shard.ensures, ← c.self.view_is) at c.in-Some.ensures.found in
    let at = found_at _ c.in-Some.at c.args.entry.now c.index_mut.result.now r.new.self c.self.invariant.0 found c.index_mut.ensures.value r.ensures.same.0 in
    let kept = changed_words (FnOnceReturnsAtMut g.F.FnOnce c.args.call) c.index_mut.result.now r.new.self c.args.entry.now r.result r.ensures.changes in
    rw (← c.self.view_is)
    (words_in _ c.in-Some.at c.index_mut.result.now r.new.self c.self.invariant.0 at r.ensures.same.0 g.W.Words.origin g.W.Words.begun (ap g.W.Words.origin kept) (same_begun g.W.Words.begun _ _ kept))
