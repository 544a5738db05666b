use Rattle.std.proofs.Common.{sym, arith}
use Rattle.dq_growing.specs.Cores.{CoreRow, IsCoreAt}
use Rattle.dq_growing.proofs.Quiet.{turns_after, dues_noted, dues_late}
use Rattle.dq_growing.proofs.Rows.{keeps_law, on_found}
use Rattle.dq_growing.proofs.Standing.{dues_by, dues_leave, dues_stay, dues_refused, found_at, words_in}
use Rattle.dq_growing.proofs.cores.Cores.remove_if_due.Goals as goal

pub returns-clause-removes : goal.returns-clause-removes
returns-clause-removes g c =
    rw (← c.self.view_is)
    (on_found _ c.in-Some.at _ _ _ c.index_mut.result.now c.remove_if_due-answer.new.self
    (rw (c.shard.ensures, ← c.self.view_is) at c.in-Some.ensures.found) c.index_mut.ensures.value c.remove_if_due-answer.ensures.removes)

pub invariant_of-self : goal.invariant_of-self
invariant_of-self g c =
    let i = c.self.inside in
    let s : CoreRow g.row.T.Denot g.row.W.Denot = record { cores = i.cores.items; opened = i.opened; next = i.next; noted = i.noted } in
    let b = c.index_mut.result.now in
    let a = c.remove_if_due-answer.new.self in
    let inside = (rw (c.shard.ensures, ← c.self.view_is) at c.in-Some.ensures.found).1.0.0 in
    let at : IsCoreAt s.cores c.in-Some.at b = (inside, sym c.index_mut.ensures.value) in
    let noted = dues_noted _ b a c.args.entry.now _ _ c.remove_if_due-answer.ensures.removes in
    (keeps_law s c.in-Some.at b a c.self.invariant.0 at c.remove_if_due-answer.ensures.same.0 (omega arith), turns_after s i.turns c.in-Some.at b a c.self.invariant.1 at (λ u before. dues_late _ b a u before c.args.entry.now _ _ c.remove_if_due-answer.ensures.removes))

pub returns-clause-words : goal.returns-clause-words
returns-clause-words g c =
    let r = c.remove_if_due-answer in
    let found = rw (c.shard.ensures, ← c.self.view_is) at c.in-Some.ensures.found in
    let at = found_at _ c.in-Some.at c.args.entry.now c.index_mut.result.now r.new.self c.self.invariant.0 found c.index_mut.ensures.value r.ensures.same.0 in
    rw (← c.self.view_is)
    (words_in _ c.in-Some.at c.index_mut.result.now r.new.self c.self.invariant.0 at r.ensures.same.0 g.W.Words.origin g.W.Words.begun r.ensures.origin r.ensures.begun)

pub returns-clause-leaves : goal.returns-clause-leaves
returns-clause-leaves g c =
    let r = c.remove_if_due-answer in
    rw (← c.self.view_is)
    (dues_leave g.W.Words.shared _ _ c.args.entry.now c.args.tick c.self.invariant.0 r.result
    (on_found _ c.in-Some.at _ _ _ c.index_mut.result.now r.new.self
    (rw (c.shard.ensures, ← c.self.view_is) at c.in-Some.ensures.found) c.index_mut.ensures.value r.ensures.removes))

pub returns-clause-due : goal.returns-clause-due
returns-clause-due g c =
    let r = c.remove_if_due-answer in
    dues_by g.W.Words.shared _ _ c.args.entry.now c.args.tick c.self.invariant.0 r.result
    (on_found _ c.in-Some.at _ _ _ c.index_mut.result.now r.new.self
    (rw (c.shard.ensures, ← c.self.view_is) at c.in-Some.ensures.found) c.index_mut.ensures.value r.ensures.removes)

pub returns-clause-stays : goal.returns-clause-stays
returns-clause-stays g c =
    let r = c.remove_if_due-answer in
    rw (← c.self.view_is)
    (dues_stay g.W.Words.shared _ _ c.args.entry.now c.args.tick c.self.invariant.0 r.result
    (on_found _ c.in-Some.at _ _ _ c.index_mut.result.now r.new.self
    (rw (c.shard.ensures, ← c.self.view_is) at c.in-Some.ensures.found) c.index_mut.ensures.value r.ensures.removes))

pub returns-clause-refused : goal.returns-clause-refused
returns-clause-refused g c =
    let r = c.remove_if_due-answer in
    rw (← c.self.view_is)
    (dues_refused g.W.Words.shared _ _ c.args.entry.now c.args.tick c.self.invariant.0 r.result
    (on_found _ c.in-Some.at _ _ _ c.index_mut.result.now r.new.self
    (rw (c.shard.ensures, ← c.self.view_is) at c.in-Some.ensures.found) c.index_mut.ensures.value r.ensures.removes))
