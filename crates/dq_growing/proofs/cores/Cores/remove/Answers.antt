use Rattle.std.proofs.Common.{sym, arith}
use Rattle.dq_growing.specs.Cores.{CoreRow, IsCoreAt}
use Rattle.dq_growing.proofs.Quiet.{turns_after, removes_noted, removes_late}
use Rattle.dq_growing.proofs.Rows.{keeps_law, on_found, missing_in, out_in}
use Rattle.dq_growing.proofs.Standing.{found_at, found_leaves, found_past, found_same, words_in}
use Rattle.dq_growing.proofs.cores.Cores.remove.Goals as goal

pub returns-clause-leaves : goal.returns-clause-leaves
returns-clause-leaves g c =
    let r = c.remove_from-answer in
    rw (← c.self.view_is)
    (found_leaves _ c.in-Some.at c.args.entry.now c.index_mut.result.now r.new.core c.self.invariant.0
    (rw (c.shard.ensures, ← c.self.view_is) at c.in-Some.ensures.found) c.index_mut.ensures.value r.ensures.same.0 r.result r.ensures.leaves)

pub returns-clause-past : goal.returns-clause-past
returns-clause-past g c =
    let r = c.remove_from-answer in
    found_past _ c.in-Some.at c.args.entry.now c.index_mut.result.now r.new.core c.self.invariant.0
    (rw (c.shard.ensures, ← c.self.view_is) at c.in-Some.ensures.found) c.index_mut.ensures.value r.ensures.same.0 r.result r.ensures.past

pub returns-clause-refused : goal.returns-clause-refused
returns-clause-refused g c =
    let r = c.remove_from-answer in
    rw (← c.self.view_is)
    (found_same _ c.in-Some.at c.args.entry.now c.index_mut.result.now r.new.core c.self.invariant.0
    (rw (c.shard.ensures, ← c.self.view_is) at c.in-Some.ensures.found) c.index_mut.ensures.value r.ensures.same.0 r.result r.ensures.refused)

pub returns-clause-words : goal.returns-clause-words
returns-clause-words g c =
    let r = c.remove_from-answer in
    let found = rw (c.shard.ensures, ← c.self.view_is) at c.in-Some.ensures.found in
    let at = found_at _ c.in-Some.at c.args.entry.now c.index_mut.result.now r.new.core c.self.invariant.0 found c.index_mut.ensures.value r.ensures.same.0 in
    rw (← c.self.view_is)
    (words_in _ c.in-Some.at c.index_mut.result.now r.new.core c.self.invariant.0 at r.ensures.same.0 g.W.Words.origin g.W.Words.begun r.ensures.origin r.ensures.begun)

pub returns-clause-removes : goal.returns-clause-removes
returns-clause-removes g c =
    rw (← c.self.view_is)
    (on_found _ c.in-Some.at _ _ _ c.index_mut.result.now c.remove_from-answer.new.core
    (rw (c.shard.ensures, ← c.self.view_is) at c.in-Some.ensures.found) c.index_mut.ensures.value c.remove_from-answer.ensures.removes)

pub returns-clause-missing : goal.returns-clause-missing
returns-clause-missing g c =
    rw (← c.self.view_is)
    (missing_in _ c.self.invariant.0 c.in-Some.at c.index_mut.result.now c.args.entry.now _ (rw (c.shard.ensures, ← c.self.view_is) at c.in-Some.ensures.found)
    c.index_mut.ensures.value c.remove_from-answer.ensures.missing)

pub returns-clause-out : goal.returns-clause-out
returns-clause-out g c =
    let i = c.self.inside in
    rw (← c.self.view_is)
    (out_in (record { cores = i.cores.items; opened = i.opened; next = i.next; noted = i.noted }) c.in-Some.at c.index_mut.result.now c.args.entry.now c.remove_from-answer.result
    (rw (c.shard.ensures, ← c.self.view_is) at c.in-Some.ensures.found).1.0.0 c.index_mut.ensures.value c.remove_from-answer.ensures.out)

pub invariant_of-self : goal.invariant_of-self
invariant_of-self g c =
    let i = c.self.inside in
    let s : CoreRow g.row.T.Denot g.row.W.Denot = record { cores = i.cores.items; opened = i.opened; next = i.next; noted = i.noted } in
    let b = c.index_mut.result.now in
    let a = c.remove_from-answer.new.core in
    let inside = (rw (c.shard.ensures, ← c.self.view_is) at c.in-Some.ensures.found).1.0.0 in
    let at : IsCoreAt s.cores c.in-Some.at b = (inside, sym c.index_mut.ensures.value) in
    let noted = removes_noted _ b a c.args.entry.now _ c.remove_from-answer.ensures.removes in
    (keeps_law s c.in-Some.at b a c.self.invariant.0 at c.remove_from-answer.ensures.same.0 (omega arith), turns_after s i.turns c.in-Some.at b a c.self.invariant.1 at (λ u before. removes_late _ b a u before c.args.entry.now _ c.remove_from-answer.ensures.removes))
