use Rattle.std.proofs.Common.{sym, arith}
use Rattle.dq_growing.specs.Cores.{CoreRow, IsCoreAt}
use Rattle.dq_growing.proofs.Quiet.{turns_after, tells_noted, tells_late}
use Rattle.dq_growing.proofs.Rows.{keeps_law, on_found, missing_in}
use Rattle.dq_growing.proofs.Standing.{found_at, words_in}
use Rattle.dq_growing.proofs.cores.Cores.deadline.Goals as goal

pub returns-clause-tells : goal.returns-clause-tells
returns-clause-tells g c =
    rw (← c.self.view_is)
    (on_found _ c.in-Some.at _ _ _ c.index_mut.result.now c.deadline-answer.new.self
    (rw (c.shard.ensures, ← c.self.view_is) at c.in-Some.ensures.found) c.index_mut.ensures.value c.deadline-answer.ensures.tells)

pub returns-clause-missing : goal.returns-clause-missing
returns-clause-missing g c =
    rw (← c.self.view_is)
    (missing_in _ c.self.invariant.0 c.in-Some.at c.index_mut.result.now c.args.entry.now _ (rw (c.shard.ensures, ← c.self.view_is) at c.in-Some.ensures.found)
    c.index_mut.ensures.value c.deadline-answer.ensures.missing)

pub invariant_of-self : goal.invariant_of-self
invariant_of-self g c =
    let i = c.self.inside in
    let s : CoreRow g.row.T.Denot g.row.W.Denot = record { cores = i.cores.items; opened = i.opened; next = i.next; noted = i.noted } in
    let b = c.index_mut.result.now in
    let a = c.deadline-answer.new.self in
    let inside = (rw (c.shard.ensures, ← c.self.view_is) at c.in-Some.ensures.found).1.0.0 in
    let at : IsCoreAt s.cores c.in-Some.at b = (inside, sym c.index_mut.ensures.value) in
    let noted = tells_noted _ b a c.args.entry.now _ c.deadline-answer.ensures.tells in
    (keeps_law s c.in-Some.at b a c.self.invariant.0 at c.deadline-answer.ensures.same.0 (omega arith), turns_after s i.turns c.in-Some.at b a c.self.invariant.1 at (λ u before. tells_late _ b a u before c.args.entry.now _ c.deadline-answer.ensures.tells))

pub returns-clause-words : goal.returns-clause-words
returns-clause-words g c =
    let r = c.deadline-answer in
    let found = rw (c.shard.ensures, ← c.self.view_is) at c.in-Some.ensures.found in
    let at = found_at _ c.in-Some.at c.args.entry.now c.index_mut.result.now r.new.self c.self.invariant.0 found c.index_mut.ensures.value r.ensures.same.0 in
    rw (← c.self.view_is)
    (words_in _ c.in-Some.at c.index_mut.result.now r.new.self c.self.invariant.0 at r.ensures.same.0 g.W.Words.origin g.W.Words.begun r.ensures.origin r.ensures.begun)
