use Rattle.std.proofs.Common.{sym, arith}
use Rattle.dq_growing.specs.Cores.{CoreRow, IsCoreAt}
use Rattle.dq_growing.proofs.Quiet.{turns_after, reap_late}
use Rattle.dq_growing.proofs.Rows.{keeps_law, on_found}
use Rattle.dq_growing.proofs.Aging.{ages_at, all_age, reap_run}
use Rattle.dq_growing.proofs.Keeping.{reaped_none}
use Rattle.dq_growing.proofs.Standing.{found_at, words_in}
use Rattle.dq_growing.proofs.cores.Cores.reap.Goals as goal

pub returns-clause-reaps : goal.returns-clause-reaps
returns-clause-reaps g c =
    rw (← c.self.view_is)
    (on_found _ c.in-Some.at _ _ _ c.index_mut.result.now c.reap_from-answer.new.core
    (rw (c.shard.ensures, ← c.self.view_is) at c.in-Some.ensures.found) c.index_mut.ensures.value c.reap_from-answer.ensures.reaps)

pub invariant_of-self : goal.invariant_of-self
invariant_of-self g c =
    let i = c.self.inside in
    let s : CoreRow g.row.T.Denot g.row.W.Denot = record { cores = i.cores.items; opened = i.opened; next = i.next; noted = i.noted } in
    let b = c.index_mut.result.now in
    let a = c.reap_from-answer.new.core in
    let inside = (rw (c.shard.ensures, ← c.self.view_is) at c.in-Some.ensures.found).1.0.0 in
    let at : IsCoreAt s.cores c.in-Some.at b = (inside, sym c.index_mut.ensures.value) in
    let noted = c.reap_from-answer.ensures.noted in
    (keeps_law s c.in-Some.at b a c.self.invariant.0 at c.reap_from-answer.ensures.same.0 (omega arith), turns_after s i.turns c.in-Some.at b a c.self.invariant.1 at (λ u before. reap_late _ b a u before c.args.entry.now _ c.reap_from-answer.ensures.reaps))

pub returns-clause-ages : goal.returns-clause-ages
returns-clause-ages g c =
    let a = c.reap_from-answer in
    rw (← c.self.view_is)
    (ages_at _ c.in-Some.at c.index_mut.result.now a.new.core c.self.invariant.0 (rw (c.shard.ensures, ← c.self.view_is) at c.in-Some.ensures.found).1.0.0
    c.index_mut.ensures.value a.ensures.same.0 (reap_run g.W.Words.shared c.index_mut.result.now a.new.core c.args.entry.now a.result a.ensures.reaps))

pub returns-clause-words : goal.returns-clause-words
returns-clause-words g c =
    let r = c.reap_from-answer in
    let found = rw (c.shard.ensures, ← c.self.view_is) at c.in-Some.ensures.found in
    let at = found_at _ c.in-Some.at c.args.entry.now c.index_mut.result.now r.new.core c.self.invariant.0 found c.index_mut.ensures.value r.ensures.same.0 in
    rw (← c.self.view_is)
    (words_in _ c.in-Some.at c.index_mut.result.now r.new.core c.self.invariant.0 at r.ensures.same.0 g.W.Words.origin g.W.Words.begun r.ensures.origin r.ensures.begun)

pub returns-clause-gone : goal.returns-clause-gone
returns-clause-gone g c =
    let a = c.reap_from-answer in
    let inside = (rw (c.shard.ensures, ← c.self.view_is) at c.in-Some.ensures.found).1.0.0 in
    (reaped_none g.W.Words.shared _ c.in-Some.at c.index_mut.result.now a.new.core c.args.entry.now a.result c.self.invariant.0 (inside, sym c.index_mut.ensures.value) a.ensures.lawful a.ensures.reaps)

pub returns-in_default-clause-ages : goal.returns-in_default-clause-ages
returns-in_default-clause-ages g c = all_age c.args.self.now
