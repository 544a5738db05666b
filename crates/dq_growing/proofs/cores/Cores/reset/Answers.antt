use Rattle.std.proofs.Common.{sym, arith}
use Rattle.dq_growing.proofs.Rows.{keeps_law, on_found}
use Rattle.dq_growing.specs.Cores.{CoreRow, IsCoreAt}
use Rattle.dq_growing.proofs.Quiet.{on_ok, turns_later, resets_late, resets_noted}
use Rattle.dq_growing.proofs.Standing.{found_at, words_in}
use Rattle.dq_growing.proofs.cores.Cores.reset.Goals as goal

pub returns-clause-resets : goal.returns-clause-resets
returns-clause-resets g c =
    rw (← c.self.view_is)
    (on_found _ c.in-Some.at _ _ _ c.index_mut.result.now c.reset-answer.new.self
    (rw (c.shard.ensures, ← c.self.view_is) at c.in-Some.ensures.found) c.index_mut.ensures.value c.reset-answer.ensures.resets)

pub invariant_of-self : goal.invariant_of-self
invariant_of-self g c =
    let i = c.self.inside in
    let s : CoreRow g.row.T.Denot g.row.W.Denot = record { cores = i.cores.items; opened = i.opened; next = i.next; noted = i.noted } in
    let b = c.index_mut.result.now in
    let a = c.reset-answer.new.self in
    let inside = (rw (c.shard.ensures, ← c.self.view_is) at c.in-Some.ensures.found).1.0.0 in
    let at : IsCoreAt s.cores c.in-Some.at b = (inside, sym c.index_mut.ensures.value) in
    let noted = resets_noted g.W.Words.shared b a c.args.entry.now c.args.when _ c.reset-answer.ensures.resets in (
      keeps_law s c.in-Some.at b a c.self.invariant.0 at c.reset-answer.ensures.same.0 (omega arith),
      turns_later s i.turns c.lower.new.self c.args.when c.in-Some.at b a c.self.invariant.1 at (λ t late before. resets_late g.W.Words.shared b a t before c.args.entry.now c.args.when _ (on_ok _ _ late) c.reset-answer.ensures.resets) c.lower.ensures.place c.lower.ensures.others c.lower.ensures.rest c.lower.ensures.low,
    )

pub returns-clause-words : goal.returns-clause-words
returns-clause-words g c =
    let r = c.reset-answer in
    let found = rw (c.shard.ensures, ← c.self.view_is) at c.in-Some.ensures.found in
    let at = found_at _ c.in-Some.at c.args.entry.now c.index_mut.result.now r.new.self c.self.invariant.0 found c.index_mut.ensures.value r.ensures.same.0 in
    rw (← c.self.view_is)
    (words_in _ c.in-Some.at c.index_mut.result.now r.new.self c.self.invariant.0 at r.ensures.same.0 g.W.Words.origin g.W.Words.begun r.ensures.origin r.ensures.begun)
