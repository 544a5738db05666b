use Rattle.std.proofs.Common.{sym, arith, length, ◌<◌, rules, inl}
use Rattle.dq_growing.proofs.Rows.{keeps_law, on_place}
use Rattle.dq_growing.specs.Cores.{CoreRow, IsCoreAt}
use Rattle.dq_growing.proofs.Quiet.{on_ok, turns_later, inserts_late, inserts_noted}
use Rattle.dq_growing.proofs.Moves.{inserted_begun}
use Rattle.dq_growing.proofs.Standing.{words_in}
use Rattle.dq_growing.proofs.cores.Cores.insert.Goals as goal

pub returns-clause-inserts : goal.returns-clause-inserts
returns-clause-inserts g c =
    let a = c.insert_deferring-answer in
    let inside : c.self.inside.opened < length c.self.inside.cores.items = search rules in
    rw (← c.self.view_is)
    (inl (on_place _ _ _ c.index_mut.result.now a.new.self inside c.index_mut.ensures.value (a.ensures.inserts, a.ensures.beside, a.ensures.alone)))

pub invariant_of-self : goal.invariant_of-self
invariant_of-self g c =
    let i = c.self.inside in
    let s : CoreRow g.row.T.Denot g.row.W.Denot = record { cores = i.cores.items; opened = i.opened; next = i.next; noted = i.noted } in
    let b = c.index_mut.result.now in
    let a = c.insert_deferring-answer.new.self in
    let inside : i.opened < length i.cores.items = search rules in
    let at : IsCoreAt s.cores i.opened b = (inside, sym c.index_mut.ensures.value) in
    let noted = inserts_noted g.W.Words.shared b a c.args.value c.args.when _ c.insert_deferring-answer.ensures.inserts in (
      keeps_law s i.opened b a c.self.invariant.0 at c.insert_deferring-answer.ensures.same.0 (omega arith),
      turns_later s i.turns c.lower.new.self c.args.when i.opened b a c.self.invariant.1 at (λ t late before. inserts_late g.W.Words.shared b a t before c.args.value c.args.when _ (on_ok _ _ late) c.insert_deferring-answer.ensures.inserts) c.lower.ensures.place c.lower.ensures.others c.lower.ensures.rest c.lower.ensures.low,
    )

pub returns-clause-words : goal.returns-clause-words
returns-clause-words g c =
    let r = c.insert_deferring-answer in
    let inside : c.self.inside.opened < length c.self.inside.cores.items = search rules in
    rw (← c.self.view_is)
    (words_in _ _ c.index_mut.result.now r.new.self c.self.invariant.0 (inside, sym c.index_mut.ensures.value) r.ensures.same.0 g.W.Words.origin g.W.Words.begun r.ensures.origin r.ensures.begun)

pub returns-clause-begins : goal.returns-clause-begins
returns-clause-begins g c =
    let a = c.insert_deferring-answer in
    let inside : c.self.inside.opened < length c.self.inside.cores.items = search rules in
    rw (← c.self.view_is)
    (inserted_begun _ c.index_mut.result.now a.new.self c.args.value c.args.when a.result c.self.invariant.0 (inside, sym c.index_mut.ensures.value) a.ensures.same.0
    (a.ensures.inserts, a.ensures.beside, a.ensures.alone) g.W.Words.begun a.ensures.begins)
