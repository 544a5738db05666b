use Rattle.std.proofs.Common.{◌<◌, length, sym, [], Ok, arith, rules}
use Rattle.dq_growing.specs.Cores.{CoreRow, IsCoreAt}
use Rattle.dq_growing.proofs.Quiet.{turns_later, inserts_late, inserts_noted}
use Rattle.dq_growing.proofs.Rows.{keeps_law, on_place}
use Rattle.dq_growing.proofs.Standing.{words_in}
use Rattle.dq_growing.proofs.Moves.{open_comes, open_ahead, open_begun, open_ages, open_past}
use Rattle.dq_growing.proofs.Aging.{run_ages, put_run}
use Rattle.dq_growing.proofs.cores.Cores.put_in_open.Goals as goal

pub returns-clause-comes : goal.returns-clause-comes
returns-clause-comes g c =
    let p = c.put_in-put in
    let inside : c.self.inside.opened < length c.self.inside.cores.items = search rules in
    rw (← c.self.view_is)
    (open_comes _ c.index_mut.result.now p.new.core c.args.value c.args.deadline p.result.0 p.result.1 c.self.invariant.0 (inside, sym c.index_mut.ensures.value)
    p.ensures.same.0 p.ensures.puts p.ensures.comes)

pub returns-clause-ahead : goal.returns-clause-ahead
returns-clause-ahead g c =
    let p = c.put_in-put in
    let inside : c.self.inside.opened < length c.self.inside.cores.items = search rules in
    rw (← c.self.view_is)
    (open_ahead _ c.index_mut.result.now p.new.core c.args.value c.args.deadline p.result.0 p.result.1 c.self.invariant.0 (inside, sym c.index_mut.ensures.value)
    p.ensures.same.0 p.ensures.puts p.ensures.ahead)

pub returns-clause-puts : goal.returns-clause-puts
returns-clause-puts g c =
    let p = c.put_in-put in
    let inside : c.self.inside.opened < length c.self.inside.cores.items = search rules in
    rw (← c.self.view_is) (on_place _ _ _ c.index_mut.result.now p.new.core inside c.index_mut.ensures.value p.ensures.puts)

pub returns-clause-begins : goal.returns-clause-begins
returns-clause-begins g c =
    let p = c.put_in-put in
    let inside : c.self.inside.opened < length c.self.inside.cores.items = search rules in
    rw (← c.self.view_is)
    (open_begun _ c.index_mut.result.now p.new.core c.args.value c.args.deadline p.result.0 p.result.1 c.self.invariant.0 (inside, sym c.index_mut.ensures.value)
    p.ensures.same.0 p.ensures.puts g.W.Words.begun p.ensures.begins)

pub returns-clause-words : goal.returns-clause-words
returns-clause-words g c =
    let p = c.put_in-put in
    let inside : c.self.inside.opened < length c.self.inside.cores.items = search rules in
    rw (← c.self.view_is)
    (words_in _ _ c.index_mut.result.now p.new.core c.self.invariant.0 (inside, sym c.index_mut.ensures.value) p.ensures.same.0 g.W.Words.origin g.W.Words.begun p.ensures.origin p.ensures.begun)

pub returns-clause-ages : goal.returns-clause-ages
returns-clause-ages g c =
    let p = c.put_in-put in
    let inside : c.self.inside.opened < length c.self.inside.cores.items = search rules in
    let run = put_run c.index_mut.result.now p.new.core c.args.value c.args.deadline p.result.0 p.result.1 p.ensures.puts in
    rw (← c.self.view_is)
    (open_ages _ c.index_mut.result.now p.new.core c.args.value c.args.deadline p.result.0 p.result.1 c.self.invariant.0 (inside, sym c.index_mut.ensures.value)
    p.ensures.same.0 p.ensures.puts (run_ages c.index_mut.result.now p.new.core [] p.ensures.same.0 run))

pub returns-clause-past : goal.returns-clause-past
returns-clause-past g c =
    let p = c.put_in-put in
    let i = c.self.inside in
    let inside : i.opened < length i.cores.items = search rules in
    open_past (record { cores = i.cores.items; opened = i.opened; next = i.next; noted = i.noted }) c.index_mut.result.now p.new.core c.args.value c.args.deadline p.result.0 p.result.1 c.self.invariant.0
    (inside, sym c.index_mut.ensures.value) p.ensures.same.0 p.ensures.puts p.ensures.past

pub invariant_of-self : goal.invariant_of-self
invariant_of-self g c =
    let i = c.self.inside in
    let s : CoreRow g.row.T.Denot g.row.W.Denot = record { cores = i.cores.items; opened = i.opened; next = i.next; noted = i.noted } in
    let b = c.index_mut.result.now in
    let p = c.put_in-put in
    let a = p.new.core in
    let v = c.args.value in
    let d = c.args.deadline in
    let inside : i.opened < length i.cores.items = search rules in
    let at : IsCoreAt s.cores i.opened b = (inside, sym c.index_mut.ensures.value) in
    let noted = inserts_noted g.W.Words.shared b a v d (Ok p.result.0) p.ensures.puts.0 in (
      keeps_law s i.opened b a c.self.invariant.0 at p.ensures.same.0 (omega arith),
      turns_later s i.turns c.lower.new.self d i.opened b a c.self.invariant.1 at (λ t late before. inserts_late g.W.Words.shared b a t before v d (Ok p.result.0) late p.ensures.puts.0) c.lower.ensures.place c.lower.ensures.others c.lower.ensures.rest c.lower.ensures.low,
    )
