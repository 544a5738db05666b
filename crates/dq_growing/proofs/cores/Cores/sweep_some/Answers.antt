use Rattle.std.proofs.Common.{sym, arith, length, ◌<◌, rules}
use Rattle.dq_growing.specs.Cores.{CoreRow, IsCoreAt}
use Rattle.dq_growing.proofs.Quiet.{turns_after, sweeps_late}
use Rattle.dq_growing.proofs.Rows.{keeps_law, on_place}
use Rattle.dq_growing.proofs.Aging.{ages_at, all_age, sweep_run}
use Rattle.dq_growing.proofs.Standing.{words_in}
use Rattle.dq_growing.proofs.cores.Cores.sweep_some.Goals as goal

pub returns-clause-sweeps : goal.returns-clause-sweeps
returns-clause-sweeps g c =
    let inside : c.args.place < length c.self.inside.cores.items = search rules in
    let a = c.sweep_some_deferring-swept in
    rw (← c.self.view_is)
    (on_place _ c.args.place _ c.index_mut.result.now a.new.self inside c.index_mut.ensures.value (a.ensures.sweeps, a.ensures.next))

pub returns-clause-ages : goal.returns-clause-ages
returns-clause-ages g c =
    let inside : c.args.place < length c.self.inside.cores.items = search rules in
    let a = c.sweep_some_deferring-swept in
    rw (← c.self.view_is)
    (ages_at _ c.args.place c.index_mut.result.now a.new.self c.self.invariant.0 inside c.index_mut.ensures.value a.ensures.same.0
    (sweep_run g.W.Words.shared c.index_mut.result.now a.new.self _ _ _ a.ensures.sweeps))

pub invariant_of-self : goal.invariant_of-self
invariant_of-self g c =
    let i = c.self.inside in
    let s : CoreRow g.row.T.Denot g.row.W.Denot = record { cores = i.cores.items; opened = i.opened; next = i.next; noted = i.noted } in
    let b = c.index_mut.result.now in
    let a = c.sweep_some_deferring-swept.new.self in
    let inside : c.args.place < length i.cores.items = search rules in
    let at : IsCoreAt s.cores c.args.place b = (inside, sym c.index_mut.ensures.value) in
    let noted = c.sweep_some_deferring-swept.ensures.noted in
    (keeps_law s c.args.place b a c.self.invariant.0 at c.sweep_some_deferring-swept.ensures.same.0 (omega arith), turns_after s i.turns c.args.place b a c.self.invariant.1 at (λ u before. sweeps_late _ b a u before _ _ _ c.sweep_some_deferring-swept.ensures.sweeps))

pub returns-clause-words : goal.returns-clause-words
returns-clause-words g c =
    let r = c.sweep_some_deferring-swept in
    let inside : c.args.place < length c.self.inside.cores.items = search rules in
    rw (← c.self.view_is)
    (words_in _ c.args.place c.index_mut.result.now r.new.self c.self.invariant.0 (inside, sym c.index_mut.ensures.value) r.ensures.same.0 g.W.Words.origin g.W.Words.begun r.ensures.origin r.ensures.begun)

pub returns-then-place-len-clause-ages : goal.returns-then-place-len-clause-ages
returns-then-place-len-clause-ages g c = all_age c.args.self.now
