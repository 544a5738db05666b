use Rattle.std.proofs.Common.{◌∙◌, subst, sym, arith}
use Rattle.std.proofs.lemmas.List.{get_or-set_same}
use Rattle.dq_core.specs.Core.{Core, IsLawfulCore}
use Rattle.dq_wheel.specs.Lawful.{IsLawfulWheel}
use Rattle.dq_growing.specs.Cores.{CoreRow, IsCoreAt}
use Rattle.dq_growing.proofs.Rows.{keeps_law}
use Rattle.dq_growing.proofs.Quiet.{turns_after, pieces_late}
use Rattle.dq_growing.proofs.Aging.{ages_at, piece_run}
use Rattle.dq_growing.proofs.Leasts.{polls_core, piece_waits, rests_core}
use Rattle.dq_growing.proofs.Standing.{words_in}
use Rattle.dq_growing.proofs.cores.Cores.poll_piece.Goals as goal

pub returns-clause-polls : goal.returns-clause-polls
returns-clause-polls g c =
    let a = c.poll_some_deferring-answer in
    rw (c.as_told.ensures, ← c.self.view_is)
    (polls_core _ _ c.min.result c.args.place c.args.others c.index_mut.result.now a.new.self c.in-Ok.piece
    (rw (← c.self.view_is) at c.requires.place) (rw (← c.self.view_is) at c.requires.quiet) (rw (← c.self.view_is) at c.requires.turn) c.index_mut.ensures.value c.in-Ok.ensures.polls c.min.ensures)

pub returns-clause-rests : goal.returns-clause-rests
returns-clause-rests g c =
    let a = c.poll_some_deferring-answer in
    let i = c.self.inside in
    let inside = rw (← c.self.view_is) at c.requires.place in
    let same = c.index.ensures ∙ get_or-set_same i.cores.items c.args.place a.new.self c.index.result.now inside in
    let L : Core g.row.T.Denot g.row.W.Denot → Type 0 = λ k. IsLawfulCore k in
    let V : Core g.row.T.Denot g.row.W.Denot → Type 0 = λ k. IsLawfulWheel k.wheel in
    rw c.as_told.ensures
    (rests_core (record { cores = i.cores.items; opened = i.opened; next = i.next; noted = i.noted }) c.args.place c.args.others a.new.self c.in-Ok.piece
    inside (rw (← c.self.view_is) at c.requires.quiet) (omega (arith, c.ranges.others))
    (piece_waits g.W.Words.shared c.min.result c.args.most c.index_mut.result.now a.new.self c.in-Ok.piece c.wakes_bound_deadlines.ensures (subst L same c.law.ensures.shard) (subst V same c.law.ensures.wheel) c.in-Ok.ensures.polls))

pub invariant_of-self : goal.invariant_of-self
invariant_of-self g c =
    let i = c.self.inside in
    let s : CoreRow g.row.T.Denot g.row.W.Denot = record { cores = i.cores.items; opened = i.opened; next = i.next; noted = i.noted } in
    let b = c.index_mut.result.now in
    let a = c.poll_some_deferring-answer.new.self in
    let inside = rw (← c.self.view_is) at c.requires.place in
    let at : IsCoreAt s.cores c.args.place b = (inside, sym c.index_mut.ensures.value) in
    let noted = c.in-Ok.ensures.noted in
    let until = c.min.ensures in
    (keeps_law s c.args.place b a c.self.invariant.0 at c.poll_some_deferring-answer.ensures.same.0 (omega arith), turns_after s i.turns c.args.place b a c.self.invariant.1 at (λ u before. pieces_late _ b a u before _ _ _ c.in-Ok.ensures.polls))

pub returns-clause-ages : goal.returns-clause-ages
returns-clause-ages g c =
    let a = c.poll_some_deferring-answer in
    rw (← c.self.view_is)
    (ages_at _ c.args.place c.index_mut.result.now a.new.self c.self.invariant.0 (rw (← c.self.view_is) at c.requires.place) c.index_mut.ensures.value a.ensures.same.0
    (piece_run g.W.Words.shared c.index_mut.result.now a.new.self c.min.result c.args.most a.result a.ensures.polls))

pub returns-clause-words : goal.returns-clause-words
returns-clause-words g c =
    let r = c.poll_some_deferring-answer in
    let inside = rw (← c.self.view_is) at c.requires.place in
    rw (← c.self.view_is)
    (words_in _ c.args.place c.index_mut.result.now r.new.self c.self.invariant.0 (inside, sym c.index_mut.ensures.value) r.ensures.same.0 g.W.Words.origin g.W.Words.begun r.ensures.origin r.ensures.begun)
