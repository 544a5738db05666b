use Rattle.std.proofs.Common.{◌<◌, length, sym, arith, rules}
use Rattle.dq_growing.specs.Cores.{CoreRow, IsCoreAt}
use Rattle.dq_growing.proofs.Quiet.{turns_given, turns_noted}
use Rattle.dq_growing.proofs.cores.Cores.tries.Goals as goal

pub invariant_of-self-2 : goal.invariant_of-self-2
invariant_of-self-2 g c =
    let i = c.self.inside in
    let s : CoreRow g.row.T.Denot g.row.W.Denot = record { cores = i.cores.items; opened = i.opened; next = i.next; noted = i.noted } in
    let e = c.give.ensures in
    (c.self.invariant.0, turns_given s i.turns c.give.new.self c.args.place c.args.others c.self.invariant.1 (rw (← c.self.view_is) at c.requires.quiet) e.place e.others e.rest e.own)

pub invariant_of-self-then-wake-others : goal.invariant_of-self-then-wake-others
invariant_of-self-then-wake-others g c =
    let i = c.self.inside in
    let s : CoreRow g.row.T.Denot g.row.W.Denot = record { cores = i.cores.items; opened = i.opened; next = i.next; noted = i.noted } in
    let e = c.note-then-wake-others.ensures in
    let b = c.index.result.now in
    let inside : c.args.place < length i.cores.items = search rules in
    let at : IsCoreAt s.cores c.args.place b = (inside, sym c.index.ensures) in
    (c.self.invariant.0, turns_noted s i.turns c.note-then-wake-others.new.self c.args.place c.in-Some.wake b c.self.invariant.1 at c.in-Some.ensures.bounds.0 e.others e.rest e.noted e.unknown)

pub returns-clause-least : goal.returns-clause-least
returns-clause-least g c =
    let inside : c.args.place < length c.self.inside.cores.items = search rules in
    let e = c.in-Some.ensures in
    let quiet = rw (← c.self.view_is) at c.requires.quiet in
    let late = c.if-wake-others.false in
    rw (← c.self.view_is)
    (record { core = c.index.result.now; at = (inside, sym c.index.ensures); below = inside; wake = e.tells; own = e.bounds.0; linked = e.bounds.1; first = omega arith; others = λ j d lt ne there. quiet j d ne there })
