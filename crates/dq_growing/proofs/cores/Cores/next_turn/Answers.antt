use Rattle.dq_growing.specs.Cores.{CoreRow}
use Rattle.dq_growing.proofs.Quiet.{turns_given}
use Rattle.dq_growing.proofs.cores.Cores.next_turn.Goals as goal

pub invariant_of-self : goal.invariant_of-self
invariant_of-self g c =
    let i = c.self.inside in
    let s : CoreRow g.row.T.Denot g.row.W.Denot = record { cores = i.cores.items; opened = i.opened; next = i.next; noted = i.noted } in
    let e = c.give.ensures in
    let l = c.in-Some-least.least in
    let is = rw (← c.self.view_is) at c.in-Some-least.ensures in
    (c.self.invariant.0, turns_given s i.turns c.give.new.self l.place l.others c.self.invariant.1 (λ j d ne x. is.others j d x.0 ne x) e.place e.others e.rest e.own)
