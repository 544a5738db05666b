use Rattle.std.proofs.Common.{◌<◌, ℕ, Option, length, refl, sym, subst, rules}
use Rattle.dq_core.specs.Calls.{TellsWake}
use Rattle.dq_core.specs.Core.{machine}
use Rattle.dq_core.specs.Machine.{NoneLiveBefore}
use Rattle.dq_growing.specs.Cores.{CoreRow, IsCoreAt}
use Rattle.dq_growing.proofs.Quiet.{turns_noted, quiet_wake}
use Rattle.dq_growing.proofs.Leasts.{wakes_turn}
use Rattle.dq_growing.proofs.cores.Cores.due.Goals as goal

pub returns-then-wakes_by-clause-due : goal.returns-then-wakes_by-clause-due
returns-then-wakes_by-clause-due g c =
    let i = c.self.inside in
    let s : CoreRow g.row.T.Denot g.row.W.Denot = record { cores = i.cores.items; opened = i.opened; next = i.next; noted = i.noted } in
    let b = c.index.result.now in
    let inside : c.place-place.result < length i.cores.items = search rules in
    let quiet = rw (← c.place-place.ensures, ← c.others-others.ensures) at c.self.invariant.1.0 in
    let w = c.if-wakes_by.ensures refl in
    let P : Option ℕ → Type 0 = λ r. TellsWake b r in
    rw (← c.self.view_is)
    (wakes_turn s c.place-place.result c.others-others.result b inside quiet c.index.ensures (w.0, subst P w.1 c.wake_of-wake.ensures.tells, w.2))

pub invariant_of-self : goal.invariant_of-self
invariant_of-self g c =
    let i = c.self.inside in
    let s : CoreRow g.row.T.Denot g.row.W.Denot = record { cores = i.cores.items; opened = i.opened; next = i.next; noted = i.noted } in
    let b = c.index.result.now in
    let e = c.note.ensures in
    let inside : c.place-place.result < length i.cores.items = search rules in
    let at : IsCoreAt s.cores c.place-place.result b = (inside, sym c.index.ensures) in
    let P : ℕ → Type 0 = λ w. NoneLiveBefore (machine b) w in
    let quiet = subst P (sym c.unwrap_or.ensures) (quiet_wake b c.wake_of-wake.result c.wake_of-wake.ensures.bounds) in
    (c.self.invariant.0, turns_noted s i.turns c.note.new.self c.place-place.result c.unwrap_or.result b c.self.invariant.1 at quiet e.others e.rest e.noted e.unknown)
