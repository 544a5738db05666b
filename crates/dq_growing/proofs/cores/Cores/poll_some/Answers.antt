use Rattle.dq_growing.proofs.Leasts.{idle_quiet, rests_quiet}
use Rattle.dq_growing.specs.declared.TheConstants.{NEVER}
use Rattle.dq_growing.proofs.Aging.{all_age}
use Rattle.dq_growing.proofs.Standing.{all_words}
use Rattle.dq_growing.proofs.cores.Cores.poll_some.Goals as goal

pub returns-in-Rests-Some-clause-rests : goal.returns-in-Rests-Some-clause-rests
returns-in-Rests-Some-clause-rests g c =
    let i = c.self.inside in
    rw c.due.ensures.same
    (rests_quiet (record { cores = i.cores.items; opened = i.opened; next = i.next; noted = c.max-self-inside.result }) c.in-Rests-Some.next
    (rw c.in-Rests-Some.field-0-is at c.in-Rests-Some.ensures.due))

pub returns-in-Rests-None-clause-rests : goal.returns-in-Rests-None-clause-rests
returns-in-Rests-None-clause-rests g c =
    let i = c.self.inside in
    rw c.due.ensures.same
    (idle_quiet (record { cores = i.cores.items; opened = i.opened; next = i.next; noted = c.max-self-inside.result }) NEVER
    (rw c.in-Rests-None.field-0-is at c.in-Rests-None.ensures.due))

pub returns-in-In-clause-ages : goal.returns-in-In-clause-ages
returns-in-In-clause-ages g c = rw (← c.self.view_is) (rw c.due.ensures.same at c.poll_piece.ensures.ages)

pub returns-in-Rests-Some-clause-ages : goal.returns-in-Rests-Some-clause-ages
returns-in-Rests-Some-clause-ages g c =
    let i = c.self.inside in
    rw (c.due.ensures.same, ← c.self.view_is) (all_age (record { cores = i.cores.items; opened = i.opened; next = i.next; noted = i.noted }))

pub poll_piece-requires-clause-turn : goal.poll_piece-requires-clause-turn
poll_piece-requires-clause-turn g c = rw c.due.ensures.same c.in-In.ensures.due.2

pub returns-in-In-clause-words : goal.returns-in-In-clause-words
returns-in-In-clause-words g c = rw (← c.self.view_is) (rw c.due.ensures.same at c.poll_piece.ensures.words)

pub returns-in-Rests-Some-clause-words : goal.returns-in-Rests-Some-clause-words
returns-in-Rests-Some-clause-words g c =
    let i = c.self.inside in
    rw (c.due.ensures.same, ← c.self.view_is) (all_words g.W.Words.origin g.W.Words.begun (record { cores = i.cores.items; opened = i.opened; next = i.next; noted = i.noted }))

pub returns-in-Rests-None-clause-words : goal.returns-in-Rests-None-clause-words
returns-in-Rests-None-clause-words g c =
    let i = c.self.inside in
    rw (c.due.ensures.same, ← c.self.view_is) (all_words g.W.Words.origin g.W.Words.begun (record { cores = i.cores.items; opened = i.opened; next = i.next; noted = i.noted }))

pub returns-then-tick-gt-LAST_TICK-clause-ages : goal.returns-then-tick-gt-LAST_TICK-clause-ages
returns-then-tick-gt-LAST_TICK-clause-ages g c = all_age c.args.self.now
