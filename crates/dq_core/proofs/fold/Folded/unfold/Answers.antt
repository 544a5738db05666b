use Rattle.std.proofs.Common.{◌≡◌, ℕ, List, None, map, replicate, length, ap, sym, subst, ◌∙◌}
use Rattle.dq_ticks.specs.declared.words.Parts.{Parts}
use Rattle.dq_wheel.specs.State.{Filing}
use Rattle.dq_core.specs.Folds.{AreVacant}
use Rattle.dq_core.proofs.Folds.{law_unfolded, held_empty, none_there_as, machine_held, machine_with, table_row}
use Rattle.dq_core.proofs.fold.Folded.unfold.Goals as goal

pub invariant_of-result : goal.invariant_of-result
invariant_of-result g c =
    let e = c.in-Ok.ensures in
    let et : c.in-Ok.wheel.filing.tick ≡ c.self.inside.tick = ap (λ (f : Filing). f.tick) e.wheel in
    let ef : c.in-Ok.wheel.filing.filed ≡ replicate (length (g.W.Words.known c.self.inside.words)) None = ap (λ (f : Filing). f.filed) e.wheel in
    rw (e.known, e.counts) (law_unfolded c.self.invariant.0 et ef e.rows.0 e.rows.1, c.self.invariant.1)

pub returns-clause-empty : goal.returns-clause-empty
returns-clause-empty g c =
    let e = c.in-Ok.ensures in
    let h = subst (λ (ks : List Parts). AreVacant c.in-Ok.slots.rows ks) (sym e.known) e.rows.1 in
    held_empty c.in-Ok.slots.rows (g.W.Words.known c.wheel_and_slots_over.new.words) h

pub returns-clause-stale : goal.returns-clause-stale
returns-clause-stale g c =
    let e = c.in-Ok.ensures in
    let h = subst (λ (ks : List Parts). AreVacant c.in-Ok.slots.rows ks) (sym e.known) e.rows.1 in (
      λ id same entry at. none_there_as _ entry _ (held_empty c.in-Ok.slots.rows (g.W.Words.known c.wheel_and_slots_over.new.words) h id.index) at,
      rw (← c.self.view_is) c.self.invariant.0.over,
    )

pub returns-clause-machine : goal.returns-clause-machine
returns-clause-machine g c =
    let s = c.self.inside in
    let e = c.in-Ok.ensures in
    let h = subst (λ (ks : List Parts). AreVacant c.in-Ok.slots.rows ks) (sym e.known) e.rows.1 in
    let et : c.in-Ok.wheel.filing.tick ≡ s.tick = ap (λ (f : Filing). f.tick) e.wheel in
    let new = g.W.Words.known c.wheel_and_slots_over.new.words in
    rw (← c.self.view_is)
    (machine_held c.in-Ok.wheel.filing.tick s.noted c.in-Ok.slots.rows new h
    ∙ ap (λ (t : ℕ). machine_with t s.noted (map (λ (p : Parts). table_row {T = g.row.T.Denot} p) new)) et
    ∙ ap (λ (ks : List Parts). machine_with s.tick s.noted (map (λ (p : Parts). table_row {T = g.row.T.Denot} p) ks)) e.known)

pub returns-clause-slots : goal.returns-clause-slots
returns-clause-slots g c = rw (← c.self.view_is) c.in-Ok.ensures.rows.1

pub returns-clause-begun : goal.returns-clause-begun
returns-clause-begun g c = rw (← c.self.view_is) c.in-Ok.ensures.begun
