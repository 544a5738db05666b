use Rattle.std.proofs.Common.{refl, ap, ◌∙◌, arith}
use Rattle.dq_core.specs.Slots.{shown}
use Rattle.dq_core.proofs.CellRows.{any_taken, waiting_taken, slots_of}
use Rattle.dq_core.proofs.DeferredCells.{any_noted}
use Rattle.dq_core.proofs.DeferredCounts.{displaced_count, takes_displaced}
use Rattle.dq_core.proofs.slots.Slots.take_from_next.Goals.{then-waiting-eq0-via-then-waiting-eq0, then-waiting-eq0-via-else-waiting-eq0+then-waiting-self}
use Rattle.dq_core.proofs.slots.Slots.take_from_next.Goals as goal

pub returns-then-waiting-eq0-clause-takes : goal.returns-then-waiting-eq0-clause-takes
returns-then-waiting-eq0-clause-takes g c =
    let i = c.self.invariant in
    let exact = c.count-waiting.ensures.exact in
    rw (← c.self.view_is) (
      (λ displaced.
          let q = displaced_count i.0 i.3 i.4 i.1 i.2 c.law.ensures displaced in
          elim c.then-waiting-eq0.branch [
            | then-waiting-eq0-via-then-waiting-eq0 w ↦ absurd (omega (arith, q.0, q.1, exact, w.if-waiting-eq0.true))
            | then-waiting-eq0-via-else-waiting-eq0+then-waiting-self w ↦ absurd (omega (arith, q.0, q.1, exact, w.if-waiting-self.true))
          ]),
      refl,
    )

pub take_any-requires-clause-taken : goal.take_any-requires-clause-taken
take_any-requires-clause-taken g c = waiting_taken c.self.invariant.0 c.self.invariant.3

pub invariant_of-self : goal.invariant_of-self
invariant_of-self g c =
    let t = any_taken c.self.invariant.0 c.self.invariant.3 _ _ _ _ _ c.take_any.ensures in
    (t.0, omega (arith, c.self.invariant.1, t.3, t.4), omega (arith, c.self.invariant.2, t.3, t.5), t.1, any_noted c.self.invariant.4 _ _ _ _ _ _ c.take_any.ensures)

pub returns-clause-rows : goal.returns-clause-rows
returns-clause-rows g c =
    let t = any_taken c.self.invariant.0 c.self.invariant.3 _ _ _ _ _ c.take_any.ensures in
    ap (λ rs. slots_of c.self.inside.last rs) t.2 ∙ ap (λ s. shown s) c.self.view_is

pub returns-clause-takes : goal.returns-clause-takes
returns-clause-takes g c =
    let i = c.self.invariant in
    let exact = c.count-waiting.ensures.exact in
    let some = c.if-waiting-eq0.false in
    let all = c.if-waiting-self.false in
    rw (← c.self.view_is) (takes_displaced i.0 i.3 i.4 i.1 i.2 c.law.ensures (omega (arith, exact, some)) (omega (arith, exact, all)) _ _ _ _ _ c.take_any.ensures)
