use Rattle.std.proofs.Common.{arith, ap, ◌∙◌}
use Rattle.dq_core.specs.Slots.{shown}
use Rattle.dq_core.proofs.CellRows.{any_taken, waiting_taken, slots_of}
use Rattle.dq_core.proofs.DeferredCells.{any_noted}
use Rattle.dq_core.proofs.DeferredCounts.{takes_one}
use Rattle.dq_core.proofs.slots.Slots.take_deferred.Goals as goal

pub take_any-requires-clause-taken : goal.take_any-requires-clause-taken
take_any-requires-clause-taken g c = waiting_taken c.self.invariant.0 c.self.invariant.3

pub invariant_of-self : goal.invariant_of-self
invariant_of-self g c =
    let t = any_taken c.self.invariant.0 c.self.invariant.3 _ _ _ _ _ c.take_any.ensures in
    (t.0, omega (arith, c.self.invariant.1, t.3, t.4), omega (arith, c.self.invariant.2, t.3, t.5), t.1, any_noted c.self.invariant.4 _ _ _ _ _ _ c.take_any.ensures)

pub returns-clause-rows : goal.returns-clause-rows
returns-clause-rows g c =
    let t = any_taken c.self.invariant.0 c.self.invariant.3 _ _ _ _ _ c.take_any.ensures in
    ap (λ rs. slots_of c.self.inside.last rs) t.2 ∙ ap (λ s. shown s) c.self.view_is

pub returns-clause-takes : goal.returns-clause-takes
returns-clause-takes g c =
    let i = c.self.invariant in
    rw (← c.self.view_is) (takes_one i.0 i.3 i.4 i.1 i.2 c.law.ensures c.law-2.ensures _ _ _ _ _ c.take_any.ensures)
