use Rattle.std.proofs.Common.{◌≡◌, ◌∙◌, ap, arith, rules, replicate, length}
use Rattle.std.proofs.lemmas.List.{length-replicate}
use Rattle.dq_core.specs.Cells.{unused_cell, rows_of}
use Rattle.dq_core.proofs.SlotRows.{new_is, first_none, first_next, first_more}
use Rattle.dq_core.proofs.CellRows.{rows_replicate, none_deferred, slots_of}
use Rattle.std.proofs.lemmas.Grind.{common_steps}
use Rattle.dq_core.proofs.DeferredCells.{none_in_unused, none_noted, values_at}
use Rattle.dq_core.proofs.slots.Slots.new.Goals as goal

pub invariant_of-result : goal.invariant_of-result
invariant_of-result g c =
    let n = c.args.capacity in
    let all : c.loop-index.index ≡ n = omega arith in
    let cells = c.loop-index.invariant.cells ∙ ap (λ m. replicate m unused_cell) all in
    let size : length c.loop-index.cells.items ≡ n = ap length cells ∙ length-replicate n unused_cell in
    (new_is c.args.last n (rows_of c.loop-index.cells.items) _ _ c.requires.used c.requires.bound c.requires.size (ap rows_of cells ∙ rows_replicate n) (rw all at c.loop-index.invariant.freed) c.in_ok-deferred.ensures.2 c.loop-index.invariant.room, omega (arith, size, c.in_ok-deferred.ensures.0), omega (arith, size, c.in_ok-deferred_worn.ensures.0), none_deferred c.args.last c.loop-index.cells.items _ _ c.in_ok-deferred.ensures.2 c.in_ok-deferred_worn.ensures.2, none_noted c.needs_drop.result c.loop-index.cells.items _ _ (rw cells (none_in_unused n)) c.in_ok-deferred.ensures.2 c.in_ok-deferred_worn.ensures.2)

pub loop-index-init : goal.loop-index-init
loop-index-init g c =
    record { cells = search rules; freed = first_none c.in_ok-free.free c.in_ok-free.ensures.1; cells_room = omega (arith, c.in_ok-cells.ensures.capacity); room = c.in_ok-free.ensures.0 }

pub set-requires-clause-held : goal.set-requires-clause-held
set-requires-clause-held g c = first_next c.loop-index.index c.loop-index.free c.loop-index.invariant.freed

pub loop-index-preserved : goal.loop-index-preserved
loop-index-preserved g c =
    record { cells = grind (arith, common_steps); freed = first_more c.loop-index.index c.loop-index.free c.set.new.self c.loop-index.invariant.freed c.set.ensures; cells_room = search rules; room = search rules }

pub returns-clause-rows : goal.returns-clause-rows
returns-clause-rows g c =
    let n = c.args.capacity in
    let all : c.loop-index.index ≡ n = omega arith in
    ap (λ rs. slots_of c.args.last rs) (ap rows_of (c.loop-index.invariant.cells ∙ ap (λ m. replicate m unused_cell) all) ∙ rows_replicate n)

pub returns-clause-none : goal.returns-clause-none
returns-clause-none g c =
    let n = c.args.capacity in
    let all : c.loop-index.index ≡ n = omega arith in
    let cells = c.loop-index.invariant.cells ∙ ap (λ m. replicate m unused_cell) all in
    λ i. values_at c.loop-index.cells.items i ∙ rw cells (none_in_unused n i)
