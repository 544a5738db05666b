use Rattle.std.proofs.Common.{◌+◌, arith, refl, sym}
use Rattle.std.proofs.Math.ListN.{get_or-map}
use Rattle.dq_wheel.specs.declared.lists.Row.{Row}
use Rattle.dq_wheel.proofs.Bits.{bit_is_cleared, bit_stays_cleared}
use Rattle.dq_wheel.proofs.Occupancy.{bit_cleared, bit_stays}
use Rattle.dq_wheel.proofs.Rows.{empty_seen}
use Rattle.dq_wheel.proofs.Shown.{first_shown}
use Rattle.dq_wheel.proofs.lists.clear_if_empty.Goals as goal

pub returns-then-rows-capacity : goal.returns-then-rows-capacity
returns-then-rows-capacity c o circles but =
    let none : Row = record { filed = 0; next = 0; prev = 0; home = 0; moves = 0 } in
    let first = sym (get_or-map (λ (r : Row). r.next) c.args.rows.now (c.args.capacity + c.args.list) none) in
    bit_cleared _ _ _ _ but (empty_seen _ _ _ _ _ _ circles c.requires.list_in refl (rw first at c.if-rows-capacity.true))
    (bit_is_cleared c.args.maps.now c.args.list (omega arith)) (λ p d. bit_stays_cleared c.args.maps.now c.args.list p (omega arith) d)

pub returns-else-rows-capacity : goal.returns-else-rows-capacity
returns-else-rows-capacity c o circles but =
    let none : Row = record { filed = 0; next = 0; prev = 0; home = 0; moves = 0 } in
    let first = sym (get_or-map (λ (r : Row). r.next) c.args.rows.now (c.args.capacity + c.args.list) none) in
    bit_stays _ _ _ but (_, first_shown _ _ _ circles _ _ c.requires.list_in first c.if-rows-capacity.false) c.requires.was_filled
