use Rattle.std.proofs.Common.{◌+◌, refl, sym}
use Rattle.std.proofs.Math.ListN.{get_or-map}
use Rattle.dq_wheel.specs.declared.lists.Row.{Row}
use Rattle.dq_wheel.proofs.Rows.{empty_seen}
use Rattle.dq_wheel.proofs.Shown.{first_shown}
use Rattle.dq_wheel.proofs.lists.first_of.Goals as goal

pub returns-then-first-capacity : goal.returns-then-first-capacity
returns-then-first-capacity c o circles =
    let none : Row = record { filed = 0; next = 0; prev = 0; home = 0; moves = 0 } in
    let first = sym (get_or-map (λ (r : Row). r.next) c.args.rows.now (c.args.capacity + c.args.list) none) in
    (first_shown _ _ _ circles _ _ c.requires.list_in first c.if-first-capacity.true, first)

pub returns-else-first-capacity : goal.returns-else-first-capacity
returns-else-first-capacity c o circles =
    let none : Row = record { filed = 0; next = 0; prev = 0; home = 0; moves = 0 } in
    let first = sym (get_or-map (λ (r : Row). r.next) c.args.rows.now (c.args.capacity + c.args.list) none) in
    empty_seen _ _ _ _ _ _ circles c.requires.list_in refl (rw first at c.if-first-capacity.false)
