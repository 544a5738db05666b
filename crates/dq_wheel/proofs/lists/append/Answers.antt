use Rattle.std.proofs.Common.{refl}
use Rattle.std.proofs.Math.ListN.{get_or-map}
use Rattle.dq_wheel.specs.declared.lists.Row.{Row}
use Rattle.dq_wheel.proofs.Rows.{set_kept_kept, set_kept_set, set_set_kept}
use Rattle.dq_wheel.proofs.lists.append.Goals as goal

pub returns-clause-next : goal.returns-clause-next
returns-clause-next c =
    let none : Row = record { filed = 0; next = 0; prev = 0; home = 0; moves = 0 } in
    let last = get_or-map (λ (r : Row). r.prev) c.args.rows.now c.args.head none in
    set_set_kept (λ (r : Row). r.next) c.args.rows.now c.args.index _ c.args.head _ _ _ _ none refl last

pub returns-clause-prev : goal.returns-clause-prev
returns-clause-prev c =
    let none : Row = record { filed = 0; next = 0; prev = 0; home = 0; moves = 0 } in
    let last = get_or-map (λ (r : Row). r.prev) c.args.rows.now c.args.head none in
    set_kept_set (λ (r : Row). r.prev) c.args.rows.now c.args.index _ c.args.head _ _ _ _ none refl last

pub returns-clause-home : goal.returns-clause-home
returns-clause-home c = set_kept_kept (λ (r : Row). r.home) _ _ _ _ _ _ _ _ refl refl

pub returns-clause-filed : goal.returns-clause-filed
returns-clause-filed c = set_kept_kept (λ (r : Row). r.filed) _ _ _ _ _ _ _ _ refl refl

pub returns-clause-moves : goal.returns-clause-moves
returns-clause-moves c = set_kept_kept (λ (r : Row). r.moves) _ _ _ _ _ _ _ _ refl refl
