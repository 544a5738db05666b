use Rattle.std.proofs.Common.{◌∙◌, ap, refl, set, sym}
use Rattle.std.proofs.Math.ListN.{get_or-map}
use Rattle.dq_wheel.specs.declared.lists.Row.{Row}
use Rattle.dq_wheel.specs.Rows.{nexts}
use Rattle.dq_wheel.proofs.Rows.{kept_kept_set, kept_set_kept, set_kept_kept}
use Rattle.dq_wheel.proofs.lists.detach_first.Goals as goal

pub returns-clause-next : goal.returns-clause-next
returns-clause-next c =
    let none : Row = record { filed = 0; next = 0; prev = 0; home = 0; moves = 0 } in
    let after = get_or-map (λ (r : Row). r.next) c.args.rows.now c.args.first none in
    set_kept_kept (λ (r : Row). r.next) _ _ _ _ _ _ _ none refl refl
    ∙ ap (λ v. set (nexts c.args.rows.now) c.args.head v) (sym after)

pub returns-clause-prev : goal.returns-clause-prev
returns-clause-prev c =
    let none : Row = record { filed = 0; next = 0; prev = 0; home = 0; moves = 0 } in
    let after = get_or-map (λ (r : Row). r.next) c.args.rows.now c.args.first none in
    kept_set_kept (λ (r : Row). r.prev) _ _ _ _ _ _ _ _ none refl refl after

pub returns-clause-home : goal.returns-clause-home
returns-clause-home c =
    let none : Row = record { filed = 0; next = 0; prev = 0; home = 0; moves = 0 } in
    kept_kept_set (λ (r : Row). r.home) _ _ _ _ _ _ _ none refl refl

pub returns-clause-filed : goal.returns-clause-filed
returns-clause-filed c =
    let none : Row = record { filed = 0; next = 0; prev = 0; home = 0; moves = 0 } in
    kept_kept_set (λ (r : Row). r.filed) _ _ _ _ _ _ _ none refl refl

pub returns-clause-moves : goal.returns-clause-moves
returns-clause-moves c =
    let none : Row = record { filed = 0; next = 0; prev = 0; home = 0; moves = 0 } in
    kept_kept_set (λ (r : Row). r.moves) _ _ _ _ _ _ _ none refl refl
