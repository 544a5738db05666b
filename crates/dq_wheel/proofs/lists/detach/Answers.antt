use Rattle.std.proofs.Common.{◌∙◌, ap, get_or, refl, set, sym}
use Rattle.dq_wheel.specs.declared.lists.Row.{Row}
use Rattle.dq_wheel.specs.Rows.{nexts, prevs}
use Rattle.dq_wheel.proofs.Rows.{kept_kept_set, kept_set_kept, set_kept_kept}
use Rattle.dq_wheel.proofs.lists.detach.Goals as goal

pub returns-clause-next : goal.returns-clause-next
returns-clause-next c =
    let none : Row = record { filed = 0; next = 0; prev = 0; home = 0; moves = 0 } in
    let row = c.row_at-row.ensures in
    set_kept_kept (λ (r : Row). r.next) _ _ _ _ _ _ _ none refl refl
    ∙ (ap (λ i. set (nexts c.args.rows.now) i c.row_at-row.result.next) row.prev
    ∙ ap (λ v. set (nexts c.args.rows.now) (get_or (prevs c.args.rows.now) c.args.index 0) v) row.next)

pub returns-clause-prev : goal.returns-clause-prev
returns-clause-prev c =
    let none : Row = record { filed = 0; next = 0; prev = 0; home = 0; moves = 0 } in
    let row = c.row_at-row.ensures in
    kept_set_kept (λ (r : Row). r.prev) _ _ _ _ _ _ _ _ none refl refl (sym row.next)
    ∙ ap (λ v. set (prevs c.args.rows.now) (get_or (nexts c.args.rows.now) c.args.index 0) v) row.prev

pub returns-clause-home : goal.returns-clause-home
returns-clause-home c =
    let none : Row = record { filed = 0; next = 0; prev = 0; home = 0; moves = 0 } in
    kept_kept_set (λ (r : Row). r.home) _ _ _ _ _ _ _ none refl refl

pub returns-clause-filed : goal.returns-clause-filed
returns-clause-filed c =
    let none : Row = record { filed = 0; next = 0; prev = 0; home = 0; moves = 0 } in
    kept_kept_set (λ (r : Row). r.filed) _ _ _ _ _ _ _ none refl refl

pub returns-clause-moves : goal.returns-clause-moves
returns-clause-moves c =
    let none : Row = record { filed = 0; next = 0; prev = 0; home = 0; moves = 0 } in
    kept_kept_set (λ (r : Row). r.moves) _ _ _ _ _ _ _ none refl refl
