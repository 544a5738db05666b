use Rattle.std.proofs.Common.{◌≡◌, ℕ, zero, suc, ◌<◌, true, false, Option, Some, None, refl, sym, ap, ◌∙◌, arith}
use Rattle.dq_core.specs.declared.slots.Held.{Held}
use Rattle.dq_core.specs.Slots.{Row, is_held}
use Rattle.dq_core.specs.Cells.{CellRow, cell_of, held_of, IsCell, ChangesCell, revalued_cell}

-- a cell with a birth stamp shows its value under it
pub born_of_cell : {T : Type 0} (born : ℕ) (o : Option T) (r : Row T) → IsCell born o → 0 < born → held_of born o ≡ r.held → (h : Held T) × (r.held ≡ Some h) × (h.born ≡ born)
born_of_cell zero o r is some shown = absurd (omega arith)
born_of_cell (suc n) None r is some shown = let no = is some in cc
born_of_cell (suc n) (Some v) r is some shown = (record { born = suc n; value = v }, sym shown, refl)

-- of a held value a call made another
pub changed_cell : {T R : Type 0} (Makes : T → R → T → Type 0) (stamp born : ℕ) (value : Option T) (now : CellRow T) (v w : T) (a : R) → cell_of stamp born value ≡ now → is_held now.row ≡ true → value ≡ Some v → Makes v a w → ChangesCell Makes now a (cell_of stamp born (Some w))
changed_cell Makes stamp zero value now v w a is held at makes =
    let none : is_held now.row ≡ false = sym (ap (λ c. is_held c.row) is) in
    cc
changed_cell Makes stamp (suc b) value now v w a is held at makes =
    let here : now ≡ cell_of stamp (suc b) (Some v) = sym is ∙ ap (cell_of stamp (suc b)) at in
    (record { born = suc b; value = v }, w, ap (λ c. c.row.held) here, makes, sym (ap (λ c. revalued_cell c w) here))
