-- What is deferred in cells, and which of it waits.
use Rattle.std.proofs.Common.{◌≡◌, ◌≢◌, ◌⊎◌, ℕ, zero, suc, ◌<◌, Bool, true, false, List, [], ◌∷◌, ◌++◌, replicate, length, get_or, set, Option, Some, None, is_some, refl, sym, ap, ◌∙◌, subst, inl, inr, ⊎_elim, arith}
use Rattle.std.proofs.lemmas.List.{length-map, set-get_or, get_or-set_same, get_or-set_other}
use Rattle.std.proofs.lemmas.Bool.{cases_eq}
use Rattle.dq_core.specs.Slots.{DeferredValues}
use Rattle.dq_core.specs.FreeSlots.{FreeIndexes}
use Rattle.dq_core.specs.Deferred.{Deferred, deferred_at, DefersIf, Undefers}
use Rattle.dq_core.specs.Cells.{CellRow, TakesAny, unused_cell, values_of, cell_at, AreNoted, emptied_cell}
use Rattle.dq_core.proofs.CellRows.{if_others, deferred_inside}

-- what is deferred, by cells
abbrev pub deferred_in : {T : Type 0} → Bool → List (CellRow T) → DeferredValues T
deferred_in drops cells = record { drops = drops; values = values_of cells }

abbrev pub deferred_of_values : {T : Type 0} → Bool → List (Option T) → DeferredValues T
deferred_of_values drops values = record { drops = drops; values = values }

pub values_length : {T : Type 0} (cells : List (CellRow T)) → length (values_of cells) ≡ length cells
values_length {T} cells = length-map cells (λ (c : CellRow T). c.deferred)

pub values_at : {T : Type 0} (cells : List (CellRow T)) (i : ℕ) → get_or (values_of cells) i None ≡ (cell_at cells i).deferred
values_at [] i = refl
values_at (c ∷ cells) zero = refl
values_at (c ∷ cells) (suc i) = values_at cells i

pub values_set : {T : Type 0} (cells : List (CellRow T)) (i : ℕ) (x : CellRow T) → values_of (set cells i x) ≡ set (values_of cells) i x.deferred
values_set [] i x = refl
values_set (c ∷ cells) zero x = refl
values_set (c ∷ cells) (suc i) x = ap (λ vs. c.deferred ∷ vs) (values_set cells i x)

-- where what is deferred in a cell stays, all of it does
pub values_kept : {T : Type 0} (cells : List (CellRow T)) (i : ℕ) (x : CellRow T) → x.deferred ≡ (cell_at cells i).deferred → values_of (set cells i x) ≡ values_of cells
values_kept cells i x is =
    values_set cells i x ∙ ap (λ v. set (values_of cells) i v) (is ∙ sym (values_at cells i)) ∙ set-get_or (values_of cells) i None

-- nothing is deferred in cells that were never used
pub none_in_unused : {T : Type 0} (n i : ℕ) → (cell_at (replicate n (unused_cell {T = T})) i).deferred ≡ None
none_in_unused zero i = refl
none_in_unused (suc n) zero = refl
none_in_unused {T} (suc n) (suc i) = none_in_unused {T = T} n i

-- nor where one more is put behind
pub none_behind : {T : Type 0} (cells : List (CellRow T)) (x : CellRow T) → ((i : ℕ) → (cell_at cells i).deferred ≡ None) → x.deferred ≡ None → (i : ℕ) → (cell_at (cells ++ x ∷ []) i).deferred ≡ None
none_behind [] x none is zero = is
none_behind [] x none is (suc i) = refl
none_behind (c ∷ cells) x none is zero = none 0
none_behind (c ∷ cells) x none is (suc i) = none_behind cells x (λ j. none (suc j)) is i

not_some : {A : Type 0} (o : Option A) (P : Type 0) → o ≡ None → is_some o ≡ true → P
not_some None P none some = cc
not_some (Some x) P none some = cc

pub none_noted : {T : Type 0} (drops : Bool) (cells : List (CellRow T)) (d w : Deferred) → ((i : ℕ) → (cell_at cells i).deferred ≡ None) → ((i : ℕ) → deferred_at d i ≡ 0) → ((i : ℕ) → deferred_at w i ≡ 0) → AreNoted drops cells d w
none_noted drops cells d w none none_d none_w = record {
  noted = λ on i some. not_some _ _ (none i) some;
  dropping = λ i. ⊎_elim (λ one. absurd (omega (arith, none_d i, one))) (λ one. absurd (omega (arith, none_w i, one)));
}

-- where one cell changes, so may what waits there
noted_set : {T : Type 0} {drops : Bool} {cells : List (CellRow T)} {d w : Deferred} → AreNoted drops cells d w → (i : ℕ) (x : CellRow T) (e v : Deferred) → i < length cells → ((j : ℕ) → j ≢ i → deferred_at e j ≡ deferred_at d j) → ((j : ℕ) → j ≢ i → deferred_at v j ≡ deferred_at w j) → (drops ≡ true → is_some x.deferred ≡ true → (deferred_at e i ≡ 1) ⊎ (deferred_at v i ≡ 1)) → ((deferred_at e i ≡ 1) ⊎ (deferred_at v i ≡ 1) → drops ≡ true) → AreNoted drops (set cells i x) e v
noted_set {T} {drops} {cells} {d} {w} n i x e v inside same_d same_w here there =
    let W : ℕ → Type 0 = λ k. (deferred_at e k ≡ 1) ⊎ (deferred_at v k ≡ 1) in
    let other : (j : ℕ) → j ≢ i → cell_at (set cells i x) j ≡ cell_at cells j = λ j ne. get_or-set_other cells i j x unused_cell ne in
    let at : (j : ℕ) → j ≡ i → cell_at (set cells i x) j ≡ x = λ j is. ap (λ k. cell_at (set cells i x) k) is ∙ get_or-set_same cells i x unused_cell inside in
    record {
      noted = λ on j some. ⊎_elim
          (λ is. subst W (sym is) (here on (subst (λ (c : CellRow T). is_some c.deferred ≡ true) (at j is) some)))
          (λ ne. ⊎_elim (λ one. inl (same_d j ne ∙ one)) (λ one. inr (same_w j ne ∙ one))
          (n.noted on j (subst (λ (c : CellRow T). is_some c.deferred ≡ true) (other j ne) some)))
          (cases_eq j i);
      dropping = λ j waits. ⊎_elim
          (λ is. there (subst W is waits))
          (λ ne. n.dropping j (⊎_elim (λ one. inl (sym (same_d j ne) ∙ one)) (λ one. inr (sym (same_w j ne) ∙ one)) waits))
          (cases_eq j i);
    }

if_waits : (d e : Deferred) (i : ℕ) (b : Bool) → DefersIf b d i e → b ≡ true → deferred_at e i ≡ 1
if_waits d e i true more is = more.0
if_waits d e i false same is = cc

if_dropping : (d e : Deferred) (i : ℕ) (b : Bool) → DefersIf b d i e → (deferred_at d i ≡ 1 → b ≡ true) → deferred_at e i ≡ 1 → b ≡ true
if_dropping d e i true more was one = refl
if_dropping d e i false same was one = was (sym (ap (λ x. deferred_at x i) same) ∙ one)

module _ {T : Type 0} {drops : Bool} {cells : List (CellRow T)} {d w : Deferred} (n : AreNoted drops cells d w) where
  -- a cell whose value was taken out, or that was filled
  pub emptied_noted : (i : ℕ) (x : CellRow T) (e v : Deferred) → x.deferred ≡ None → i < length cells → ((j : ℕ) → j ≢ i → deferred_at e j ≡ deferred_at d j) → ((j : ℕ) → j ≢ i → deferred_at v j ≡ deferred_at w j) → (deferred_at e i ≡ 1 → deferred_at d i ≡ 1) → (deferred_at v i ≡ 1 → deferred_at w i ≡ 1) → AreNoted drops (set cells i x) e v
  emptied_noted i x e v none inside same_d same_w was_d was_w =
      noted_set n i x e v inside same_d same_w (λ on some. not_some _ _ none some)
      (λ waits. n.dropping i (⊎_elim (λ one. inl (was_d one)) (λ one. inr (was_w one)) waits))

  -- a cell in which the same is deferred
  pub same_noted : (i : ℕ) (x : CellRow T) → x.deferred ≡ (cell_at cells i).deferred → i < length cells → AreNoted drops (set cells i x) d w
  same_noted i x is inside =
      noted_set n i x d w inside (λ j ne. refl) (λ j ne. refl)
      (λ on some. n.noted on i (subst (λ (o : Option T). is_some o ≡ true) is some)) (n.dropping i)

  -- a cell whose value is deferred
  pub deferred_noted : (i : ℕ) (x : CellRow T) (e : Deferred) → i < length cells → DefersIf drops d i e → AreNoted drops (set cells i x) e w
  deferred_noted i x e inside defers =
      noted_set n i x e w inside (if_others d e i drops defers) (λ j ne. refl) (λ on some. inl (if_waits d e i drops defers on))
      (⊎_elim (if_dropping d e i drops defers (λ one. n.dropping i (inl one))) (λ one. n.dropping i (inr one)))

  pub deferred_worn_noted : (i : ℕ) (x : CellRow T) (v : Deferred) → i < length cells → DefersIf drops w i v → AreNoted drops (set cells i x) d v
  deferred_worn_noted i x v inside defers =
      noted_set n i x d v inside (λ j ne. refl) (if_others w v i drops defers) (λ on some. inr (if_waits w v i drops defers on))
      (⊎_elim (λ one. n.dropping i (inl one)) (if_dropping w v i drops defers (λ one. n.dropping i (inr one))))

  -- a cell that is as if it had never been used, but for what is deferred
  pub forgotten_noted : (i : ℕ) (x : CellRow T) (e v : Deferred) (waits : Bool) → x.deferred ≡ (cell_at cells i).deferred → i < length cells → deferred_at d i ≡ 0 → (waits ≡ true → deferred_at w i ≡ 1) → (deferred_at w i ≡ 1 → waits ≡ true) → DefersIf waits d i e → Undefers w i v → AreNoted drops (set cells i x) e v
  forgotten_noted i x e v waits is inside none was will defers removed =
      noted_set n i x e v inside (if_others d e i waits defers) (λ j ne. removed.2.1 j ne)
      (λ on some. ⊎_elim (λ one. absurd (omega (arith, none, one))) (λ one. inl (if_waits d e i waits defers (will one)))
      (n.noted on i (subst (λ (o : Option T). is_some o ≡ true) is some)))
      (⊎_elim
      (λ one. n.dropping i (inr (was (if_dropping d e i waits defers (λ old. absurd (omega (arith, none, old))) one))))
      (λ one. absurd (omega (arith, removed.0, one))))

  -- whichever value was taken out that was deferred
  pub any_noted : (r : Option T) (left : List (CellRow T)) (f g : FreeIndexes) (e v : Deferred) → TakesAny cells f d w r left g e v → AreNoted drops left e v
  any_noted None left f g e v t = rw (t.2, t.4, t.5) n
  any_noted (Some x) left f g e v (i, inl t) =
      rw (t.0.1, t.2)
      (emptied_noted i (emptied_cell (cell_at cells i)) e w refl (deferred_inside cells i (ap is_some t.0.0)) (λ j ne. t.0.2.4.1 j ne) (λ j ne. refl) (λ one. absurd (omega (arith, t.0.2.3, one))) (λ one. one))
  any_noted (Some x) left f g e v (i, inr t) =
      rw (t.0.1, t.2)
      (emptied_noted i (emptied_cell (cell_at cells i)) d v refl (deferred_inside cells i (ap is_some t.0.0)) (λ j ne. refl) (λ j ne. t.0.2.4.1 j ne) (λ one. one) (λ one. absurd (omega (arith, t.0.2.3, one))))
