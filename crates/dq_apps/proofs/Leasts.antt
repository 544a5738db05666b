-- The least deadline of what a map has, one entry after the other.
use Rattle.std.proofs.Common.{◌≡◌, ℕ, ◌≤◌, suc, min, List, [], ◌∷◌, Option, Some, None, refl, sym, subst, inl, inr, ◌⊎◌, arith}
use Rattle.std.specs.List.{All, slice_get}
use Rattle.std.proofs.lemmas.Bool.{cases_lt}
use Rattle.std.proofs.lemmas.List.Elements.{All-cons, All-nil}
use Rattle.dq_apps.specs.declared.kept.Kept.{Kept}
use Rattle.dq_apps.specs.Tied.{TellsFirstDeadline, lesser_of}

module _ {K V : Type 0} where
  -- the least deadline of entries and of one before them
  abbrev pub least_of : Option ℕ → List (K × Kept V) → Option ℕ
  least_of o [] = o
  least_of o (e ∷ es) = least_of (Some (lesser_of o e.1.deadline)) es

  record Least (a : ℕ) (es : List (K × Kept V)) (d : ℕ) : Type 0 where
    below : d ≤ a
    all : All (λ e. d ≤ e.1.deadline) es
    some : (d ≡ a) ⊎ ((i : ℕ) × (k : K) × (s : Kept V) × (slice_get es i ≡ Some (k, s)) × (s.deadline ≡ d))

  least_is : (a : ℕ) (es : List (K × Kept V)) → (d : ℕ) × (least_of (Some a) es ≡ Some d) × Least a es d
  least_is a [] = (a, refl, record { below = omega arith; all = All-nil (λ e. a ≤ e.1.deadline); some = inl refl })
  least_is a (e ∷ es) =
      let r = least_is (min e.1.deadline a) es in
      let l = r.2 in
      let under = l.below in (
        r.0,
        r.1,
        record {
          below = omega (arith, under);
          all = All-cons (λ x. r.0 ≤ x.1.deadline) e es (omega (arith, under)) l.all;
          some = elim l.some [
            | inl same ↦ elim (cases_lt e.1.deadline a) [
              | inl first ↦ inr (0, e.0, e.1, refl, omega (arith, same, first))
              | inr later ↦ inl (omega (arith, same, later))
            ]
            | inr x ↦ inr (suc x.0, x.1, x.2, x.3, x.4)
          ];
        },
      )

  pub least_told : (es : List (K × Kept V)) → TellsFirstDeadline es (least_of None es)
  least_told [] = refl
  least_told (e ∷ es) =
      let r = least_is e.1.deadline es in
      let l = r.2 in
      let P : Option ℕ → Type 0 = λ o. TellsFirstDeadline (e ∷ es) o in
      subst P (sym r.1) (
        elim l.some [
          | inl same ↦ (0, e.0, e.1, refl, sym same)
          | inr x ↦ (suc x.0, x.1, x.2, x.3, x.4)
        ],
        All-cons (λ x. r.0 ≤ x.1.deadline) e es l.below l.all,
      )
