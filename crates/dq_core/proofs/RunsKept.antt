-- What each run keeps of a slot: its stamp doesn't fall, and its entry stays until one event ends it.
use Rattle.std.proofs.Common.{◌≡◌, ℕ, ◌≤◌, List, [], ◌∷◌, Some, refl, sym, ap, ◌∙◌, subst, arith}
use Rattle.dq_core.specs.Machine.{Entry, TableRow, Machine, Event, table_at, Run}
use Rattle.dq_core.specs.Runs.{StampsNeverFall, ValuesStay}
use Rattle.dq_core.proofs.RunsMoves.{Moves, Alone, Begun, Again, Taken, step_moves}

-- the slot has an entry of e's birth stamp and value
abbrev pub Holds : {T : Type 0} → TableRow T → Entry T → Type 0
Holds {T} s e = (f : Entry T) × (s.entry ≡ Some f) × (f.born ≡ e.born) × (f.value ≡ e.value)

-- from slot a to slot z no stamp fell, and what stands in z under a stamp of a stood in a
pub record Kept {T : Type 0} (a z : TableRow T) : Type 0 where
  pub stamp : a.stamp ≤ z.stamp
  pub entry : (e : Entry T) → z.entry ≡ Some e → e.born ≤ a.stamp → Holds a e

kept_same : {T : Type 0} (a : TableRow T) → Kept a a
kept_same a = record { stamp = omega arith; entry = λ e linked before. (e, linked, refl, refl) }

kept_more : {T : Type 0} (a b c : TableRow T) → Kept a b → Kept b c → Kept a c
kept_more a b c ab bc = record {
  stamp = omega (arith, ab.stamp, bc.stamp);
  entry = λ e linked before.
      let h = bc.entry e linked (omega (arith, before, ab.stamp)) in
      let g = ab.entry h.0 h.1 (omega (arith, h.2, before)) in
      (g.0, g.1, g.2 ∙ h.2, g.3 ∙ h.3);
}

pub some_same : {A : Type 0} (x y : A) → Some x ≡ Some y → x ≡ y
some_same x y e = cc

moves_kept : {T : Type 0} (a z : TableRow T) (ends : ℕ → ℕ) → Moves a z ends → Kept a z
moves_kept a z ends (Alone same none) = subst (λ x. Kept a x) (sym same) (kept_same a)
moves_kept a z ends (Begun v d empty is none) = record {
  stamp = let at = ap (λ x. x.stamp) is in omega (arith, at);
  entry = λ e linked before.
      let born = ap (λ x. x.born) (some_same _ e (sym (ap (λ x. x.entry) is) ∙ linked)) in
      absurd (omega (arith, born, before));
}
moves_kept a z ends (Again e s d linked above is lives none) = record {
  stamp = let at = ap (λ x. x.stamp) is in omega (arith, at, above);
  entry = λ f linked' before.
      let same = some_same _ f (sym (ap (λ x. x.entry) is) ∙ linked') in
      (e, linked, ap (λ x. x.born) same, ap (λ x. x.value) same);
}
moves_kept a z ends (Taken e linked is ended) = record {
  stamp = let at = ap (λ x. x.stamp) is in omega (arith, at);
  entry = λ f linked' before. let gone = ap (λ x. x.entry) is in cc;
}

kept_run : {T : Type 0} (last : ℕ) (m n : Machine T) (es : List (Event T)) → Run last m es n → (i : ℕ) → Kept (table_at m i) (table_at n i)
kept_run last m n [] r i = subst (λ x. Kept (table_at m i) (table_at x i)) (sym r) (kept_same (table_at m i))
kept_run last m n (e ∷ es) (k, step, r) i =
    kept_more (table_at m i) (table_at k i) (table_at n i) (moves_kept _ _ _ (step_moves last m k e step i)) (kept_run last k n es r i)

pub stamps_never_fall : (T : Type 0) → StampsNeverFall T
stamps_never_fall T last m n es r i = (kept_run last m n es r i).stamp

pub values_stay : (T : Type 0) → ValuesStay T
values_stay T last m n es r i e linked before = (kept_run last m n es r i).entry e linked before
