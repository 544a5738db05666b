-- Each step keeps the rule.
use Rattle.std.proofs.Common.{◌≡◌, ◌≢◌, ◌⊎◌, ℕ, zero, suc, ◌+◌, List, [], ◌∷◌, ◌++◌, length, get_or, set, true, false, true≢false, refl, sym, ap, ◌∙◌, subst, inl, inr, ⊎_elim, append-nil, arith, Option}
use mathlib.Core.Option.{some, none, some-ne-none, some-injective}
use lib.ListN.{get_elem?}
use Rattle.std.proofs.lemmas.Bool.Decides.{nat_tests}
use Rattle.atomic_table.specs.Table.{State, step, keeps, opening, Allows, Splits, Joins}
use Rattle.atomic_table.proofs.Lists.{at_set, set_again}
use Rattle.dq_queue.specs.declared.journal.views.Entry.{Entry}
use Rattle.dq_queue.specs.declared.journal.views.View.{View}
use Rattle.dq_queue.specs.Views.{nobody, first_witness, with_one_more, new_witness, left, lent, taken}
use Rattle.dq_queue.specs.History.{entry, entries_by, Continues}
use Rattle.dq_queue.specs.Rule.{Fits, AreApart, HasOne, HasOneHistory}
use Rattle.dq_queue.specs.Plays.{entering, IsFair, entered, learned}

off : false ≡ true → ⊥
off e = true≢false (sym e)

module _ {E : Type 0} where
  -- histories

  pub entries_here : (by : ℕ) (log : List (Entry E)) (e : Entry E) → e.by ≡ by → entries_by by (e ∷ log) ≡ e ∷ entries_by by log
  entries_here by log e h = grind (arith, nat_tests)

  pub entries_else : (by : ℕ) (log : List (Entry E)) (e : Entry E) → e.by ≢ by → entries_by by (e ∷ log) ≡ entries_by by log
  entries_else by log e h = grind (arith, nat_tests)

  pub continues_more : (log seen : List (Entry E)) (e : Entry E) → Continues log seen → Continues (e ∷ log) seen
  continues_more log seen e s = (e ∷ s.0, ap (λ l. e ∷ l) s.1)

  pub continues_none : (log : List (Entry E)) → Continues log []
  continues_none log = (log, sym (append-nil log))

  -- views

  pub set_there : (l : List (View E)) (i : ℕ) (a b : (View E)) → get_elem? l i ≡ some b → get_elem? (set l i a) i ≡ some a
  set_there [] i a b e = absurd (some-ne-none b (sym e))
  set_there (x ∷ xs) zero a b e = refl
  set_there (x ∷ xs) (suc i) a b e = set_there xs i a b e

  pub at_end : (l : List (View E)) (a b : (View E)) (j : ℕ) → get_elem? (l ++ a ∷ []) j ≡ some b → (get_elem? l j ≡ some b) ⊎ ((j ≡ length l) × (a ≡ b))
  at_end [] a b zero e = inr (refl, some-injective a b e)
  at_end [] a b (suc j) e = absurd (some-ne-none b (sym e))
  at_end (x ∷ xs) a b zero e = inl e
  at_end (x ∷ xs) a b (suc j) e = ⊎_elim inl (λ t. inr (ap suc t.0, t.1)) (at_end xs a b j e)

  -- a seat's view is set to one that has no other number
  pub apart_set : (views : List (View E)) (id : ℕ) (v w : (View E)) → get_elem? views id ≡ some v → AreApart views
      → (w.holds ≡ true → (v.holds ≡ true) × (w.number ≡ v.number)) → AreApart (set views id w)
  apart_set views id v w at apart same j k x y ej ek hx hy n =
      ⊎_elim
      (λ (a : (j ≡ id) × (w ≡ x)). let P : (View E) → Type 0 = λ z. (z.holds ≡ true) × (z.number ≡ y.number) in
      let m = subst P (sym a.1) (hx, n) in let s = same m.0 in
      ⊎_elim (λ (b : (k ≡ id) × (w ≡ y)). a.0 ∙ sym b.0)
      (λ (b : (k ≢ id) × (get_elem? views k ≡ some y)). a.0 ∙ apart id k v y at b.1 s.0 hy (sym s.1 ∙ m.1))
      (at_set views id k w y ek))
      (λ (a : (j ≢ id) × (get_elem? views j ≡ some x)).
      ⊎_elim (λ (b : (k ≡ id) × (w ≡ y)). let P : (View E) → Type 0 = λ z. (z.holds ≡ true) × (x.number ≡ z.number) in
      let m = subst P (sym b.1) (hy, n) in let s = same m.0 in
      apart j id x v a.1 at hx s.0 (m.1 ∙ s.1) ∙ sym b.0)
      (λ (b : (k ≢ id) × (get_elem? views k ≡ some y)). apart j k x y a.1 b.1 hx hy n)
      (at_set views id k w y ek))
      (at_set views id j w x ej)

  -- what the rule tells a keeper with a number at its seat
  pub fair : (log : List (Entry E)) (made : ℕ) (t : State ℕ (View E)) → HasOne log made t → (id : ℕ) (v : (View E)) → get_elem? t.views id ≡ some v → v.keeps ≡ true → v.holds ≡ true → IsFair v
  fair log made t r id v at keeper holds =
      let f = r.each id v at in
      let same : log ≡ v.log = sym (f.keeper keeper).1 in
      let P : List (Entry E) → Type 0 = λ l. Continues l v.told × (entries_by v.number l ≡ v.mine) in
      subst P same (f.told, (f.mine holds).1)

  module _ (log : List (Entry E)) (made : ℕ) (t : State ℕ (View E)) (r : HasOne log made t) (id : ℕ) (v : (View E)) (at : get_elem? t.views id ≡ some v) (keeper : v.keeps ≡ true) (holds : v.holds ≡ true) (x : Option E) where
    abbrev pub e : (Entry E)
    e = entry v.number x

    abbrev pub w : (View E)
    w = entering v x

    f : Fits log made id v
    f = r.each id v at

    same : v.log ≡ log
    same = (f.keeper keeper).1

    written_each : (j : ℕ) (u : (View E)) → get_elem? (set t.views id w) j ≡ some u → Fits (e ∷ log) made j u
    written_each j u eq =
        ⊎_elim
        (λ (x : (j ≡ id) × (w ≡ u)). let P : ℕ × (View E) → Type 0 = λ y. Fits (e ∷ log) made y.0 y.1 in subst P (λ i. (sym x.0 i, x.1 i)) (record {
          keeper = λ _. ((f.keeper keeper).0, ap (λ l. e ∷ l) same, (f.keeper keeper).2);
          seen = ([], ap (λ l. e ∷ l) (sym same));
          told = continues_more log v.told e f.told;
          mine = λ _. ((f.mine holds).0, entries_here v.number log e refl ∙ ap (λ l. e ∷ l) (f.mine holds).1);
        }))
        (λ (x : (j ≢ id) × (get_elem? t.views j ≡ some u)). let g = r.each j u x.1 in record {
          keeper = λ k. absurd (x.0 ((g.keeper k).0 ∙ sym (f.keeper keeper).0));
          seen = continues_more log u.log e g.seen;
          told = continues_more log u.told e g.told;
          mine = λ h. ((g.mine h).0, entries_else u.number log e (λ n. x.0 (r.apart j id u v x.1 at h holds (sym n))) ∙ (g.mine h).1);
        })
        (at_set t.views id j w u eq)

    pub written_keeps : (words : List ℕ) (homes : _) → HasOne (e ∷ log) made (record { words = words; homes = homes; views = set t.views id w })
    written_keeps words homes = record {
      each = written_each;
      apart = apart_set t.views id v w at r.apart (λ _. (holds, refl));
      unmade = λ n l. entries_else n log e (λ q. let b = (f.mine holds).0 in omega (arith, q, b, l)) ∙ r.unmade n l;
    }

  module _ (key slots id : ℕ) (v : (View E)) (c : List (ℕ × ℕ)) (keeper : v.keeps ≡ true) (holds : v.holds ≡ true) where
    pub writes : (x : Option E) → Allows (HasOneHistory key) slots id (v, c) 0 (λ n. n) (entered x (step slots 0 0 0 none) (v, c))
    writes x s h sized at wide =
        let w = entering v x in
        let k = written_keeps h.0 h.1 s h.2 id v at keeper holds x (set s.words 0 (get_or s.words 0 0)) s.homes in (
          w,
          keeps,
          tt,
          (entry v.number x ∷ h.0, h.1, k),
          (refl, fair h.0 h.1 s h.2 id v at keeper holds, fair _ h.1 _ k id w (set_there s.views id w v at) keeper holds),
        )

    pub learns : Allows (HasOneHistory key) slots id (v, c) 0 (λ n. n) (learned (step slots 0 0 0 none) (v, c))
    learns s h sized at wide =
        let P : List (View E) → Type 0 = λ l. HasOne h.0 h.1 (record { words = set s.words 0 (get_or s.words 0 0); homes = s.homes; views = l }) in
        let there : s.views ≡ set s.views id v = sym (set_again s.views id v at) in
        let now : P s.views = record { each = h.2.each; apart = h.2.apart; unmade = h.2.unmade } in
        (v, keeps, tt, (h.0, h.1, subst P there now), (refl, fair h.0 h.1 s h.2 id v at keeper holds))

  -- a number and its entries leave a witness, in a token
  pub lends : (key id : ℕ) (v : (View E)) → Splits (HasOneHistory key) id v (left v) (lent v)
  lends key id v s h at = (
    h.0,
    h.1,
    record {
      each = each;
      apart = apart;
      unmade = h.2.unmade;
    },
  )
    where
      f : Fits h.0 h.1 id v
      f = h.2.each id v at

      old : (j : ℕ) (u : (View E)) → get_elem? (set s.views id (left v)) j ≡ some u → Fits h.0 h.1 j u
      old j u e = ⊎_elim
          (λ (x : (j ≡ id) × (left v ≡ u)). let P : ℕ × (View E) → Type 0 = λ y. Fits h.0 h.1 y.0 y.1 in subst P (λ i. (sym x.0 i, x.1 i)) (record { keeper = f.keeper; seen = f.seen; told = f.told; mine = λ y. absurd (off y) }))
          (λ (x : (j ≢ id) × (get_elem? s.views j ≡ some u)). h.2.each j u x.1)
          (at_set s.views id j (left v) u e)

      each : (j : ℕ) (u : (View E)) → get_elem? (set s.views id (left v) ++ lent v ∷ []) j ≡ some u → Fits h.0 h.1 j u
      each j u e = ⊎_elim (old j u)
          (λ (x : (j ≡ length (set s.views id (left v))) × (lent v ≡ u)). let P : (View E) → Type 0 = λ y. Fits h.0 h.1 j y in subst P x.1 (record { keeper = λ y. absurd (off y); seen = f.seen; told = continues_none h.0; mine = f.mine }))
          (at_end (set s.views id (left v)) (lent v) u j e)

      before : AreApart (set s.views id (left v))
      before = apart_set s.views id v (left v) at h.2.apart (λ y. absurd (off y))

      -- no other seat has the number that left
      gone : (j : ℕ) (u : (View E)) → get_elem? (set s.views id (left v)) j ≡ some u → u.holds ≡ true → v.holds ≡ true → u.number ≡ v.number → ⊥
      gone j u e hu hv n = ⊎_elim
          (λ (x : (j ≡ id) × (left v ≡ u)). let P : (View E) → Type 0 = λ y. y.holds ≡ true in off (subst P (sym x.1) hu))
          (λ (x : (j ≢ id) × (get_elem? s.views j ≡ some u)). x.0 (h.2.apart j id u v x.1 at hu hv n))
          (at_set s.views id j (left v) u e)

      apart : AreApart (set s.views id (left v) ++ lent v ∷ [])
      apart j k x y ej ek hx hy n = ⊎_elim
          (λ a. ⊎_elim (λ b. before j k x y a b hx hy n)
          (λ (b : (k ≡ length (set s.views id (left v))) × (lent v ≡ y)). let P : (View E) → Type 0 = λ z. (z.holds ≡ true) × (x.number ≡ z.number) in let m = subst P (sym b.1) (hy, n) in absurd (gone j x a hx m.0 m.1))
          (at_end (set s.views id (left v)) (lent v) y k ek))
          (λ (a : (j ≡ length (set s.views id (left v))) × (lent v ≡ x)). ⊎_elim
          (λ b. let P : (View E) → Type 0 = λ z. (z.holds ≡ true) × (z.number ≡ y.number) in let m = subst P (sym a.1) (hx, n) in absurd (gone k y b hy m.0 (sym m.1)))
          (λ (b : (k ≡ length (set s.views id (left v))) × (lent v ≡ y)). a.0 ∙ sym b.0)
          (at_end (set s.views id (left v)) (lent v) y k ek))
          (at_end (set s.views id (left v)) (lent v) x j ej)

  -- a seat takes them in
  pub takes : (key id : ℕ) (v : (View E)) (other : ℕ) (t : (View E)) → t.keeps ≡ false → Joins (HasOneHistory key) id v other t (taken v t) nobody
  takes key id v other t plain s h at apart there = (
    h.0,
    h.1,
    record {
      each = each;
      apart = are_apart;
      unmade = h.2.unmade;
    },
  )
    where
      b : (View E)
      b = taken v t

      theirs : get_elem? s.views other ≡ some t
      theirs = ⊎_elim (λ (x : (other ≡ id) × (b ≡ t)). absurd (apart x.0)) (λ (x : (other ≢ id) × (get_elem? s.views other ≡ some t)). x.1) (at_set s.views id other b t there)

      f : Fits h.0 h.1 id v
      f = h.2.each id v at

      g : Fits h.0 h.1 other t
      g = h.2.each other t theirs

      fits_b : Fits h.0 h.1 id b
      fits_b = record {
        keeper = f.keeper;
        seen = f.seen;
        told = g.seen;
        mine = g.mine;
      }

      mid : (j : ℕ) (u : (View E)) → get_elem? (set s.views id b) j ≡ some u → Fits h.0 h.1 j u
      mid j u e = ⊎_elim
          (λ (x : (j ≡ id) × (b ≡ u)). let P : ℕ × (View E) → Type 0 = λ y. Fits h.0 h.1 y.0 y.1 in subst P (λ i. (sym x.0 i, x.1 i)) fits_b)
          (λ (x : (j ≢ id) × (get_elem? s.views j ≡ some u)). h.2.each j u x.1)
          (at_set s.views id j b u e)

      each : (j : ℕ) (u : (View E)) → get_elem? (set (set s.views id b) other nobody) j ≡ some u → Fits h.0 h.1 j u
      each j u e = ⊎_elim
          (λ (x : (j ≡ other) × (nobody ≡ u)). let P : (View E) → Type 0 = λ y. Fits h.0 h.1 j y in subst P x.1 (record { keeper = λ y. absurd (off y); seen = continues_none h.0; told = continues_none h.0; mine = λ y. absurd (off y) }))
          (λ (x : (j ≢ other) × (get_elem? (set s.views id b) j ≡ some u)). mid j u x.1)
          (at_set (set s.views id b) other j nobody u e)

      -- a seat that holds a number afterwards is the one that took the token, or is another of before
      who : (j : ℕ) (u : (View E)) → get_elem? (set (set s.views id b) other nobody) j ≡ some u → u.holds ≡ true → ((j ≡ id) × (b ≡ u)) ⊎ ((j ≢ other) × (get_elem? s.views j ≡ some u))
      who j u e hu = ⊎_elim
          (λ (x : (j ≡ other) × (nobody ≡ u)). let P : (View E) → Type 0 = λ y. y.holds ≡ true in absurd (off (subst P (sym x.1) hu)))
          (λ (x : (j ≢ other) × (get_elem? (set s.views id b) j ≡ some u)). ⊎_elim inl (λ (y : (j ≢ id) × (get_elem? s.views j ≡ some u)). inr (x.0, y.1)) (at_set s.views id j b u x.1))
          (at_set (set s.views id b) other j nobody u e)

      are_apart : AreApart (set (set s.views id b) other nobody)
      are_apart j k x y ej ek hx hy n = ⊎_elim
          (λ (a : (j ≡ id) × (b ≡ x)). ⊎_elim
          (λ (c : (k ≡ id) × (b ≡ y)). a.0 ∙ sym c.0)
          (λ (c : (k ≢ other) × (get_elem? s.views k ≡ some y)). let P : (View E) → Type 0 = λ z. (z.holds ≡ true) × (z.number ≡ y.number) in let m = subst P (sym a.1) (hx, n) in absurd (c.0 (h.2.apart k other y t c.1 theirs hy m.0 (sym m.1))))
          (who k y ek hy))
          (λ (a : (j ≢ other) × (get_elem? s.views j ≡ some x)). ⊎_elim
          (λ (c : (k ≡ id) × (b ≡ y)). let P : (View E) → Type 0 = λ z. (z.holds ≡ true) × (x.number ≡ z.number) in let m = subst P (sym c.1) (hy, n) in absurd (a.0 (h.2.apart j other x t a.1 theirs hx m.0 m.1)))
          (λ (c : (k ≢ other) × (get_elem? s.views k ≡ some y)). h.2.apart j k x y a.1 c.1 hx hy n)
          (who k y ek hy))
          (who j x ej hx)

  -- one caller more
  pub opens : (key id : ℕ) (v : (View E)) → v.keeps ≡ true → v.holds ≡ false → Splits (HasOneHistory key) id v (with_one_more v) (new_witness v)
  opens key id v keeper free s h at = (
    h.0,
    h.1 + 1,
    record {
      each = each;
      apart = apart;
      unmade = λ n l. h.2.unmade n (omega arith);
    },
  )
    where
      f : Fits h.0 h.1 id v
      f = h.2.each id v at

      made : v.made ≡ h.1
      made = (f.keeper keeper).2

      idle : v.holds ≡ true → ⊥
      idle y = off (sym free ∙ y)

      old : (j : ℕ) (u : (View E)) → get_elem? (set s.views id (with_one_more v)) j ≡ some u → Fits h.0 (h.1 + 1) j u
      old j u e = ⊎_elim
          (λ (x : (j ≡ id) × (with_one_more v ≡ u)). let P : ℕ × (View E) → Type 0 = λ y. Fits h.0 (h.1 + 1) y.0 y.1 in subst P (λ i. (sym x.0 i, x.1 i)) (record { keeper = λ k. ((f.keeper k).0, (f.keeper k).1, ap (λ n. n + 1) (f.keeper k).2); seen = f.seen; told = f.told; mine = λ y. absurd (idle y) }))
          (λ (x : (j ≢ id) × (get_elem? s.views j ≡ some u)). let g = h.2.each j u x.1 in record { keeper = λ k. absurd (x.0 ((g.keeper k).0 ∙ sym (f.keeper keeper).0)); seen = g.seen; told = g.told; mine = λ y. ((let a = (g.mine y).0 in omega (arith, a)), (g.mine y).1) })
          (at_set s.views id j (with_one_more v) u e)

      each : (j : ℕ) (u : (View E)) → get_elem? (set s.views id (with_one_more v) ++ new_witness v ∷ []) j ≡ some u → Fits h.0 (h.1 + 1) j u
      each j u e = ⊎_elim (old j u)
          (λ (x : (j ≡ length (set s.views id (with_one_more v))) × (new_witness v ≡ u)). let P : (View E) → Type 0 = λ y. Fits h.0 (h.1 + 1) j y in subst P x.1 (record {
            keeper = λ y. absurd (off y);
            seen = f.seen;
            told = continues_none h.0;
            mine = λ _. ((let a = made in omega (arith, a)), h.2.unmade v.made (let a = made in omega (arith, a)));
          }))
          (at_end (set s.views id (with_one_more v)) (new_witness v) u j e)

      before : AreApart (set s.views id (with_one_more v))
      before = apart_set s.views id v (with_one_more v) at h.2.apart (λ y. (y, refl))

      low : (j : ℕ) (u : (View E)) → get_elem? (set s.views id (with_one_more v)) j ≡ some u → u.holds ≡ true → u.number ≡ v.made → ⊥
      low j u e hu n = ⊎_elim
          (λ (x : (j ≡ id) × (with_one_more v ≡ u)). let P : (View E) → Type 0 = λ y. y.holds ≡ true in idle (subst P (sym x.1) hu))
          (λ (x : (j ≢ id) × (get_elem? s.views j ≡ some u)). let a = ((h.2.each j u x.1).mine hu).0 in let b = made in absurd (omega (arith, a, b, n)))
          (at_set s.views id j (with_one_more v) u e)

      apart : AreApart (set s.views id (with_one_more v) ++ new_witness v ∷ [])
      apart j k x y ej ek hx hy n = ⊎_elim
          (λ a. ⊎_elim (λ b. before j k x y a b hx hy n)
          (λ (b : (k ≡ length (set s.views id (with_one_more v))) × (new_witness v ≡ y)). let P : (View E) → Type 0 = λ z. x.number ≡ z.number in absurd (low j x a hx (subst P (sym b.1) n)))
          (at_end (set s.views id (with_one_more v)) (new_witness v) y k ek))
          (λ (a : (j ≡ length (set s.views id (with_one_more v))) × (new_witness v ≡ x)). ⊎_elim
          (λ b. let P : (View E) → Type 0 = λ z. y.number ≡ z.number in absurd (low k y b hy (subst P (sym a.1) (sym n))))
          (λ (b : (k ≡ length (set s.views id (with_one_more v))) × (new_witness v ≡ y)). a.0 ∙ sym b.0)
          (at_end (set s.views id (with_one_more v)) (new_witness v) y k ek))
          (at_end (set s.views id (with_one_more v)) (new_witness v) x j ej)

  pub begins : (key : ℕ) → HasOneHistory {E = E} key (opening (0 ∷ []) [] first_witness)
  begins key = (
    [],
    0,
    record {
      each = one;
      apart = alone;
      unmade = λ n l. refl;
    },
  )
    where
      one : (j : ℕ) (v : (View E)) → get_elem? (first_witness ∷ []) j ≡ some v → Fits [] 0 j v
      one zero v e = let P : (View E) → Type 0 = λ u. Fits [] 0 0 u in subst P (some-injective _ _ e) (record { keeper = λ _. (refl, refl, refl); seen = ([], refl); told = ([], refl); mine = λ y. absurd (off y) })
      one (suc j) v e = absurd (some-ne-none v (sym e))

      alone : AreApart {E = E} (first_witness ∷ [])
      alone zero zero u v ej ek hu hv n = refl
      alone zero (suc k) u v ej ek hu hv n = absurd (some-ne-none v (sym ek))
      alone (suc j) k u v ej ek hu hv n = absurd (some-ne-none u (sym ej))
