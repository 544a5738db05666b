-- An entry stays until one event of the run ends it.
use Rattle.std.proofs.Common.{◌≡◌, ◌≢◌, ℕ, ◌≤◌, ◌⊎◌, List, [], ◌∷◌, Some, refl, sym, ap, ◌∙◌, subst, inl, inr, arith}
use Rattle.std.proofs.lemmas.Bool.Decides.{nat_tests}
use Rattle.dq_core.specs.Machine.{Entry, TableRow, Machine, Event, table_at, Run}
use Rattle.dq_core.specs.Runs.{EntriesLeaveOnce, StaysOrLeft, ends_of}
use Rattle.dq_core.proofs.RunsMoves.{Moves, Alone, Begun, Again, Taken, step_moves}
use Rattle.dq_core.proofs.RunsKept.{Holds, some_same}

-- the slot has had the stamp b, and no entry that was born at b is there
pub record Gone {T : Type 0} (a : TableRow T) (b : ℕ) : Type 0 where
  pub stamp : b ≤ a.stamp
  pub entry : (e : Entry T) → a.entry ≡ Some e → e.born ≢ b

-- the slot has had the stamp of e's birth, and has an entry of that birth and value
pub record Stays {T : Type 0} (a : TableRow T) (e : Entry T) : Type 0 where
  pub stamp : e.born ≤ a.stamp
  pub entry : Holds a e

gone_on : {T : Type 0} (a z : TableRow T) (ends : ℕ → ℕ) (b : ℕ) → Moves a z ends → Gone a b → (ends b ≡ 0) × Gone z b
gone_on a z ends b (Alone same none) gone = (none b, subst (λ x. Gone x b) (sym same) gone)
gone_on a z ends b (Begun v d empty is none) gone = (
  none b,
  record {
    stamp = let at = ap (λ x. x.stamp) is in omega (arith, at, gone.stamp);
    entry = λ e linked same.
        let born = ap (λ x. x.born) (some_same _ e (sym (ap (λ x. x.entry) is) ∙ linked)) in
        absurd (omega (arith, born, same, gone.stamp));
  },
)
gone_on a z ends b (Again e s d linked above is lives none) gone = (
  none b,
  record {
    stamp = let at = ap (λ x. x.stamp) is in omega (arith, at, above, gone.stamp);
    entry = λ f linked' same.
        let born = ap (λ x. x.born) (some_same _ f (sym (ap (λ x. x.entry) is) ∙ linked')) in
        gone.entry e linked (born ∙ same);
  },
)
gone_on a z ends b (Taken e linked is ended) gone = (
  let other = gone.entry e linked in let at = ended b in grind (arith, nat_tests),
  record {
    stamp = let at = ap (λ x. x.stamp) is in omega (arith, at, gone.stamp);
    entry = λ f linked' same. let left = ap (λ x. x.entry) is in cc;
  },
)

stays_on : {T : Type 0} (a z : TableRow T) (ends : ℕ → ℕ) (e : Entry T) → Moves a z ends → Stays a e → ((ends e.born ≡ 0) × Stays z e) ⊎ ((ends e.born ≡ 1) × Gone z e.born)
stays_on a z ends e (Alone same none) stays = inl (none e.born, subst (λ x. Stays x e) (sym same) stays)
stays_on a z ends e (Begun v d empty is none) stays = let there = stays.entry.1 in cc
stays_on a z ends e (Again f s d linked above is lives none) stays =
    let same = some_same _ stays.entry.0 (sym linked ∙ stays.entry.1) in
    inl (
      none e.born,
      record {
        stamp = let at = ap (λ x. x.stamp) is in omega (arith, at, above, stays.stamp);
        entry = (
          record { born = f.born; value = f.value; due = d },
          ap (λ x. x.entry) is,
          ap (λ x. x.born) same ∙ stays.entry.2,
          ap (λ x. x.value) same ∙ stays.entry.3,
        );
      },
    )
stays_on a z ends e (Taken f linked is ended) stays =
    let born = ap (λ x. x.born) (some_same _ stays.entry.0 (sym linked ∙ stays.entry.1)) ∙ stays.entry.2 in
    let at = ended e.born in
    inr (
      grind (arith, nat_tests),
      record {
        stamp = let at = ap (λ x. x.stamp) is in omega (arith, at, stays.stamp);
        entry = λ g linked' same. let left = ap (λ x. x.entry) is in cc;
      },
    )

gone_run : {T : Type 0} (last : ℕ) (m n : Machine T) (es : List (Event T)) → Run last m es n → (i b : ℕ) → Gone (table_at m i) b → (ends_of i b es ≡ 0) × Gone (table_at n i) b
gone_run last m n [] r i b gone = (refl, subst (λ x. Gone (table_at x i) b) (sym r) gone)
gone_run last m n (e ∷ es) (k, step, r) i b gone =
    let now = gone_on _ _ _ b (step_moves last m k e step i) gone in
    let then = gone_run last k n es r i b now.1 in
    (omega (arith, now.0, then.0), then.1)

leave_once : {T : Type 0} (last : ℕ) (m n : Machine T) (es : List (Event T)) → Run last m es n → (i : ℕ) (e : Entry T) → Stays (table_at m i) e → StaysOrLeft i e es n
leave_once last m n [] r i e stays = inl (refl, subst (λ x. Holds (table_at x i) e) (sym r) stays.entry)
leave_once last m n (f ∷ es) (k, step, r) i e stays =
    elim (stays_on _ _ _ e (step_moves last m k f step i) stays) [
      | inl here ↦
          elim (leave_once last k n es r i e here.1) [
            | inl still ↦ inl (omega (arith, here.0, still.0), still.1)
            | inr left ↦ inr (omega (arith, here.0, left.0), left.1)
          ]
      | inr left ↦
          let rest = gone_run last k n es r i e.born left.1 in
          inr (omega (arith, left.0, rest.0), rest.1.entry)
    ]

pub entries_leave_once : (T : Type 0) → EntriesLeaveOnce T
entries_leave_once T last m n es r i e linked before = leave_once last m n es r i e (record { stamp = before; entry = (e, linked, refl, refl) })
