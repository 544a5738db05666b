-- How one event may leave one slot of the table.
use Rattle.std.proofs.Common.{◌≡◌, ◌≢◌, ℕ, ◌+◌, ◌<◌, ◌≤◌, Option, Some, None, length, refl, sym, ap, ◌∙◌, subst, inl, inr, arith, if◌then◌else◌, ◌==◌}
use Rattle.std.proofs.lemmas.Bool.{cases_eq}
use Rattle.std.proofs.lemmas.Bool.Decides.{nat_tests}
use Rattle.std.proofs.lemmas.List.{get_or-set_same, get_or-set_other}
use Rattle.dq_core.specs.Machine.{Entry, TableRow, Machine, Event, Note, Pass, Insert, Reset, Extend, Cancel, Remove, Reap, Expire, table_at, put, with_due, NoneLiveBefore, Step}
use Rattle.dq_core.specs.Runs.{one_at, ends_by}

-- the slot that was put, and every other one
pub put_same : {T : Type 0} (m k : Machine T) (i s : ℕ) (o : Option (Entry T)) → i < length m.table → k ≡ put m i s o → table_at k i ≡ record { stamp = s; entry = o }
put_same m k i s o inside is = ap (λ x. table_at x i) is ∙ get_or-set_same m.table i (record { stamp = s; entry = o }) (record { stamp = 0; entry = None }) inside

pub put_other : {T : Type 0} (m k : Machine T) (i j s : ℕ) (o : Option (Entry T)) → i ≢ j → k ≡ put m j s o → table_at k i ≡ table_at m i
put_other m k i j s o other is = ap (λ x. table_at x i) is ∙ get_or-set_other m.table j i (record { stamp = s; entry = o }) (record { stamp = 0; entry = None }) other

-- how an event may leave a slot, and whose end it is, by birth: alone; with a new entry of the next stamp; with its entry
-- at another deadline, live only where it was live; or without it, which ends that one alone
pub data Moves {T : Type 0} (a z : TableRow T) (ends : ℕ → ℕ) : Type 0 where
  Alone : z ≡ a → ((b : ℕ) → ends b ≡ 0) → Moves a z ends
  Begun : (v : T) (d : Option ℕ) → a.entry ≡ None → z ≡ record { stamp = a.stamp + 1; entry = Some (record { born = a.stamp + 1; value = v; due = d }) } → ((b : ℕ) → ends b ≡ 0) → Moves a z ends
  Again : (e : Entry T) (s : ℕ) (d : Option ℕ) → a.entry ≡ Some e → a.stamp ≤ s → z ≡ record { stamp = s; entry = with_due e d } → ((x : ℕ) → d ≡ Some x → (y : ℕ) × (e.due ≡ Some y)) → ((b : ℕ) → ends b ≡ 0) → Moves a z ends
  Taken : (e : Entry T) → a.entry ≡ Some e → z ≡ record { stamp = a.stamp; entry = None } → ((b : ℕ) → ends b ≡ (if b == e.born then 1 else 0)) → Moves a z ends

one_other : (i j c : ℕ) → i ≢ j → (b : ℕ) → one_at i b j c ≡ 0
one_other i j c other b = grind (arith, nat_tests)

one_same : (j b c d : ℕ) → d ≡ c → one_at j b j c ≡ (if b == d then 1 else 0)
one_same j b c d same = grind (arith, nat_tests)

by_slot : (P : ℕ → Type 0) (i j : ℕ) → P j → (i ≢ j → P i) → P i
by_slot P i j here others = elim (cases_eq i j) [ inl same ↦ subst P (sym same) here | inr other ↦ others other ]

pub step_moves : {T : Type 0} (last : ℕ) (m k : Machine T) (e : Event T) → Step last m e k → (i : ℕ) → Moves (table_at m i) (table_at k i) (λ b. ends_by i b e)
step_moves last m k (Note t) s i = Alone (ap (λ x. table_at x i) s) (λ b. refl)
step_moves last m k (Pass t) s i = Alone (ap (λ x. table_at x i) s.3) (λ b. refl)
step_moves last m k (Insert j v w) s i =
    by_slot (λ x. Moves (table_at m x) (table_at k x) (λ b. 0)) i j
    (Begun v _ s.1 (put_same m k j _ _ s.0 s.3) (λ b. refl))
    (λ other. Alone (put_other m k i j _ _ other s.3) (λ b. refl))
step_moves last m k (Reset j b w) s i =
    by_slot (λ x. Moves (table_at m x) (table_at k x) (λ b. 0)) i j
    (Again s.0 _ _ s.2.1 (omega arith) (put_same m k j _ _ s.2.0 s.6) (λ x is. (s.1, s.4)) (λ b. refl))
    (λ other. Alone (put_other m k i j _ _ other s.6) (λ b. refl))
step_moves last m k (Extend j t w) s i =
    by_slot (λ x. Moves (table_at m x) (table_at k x) (λ b. 0)) i j
    (Again s.0 _ _ s.2.1 (omega (arith, s.3)) (put_same m k j _ _ s.2.0 s.5) (λ x is. (s.1, s.4)) (λ b. refl))
    (λ other. Alone (put_other m k i j _ _ other s.5) (λ b. refl))
step_moves last m k (Cancel j t) s i =
    by_slot (λ x. Moves (table_at m x) (table_at k x) (λ b. 0)) i j
    (Again s.0 _ _ s.2.1 (omega (arith, s.3)) (put_same m k j _ _ s.2.0 s.5) (λ x is. (s.1, s.4)) (λ b. refl))
    (λ other. Alone (put_other m k i j _ _ other s.5) (λ b. refl))
step_moves last m k (Remove j c) s i =
    by_slot (λ x. Moves (table_at m x) (table_at k x) (λ b. one_at x b j c)) i j
    (Taken s.0 s.2.1 (put_same m k j _ _ s.2.0 s.5) (λ b. one_same j b c s.0.born s.3))
    (λ other. Alone (put_other m k i j _ _ other s.5) (one_other i j c other))
step_moves last m k (Reap j c) s i =
    by_slot (λ x. Moves (table_at m x) (table_at k x) (λ b. one_at x b j c)) i j
    (Taken s.0 s.1.1 (put_same m k j _ _ s.1.0 s.4) (λ b. one_same j b c s.0.born s.2))
    (λ other. Alone (put_other m k i j _ _ other s.4) (one_other i j c other))
step_moves last m k (Expire j c at) s i =
    by_slot (λ x. Moves (table_at m x) (table_at k x) (λ b. one_at x b j c)) i j
    (Taken s.0 s.1.1 (put_same m k j _ _ s.1.0 s.7) (λ b. one_same j b c s.0.born s.2))
    (λ other. Alone (put_other m k i j _ _ other s.7) (one_other i j c other))

-- what comes out leaves none behind that is live at an earlier deadline
pub least_out : {T : Type 0} (last : ℕ) (m n : Machine T) (i b at : ℕ) → Step last m (Expire i b at) n → NoneLiveBefore n at
least_out {T} last m n i b at s j =
    by_slot (λ x. (e : Entry T) (d : ℕ) → (table_at n x).entry ≡ Some e → e.due ≡ Some d → at ≤ d) j i
    (λ e d linked due. let gone = ap (λ x. x.entry) (put_same m n i _ _ s.1.0 s.7) in cc)
    (λ other e d linked due. s.6 j e d (sym (ap (λ x. x.entry) (put_other m n j i _ _ other s.7)) ∙ linked) due)
