-- The slots of a queue as timers, and what one changed slot leaves of them.
use Rattle.std.proofs.Common.{◌≡◌, ◌≢◌, ℕ, ◌+◌, ◌<◌, zero, suc, Bool, cond, ◌&&◌, not, nat_lt, List, [], ◌∷◌, length, set, replicate, Option, Some, None, is_some, is_none, refl, sym, ap, ◌∙◌, subst, inl, inr, arith}
use Rattle.std.specs.List.{count_by}
use Rattle.std.proofs.lemmas.List.{get_or-set_same, get_or-set_other, get_or_past}
use Rattle.std.proofs.lemmas.List.Sums.{sum_by-cons}
use Rattle.std.proofs.lemmas.Bool.{cases_lt, cases_eq}
use Rattle.dq_ticks.specs.declared.words.Parts.{Parts}
use Rattle.dq_core.specs.declared.slots.Held.{Held}
use Rattle.dq_core.specs.Words.{word_at, never}
use Rattle.dq_core.specs.Slots.{Row, unused, row_at, is_held, is_worn}
use Rattle.dq_core.specs.Machine.{Entry, TableRow}
use Rattle.dq_core.specs.Core.{table_of, entry_of}
use Rattle.dq_core.specs.TableRows.{table_row_of}
use Rattle.dq_apps.specs.TimerTable.{unset, timer_at, AllRun, is_set, is_spent}

-- a count, slot by slot
pub count-cons : {X : Type 0} (p : X → Bool) (x : X) (xs : List X) → count_by p (x ∷ xs) ≡ cond (p x) 1 0 + count_by p xs
count-cons p x xs = sum_by-cons (λ y. cond (p y) 1 0) x xs

module _ {K : Type 0} where
  -- past the last slot there is no timer
  pub inside_slots : (slots : List (TableRow K)) (i : ℕ) (e : Entry K) → (timer_at slots i).entry ≡ Some e → i < length slots
  inside_slots slots i e is = elim (cases_lt i (length slots)) [
    | inl within ↦ within
    | inr past ↦
        let gone : (timer_at slots i).entry ≡ None = ap (λ s. s.entry) (get_or_past slots i unset past) in
        absurd (cc)
  ]

  pub set_here : (slots : List (TableRow K)) (i : ℕ) (x : TableRow K) → i < length slots → timer_at (set slots i x) i ≡ x
  set_here slots i x inside = get_or-set_same slots i x unset inside

  pub set_there : (slots : List (TableRow K)) (i j : ℕ) (x : TableRow K) → j ≢ i → timer_at (set slots i x) j ≡ timer_at slots j
  set_there slots i j x ne = get_or-set_other slots i j x unset ne

  -- a slot was changed, and what runs there now runs
  pub all_run_set : (slots : List (TableRow K)) (i : ℕ) (x : TableRow K) → i < length slots → AllRun slots → ((e : Entry K) → x.entry ≡ Some e → (d : ℕ) × (e.due ≡ Some d)) → AllRun (set slots i x)
  all_run_set slots i x inside all here j e is = elim (cases_eq j i) [
    | inl same ↦
        let P : ℕ → Type 0 = λ k. (timer_at (set slots i x) k).entry ≡ Some e in
        here e (sym (ap (λ s. s.entry) (set_here slots i x inside)) ∙ subst P same is)
    | inr ne ↦ all j e (sym (ap (λ s. s.entry) (set_there slots i j x ne)) ∙ is)
  ]

  -- the slots of a queue's machine
  pub slot_is : (rows : List (Row K)) (known : List Parts) → length known ≡ length rows → (i : ℕ) → timer_at (table_of rows known) i ≡ table_row_of (row_at rows i) (word_at known i)
  slot_is [] [] e i = refl
  slot_is [] (w ∷ ws) e i = absurd (omega arith)
  slot_is (r ∷ rs) [] e i = absurd (omega arith)
  slot_is (r ∷ rs) (w ∷ ws) e zero = refl
  slot_is (r ∷ rs) (w ∷ ws) e (suc i) = slot_is rs ws (omega arith) i

  pub length-slots : (rows : List (Row K)) (known : List Parts) → length known ≡ length rows → length (table_of rows known) ≡ length rows
  length-slots [] ws e = refl
  length-slots (r ∷ rs) [] e = absurd (omega arith)
  length-slots (r ∷ rs) (w ∷ ws) e = ap suc (length-slots rs ws (omega arith))

  set_by : (o : Option (Held K)) (w : Parts) → is_some o ≡ is_some (entry_of o w)
  set_by None w = refl
  set_by (Some h) w = refl

  spent_by : (last s : ℕ) (o : Option (Held K)) (w : Parts) → (is_none o && not (nat_lt s last)) ≡ (is_none (entry_of o w) && not (nat_lt s last))
  spent_by last s None w = refl
  spent_by last s (Some h) w = refl

  -- a test of slots that agrees with one of rows counts as many
  count_agrees : (p : Row K → Bool) (q : TableRow K → Bool) → ((r : Row K) (w : Parts) → p r ≡ q (table_row_of r w)) → (rows : List (Row K)) (known : List Parts) → length known ≡ length rows → count_by p rows ≡ count_by q (table_of rows known)
  count_agrees p q same [] ws e = refl
  count_agrees p q same (r ∷ rs) [] e = absurd (omega arith)
  count_agrees p q same (r ∷ rs) (w ∷ ws) e =
      let rest = count_agrees p q same rs ws (omega arith) in
      count-cons p r rs ∙ (ap (λ b. cond b 1 0 + count_by p rs) (same r w) ∙ (ap (λ n. cond (q (table_row_of r w)) 1 0 + n) rest ∙ sym (count-cons q (table_row_of r w) (table_of rs ws))))

  pub count_set : (rows : List (Row K)) (known : List Parts) → length known ≡ length rows → count_by is_held rows ≡ count_by is_set (table_of rows known)
  count_set rows known e = count_agrees is_held is_set (λ r w. set_by r.held w) rows known e

  pub count_spent : (last : ℕ) (rows : List (Row K)) (known : List Parts) → length known ≡ length rows → count_by (is_worn last) rows ≡ count_by (is_spent last) (table_of rows known)
  count_spent last rows known e = count_agrees (is_worn last) (is_spent last) (λ r w. spent_by last r.stamp r.held w) rows known e

  pub new_slots : (n : ℕ) → table_of (replicate n (unused {T = K})) (replicate n never) ≡ replicate n unset
  new_slots zero = refl
  new_slots (suc n) = ap (λ ss. unset ∷ ss) (new_slots n)

  -- where no slot was used, there is no timer
  pub none_new : (n i : ℕ) → timer_at (replicate n (unset {K = K})) i ≡ unset
  none_new zero i = refl
  none_new (suc n) zero = refl
  none_new (suc n) (suc i) = none_new n i

  -- where no slot was used, all run
  pub none_run : (n : ℕ) → AllRun (replicate n (unset {K = K}))
  none_run n i e is =
      let gone : (timer_at (replicate n (unset {K = K})) i).entry ≡ None = ap (λ s. s.entry) (none_new n i) in
      absurd (cc)
