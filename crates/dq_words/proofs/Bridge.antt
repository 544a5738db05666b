-- Packed words and their parts.
use Rattle.std.proofs.Common.{◌≡◌, ℕ, zero, suc, ◌+◌, ◌<◌, ◌≤◌, true, List, [], ◌∷◌, length, get_or, set, replicate, sym, refl, ap, ◌∙◌, subst, inl, inr, ⊎_elim, get_or-set_same, set-set, Option, Some, None, arith}
use Rattle.std.proofs.lemmas.List.{length-replicate}
use Rattle.dq_ticks.specs.declared.words.Parts.{Parts}
use Rattle.dq_ticks.specs.declared.words.Mark.{Mark}
use Rattle.dq_ticks.specs.declared.words.Mark.TheVariants.{LiveMark, CancelledMark}
use Rattle.dq_ticks.specs.Word.{word, stamp_of, mark_of, field_of, mark_number, mark_by, parts_of}
use Rattle.dq_core.specs.declared.words.Look.{Look}
use Rattle.dq_core.specs.declared.words.Look.TheVariants.{StillLive, LookCancelled, LookExpired, LookRemoved}
use Rattle.dq_core.specs.declared.words.Settled.{Settled}
use Rattle.dq_core.specs.declared.words.Settled.TheVariants.{SettledExpired, Later, SettledCancelled}
use Rattle.dq_core.specs.Words.{live, cancelled, expired, removed, never, word_at, AreFresh, IsInForce, IsSettled, IsChanged, IsFinishedBy, Learned}
use Rattle.dq_words.specs.declared.views.View.{View}
use Rattle.dq_words.specs.Keeping.{counts_of, IsOpen}
use Rattle.dq_words.specs.KeeperCalls.{after_failures, KeeperSettles, KeeperRenews, KeeperFinishes, KeeperFinishesBy}
use Rattle.dq_words.specs.Rule.{zeros, first_keeper}
use Rattle.dq_words.specs.Word.{LearnedWord, parts_row}
use Rattle.dq_words.proofs.Keepings.{Grown}

blanks : (n : ℕ) → parts_row (zeros n) ≡ replicate n never
blanks zero = refl
blanks (suc n) = ap (λ (xs : List Parts). never ∷ xs) (blanks n)

fresh_row : (n : ℕ) → parts_row (zeros n) ≡ replicate (length (parts_row (zeros n))) never
fresh_row n = blanks n ∙ ap (λ k. replicate k never) (sym (ap length (blanks n) ∙ length-replicate n never))

pub fresh_view : (n : ℕ) (v : View) → v ≡ first_keeper n → AreFresh (parts_row v.seen) (counts_of v.writes)
fresh_view n v is = let P : View → Type 0 = λ u. AreFresh (parts_row u.seen) (counts_of u.writes) in subst P (sym is) (fresh_row n, refl)

mark_number_by : (m : ℕ) → m < 4 → mark_number (mark_by m) ≡ m
mark_number_by zero h = refl
mark_number_by (suc zero) h = refl
mark_number_by (suc (suc zero)) h = refl
mark_number_by (suc (suc (suc zero))) h = refl
mark_number_by (suc (suc (suc (suc m)))) h = absurd (omega arith)

parts_by : (s m d n : ℕ) → n ≡ word s m d → m < 4 → d ≤ 4398046511103 → parts_of n ≡ record { stamp = s; mark = mark_by m; field = d }
parts_by s m d n is hm hd =
    let a : stamp_of n ≡ s = omega arith in
    let b : mark_of n ≡ m = omega arith in
    let c : field_of n ≡ d = omega arith in
    λ q. record { stamp = a q; mark = mark_by (b q); field = c q }

pub live_is : (s d n : ℕ) → n ≡ word s 0 d → d ≤ 4398046511103 → parts_of n ≡ live s d
live_is s d n is small = parts_by s 0 d n is (omega arith) small

pub cancelled_is : (s n : ℕ) → n ≡ word s 1 0 → parts_of n ≡ cancelled s
cancelled_is s n is = parts_by s 1 0 n is (omega arith) (omega arith)

pub expired_is : (s d n : ℕ) → n ≡ word s 2 d → d ≤ 4398046511103 → parts_of n ≡ expired s d
expired_is s d n is small = parts_by s 2 d n is (omega arith) small

pub removed_is : (s d n : ℕ) → n ≡ word s 3 d → d ≤ 4398046511103 → parts_of n ≡ removed s d
removed_is s d n is small = parts_by s 3 d n is (omega arith) small

pub learned_parts : (x n : ℕ) → LearnedWord x n → Learned true (parts_of x) (parts_of n)
learned_parts x n h = ⊎_elim (λ e. inl (ap parts_of e))
    (λ (l : Grown x n). let a = l.2 in let b = l.4 in
    let m : mark_of x ≡ 0 = omega arith in
    inr (
      refl,
      ap mark_by m,
      ⊎_elim
          (λ (e : (e : ℕ) × (l.1 ≤ e) × (e ≤ 4398046511103) × (n ≡ word l.0 0 e)). let c = e.1 in let d = e.2 in let f = e.3 in
          inl (live_is (stamp_of x) (field_of n) n (omega arith) (omega arith), omega arith, omega arith))
          (λ (e : n ≡ word l.0 1 0). inr (cancelled_is (stamp_of x) n (omega arith)))
          l.5,
    )) h

mark_is : (n : ℕ) (m : Mark) → mark_by (mark_of n) ≡ m → mark_of n ≡ mark_number m
mark_is n m e = sym (mark_number_by (mark_of n) (omega arith)) ∙ ap mark_number e

-- what a linked entry's known word is, packed
pub in_force_open : (s f n : ℕ) → IsInForce s f (parts_of n) → IsOpen n s × (mark_of n ≡ 0 → f ≤ field_of n)
in_force_open s f n h = ⊎_elim
    (λ (l : (parts_of n ≡ live s (field_of n)) × (f ≤ field_of n) × (field_of n ≤ 4398046511103)).
    let a : stamp_of n ≡ s = ap (λ (p : Parts). p.stamp) l.0 in
    let b : mark_of n ≡ 0 = mark_is n LiveMark (ap (λ (p : Parts). p.mark) l.0) in
    ((h.0, inr (omega arith)), λ _. l.1))
    (λ (e : parts_of n ≡ cancelled s).
    let a : stamp_of n ≡ s = ap (λ (p : Parts). p.stamp) e in
    let b : mark_of n ≡ 1 = mark_is n CancelledMark (ap (λ (p : Parts). p.mark) e) in
    let c : field_of n ≡ 0 = ap (λ (p : Parts). p.field) e in
    ((h.0, inl (omega arith)), λ m. absurd (omega arith)))
    h.1

pub row_at : (xs : List ℕ) (i : ℕ) → word_at (parts_row xs) i ≡ parts_of (get_or xs i 0)
row_at [] i = refl
row_at (x ∷ xs) zero = refl
row_at (x ∷ xs) (suc i) = row_at xs i

set_parts : (xs : List ℕ) (i n : ℕ) → parts_row (set xs i n) ≡ set (parts_row xs) i (parts_of n)
set_parts [] i n = refl
set_parts (x ∷ xs) zero n = refl
set_parts (x ∷ xs) (suc i) n = ap (λ (ps : List Parts). parts_of x ∷ ps) (set_parts xs i n)

length_parts : (xs : List ℕ) → length (parts_row xs) ≡ length xs
length_parts [] = refl
length_parts (x ∷ xs) = ap suc (length_parts xs)

pub row_set : (xs ys : List ℕ) (i n : ℕ) (p : Parts) → ys ≡ set xs i n → parts_of n ≡ p → parts_row ys ≡ set (parts_row xs) i p
row_set xs ys i n p is e = ap parts_row is ∙ set_parts xs i n ∙ ap (set (parts_row xs) i) e

pub row_inside : (xs : List ℕ) (i : ℕ) → i < length (parts_row xs) → i < length xs
row_inside xs i h = let e = length_parts xs in omega arith

pub row_here : (xs ys : List ℕ) (i n : ℕ) (p : Parts) → i < length (parts_row xs) → ys ≡ set xs i n → parts_of n ≡ p → word_at (parts_row ys) i ≡ p
row_here xs ys i n p inside is e = row_at ys i ∙ ap parts_of (ap (λ (zs : List ℕ). get_or zs i 0) is ∙ get_or-set_same xs i n 0 (row_inside xs i inside)) ∙ e

pub row_known : (xs ys : List ℕ) (i n : ℕ) → i < length (parts_row xs) → ys ≡ set xs i n → parts_row ys ≡ set (parts_row xs) i (word_at (parts_row ys) i)
row_known xs ys i n inside is = row_set xs ys i n (word_at (parts_row ys) i) is (sym (row_here xs ys i n (parts_of n) inside is refl))

pub learned_at : (xs : List ℕ) (i n : ℕ) (p : Parts) → LearnedWord (get_or xs i 0) n → parts_of n ≡ p → Learned true (word_at (parts_row xs) i) p
learned_at xs i n p h e = let P : Parts × Parts → Type 0 = λ x. Learned true x.0 x.1 in subst P (λ q. (sym (row_at xs i) q, e q)) (learned_parts (get_or xs i 0) n h)

-- a word that was never used stays so
pub unused_at : (xs : List ℕ) (i n : ℕ) (p : Parts) → LearnedWord (get_or xs i 0) n → parts_of n ≡ p → word_at (parts_row xs) i ≡ never → p ≡ never
unused_at xs i n p h e unused =
    ⊎_elim (λ same. sym e ∙ ap parts_of same ∙ sym (row_at xs i) ∙ unused)
    (λ (l : Grown (get_or xs i 0) n).
    let none : l.0 ≡ 0 = ap (λ (q : Parts). q.stamp) (sym (live_is l.0 l.1 (get_or xs i 0) l.2 l.4) ∙ sym (row_at xs i) ∙ unused) in
    let some = l.3 in
    absurd (omega arith))
    h

pub open_at : (xs : List ℕ) (i s f : ℕ) → IsInForce s f (word_at (parts_row xs) i) → IsOpen (get_or xs i 0) s × (mark_of (get_or xs i 0) ≡ 0 → f ≤ field_of (get_or xs i 0))
open_at xs i s f h = in_force_open s f (get_or xs i 0) (let P : Parts → Type 0 = λ p. IsInForce s f p in subst P (row_at xs i) h)

module _ (v w : View) (i s : ℕ) (inside : i < length (parts_row v.seen)) where
  abbrev xs : List ℕ
  xs = v.seen

  -- the row after a step that saw the word n, whose parts are p
  shows : (n : ℕ) (p : Parts) → w.seen ≡ set xs i n → parts_of n ≡ p → (word_at (parts_row w.seen) i ≡ p) × (parts_row w.seen ≡ set (parts_row xs) i (word_at (parts_row w.seen) i))
  shows n p is e = (row_here xs w.seen i n p inside is e, row_known xs w.seen i n inside is)

  -- what was learned of the word that is then known
  learned_to : (n : ℕ) (p : Parts) → LearnedWord (get_or xs i 0) n → parts_of n ≡ p → word_at (parts_row w.seen) i ≡ p → Learned true (word_at (parts_row xs) i) (word_at (parts_row w.seen) i)
  learned_to n p learned e here = let P : Parts → Type 0 = λ q. Learned true (word_at (parts_row xs) i) q in subst P (sym here) (learned_at xs i n p learned e)

  -- a settle, in parts
  pub settles_parts : (at : ℕ) (r : Settled) → IsInForce s at (word_at (parts_row xs) i) → at ≤ 4398046511103 → KeeperSettles v i s at r w
      → IsSettled true s at (word_at (parts_row xs) i) r (word_at (parts_row w.seen) i) × (parts_row w.seen ≡ set (parts_row xs) i (word_at (parts_row w.seen) i))
  settles_parts at SettledExpired asked small h =
      let known = open_at xs i s at asked in
      let x : ℕ = get_or xs i 0 in
      let was : x ≡ word s 0 at = ⊎_elim (λ (e : word s 0 at ≡ x). sym e)
      (λ (l : Grown x (word s 0 at)). let a = l.2 in let b = l.4 in let mx : mark_of x ≡ 0 = omega arith in let f = known.1 mx in ⊎_elim
      (λ (e : (e : ℕ) × (l.1 ≤ e) × (e ≤ 4398046511103) × (word s 0 at ≡ word l.0 0 e)). let c = e.1 in let d = e.2 in let k = e.3 in omega arith)
      (λ (e : word s 0 at ≡ word l.0 1 0). absurd (omega arith)) l.5) h.0 in
      let now = shows (word s 2 at) (expired s at) (ap (λ (u : View). u.seen) h.1) (expired_is s at (word s 2 at) refl small) in
      ((row_at xs i ∙ live_is s at x was small, now.0), now.1)
  settles_parts at (Later d) asked small h =
      let e = live_is s d (word s 0 d) refl h.1 in
      let now = shows (word s 0 d) (live s d) (ap (λ (u : View). u.seen) h.2.0) e in
      ((h.0, now.0, learned_to (word s 0 d) (live s d) h.2.1 e now.0), now.1)
  settles_parts at SettledCancelled asked small h =
      let e = cancelled_is s (word s 1 0) refl in
      let now = shows (word s 1 0) (cancelled s) (ap (λ (u : View). u.seen) h.0) e in
      ((now.0, learned_to (word s 1 0) (cancelled s) h.1 e now.0), now.1)

  -- a word that was found cancelled
  missed_parts : (n : ℕ) → LearnedWord (get_or xs i 0) (word s 1 0) → w ≡ after_failures v i (word s 1 0) n
      → Learned true (word_at (parts_row xs) i) (cancelled s) × (word_at (parts_row w.seen) i ≡ cancelled s) × (parts_row w.seen ≡ set (parts_row xs) i (word_at (parts_row w.seen) i))
  missed_parts n learned is =
      let e = cancelled_is s (word s 1 0) refl in
      let now = shows (word s 1 0) (cancelled s) (ap (λ (u : View). u.seen) is) e in
      (learned_at xs i (word s 1 0) (cancelled s) learned e, now.0, now.1)

  -- a renew, in parts
  pub renews_parts : (when : ℕ) (r : Option ℕ) → when ≤ 4398046511103 → KeeperRenews v i s when r w
      → IsChanged true s (λ d. live (s + 1) when) (word_at (parts_row xs) i) r (word_at (parts_row w.seen) i) × (parts_row w.seen ≡ set (parts_row xs) i (word_at (parts_row w.seen) i))
  renews_parts when (Some d) small h =
      let now = shows (word (s + 1) 0 when) (live (s + 1) when) (ap (λ (u : View). u.seen) h.2.1 ∙ set-set xs i (word s 0 d) (word (s + 1) 0 when)) (live_is (s + 1) when (word (s + 1) 0 when) refl small) in
      ((learned_at xs i (word s 0 d) (live s d) h.1 (live_is s d (word s 0 d) refl h.0), now.0), now.1)
  renews_parts when None small h = let m = missed_parts h.1.0 h.0 h.1.1 in ((m.0, m.1), m.2)

  -- a finish, in parts
  pub finishes_parts : (r : Option ℕ) → KeeperFinishes v i s r w → IsChanged true s (removed s) (word_at (parts_row xs) i) r (word_at (parts_row w.seen) i) × (parts_row w.seen ≡ set (parts_row xs) i (word_at (parts_row w.seen) i))
  finishes_parts (Some d) h =
      let now = shows (word s 3 d) (removed s d) (ap (λ (u : View). u.seen) h.2.1 ∙ set-set xs i (word s 0 d) (word s 3 d)) (removed_is s d (word s 3 d) refl h.0) in
      ((learned_at xs i (word s 0 d) (live s d) h.1 (live_is s d (word s 0 d) refl h.0), now.0), now.1)
  finishes_parts None h = let m = missed_parts h.1.0 h.0 h.1.1 in ((m.0, m.1), m.2)

  -- a finish by a tick, in parts
  pub finishes_by_parts : (tick : ℕ) (r : Look) → KeeperFinishesBy v i s tick r w → IsFinishedBy true s tick (word_at (parts_row xs) i) r (word_at (parts_row w.seen) i) × (parts_row w.seen ≡ set (parts_row xs) i (word_at (parts_row w.seen) i))
  finishes_by_parts tick (LookRemoved d) h = let m = finishes_parts (Some d) h.1 in ((h.0, m.0), m.1)
  finishes_by_parts tick (StillLive d) h =
      let e = live_is s d (word s 0 d) refl h.1 in
      let now = shows (word s 0 d) (live s d) (ap (λ (u : View). u.seen) h.3.1) e in
      ((h.0, (learned_at xs i (word s 0 d) (live s d) h.2 e, now.0)), now.1)
  finishes_by_parts tick LookCancelled h = finishes_parts None h
  finishes_by_parts tick (LookExpired d) h = absurd h
