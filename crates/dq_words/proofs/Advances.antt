-- A step on one slot keeps the rule, where it keeps the law of each stamp of that slot.
use Rattle.std.proofs.Common.{◌≡◌, ◌≢◌, ℕ, zero, suc, ◌*◌, ◌<◌, ◌≤◌, ◌⊎◌, Bool, true, false, true≢false, List, [], ◌∷◌, length, get_or, set, sym, refl, ap, ◌∙◌, subst, inl, inr, ⊎_elim, length-set, get_or-set_same, get_or-set_other, arith}
use mathlib.Core.Option.{some}
use mathlib.Core.Logic.{dite}
use native.Mathlib.Decide.{ℕ_discrete, dec_le}
use lib.ListN.{get_elem?}
use Rattle.atomic_table.specs.Table.{State}
use Rattle.atomic_table.proofs.Lists.{at_set}
use Rattle.dq_words.specs.declared.views.View.{View}
use Rattle.dq_ticks.specs.Word.{stamp_unit, word, stamp_of}
use Rattle.dq_words.specs.Word.{Left, LearnedWord}
use Rattle.dq_words.specs.Files.{File, file, IsIn, Among}
use Rattle.dq_words.specs.Rule.{UnbornStamp, LivingStamp, CancelledStamp, EndedStamp, Law, HadAt, Had, Role, Sees, Kept}

-- two cases of an index
pub by_index : (i j : ℕ) (P : Type 0) → (j ≡ i → P) → (j ≢ i → P) → P
by_index i j P same other = dite (ℕ_discrete j i) same other

-- two cases of an order
pub by_order : (a b : ℕ) (P : Type 0) → (a ≤ b → P) → (b < a → P) → P
by_order a b P le lt = dite (dec_le a b) le (λ no. lt (omega arith))

pub get_here : (xs : List ℕ) (i j n : ℕ) → i < length xs → j ≡ i → get_or (set xs i n) j 0 ≡ n
get_here xs i j n h e = ap (λ k. get_or (set xs i n) k 0) e ∙ get_or-set_same xs i n 0 h

-- the file f' has all that f has
pub record Grows (f f' : File) : Type 0 where
  pub bases : (x : ℕ) → IsIn f.bases x → IsIn f'.bases x
  pub ends : (x : ℕ × ℕ) → IsIn f.ends x → IsIn f'.ends x
  pub extends : (x : ℕ) → IsIn f.extends x → IsIn f'.extends x
  pub cancels : (x : ℕ) → IsIn f.cancels x → IsIn f'.cancels x

pub grows_same : (f f' : File) → f' ≡ f → Grows f f'
grows_same f f' e = subst (λ (g : File). Grows f g) (sym e) (record { bases = λ x h. h; ends = λ x h. h; extends = λ x h. h; cancels = λ x h. h })

had_grows : (x s : ℕ) (f f' : File) → Grows f f' → HadAt x s f → HadAt x s f'
had_grows x s f f' g h = ⊎_elim
    (λ (a : (d : ℕ) × (x ≡ word s 0 d) × (d ≤ 4398046511103) × Among f d). inl (a.0, a.1, a.2, ⊎_elim (λ b. inl (g.bases a.0 b)) (λ b. inr (g.extends a.0 b)) a.3))
    (λ k. inr (⊎_elim (λ (a : (d : ℕ) × (x ≡ word s 1 0) × IsIn f.cancels d). inl (a.0, a.1, g.cancels a.0 a.2))
    (λ (a : (m : ℕ) × (d : ℕ) × (x ≡ word s m d) × (1 < m) × (m < 4) × (d ≤ 4398046511103) × IsIn f.ends (m, d)). inr (a.0, a.1, a.2, a.3, a.4, a.5, g.ends (a.0, a.1) a.6)) k))
    h

one_has : {A : Type 0} (xs : List A) (x : A) → xs ≡ x ∷ [] → IsIn xs x
one_has xs x e = let P = λ (ys : List _). IsIn ys x in subst P (sym e) (inl refl)

-- the word of a slot is one that it has had
pub present : (n s : ℕ) (f : File) → stamp_of n ≡ s → Law n s f → HadAt n s f
present n s f at law = ⊎_elim
    (λ (u : UnbornStamp n s f). absurd (let b = u.below in omega arith))
    (⊎_elim (λ (l : LivingStamp n s f). inl (l.deadline, l.now, l.small, l.in_force.0))
    (⊎_elim (λ (c : CancelledStamp n s f). ⊎_elim (λ now. inr (inl (c.deadline, now, one_has f.cancels c.deadline c.cancelled))) (λ left. absurd (omega arith)) c.now)
    (λ (e : EndedStamp n s f). ⊎_elim (λ (now : (n ≡ word s e.mark e.deadline) × (1 < e.mark) × (e.mark < 4)). inr (inr (e.mark, e.deadline, now.0, now.1, now.2, e.small, one_has f.ends (e.mark, e.deadline) e.ended))) (λ left. absurd (omega arith)) e.now)))
    law

-- a stamp that is neither the word's before nor its after the step keeps its law
pub still : (n n' s : ℕ) (f : File) → (n < s * stamp_unit → n' < s * stamp_unit) → (s * stamp_unit ≤ n → Left n s × Left n' s) → Law n s f → Law n' s f
still n n' s f ahead behind law = ⊎_elim
    (λ (u : UnbornStamp n s f). inl record { none = u.none; below = ahead u.below })
    (⊎_elim (λ (l : LivingStamp n s f). let now = l.now in let small = l.small in let b = behind (omega arith) in absurd (omega arith))
    (⊎_elim (λ (c : CancelledStamp n s f). let b : s * stamp_unit ≤ n = ⊎_elim (λ (now : n ≡ word s 1 0). omega arith) (λ (now : Left n s). omega arith) c.now in
    inr (inr (inl record { base = c.base; deadline = c.deadline; given = c.given; unended = c.unended; cancelled = c.cancelled; in_force = c.in_force; small = c.small; now = inr (behind b).1 })))
    (λ (e : EndedStamp n s f). let b : s * stamp_unit ≤ n = ⊎_elim (λ (now : (n ≡ word s e.mark e.deadline) × (1 < e.mark) × (e.mark < 4)). let m = now.0 in omega arith) (λ (now : Left n s). omega arith) e.now in
    inr (inr (inr record { base = e.base; deadline = e.deadline; mark = e.mark; given = e.given; ended = e.ended; uncancelled = e.uncancelled; in_force = e.in_force; small = e.small; now = inr (behind b).1 })))))
    law

-- what a step of the seat `id` on the slot i owes, where its view goes from v to w and the word from n to n'
pub record Moves (rows : ℕ) (t : State ℕ View) (i id : ℕ) (v w : View) (n n' : ℕ) : Type 0 where
  pub inside : i < rows
  pub seat : get_elem? t.views id ≡ some v
  pub found : get_or t.words i 0 ≡ n
  pub greater : n ≤ n'
  pub unused : n' < stamp_unit → n' ≡ 0
  pub saw : w.seen ≡ set v.seen i n'
  pub keeps : w.keeps ≡ v.keeps
  pub stays : v.keeps ≡ true → w.gone ≡ v.gone
  pub passes : w.passes ≡ v.passes
  pub no_calls : v.keeps ≡ true → w.calls ≡ v.calls
  pub no_writes : v.keeps ≡ false → w.writes ≡ v.writes
  pub grows : (j s : ℕ) → Grows (file j s t.views) (file j s (set t.views id w))
  pub elsewhere : (j s : ℕ) → (j ≢ i) ⊎ (s ≡ 0) → file j s (set t.views id w) ≡ file j s t.views
  pub cells : (s : ℕ) → 0 < s → Law n' s (file i s (set t.views id w))
  pub learns : v.keeps ≡ false → (x : ℕ) → LearnedWord x n → LearnedWord x n'

pub role_first : (j : ℕ) (v : View) → Role j v → v.keeps ≡ true → j ≡ 0
role_first zero v r k = refl
role_first (suc j) v r k = absurd (true≢false (sym k ∙ r.0))

-- a keeper is not gone
pub role_here : (j : ℕ) (v : View) → Role j v → v.keeps ≡ true → v.gone ≡ false
role_here zero v r k = r.1
role_here (suc j) v r k = absurd (true≢false (sym k ∙ r.0))

-- a keeper is no passer
pub role_issuer : (j : ℕ) (v : View) → Role j v → v.keeps ≡ true → v.passes ≡ false
role_issuer zero v r k = r.3
role_issuer (suc j) v r k = absurd (true≢false (sym k ∙ r.0))

-- two views of one seat have one role
pub role_same : (j : ℕ) (v w : View) → Role j v → Role j w → w.keeps ≡ v.keeps
role_same zero v w r s = s.0 ∙ sym r.0
role_same (suc j) v w r s = s.0 ∙ sym r.0

pub role_after : (j : ℕ) (v w : View) → w.keeps ≡ v.keeps → w.passes ≡ v.passes → (v.keeps ≡ true → w.gone ≡ v.gone) → (v.keeps ≡ true → w.calls ≡ v.calls) → (v.keeps ≡ false → w.writes ≡ v.writes) → Role j v → Role j w
role_after zero v w k q g c e r = (k ∙ r.0, g r.0 ∙ r.1, c r.0 ∙ r.2, q ∙ r.3)
role_after (suc j) v w k q g c e r = (k ∙ r.0, e r.0 ∙ r.1)

-- the word i becomes n' and the view of the seat w
abbrev pub after : State ℕ View → ℕ → ℕ → ℕ → List (ℕ × ℕ) → View → State ℕ View
after t i n' id held w = record { words = set t.words i n'; homes = t.homes; views = set t.views id w }

is_false : (b : Bool) → (b ≡ true → ⊥) → b ≡ false
is_false true h = absurd (h refl)
is_false false h = refl

module _ (rows : ℕ) (t : State ℕ View) (r : Kept rows t) (i id : ℕ) (v w : View) (n n' : ℕ) (m : Moves rows t i id v w n n') where
  in_words : i < length t.words
  in_words = let a = r.sized in let b = m.inside in omega arith

  was : Sees rows t.words t.views id v
  was = r.sees id v m.seat

  seen_row : length w.seen ≡ rows
  seen_row = ap length m.saw ∙ length-set v.seen i n' ∙ was.row

  seen_inside : i < length v.seen
  seen_inside = let a = was.row in let b = m.inside in omega arith

  had_now : Had n' i (set t.views id w)
  had_now = by_order stamp_unit n' (Had n' i (set t.views id w))
      (λ big. let s : ℕ = stamp_of n' in inr (s, present n' s (file i s (set t.views id w)) refl (m.cells s (omega arith))))
      (λ small. inl (m.unused small))

  had_still : (x j : ℕ) → Had x j t.views → Had x j (set t.views id w)
  had_still x j h = ⊎_elim inl (λ (a : (s : ℕ) × HadAt x s (file j s t.views)). inr (a.0, had_grows x a.0 (file j a.0 t.views) (file j a.0 (set t.views id w)) (m.grows j a.0) a.1)) h

  word_same : (j : ℕ) → j ≢ i → get_or (set t.words i n') j 0 ≡ get_or t.words j 0
  word_same j ne = get_or-set_other t.words i j n' 0 ne

  word_here : (j : ℕ) → j ≡ i → get_or (set t.words i n') j 0 ≡ n'
  word_here j e = get_here t.words i j n' in_words e

  seen_here : (j : ℕ) → j ≡ i → get_or w.seen j 0 ≡ n'
  seen_here j e = ap (λ (xs : List ℕ). get_or xs j 0) m.saw ∙ get_here v.seen i j n' seen_inside e

  seen_same : (j : ℕ) → j ≢ i → get_or w.seen j 0 ≡ get_or v.seen j 0
  seen_same j ne = ap (λ (xs : List ℕ). get_or xs j 0) m.saw ∙ get_or-set_other v.seen i j n' 0 ne

  mine : Sees rows (set t.words i n') (set t.views id w) id w
  mine = record {
    role = role_after id v w m.keeps m.passes m.stays m.no_calls m.no_writes was.role;
    row = seen_row;
    below = λ j h. by_index i j (get_or w.seen j 0 ≤ get_or (set t.words i n') j 0)
        (λ e. let a = seen_here j e in let b = word_here j e in omega arith)
        (λ ne. let a = seen_same j ne in let b = word_same j ne in let c = was.below j h in omega arith);
    had = λ j h. by_index i j (Had (get_or w.seen j 0) j (set t.views id w))
        (λ e. let P : ℕ → Type 0 = λ x. Had x j (set t.views id w) in let Q : ℕ → Type 0 = λ k. Had n' k (set t.views id w) in subst P (sym (seen_here j e)) (subst Q (sym e) had_now))
        (λ ne. let P : ℕ → Type 0 = λ x. Had x j (set t.views id w) in subst P (sym (seen_same j ne)) (had_still (get_or v.seen j 0) j (was.had j h)));
    learns = λ k j h. by_index i j (LearnedWord (get_or w.seen j 0) (get_or (set t.words i n') j 0))
        (λ e. inl (word_here j e ∙ sym (seen_here j e)))
        (λ ne. let P : ℕ × ℕ → Type 0 = λ x. LearnedWord x.0 x.1 in
        subst P (λ z. (sym (seen_same j ne) z, sym (word_same j ne) z)) (was.learns (sym m.keeps ∙ k) j h));
  }

  others : (j : ℕ) (u : View) → j ≢ id → get_elem? t.views j ≡ some u → Sees rows (set t.words i n') (set t.views id w) j u
  others j u ne at = let old : Sees rows t.words t.views j u = r.sees j u at in record {
    role = old.role;
    row = old.row;
    below = λ k h. by_index i k (get_or u.seen k 0 ≤ get_or (set t.words i n') k 0)
        (λ e. let a = word_here k e in let b = old.below k h in let c = m.found in let d = m.greater in let f : get_or t.words k 0 ≡ get_or t.words i 0 = ap (λ z. get_or t.words z 0) e in omega arith)
        (λ no. let a = word_same k no in let b = old.below k h in omega arith);
    had = λ k h. had_still (get_or u.seen k 0) k (old.had k h);
    learns = λ keeps k h. let caller : v.keeps ≡ false = is_false v.keeps (λ yes. ne (role_first j u old.role keeps ∙ sym (role_first id v was.role yes))) in
        by_index i k (LearnedWord (get_or u.seen k 0) (get_or (set t.words i n') k 0))
        (λ e. let f : get_or t.words k 0 ≡ n = ap (λ z. get_or t.words z 0) e ∙ m.found in
        let P : ℕ → Type 0 = λ z. LearnedWord (get_or u.seen k 0) z in subst P (sym (word_here k e)) (m.learns caller (get_or u.seen k 0) (subst P f (old.learns keeps k h))))
        (λ no. let P : ℕ → Type 0 = λ z. LearnedWord (get_or u.seen k 0) z in subst P (sym (word_same k no)) (old.learns keeps k h));
  }

  pub advances : (held : List (ℕ × ℕ)) → Kept rows (after t i n' id held w)
  advances held = record {
    sized = length-set t.words i n' ∙ r.sized;
    cells = λ j s h pos. by_index i j (Law (get_or (set t.words i n') j 0) s (file j s (set t.views id w)))
        (λ e. let P : ℕ × ℕ → Type 0 = λ x. Law x.0 s (file x.1 s (set t.views id w)) in subst P (λ z. (sym (word_here j e) z, sym e z)) (m.cells s pos))
        (λ ne. let P : ℕ × File → Type 0 = λ x. Law x.0 s x.1 in subst P (λ z. (sym (word_same j ne) z, sym (m.elsewhere j s (inl ne)) z)) (r.cells j s h pos));
    outside = λ j s h. m.elsewhere j s (⊎_elim (λ far. let a = m.inside in inl (λ e. absurd (omega arith))) inr h) ∙ r.outside j s h;
    unused = λ j h. by_index i j (get_or (set t.words i n') j 0 < stamp_unit → get_or (set t.words i n') j 0 ≡ 0)
        (λ e. let a = word_here j e in λ small. a ∙ m.unused (omega arith))
        (λ ne. let a = word_same j ne in λ small. a ∙ r.unused j h (omega arith));
    sees = λ j u at. ⊎_elim
        (λ (x : (j ≡ id) × (w ≡ u)). let P : ℕ × View → Type 0 = λ y. Sees rows (set t.words i n') (set t.views id w) y.0 y.1 in subst P (λ z. (sym x.0 z, x.1 z)) mine)
        (λ (x : (j ≢ id) × (get_elem? t.views j ≡ some u)). others j u x.0 x.1)
        (at_set t.views id j w u at);
  }
