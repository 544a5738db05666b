-- Loads keep the rule.
use Rattle.std.proofs.Common.{◌≡◌, ◌≢◌, ℕ, ◌<◌, ◌≤◌, true, false, List, [], get_or, set, sym, refl, ap, subst, inr, ⊎_elim, le_refl, arith}
use mathlib.Core.Option.{some, none}
use lib.ListN.{get_elem?}
use Rattle.atomic_table.specs.Table.{State, step, Act, keeps, Valid, stepped, carried_after, Allows}
use Rattle.dq_words.specs.declared.views.View.{View}
use Rattle.dq_words.specs.declared.views.StepKind.{StepKind}
use Rattle.dq_words.specs.declared.views.StepKind.TheVariants.{KeeperLoad, CallerLoad}
use Rattle.dq_ticks.specs.Word.{word, stamp_of, mark_of, field_of}
use Rattle.dq_words.specs.Word.{Left}
use Rattle.dq_words.specs.Files.{File, blank, file, IsIn, extends_at, cancels_at, gathered}
use Rattle.dq_words.specs.Rule.{UnbornStamp, LivingStamp, CancelledStamp, EndedStamp, Law, Kept, Ruled}
use Rattle.dq_words.specs.Plays.{Knowing, Fair, stepping, WordMe, caller_loaded, keeper_loaded}
use Rattle.dq_words.proofs.Gathers.{file_same, gathered_own, gathered_nil}
use Rattle.dq_words.proofs.Advances.{grows_same, after, by_order, role_here}
use Rattle.dq_words.proofs.Knowing.{knows}
use Rattle.dq_words.proofs.Tallies.{counts_calls, ruled_after}

-- the law of a stamp, by the mark of the word
pub law_live : (n s : ℕ) (f : File) → stamp_of n ≡ s → mark_of n ≡ 0 → Law n s f → LivingStamp n s f
law_live n s f at m law = ⊎_elim
    (λ (u : UnbornStamp n s f). absurd (let b = u.below in omega arith))
    (⊎_elim (λ l. l)
    (⊎_elim (λ (c : CancelledStamp n s f). absurd (⊎_elim (λ (now : n ≡ word s 1 0). omega arith) (λ (now : Left n s). omega arith) c.now))
    (λ (e : EndedStamp n s f). absurd (⊎_elim (λ (now : (n ≡ word s e.mark e.deadline) × (1 < e.mark) × (e.mark < 4)). let small = e.small in let a = now.0 in let b = now.1 in let d = now.2 in omega arith) (λ (now : Left n s). omega arith) e.now))))
    law

-- what a word that is not cancelled shows
pub law_shows : (n s : ℕ) (f : File) → stamp_of n ≡ s → mark_of n ≢ 1 → Law n s f → ((x : ℕ) → IsIn f.extends x → x ≤ field_of n) × (f.cancels ≡ [])
law_shows n s f at m law = ⊎_elim
    (λ (u : UnbornStamp n s f). absurd (let b = u.below in omega arith))
    (⊎_elim (λ (l : LivingStamp n s f). ((λ x h. let a = l.in_force.1 x (inr h) in let b = l.now in let c = l.small in omega arith), l.uncancelled))
    (⊎_elim (λ (c : CancelledStamp n s f). absurd (⊎_elim (λ (now : n ≡ word s 1 0). m (omega arith)) (λ (now : Left n s). omega arith) c.now))
    (λ (e : EndedStamp n s f). (
      (λ x h. ⊎_elim (λ (now : (n ≡ word s e.mark e.deadline) × (1 < e.mark) × (e.mark < 4)). let small = e.small in let a = now.0 in let d = now.2 in let b = e.in_force.1 x (inr h) in omega arith) (λ (now : Left n s). absurd (omega arith)) e.now),
      e.uncancelled,
    ))))
    law

-- a stamp beyond the word's has no file
pub law_beyond : (n s : ℕ) (f : File) → stamp_of n < s → Law n s f → f ≡ blank
law_beyond n s f at law = ⊎_elim
    (λ (u : UnbornStamp n s f). u.none)
    (⊎_elim (λ (l : LivingStamp n s f). absurd (let b = l.now in let c = l.small in omega arith))
    (⊎_elim (λ (c : CancelledStamp n s f). absurd (⊎_elim (λ (now : n ≡ word s 1 0). omega arith) (λ (now : Left n s). omega arith) c.now))
    (λ (e : EndedStamp n s f). absurd (⊎_elim (λ (now : (n ≡ word s e.mark e.deadline) × (1 < e.mark) × (e.mark < 4)). let small = e.small in let a = now.0 in let d = now.2 in omega arith) (λ (now : Left n s). omega arith) e.now))))
    law

none_has : {A : Type 0} (xs : List A) (x : A) → xs ≡ [] → IsIn xs x → ⊥
none_has xs x e h = let P = λ (ys : List _). IsIn ys x in subst P e h

module _ (rows : ℕ) (t : State ℕ View) (r : Kept rows t) (i id : ℕ) (v : View) (inside : i < rows) (at : get_elem? t.views id ≡ some v) where
  shown : (s : ℕ) → stamp_of (get_or t.words i 0) ≡ s → mark_of (get_or t.words i 0) ≢ 1 → ((x : ℕ) → IsIn (gathered (extends_at i s) t.views) x → x ≤ field_of (get_or t.words i 0)) × (gathered (cancels_at i s) t.views ≡ [])
  shown s e m = by_order 1 s _
      (λ pos. law_shows (get_or t.words i 0) s (file i s t.views) e m (r.cells i s inside pos))
      (λ zeroth. let b : file i s t.views ≡ blank = r.outside i s (inr (omega arith)) in ((λ x h. absurd (none_has (gathered (extends_at i s) t.views) x (ap (λ (f : File). f.extends) b) h)), ap (λ (f : File). f.cancels) b))

  pub fair : Fair v.calls i (get_or t.words i 0)
  fair = (
    (λ m. let s : ℕ = stamp_of (get_or t.words i 0) in let h = shown s refl m in
        ((λ x own. h.0 x (gathered_own (extends_at i s) t.views id v x at own)), gathered_nil (cancels_at i s) t.views id v at h.1)),
    (λ s far. let b : file i s t.views ≡ blank = law_beyond (get_or t.words i 0) s (file i s t.views) far (r.cells i s inside (omega arith)) in
        (gathered_nil (extends_at i s) t.views id v at (ap (λ (f : File). f.extends) b), gathered_nil (cancels_at i s) t.views id v at (ap (λ (f : File). f.cancels) b))),
  )

-- a step that leaves the word
pub stays : (rows : ℕ) (t : State ℕ View) (r : Ruled rows t) (i id : ℕ) (v : View) → i < rows → get_elem? t.views id ≡ some v → v.gone ≡ false → (kind : StepKind) (held : List (ℕ × ℕ)) → Ruled rows (after t i (get_or t.words i 0) id held (stepping v i (get_or t.words i 0) kind))
stays rows t r i id v inside at here kind held =
    let n : ℕ = get_or t.words i 0 in
    let w : View = stepping v i n kind in
    let same = λ (j s : ℕ). file_same t.views id v w j s at refl refl in
    ruled_after rows t r i id v w n n
    (record {
      inside = inside;
      seat = at;
      found = refl;
      greater = le_refl n;
      unused = r.kept.unused i inside;
      saw = refl;
      keeps = refl;
      stays = λ _. refl;
      passes = refl;
      no_calls = λ _. refl;
      no_writes = λ _. refl;
      grows = λ j s. grows_same (file j s t.views) (file j s (set t.views id w)) (same j s);
      elsewhere = λ j s _. same j s;
      cells = λ s pos. let P : File → Type 0 = λ f. Law n s f in subst P (sym (same i s)) (r.kept.cells i s inside pos);
      learns = λ _ x h. h;
    })
    (counts_calls rows t i id v w n n inside at refl (r.tallied.wide i inside) here refl refl refl refl refl refl refl refl refl refl)
    held

-- what a step gives, at one state
abbrev pub Outcome : ℕ → State ℕ View → ℕ → ℕ → WordMe → ℕ → (WordMe → Type 0) → Type 0
Outcome rows t i id me n then = (w : View) × (a : Act ℕ) × Valid t.homes me.1 a × Ruled rows (stepped t i n id me.1 w a) × then (w, carried_after me.1 a)

-- a step that changes nothing
pub missed : (rows : ℕ) (t : State ℕ View) (r : Ruled rows t) (i id : ℕ) (me : WordMe) (kind : StepKind) (n : ℕ) (then : WordMe → Type 0) → i < rows → get_elem? t.views id ≡ some me.0 → me.0.gone ≡ false
    → n ≡ get_or t.words i 0 → then (stepping me.0 i (get_or t.words i 0) kind, me.1) → Outcome rows t i id me n then
missed rows t r i id me kind n then inside at here e tells =
    let P : ℕ → Type 0 = λ m. Outcome rows t i id me m then in
    subst P (sym e) (stepping me.0 i (get_or t.words i 0) kind, keeps, tt, stays rows t r i id me.0 inside at here kind me.1, tells)

module _ (rows : ℕ) where
  pub caller_loads : (slots id : ℕ) (me : WordMe) (i : ℕ) → i < rows → me.0.gone ≡ false → Allows (Ruled rows) slots id me i (λ n. n) (Knowing caller_loaded (step slots i 0 0 none) me)
  caller_loads slots id me i inside here = knows rows slots id me i (λ n. n) (caller_loaded (step slots i 0 0 none) me) (λ t r sized at wide.
      missed rows t r i id me CallerLoad (get_or t.words i 0) (caller_loaded (step slots i 0 0 none) me (get_or t.words i 0)) inside at here refl
      (refl, (r.kept.sees id me.0 at).below i inside, fair rows t r.kept i id me.0 inside at))

  pub keeper_loads : (slots id : ℕ) (me : WordMe) (i : ℕ) → i < rows → me.0.keeps ≡ true → Allows (Ruled rows) slots id me i (λ n. n) (Knowing keeper_loaded (step slots i 0 0 none) me)
  keeper_loads slots id me i inside keeper = knows rows slots id me i (λ n. n) (keeper_loaded (step slots i 0 0 none) me) (λ t r sized at wide.
      missed rows t r i id me KeeperLoad (get_or t.words i 0) (keeper_loaded (step slots i 0 0 none) me (get_or t.words i 0)) inside at (role_here id me.0 (r.kept.sees id me.0 at).role keeper) refl
      (refl, (r.kept.sees id me.0 at).learns keeper i inside))
