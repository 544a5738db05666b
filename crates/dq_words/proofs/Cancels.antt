-- A fetch_max that cancels.
use Rattle.std.proofs.Common.{◌≡◌, ◌≢◌, ℕ, ◌<◌, ◌≤◌, ◌⊎◌, max, false, true≢false, List, [], ◌∷◌, get_or, set, sym, refl, ap, ◌∙◌, subst, inl, inr, ⊎_elim, arith}
use mathlib.Core.Option.{some, none}
use lib.ListN.{get_elem?}
use Rattle.atomic_table.specs.Table.{State, step, keeps, Allows}
use Rattle.dq_words.specs.declared.views.View.{View}
use Rattle.dq_words.specs.declared.views.Call.TheVariants.{Cancel}
use Rattle.dq_words.specs.declared.views.StepKind.TheVariants.{CallerLoad}
use Rattle.dq_ticks.specs.Word.{word, stamp_of, mark_of, field_of}
use Rattle.dq_words.specs.Word.{LearnedWord}
use Rattle.dq_words.specs.Counts.{lives, withdrawn}
use Rattle.dq_words.specs.Files.{is_at, File, file, IsIn, Among, extends_at, cancels_at, bases_at, ends_at, gathered, keeper_writes}
use Rattle.dq_words.specs.Rule.{LivingStamp, CancelledStamp, Law, Kept, Ruled}
use Rattle.dq_words.specs.Plays.{WordMe, Knowing, cancelling, cancel_made}
use Rattle.dq_words.proofs.Gathers.{at_other_slot, at_other_stamp, if_here, if_other, has_with_if, gathered_same, gathered_one, gathered_grows, writes_same, file_of, set_at}
use Rattle.dq_words.proofs.Advances.{by_index, by_order, Grows, Moves, still, after}
use Rattle.dq_words.proofs.Knowing.{knows}
use Rattle.dq_words.proofs.Tallies.{lives_yes, lives_no, withdrawn_yes, withdrawn_no, counts_calls, gone_none, ruled_after, all_cancels}
use Rattle.dq_words.proofs.Steps.{law_live, fair, missed, Outcome}
use Rattle.dq_words.proofs.Extends.{by_hit}

cancel_law : (n s d : ℕ) (f f' : File) → LivingStamp n s f → n ≡ word s 0 d → d ≤ 4398046511103 → f'.bases ≡ f.bases → f'.ends ≡ f.ends → f'.extends ≡ f.extends → (f.cancels ≡ [] → f'.cancels ≡ d ∷ []) → CancelledStamp (word s 1 0) s f'
cancel_law n s d f f' l now small bs es xs cs =
    let was = l.now in let low = l.small in
    let same : l.deadline ≡ d = omega arith in
    let among : (y : ℕ) → Among f' y → Among f y = λ y a. ⊎_elim
    (λ h. inl (let Q : List ℕ → Type 0 = λ zs. IsIn zs y in subst Q bs h))
    (λ h. inr (let Q : List ℕ → Type 0 = λ zs. IsIn zs y in subst Q xs h)) a in
    let reached : Among f' d = ⊎_elim
    (λ h. inl (let Q : List ℕ × ℕ → Type 0 = λ z. IsIn z.0 z.1 in subst Q (λ k. (sym bs k, same k)) h))
    (λ h. inr (let Q : List ℕ × ℕ → Type 0 = λ z. IsIn z.0 z.1 in subst Q (λ k. (sym xs k, same k)) h)) l.in_force.0 in
    let bound : (y : ℕ) → Among f' y → y ≤ d = λ y a. let b = l.in_force.1 y (among y a) in omega arith in
    record { base = l.base; deadline = d; given = bs ∙ l.given; unended = es ∙ l.unended; cancelled = cs l.uncancelled; in_force = (reached, bound); small = small; now = inl refl }

module _ (vs : List View) (id : ℕ) (v w : View) (at : get_elem? vs id ≡ some v) (i s d : ℕ) (c : w.calls ≡ Cancel i s d ∷ v.calls) (e : w.writes ≡ v.writes) where
  k : keeper_writes (set vs id w) ≡ keeper_writes vs
  k = writes_same vs id v w at e

  extends_same : (j z : ℕ) → gathered (extends_at j z) (set vs id w) ≡ gathered (extends_at j z) vs
  extends_same j z = gathered_same (extends_at j z) vs id v w at (ap (extends_at j z) c)

  pub cancel_other : (j z : ℕ) → is_at j z i s ≡ false → file j z (set vs id w) ≡ file j z vs
  cancel_other j z off = file_of _ _ _ _ _ _ _ _ (ap (bases_at j z) k) (ap (ends_at j z) k) (extends_same j z)
      (gathered_same (cancels_at j z) vs id v w at (ap (cancels_at j z) c ∙ if_other (is_at j z i s) d (cancels_at j z v.calls) off))

  pub cancel_grows : (j z : ℕ) → Grows (file j z vs) (file j z (set vs id w))
  cancel_grows j z = record {
    bases = λ x h. let P : List ℕ → Type 0 = λ xs. IsIn xs x in subst P (sym (ap (bases_at j z) k)) h;
    ends = λ x h. let P : List (ℕ × ℕ) → Type 0 = λ xs. IsIn xs x in subst P (sym (ap (ends_at j z) k)) h;
    extends = λ x h. let P : List ℕ → Type 0 = λ xs. IsIn xs x in subst P (sym (extends_same j z)) h;
    cancels = λ x h. gathered_grows (cancels_at j z) vs id v w x at
        (λ own. let P : List ℕ → Type 0 = λ xs. IsIn xs x in subst P (sym (ap (cancels_at j z) c)) (has_with_if (is_at j z i s) d (cancels_at j z v.calls) x own)) h;
  }

  pub cancel_here : (n : ℕ) → LivingStamp n s (file i s vs) → n ≡ word s 0 d → d ≤ 4398046511103 → CancelledStamp (word s 1 0) s (file i s (set vs id w))
  cancel_here n l now small = cancel_law n s d (file i s vs) (file i s (set vs id w)) l now small (ap (bases_at i s) k) (ap (ends_at i s) k) (extends_same i s)
      (λ none_yet. gathered_one (cancels_at i s) vs id v w d at (ap (cancels_at i s) c ∙ if_here i s d (cancels_at i s v.calls)) none_yet)

-- the keeper may still learn a word that was cancelled
learned_cancel : (x n s : ℕ) → stamp_of n ≡ s → mark_of n ≡ 0 → 0 < s → LearnedWord x n → LearnedWord x (word s 1 0)
learned_cancel x n s at m pos h = ⊎_elim
    (λ (e : n ≡ x). inr (s, field_of n, omega arith, pos, omega arith, inr refl))
    (λ (l : (s' : ℕ) × (d : ℕ) × (x ≡ word s' 0 d) × (0 < s') × (d ≤ 4398046511103) × (((e : ℕ) × (d ≤ e) × (e ≤ 4398046511103) × (n ≡ word s' 0 e)) ⊎ (n ≡ word s' 1 0))). inr (
      l.0,
      l.1,
      l.2,
      l.3,
      l.4,
      inr (⊎_elim
          (λ (e : (e : ℕ) × (l.1 ≤ e) × (e ≤ 4398046511103) × (n ≡ word l.0 0 e)). let b = e.2 in let c = e.3 in omega arith)
          (λ (e : n ≡ word l.0 1 0). absurd (omega arith))
          l.5),
    ))
    h

module _ (rows : ℕ) (t : State ℕ View) (r : Kept rows t) (i id : ℕ) (v : View) (inside : i < rows) (at : get_elem? t.views id ≡ some v) (caller : v.keeps ≡ false) where
  given_up : (n k : ℕ) → get_or t.words i 0 ≡ n → 0 < stamp_of k → k ≡ word (stamp_of k) 1 0 → stamp_of n ≡ stamp_of k → mark_of n ≡ 0 → Moves rows t i id v (cancelling v i k (field_of n) k) n k
  given_up n k found pos ks same nm =
      let d : ℕ = field_of n in
      let w : View = cancelling v i k d k in
      let s : ℕ = stamp_of k in
      let law = λ (z : ℕ) (p : 0 < z). let P : ℕ → Type 0 = λ x. Law x z (file i z t.views) in let h : Law n z (file i z t.views) = subst P found (r.cells i z inside p) in h in
      record {
        inside = inside;
        seat = at;
        found = found;
        greater = omega arith;
        unused = λ h. absurd (omega arith);
        saw = refl;
        keeps = refl;
        stays = λ _. refl;
        passes = refl;
        no_calls = λ yes. absurd (true≢false (sym yes ∙ caller));
        no_writes = λ _. refl;
        grows = cancel_grows t.views id v w at i s d refl refl;
        elsewhere = λ j z far. cancel_other t.views id v w at i s d refl refl j z (⊎_elim (λ ne. at_other_slot j z i s ne) (λ zeroth. at_other_stamp j z i s (λ e. omega arith)) far);
        cells = λ z p. by_index s z (Law k z (file i z (set t.views id w)))
            (λ e. let P : ℕ → Type 0 = λ y. Law k y (file i y (set t.views id w)) in let Q : ℕ → Type 0 = λ y. Law y s (file i s (set t.views id w)) in
            subst P (sym e) (subst Q (sym ks) (inr (inr (inl (cancel_here t.views id v w at i s d refl refl n (law_live n s (file i s t.views) same nm (law s pos)) (omega arith) (omega arith)))))))
            (λ ne. let P : File → Type 0 = λ f. Law k z f in
            subst P (sym (cancel_other t.views id v w at i s d refl refl i z (at_other_stamp i z i s ne))) (still n k z (file i z t.views) (λ h. omega arith) (λ h. (omega arith, omega arith)) (law z p)));
        learns = λ _ x h. let Q : ℕ → Type 0 = λ y. LearnedWord x y in subst Q (sym ks) (learned_cancel x n s same nm pos h);
      }

module _ (rows : ℕ) where
  pub cancels : (slots id : ℕ) (me : WordMe) (i k : ℕ) → i < rows → me.0.gone ≡ false → me.0.keeps ≡ false → 0 < stamp_of k → k ≡ word (stamp_of k) 1 0 → k < 18446744073709551616 → stamp_of k ≤ stamp_of (get_or me.0.seen i 0)
      → Allows (Ruled rows) slots id me i (λ n. max n k) (Knowing cancel_made (step slots i k 0 none) me)
  cancels slots id me i k inside here caller pos ks small given = knows rows slots id me i (λ n. max n k) (cancel_made (step slots i k 0 none) me) (λ t r sized at wide.
      let n : ℕ = get_or t.words i 0 in
      let low = (r.kept.sees id me.0 at).below i inside in
      by_hit n k (Outcome rows t i id me (max n k) (cancel_made (step slots i k 0 none) me n))
      (λ same nm. let w : View = cancelling me.0 i k (field_of n) k in
      let one : lives n ≡ 1 = lives_yes n nm (omega arith) in
      let shut : withdrawn k ≡ 1 = withdrawn_yes k (omega arith) in
      let not_shut : withdrawn n ≡ 0 = withdrawn_no n (λ e. omega arith) in
      let none_left : lives k ≡ 0 = lives_no k (λ e. omega arith) in
      let ruled : Ruled rows (after t i k id me.1 w) = ruled_after rows t r i id me.0 w n k (given_up rows t r.kept i id me.0 inside at caller n k refl pos ks same nm)
      (counts_calls rows t i id me.0 w n k inside at refl small here refl refl (gone_none w here ∙ sym (gone_none me.0 here)) refl refl refl refl (omega arith) (omega arith) (sym same)) me.1 in
      let P : ℕ → Type 0 = λ m. Outcome rows t i id me m (cancel_made (step slots i k 0 none) me n) in
      let e : k ≡ max n k = omega arith in
      subst P e (w, keeps, tt, ruled, (low, fair rows t r.kept i id me.0 inside at, inl ((same, nm), refl, all_cancels rows (after t i k id me.1 w) ruled id w (set_at t.views id me.0 w at)))))
      (λ no. missed rows t r i id me CallerLoad (max n k) (cancel_made (step slots i k 0 none) me n) inside at here
      (let m : stamp_of n ≡ stamp_of k → mark_of n ≢ 0 = no in by_order (stamp_of n) (stamp_of k) (max n k ≡ n) (λ le. let e : stamp_of n ≡ stamp_of k = omega arith in let z = m e in omega arith) (λ lt. omega arith))
      (low, fair rows t r.kept i id me.0 inside at, inr (no, refl))))
