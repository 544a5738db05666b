-- A fetch_max that extends.
use Rattle.std.proofs.Common.{◌≡◌, ◌≢◌, ℕ, ◌+◌, ◌<◌, ◌≤◌, ◌⊎◌, max, false, true≢false, List, ◌∷◌, get_or, set, sym, refl, ap, ◌∙◌, subst, inl, inr, ⊎_elim, arith}
use mathlib.Core.Option.{some, none}
use mathlib.Core.Logic.{dite}
use native.Mathlib.Decide.{ℕ_discrete}
use lib.ListN.{get_elem?}
use Rattle.atomic_table.specs.Table.{State, step, keeps, Allows}
use Rattle.dq_words.specs.declared.views.View.{View}
use Rattle.dq_words.specs.declared.views.Call.TheVariants.{Extend}
use Rattle.dq_words.specs.declared.views.StepKind.TheVariants.{CallerLoad}
use Rattle.dq_ticks.specs.Word.{word, stamp_of, mark_of, field_of}
use Rattle.dq_words.specs.Word.{LearnedWord}
use Rattle.dq_words.specs.Counts.{cancels_in, lives, withdrawn}
use Rattle.dq_words.specs.Files.{is_at, File, file, IsIn, Among, extends_at, cancels_at, bases_at, ends_at, gathered, keeper_writes}
use Rattle.dq_words.specs.Rule.{LivingStamp, Law, Kept, Ruled}
use Rattle.dq_words.specs.Plays.{WordMe, Knowing, extending, extend_made}
use Rattle.dq_words.proofs.Gathers.{at_other_slot, at_other_stamp, if_here, if_other, has_with_if, gathered_same, gathered_back, gathered_grows, gathered_own, writes_same, file_of, set_at}
use Rattle.dq_words.proofs.Advances.{by_index, by_order, Grows, Moves, still}
use Rattle.dq_words.proofs.Knowing.{knows}
use Rattle.dq_words.proofs.Tallies.{lives_yes, withdrawn_no, counts_calls, ruled_after}
use Rattle.dq_words.proofs.Steps.{law_live, fair, missed, Outcome}

-- two cases of what a fetch_max may find
pub by_hit : (n k : ℕ) (P : Type 0) → (stamp_of n ≡ stamp_of k → mark_of n ≡ 0 → P) → ((stamp_of n ≡ stamp_of k → mark_of n ≢ 0) → P) → P
by_hit n k P hit miss = dite (ℕ_discrete (stamp_of n) (stamp_of k)) (λ s. dite (ℕ_discrete (mark_of n) 0) (λ m. hit s m) (λ m. miss (λ _. m))) (λ s. miss (λ e. absurd (s e)))

-- the law of the stamp that was extended
extend_law : (n s w : ℕ) (f f' : File) → LivingStamp n s f → w ≤ 4398046511103 → f'.bases ≡ f.bases → f'.ends ≡ f.ends → f'.cancels ≡ f.cancels
    → ((x : ℕ) → IsIn f'.extends x → (x ≡ w) ⊎ IsIn f.extends x) → ((x : ℕ) → IsIn f.extends x → IsIn f'.extends x) → IsIn f'.extends w → LivingStamp (max n (word s 0 w)) s f'
extend_law n s w f f' l small bs es cs back grows new =
    let d = l.deadline in let now = l.now in let low = l.small in
    let reached : Among f' (max d w) = by_order d w (Among f' (max d w))
    (λ le. let P : ℕ → Type 0 = λ x. Among f' x in let e : w ≡ max d w = omega arith in subst P e (inr new))
    (λ lt. let P : ℕ → Type 0 = λ x. Among f' x in let e : d ≡ max d w = omega arith in
    subst P e (⊎_elim (λ h. inl (let Q : List ℕ → Type 0 = λ xs. IsIn xs d in subst Q (sym bs) h)) (λ h. inr (grows d h)) l.in_force.0)) in
    let bound : (x : ℕ) → Among f' x → x ≤ max d w = λ x a. ⊎_elim
    (λ h. let b = l.in_force.1 x (inl (let Q : List ℕ → Type 0 = λ xs. IsIn xs x in subst Q bs h)) in omega arith)
    (λ h. ⊎_elim (λ (e : x ≡ w). omega arith) (λ old. let b = l.in_force.1 x (inr old) in omega arith) (back x h)) a in
    record { base = l.base; deadline = max d w; given = bs ∙ l.given; unended = es ∙ l.unended; uncancelled = cs ∙ l.uncancelled; in_force = (reached, bound); small = omega arith; now = omega arith }

-- the files after one more accepted extend
module _ (vs : List View) (id : ℕ) (v w : View) (at : get_elem? vs id ≡ some v) (i s when : ℕ) (c : w.calls ≡ Extend i s when ∷ v.calls) (e : w.writes ≡ v.writes) where
  k : keeper_writes (set vs id w) ≡ keeper_writes vs
  k = writes_same vs id v w at e

  own_here : extends_at i s w.calls ≡ when ∷ extends_at i s v.calls
  own_here = ap (extends_at i s) c ∙ if_here i s when (extends_at i s v.calls)

  own_other : (j z : ℕ) → is_at j z i s ≡ false → extends_at j z w.calls ≡ extends_at j z v.calls
  own_other j z off = ap (extends_at j z) c ∙ if_other (is_at j z i s) when (extends_at j z v.calls) off

  own_grows : (j z x : ℕ) → IsIn (extends_at j z v.calls) x → IsIn (extends_at j z w.calls) x
  own_grows j z x h = let P : List ℕ → Type 0 = λ xs. IsIn xs x in subst P (sym (ap (extends_at j z) c)) (has_with_if (is_at j z i s) when (extends_at j z v.calls) x h)

  cancels_same : (j z : ℕ) → gathered (cancels_at j z) (set vs id w) ≡ gathered (cancels_at j z) vs
  cancels_same j z = gathered_same (cancels_at j z) vs id v w at (ap (cancels_at j z) c)

  pub extend_other : (j z : ℕ) → is_at j z i s ≡ false → file j z (set vs id w) ≡ file j z vs
  extend_other j z off = file_of _ _ _ _ _ _ _ _ (ap (bases_at j z) k) (ap (ends_at j z) k) (gathered_same (extends_at j z) vs id v w at (own_other j z off)) (cancels_same j z)

  pub extend_grows : (j z : ℕ) → Grows (file j z vs) (file j z (set vs id w))
  extend_grows j z = record {
    bases = λ x h. let P : List ℕ → Type 0 = λ xs. IsIn xs x in subst P (sym (ap (bases_at j z) k)) h;
    ends = λ x h. let P : List (ℕ × ℕ) → Type 0 = λ xs. IsIn xs x in subst P (sym (ap (ends_at j z) k)) h;
    extends = λ x h. gathered_grows (extends_at j z) vs id v w x at (own_grows j z x) h;
    cancels = λ x h. let P : List ℕ → Type 0 = λ xs. IsIn xs x in subst P (sym (cancels_same j z)) h;
  }

  there : get_elem? (set vs id w) id ≡ some w
  there = set_at vs id v w at

  pub extend_here : (n : ℕ) → LivingStamp n s (file i s vs) → when ≤ 4398046511103 → LivingStamp (max n (word s 0 when)) s (file i s (set vs id w))
  extend_here n l small = extend_law n s when (file i s vs) (file i s (set vs id w)) l small (ap (bases_at i s) k) (ap (ends_at i s) k) (cancels_same i s)
      (λ x h. ⊎_elim
      (λ mine. let P : List ℕ → Type 0 = λ xs. IsIn xs x in ⊎_elim inl (λ old. inr (gathered_own (extends_at i s) vs id v x at old)) (let g : IsIn (when ∷ extends_at i s v.calls) x = subst P own_here mine in g))
      inr (gathered_back (extends_at i s) vs id v w x at h))
      (λ x h. gathered_grows (extends_at i s) vs id v w x at (own_grows i s x) h)
      (gathered_own (extends_at i s) (set vs id w) id w when there (let P : List ℕ → Type 0 = λ xs. IsIn xs when in subst P (sym own_here) (inl refl)))

-- the keeper may still learn a word that was extended
learned_more : (x n s w : ℕ) → stamp_of n ≡ s → mark_of n ≡ 0 → 0 < s → w ≤ 4398046511103 → LearnedWord x n → LearnedWord x (max n (word s 0 w))
learned_more x n s w at m pos small h = ⊎_elim
    (λ (e : n ≡ x). inr (s, field_of n, omega arith, pos, omega arith, inl (max (field_of n) w, omega arith, omega arith, omega arith)))
    (λ (l : (s' : ℕ) × (d : ℕ) × (x ≡ word s' 0 d) × (0 < s') × (d ≤ 4398046511103) × (((e : ℕ) × (d ≤ e) × (e ≤ 4398046511103) × (n ≡ word s' 0 e)) ⊎ (n ≡ word s' 1 0))). inr (
      l.0,
      l.1,
      l.2,
      l.3,
      l.4,
      ⊎_elim
          (λ (e : (e : ℕ) × (l.1 ≤ e) × (e ≤ 4398046511103) × (n ≡ word l.0 0 e)). let a = e.1 in let b = e.2 in let c = e.3 in inl (max e.0 w, omega arith, omega arith, omega arith))
          (λ (e : n ≡ word l.0 1 0). absurd (omega arith))
          l.5,
    ))
    h

module _ (rows : ℕ) (t : State ℕ View) (r : Kept rows t) (i id : ℕ) (v : View) (inside : i < rows) (at : get_elem? t.views id ≡ some v) (caller : v.keeps ≡ false) where
  accepted : (n k : ℕ) → get_or t.words i 0 ≡ n → 0 < stamp_of k → mark_of k ≡ 0 → stamp_of n ≡ stamp_of k → mark_of n ≡ 0 → Moves rows t i id v (extending v i k (max n k)) n (max n k)
  accepted n k found pos km same nm =
      let w : View = extending v i k (max n k) in
      let s : ℕ = stamp_of k in
      let d : ℕ = field_of k in
      let ks : k ≡ word s 0 d = omega arith in
      let law = λ (z : ℕ) (p : 0 < z). let P : ℕ → Type 0 = λ x. Law x z (file i z t.views) in let h : Law n z (file i z t.views) = subst P found (r.cells i z inside p) in h in
      record {
        inside = inside;
        seat = at;
        found = found;
        greater = omega arith;
        unused = λ h. absurd (omega arith);
        saw = refl;
        keeps = refl;
        stays = λ _. refl;
        passes = refl;
        no_calls = λ yes. absurd (true≢false (sym yes ∙ caller));
        no_writes = λ _. refl;
        grows = extend_grows t.views id v w at i s d refl refl;
        elsewhere = λ j z far. extend_other t.views id v w at i s d refl refl j z (⊎_elim (λ ne. at_other_slot j z i s ne) (λ zeroth. at_other_stamp j z i s (λ e. omega arith)) far);
        cells = λ z p. by_index s z (Law (max n k) z (file i z (set t.views id w)))
            (λ e. let P : ℕ → Type 0 = λ y. Law (max n k) y (file i y (set t.views id w)) in let Q : ℕ → Type 0 = λ y. Law (max n y) s (file i s (set t.views id w)) in
            subst P (sym e) (subst Q (sym ks) (inr (inl (extend_here t.views id v w at i s d refl refl n (law_live n s (file i s t.views) same nm (law s pos)) (omega arith))))))
            (λ ne. let P : File → Type 0 = λ f. Law (max n k) z f in
            subst P (sym (extend_other t.views id v w at i s d refl refl i z (at_other_stamp i z i s ne))) (still n (max n k) z (file i z t.views) (λ h. omega arith) (λ h. (omega arith, omega arith)) (law z p)));
        learns = λ _ x h. let Q : ℕ → Type 0 = λ y. LearnedWord x (max n y) in subst Q (sym ks) (learned_more x n s d same nm pos (omega arith) h);
      }

module _ (rows : ℕ) where
  pub extends : (slots id : ℕ) (me : WordMe) (i k : ℕ) → i < rows → me.0.gone ≡ false → me.0.keeps ≡ false → 0 < stamp_of k → mark_of k ≡ 0 → k < 18446744073709551616 → stamp_of k ≤ stamp_of (get_or me.0.seen i 0)
      → Allows (Ruled rows) slots id me i (λ n. max n k) (Knowing extend_made (step slots i k 0 none) me)
  extends slots id me i k inside here caller pos km small given = knows rows slots id me i (λ n. max n k) (extend_made (step slots i k 0 none) me) (λ t r sized at wide.
      let n : ℕ = get_or t.words i 0 in
      let low = (r.kept.sees id me.0 at).below i inside in
      by_hit n k (Outcome rows t i id me (max n k) (extend_made (step slots i k 0 none) me n))
      (λ same nm. let w : View = extending me.0 i k (max n k) in let live : lives (max n k) ≡ lives n = lives_yes (max n k) (omega arith) (omega arith) ∙ sym (lives_yes n nm (omega arith)) in let shut : withdrawn (max n k) ≡ withdrawn n = withdrawn_no (max n k) (λ z. omega arith) ∙ sym (withdrawn_no n (λ z. omega arith)) in (
        w,
        keeps,
        tt,
        ruled_after rows t r i id me.0 w n (max n k) (accepted rows t r.kept i id me.0 inside at caller n k refl pos km same nm)
            (counts_calls rows t i id me.0 w n (max n k) inside at refl (omega arith) here refl refl refl refl refl refl refl (ap (λ z. cancels_in me.0.calls + z) live) (ap (λ z. cancels_in me.0.calls + z) shut) (omega arith)) me.1,
        (low, fair rows t r.kept i id me.0 inside at, inl ((same, nm), refl)),
      ))
      (λ no. missed rows t r i id me CallerLoad (max n k) (extend_made (step slots i k 0 none) me n) inside at here
      (let m : stamp_of n ≡ stamp_of k → mark_of n ≢ 0 = no in by_order (stamp_of n) (stamp_of k) (max n k ≡ n) (λ le. let e : stamp_of n ≡ stamp_of k = omega arith in let z = m e in omega arith) (λ lt. omega arith))
      (low, fair rows t r.kept i id me.0 inside at, inr (no, refl))))
