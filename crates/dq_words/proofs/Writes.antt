-- The keeper's writes keep the rule.
use Rattle.std.proofs.Common.{◌≡◌, ◌≢◌, ℕ, ◌+◌, ◌<◌, ◌≤◌, ◌⊎◌, eqb, true, false, true≢false, List, [], ◌∷◌, get_or, set, sym, refl, ap, ◌∙◌, subst, inl, inr, ⊎_elim, arith}
use mathlib.Core.Option.{some, none}
use prog.Atomic.{either}
use lib.ListN.{get_elem?}
use Rattle.atomic_table.specs.Table.{State, step, keeps, Allows}
use Rattle.atomic_table.proofs.Lists.{exchanged}
use Rattle.dq_words.specs.declared.views.View.{View}
use Rattle.dq_words.specs.declared.views.Write.{Write}
use Rattle.dq_words.specs.declared.views.Write.TheVariants.{Begin, Expired, Renewed, Removed}
use Rattle.dq_words.specs.declared.views.StepKind.TheVariants.{FailedExchange}
use Rattle.dq_ticks.specs.Word.{stamp_unit, word, stamp_of, mark_of, field_of}
use Rattle.dq_words.specs.Word.{Left, LearnedWord}
use Rattle.dq_words.specs.Counts.{lives, withdrawn, reaped_in}
use Rattle.dq_words.specs.Files.{is_at, with_if, File, file_of_lists, blank, file, IsIn, Among, IsDeadline, bases_at, ends_at, extends_at, cancels_at, gathered, keeper_writes}
use Rattle.dq_words.specs.Rule.{UnbornStamp, LivingStamp, CancelledStamp, EndedStamp, Law, Kept, Ruled}
use Rattle.dq_words.specs.Plays.{WordMe, Knowing, beginning, settling, renewing, finishing, begin_made, exchange_made}
use Rattle.dq_words.proofs.Gathers.{at_other_slot, at_other_stamp, if_here, if_other, has_with_if, gathered_same, writes_own, file_of, set_at}
use Rattle.dq_words.proofs.Advances.{by_index, Grows, Moves, still, role_first, role_here, after}
use Rattle.dq_words.proofs.Knowing.{knows}
use Rattle.dq_words.proofs.Tallies.{lives_yes, lives_no, lives_none, withdrawn_no, reaped_same, reaped_own, reaped_first, counts_writes, one_here, none_other, ruled_after}
use Rattle.dq_words.proofs.Steps.{law_live, law_beyond, missed, Outcome}

bases_grow : (x : Write) (ws : List Write) (j z y : ℕ) → IsIn (bases_at j z ws) y → IsIn (bases_at j z (x ∷ ws)) y
bases_grow (Begin i s b) ws j z y h = has_with_if (is_at j z i s) b (bases_at j z ws) y h
bases_grow (Expired i s d) ws j z y h = h
bases_grow (Renewed i s d b) ws j z y h = has_with_if (is_at j z i (s + 1)) b (bases_at j z ws) y h
bases_grow (Removed i s d) ws j z y h = h

ends_grow : (x : Write) (ws : List Write) (j z : ℕ) (y : ℕ × ℕ) → IsIn (ends_at j z ws) y → IsIn (ends_at j z (x ∷ ws)) y
ends_grow (Begin i s b) ws j z y h = h
ends_grow (Expired i s d) ws j z y h = has_with_if (is_at j z i s) (2, d) (ends_at j z ws) y h
ends_grow (Renewed i s d b) ws j z y h = has_with_if (is_at j z i s) (0, d) (ends_at j z ws) y h
ends_grow (Removed i s d) ws j z y h = has_with_if (is_at j z i s) (3, d) (ends_at j z ws) y h

off : (j z i s : ℕ) → 0 < s → (j ≢ i) ⊎ (z ≡ 0) → is_at j z i s ≡ false
off j z i s pos far = ⊎_elim (λ ne. at_other_slot j z i s ne) (λ zeroth. at_other_stamp j z i s (λ e. omega arith)) far

-- a stamp that the word has left
leave_law : (n n' s : ℕ) (f : File) → stamp_of n ≡ s → mark_of n ≢ 0 → Left n' s → Law n s f → Law n' s f
leave_law n n' s f at m left law = ⊎_elim
    (λ (u : UnbornStamp n s f). absurd (let b = u.below in omega arith))
    (⊎_elim (λ (l : LivingStamp n s f). absurd (let a = l.now in let b = l.small in m (omega arith)))
    (⊎_elim (λ (c : CancelledStamp n s f). inr (inr (inl record { base = c.base; deadline = c.deadline; given = c.given; unended = c.unended; cancelled = c.cancelled; in_force = c.in_force; small = c.small; now = inr left })))
    (λ (e : EndedStamp n s f). inr (inr (inr record { base = e.base; deadline = e.deadline; mark = e.mark; given = e.given; ended = e.ended; uncancelled = e.uncancelled; in_force = e.in_force; small = e.small; now = inr left })))))
    law

-- a stamp that is given
begin_law : (s base : ℕ) (bs : List ℕ) (es : List (ℕ × ℕ)) (xs cs : List ℕ) → file_of_lists bs es xs cs ≡ blank → base ≤ 4398046511103 → LivingStamp (word s 0 base) s (file_of_lists (base ∷ bs) es xs cs)
begin_law s base bs es xs cs none_yet small =
    let b0 : bs ≡ [] = ap (λ (f : File). f.bases) none_yet in
    let x0 : xs ≡ [] = ap (λ (f : File). f.extends) none_yet in
    let P : List ℕ → ℕ → Type 0 = λ ys y. IsIn ys y in
    let bound : (x : ℕ) → Among (file_of_lists (base ∷ bs) es xs cs) x → x ≤ base = λ x a. ⊎_elim
    (λ h. ⊎_elim (λ (e : x ≡ base). omega arith) (λ old. absurd (subst (λ (ys : List ℕ). P ys x) b0 old)) h)
    (λ h. absurd (subst (λ (ys : List ℕ). P ys x) x0 h)) a in
    record { base = base; deadline = base; given = ap (λ ys. base ∷ ys) b0; unended = ap (λ (f : File). f.ends) none_yet; uncancelled = ap (λ (f : File). f.cancels) none_yet; in_force = (inl (inl refl), bound); small = small; now = refl }

-- a live stamp that is ended
end_law : (n n' s m : ℕ) (bs : List ℕ) (es : List (ℕ × ℕ)) (xs cs : List ℕ) (d : ℕ) → LivingStamp n s (file_of_lists bs es xs cs) → n ≡ word s 0 d → d ≤ 4398046511103
    → ((n' ≡ word s m d) × (1 < m) × (m < 4)) ⊎ Left n' s → EndedStamp n' s (file_of_lists bs ((m, d) ∷ es) xs cs)
end_law n n' s m bs es xs cs d l was small now =
    let a = l.now in let b = l.small in
    let same : l.deadline ≡ d = omega arith in
    let P : ℕ → Type 0 = λ x. IsDeadline (file_of_lists bs es xs cs) x in
    let force : IsDeadline (file_of_lists bs es xs cs) d = subst P same l.in_force in
    record { base = l.base; deadline = d; mark = m; given = l.given; ended = ap (λ ys. (m, d) ∷ ys) l.unended; uncancelled = l.uncancelled; in_force = force; small = small; now = now }

module _ (vs : List View) (id : ℕ) (v w : View) (at : get_elem? vs id ≡ some v) (first : id ≡ 0) (x : Write) (c : w.calls ≡ v.calls) (e : w.writes ≡ x ∷ v.writes) where
  pub now_written : keeper_writes (set vs id w) ≡ x ∷ keeper_writes vs
  now_written =
      let P : ℕ → Type 0 = λ j. get_elem? vs j ≡ some v in
      let Q : ℕ → Type 0 = λ j. get_elem? (set vs j w) 0 ≡ some w in
      let at0 : get_elem? vs 0 ≡ some v = subst P first at in
      let there : get_elem? (set vs id w) 0 ≡ some w = subst Q (sym first) (set_at vs 0 v w at0) in
      writes_own (set vs id w) w there ∙ e ∙ ap (λ ws. x ∷ ws) (sym (writes_own vs v at0))

  pub written : (j z : ℕ) → file j z (set vs id w) ≡ file_of_lists (bases_at j z (x ∷ keeper_writes vs)) (ends_at j z (x ∷ keeper_writes vs)) (gathered (extends_at j z) vs) (gathered (cancels_at j z) vs)
  written j z = file_of _ _ _ _ _ _ _ _ (ap (bases_at j z) now_written) (ap (ends_at j z) now_written)
      (gathered_same (extends_at j z) vs id v w at (ap (extends_at j z) c)) (gathered_same (cancels_at j z) vs id v w at (ap (cancels_at j z) c))

  pub written_same : (j z : ℕ) → bases_at j z (x ∷ keeper_writes vs) ≡ bases_at j z (keeper_writes vs) → ends_at j z (x ∷ keeper_writes vs) ≡ ends_at j z (keeper_writes vs) → file j z (set vs id w) ≡ file j z vs
  written_same j z bs es = written j z ∙ file_of _ _ _ _ _ _ _ _ bs es refl refl

  pub written_grows : (j z : ℕ) → Grows (file j z vs) (file j z (set vs id w))
  written_grows j z = let P : File → Type 0 = λ f. Grows (file j z vs) f in subst P (sym (written j z)) record {
    bases = λ y h. bases_grow x (keeper_writes vs) j z y h;
    ends = λ y h. ends_grow x (keeper_writes vs) j z y h;
    extends = λ y h. h;
    cancels = λ y h. h;
  }

-- the word that the keeper saw is the present one, where it isn't live
learned_ended : (x n : ℕ) → (mark_of x ≢ 0) ⊎ (x ≡ 0) → LearnedWord x n → n ≡ x
learned_ended x n shut h = ⊎_elim (λ (e : n ≡ x). e)
    (λ (l : (s : ℕ) × (d : ℕ) × (x ≡ word s 0 d) × (0 < s) × (d ≤ 4398046511103) × (((e : ℕ) × (d ≤ e) × (e ≤ 4398046511103) × (n ≡ word s 0 e)) ⊎ (n ≡ word s 1 0))).
    let a = l.2 in let b = l.3 in let c = l.4 in absurd (⊎_elim (λ ended. ended (omega arith)) (λ (never : x ≡ 0). omega arith) shut)) h

module _ (rows : ℕ) (t : State ℕ View) (r : Kept rows t) (i id : ℕ) (v : View) (inside : i < rows) (at : get_elem? t.views id ≡ some v) (keeper : v.keeps ≡ true) where
  pub my_id : id ≡ 0
  my_id = role_first id v (r.sees id v at).role keeper

  -- what is left of a keeper's step once its write is known
  moved : (w : View) (x : Write) (n n' : ℕ) → get_or t.words i 0 ≡ n → n ≤ n' → (n' < stamp_unit → n' ≡ 0) → w.seen ≡ set v.seen i n' → w.keeps ≡ v.keeps → w.gone ≡ v.gone → w.passes ≡ v.passes → w.calls ≡ v.calls → w.writes ≡ x ∷ v.writes
      → ((j z : ℕ) → (j ≢ i) ⊎ (z ≡ 0) → file j z (set t.views id w) ≡ file j z t.views) → ((z : ℕ) → 0 < z → Law n' z (file i z (set t.views id w))) → Moves rows t i id v w n n'
  moved w x n n' found greater unused saw kept stayed passed calls writes elsewhere cells = record {
    inside = inside;
    seat = at;
    found = found;
    greater = greater;
    unused = unused;
    saw = saw;
    keeps = kept;
    stays = λ _. stayed;
    passes = passed;
    no_calls = λ _. calls;
    no_writes = λ h. absurd (true≢false (sym keeper ∙ h));
    grows = written_grows t.views id v w at my_id x calls writes;
    elsewhere = elsewhere;
    cells = cells;
    learns = λ h. absurd (true≢false (sym keeper ∙ h));
  }

  law_at : (n z : ℕ) → get_or t.words i 0 ≡ n → 0 < z → Law n z (file i z t.views)
  law_at n z found p = let P : ℕ → Type 0 = λ y. Law y z (file i z t.views) in subst P found (r.cells i z inside p)

  begins_at : (n k : ℕ) → get_or t.words i 0 ≡ n → (mark_of n ≢ 0) ⊎ (n ≡ 0) → stamp_of k ≡ stamp_of n + 1 → mark_of k ≡ 0 → Moves rows t i id v (beginning v i k) n k
  begins_at n k found shut next km =
      let w : View = beginning v i k in let s : ℕ = stamp_of k in let b : ℕ = field_of k in let x : Write = Begin i s b in
      let ks : k ≡ word s 0 b = omega arith in
      let same = λ (j z : ℕ) (o : is_at j z i s ≡ false). written_same t.views id v w at my_id x refl refl j z (if_other (is_at j z i s) b (bases_at j z (keeper_writes t.views)) o) refl in
      moved w x n k found (omega arith) (λ h. absurd (omega arith)) refl refl refl refl refl refl
      (λ j z far. same j z (off j z i s (omega arith) far))
      (λ z p. by_index s z (Law k z (file i z (set t.views id w)))
      (λ e. let P : ℕ → Type 0 = λ y. Law k y (file i y (set t.views id w)) in
      let here : file i s (set t.views id w) ≡ file_of_lists (b ∷ bases_at i s (keeper_writes t.views)) (ends_at i s (keeper_writes t.views)) (gathered (extends_at i s) t.views) (gathered (cancels_at i s) t.views) =
      written t.views id v w at my_id x refl refl i s ∙ file_of _ _ _ _ _ _ _ _ (if_here i s b (bases_at i s (keeper_writes t.views))) refl refl refl in
      let Q : ℕ × File → Type 0 = λ y. Law y.0 s y.1 in
      let old : file i s t.views ≡ blank = law_beyond n s (file i s t.views) (omega arith) (law_at n s found (omega arith)) in
      subst P (sym e) (subst Q (λ q. (sym ks q, sym here q)) (inr (inl (begin_law s b _ _ _ _ old (omega arith))))))
      (λ ne. let P : File → Type 0 = λ f. Law k z f in subst P (sym (same i z (at_other_stamp i z i s ne)))
      (by_index (stamp_of n) z (Law k z (file i z t.views))
      (λ e. leave_law n k z (file i z t.views) (sym e) (⊎_elim (λ ended. ended) (λ (never : n ≡ 0). absurd (omega arith)) shut) (omega arith) (law_at n z found p))
      (λ no. still n k z (file i z t.views) (λ h. omega arith) (λ h. (omega arith, omega arith)) (law_at n z found p)))))

  -- an end that leaves the stamp in the word
  closes_at : (w : View) (x : Write) (m n k : ℕ) → get_or t.words i 0 ≡ n → 0 < stamp_of n → mark_of n ≡ 0 → stamp_of k ≡ stamp_of n → mark_of k ≡ m → 1 < m → field_of k ≡ field_of n → w.seen ≡ set v.seen i k → w.keeps ≡ v.keeps → w.gone ≡ v.gone → w.passes ≡ v.passes → w.calls ≡ v.calls → w.writes ≡ x ∷ v.writes
      → ((j z : ℕ) (ws : List Write) → bases_at j z (x ∷ ws) ≡ bases_at j z ws)
      → ((j z : ℕ) (ws : List Write) → ends_at j z (x ∷ ws) ≡ with_if (is_at j z i (stamp_of n)) (m, field_of n) (ends_at j z ws)) → Moves rows t i id v w n k
  closes_at w x m n k found pos nm same_stamp km ended same_field saw kept stayed passed calls writes bs es =
      let s : ℕ = stamp_of n in let d : ℕ = field_of n in
      let same = λ (j z : ℕ) (o : is_at j z i s ≡ false). written_same t.views id v w at my_id x calls writes j z (bs j z (keeper_writes t.views)) (es j z (keeper_writes t.views) ∙ if_other (is_at j z i s) (m, d) (ends_at j z (keeper_writes t.views)) o) in
      moved w x n k found (omega arith) (λ h. absurd (omega arith)) saw kept stayed passed calls writes
      (λ j z far. same j z (off j z i s pos far))
      (λ z p. by_index s z (Law k z (file i z (set t.views id w)))
      (λ e. let P : ℕ → Type 0 = λ y. Law k y (file i y (set t.views id w)) in
      let here : file i s (set t.views id w) ≡ file_of_lists (bases_at i s (keeper_writes t.views)) ((m, d) ∷ ends_at i s (keeper_writes t.views)) (gathered (extends_at i s) t.views) (gathered (cancels_at i s) t.views) =
      written t.views id v w at my_id x calls writes i s ∙ file_of _ _ _ _ _ _ _ _ (bs i s (keeper_writes t.views)) (es i s (keeper_writes t.views) ∙ if_here i s (m, d) (ends_at i s (keeper_writes t.views))) refl refl in
      let Q : File → Type 0 = λ f. Law k s f in
      subst P (sym e) (subst Q (sym here) (inr (inr (inr (end_law n k s m _ _ _ _ d (law_live n s (file i s t.views) refl nm (law_at n s found pos)) (omega arith) (omega arith) (inl (omega arith, ended, omega arith))))))))
      (λ ne. let P : File → Type 0 = λ f. Law k z f in subst P (sym (same i z (at_other_stamp i z i s ne)))
      (still n k z (file i z t.views) (λ h. omega arith) (λ h. (omega arith, omega arith)) (law_at n z found p))))

  settles_at : (n k : ℕ) → get_or t.words i 0 ≡ n → 0 < stamp_of n → mark_of n ≡ 0 → stamp_of k ≡ stamp_of n → mark_of k ≡ 2 → field_of k ≡ field_of n → Moves rows t i id v (settling v i n k) n k
  settles_at n k found pos nm same_stamp km same_field =
      let two : 1 < 2 = omega arith in
      closes_at (settling v i n k) (Expired i (stamp_of n) (field_of n)) 2 n k found pos nm same_stamp km two same_field refl refl refl refl refl refl (λ j z ws. refl) (λ j z ws. refl)

  finishes_at : (n k : ℕ) → get_or t.words i 0 ≡ n → 0 < stamp_of n → mark_of n ≡ 0 → stamp_of k ≡ stamp_of n → mark_of k ≡ 3 → field_of k ≡ field_of n → Moves rows t i id v (finishing v i n k) n k
  finishes_at n k found pos nm same_stamp km same_field =
      let three : 1 < 3 = omega arith in
      closes_at (finishing v i n k) (Removed i (stamp_of n) (field_of n)) 3 n k found pos nm same_stamp km three same_field refl refl refl refl refl refl (λ j z ws. refl) (λ j z ws. refl)

  renews_at : (n k : ℕ) → get_or t.words i 0 ≡ n → 0 < stamp_of n → mark_of n ≡ 0 → stamp_of k ≡ stamp_of n + 1 → mark_of k ≡ 0 → Moves rows t i id v (renewing v i n k) n k
  renews_at n k found pos nm next km =
      let w : View = renewing v i n k in let s : ℕ = stamp_of n in let d : ℕ = field_of n in let b : ℕ = field_of k in let x : Write = Renewed i s d b in
      let ks : k ≡ word (s + 1) 0 b = omega arith in
      let same = λ (j z : ℕ) (o : is_at j z i s ≡ false) (o' : is_at j z i (s + 1) ≡ false). written_same t.views id v w at my_id x refl refl j z
      (if_other (is_at j z i (s + 1)) b (bases_at j z (keeper_writes t.views)) o') (if_other (is_at j z i s) (0, d) (ends_at j z (keeper_writes t.views)) o) in
      moved w x n k found (omega arith) (λ h. absurd (omega arith)) refl refl refl refl refl refl
      (λ j z far. same j z (off j z i s pos far) (off j z i (s + 1) (omega arith) far))
      (λ z p. by_index s z (Law k z (file i z (set t.views id w)))
      (λ e. let P : ℕ → Type 0 = λ y. Law k y (file i y (set t.views id w)) in
      let here : file i s (set t.views id w) ≡ file_of_lists (bases_at i s (keeper_writes t.views)) ((0, d) ∷ ends_at i s (keeper_writes t.views)) (gathered (extends_at i s) t.views) (gathered (cancels_at i s) t.views) =
      written t.views id v w at my_id x refl refl i s ∙ file_of _ _ _ _ _ _ _ _ (if_other (is_at i s i (s + 1)) b (bases_at i s (keeper_writes t.views)) (at_other_stamp i s i (s + 1) (λ f. omega arith))) (if_here i s (0, d) (ends_at i s (keeper_writes t.views))) refl refl in
      let Q : File → Type 0 = λ f. Law k s f in
      subst P (sym e) (subst Q (sym here) (inr (inr (inr (end_law n k s 0 _ _ _ _ d (law_live n s (file i s t.views) refl nm (law_at n s found pos)) (omega arith) (omega arith) (inr (omega arith))))))))
      (λ ne. by_index (s + 1) z (Law k z (file i z (set t.views id w)))
      (λ e. let P : ℕ → Type 0 = λ y. Law k y (file i y (set t.views id w)) in let s' : ℕ = s + 1 in
      let here : file i s' (set t.views id w) ≡ file_of_lists (b ∷ bases_at i s' (keeper_writes t.views)) (ends_at i s' (keeper_writes t.views)) (gathered (extends_at i s') t.views) (gathered (cancels_at i s') t.views) =
      written t.views id v w at my_id x refl refl i s' ∙ file_of _ _ _ _ _ _ _ _ (if_here i s' b (bases_at i s' (keeper_writes t.views))) (if_other (is_at i s' i s) (0, d) (ends_at i s' (keeper_writes t.views)) (at_other_stamp i s' i s (λ f. omega arith))) refl refl in
      let Q : ℕ × File → Type 0 = λ y. Law y.0 s' y.1 in
      let old : file i s' t.views ≡ blank = law_beyond n s' (file i s' t.views) (omega arith) (law_at n s' found (omega arith)) in
      subst P (sym e) (subst Q (λ q. (sym ks q, sym here q)) (inr (inl (begin_law s' b _ _ _ _ old (omega arith))))))
      (λ ne'. let P : File → Type 0 = λ f. Law k z f in subst P (sym (same i z (at_other_stamp i z i s ne) (at_other_stamp i z i (s + 1) ne')))
      (still n k z (file i z t.views) (λ h. omega arith) (λ h. (omega arith, omega arith)) (law_at n z found p)))))

module _ (rows : ℕ) where
  pub begins : (slots id : ℕ) (me : WordMe) (i k : ℕ) → i < rows → me.0.keeps ≡ true → (mark_of (get_or me.0.seen i 0) ≢ 0) ⊎ (get_or me.0.seen i 0 ≡ 0) → stamp_of k ≡ stamp_of (get_or me.0.seen i 0) + 1 → mark_of k ≡ 0 → k < 18446744073709551616
      → Allows (Ruled rows) slots id me i (λ _. k) (λ _. Knowing begin_made (step slots i k 0 none) me k)
  begins slots id me i k inside keeper shut next km small = knows rows slots id me i (λ _. k) (λ _. begin_made (step slots i k 0 none) me k) (λ t r sized at wide.
      let here = role_here id me.0 (r.kept.sees id me.0 at).role keeper in
      let n : ℕ = get_or t.words i 0 in
      let x : ℕ = get_or me.0.seen i 0 in
      let same : n ≡ x = learned_ended x n shut ((r.kept.sees id me.0 at).learns keeper i inside) in
      let P : ℕ → Type 0 = λ y. (mark_of y ≢ 0) ⊎ (y ≡ 0) in
      let shut' : (mark_of n ≢ 0) ⊎ (n ≡ 0) = subst P (sym same) shut in
      let next' : stamp_of k ≡ stamp_of n + 1 = next ∙ ap (λ y. stamp_of y + 1) (sym same) in
      let w : View = beginning me.0 i k in
      let dead : lives n ≡ 0 = ⊎_elim (λ ended. lives_no n ended) (λ never. ap lives never ∙ lives_none) shut' in
      let live : lives k ≡ 1 = lives_yes k km (omega arith) in
      let open_new : withdrawn k ≡ 0 = withdrawn_no k (λ z. omega arith) in
      let first = my_id rows t r.kept i id me.0 inside at keeper in
      let y : Write = Begin i (stamp_of k) (field_of k) in
      let re : reaped_in (set t.views id w) ≡ reaped_in t.views + withdrawn n = reaped_first t.views id me.0 w at first ∙ ap (λ z. me.0.reaped + withdrawn z) (sym same) ∙ ap (λ z. z + withdrawn n) (sym (reaped_own t.views id me.0 at first)) in
      let one = one_here i in (
        w,
        keeps,
        tt,
        ruled_after rows t r i id me.0 w n k (begins_at rows t r.kept i id me.0 inside at keeper n k refl shut' next' km)
            (counts_writes rows t i id me.0 w y n k inside at refl small here refl refl refl refl (now_written t.views id me.0 w at first y refl refl) refl (omega arith)
            (λ ws. omega arith) (λ ws. omega arith) (λ ws g o. (omega arith, o)) (λ ws g. omega arith) (λ ws j ne. let z = none_other j i ne in omega arith)) me.1,
        refl,
      ))

  -- a compare-exchange of the keeper
  swap : (f : View → ℕ → ℕ → ℕ → View) (slots id : ℕ) (me : WordMe) (i old new : ℕ) → i < rows → me.0.keeps ≡ true
      → ((t : State ℕ View) (r : Ruled rows t) → (at : get_elem? t.views id ≡ some me.0) → me.0.gone ≡ false → get_or t.words i 0 ≡ old → Ruled rows (after t i new id me.1 (f me.0 i old new)))
      → Allows (Ruled rows) slots id me i (λ n. either (eqb n old) new n) (Knowing (exchange_made f) (step slots i old new none) me)
  swap f slots id me i old new inside keeper hits = knows rows slots id me i (λ n. either (eqb n old) new n) (exchange_made f (step slots i old new none) me) (λ t r sized at wide.
      let here = role_here id me.0 (r.kept.sees id me.0 at).role keeper in
      let n : ℕ = get_or t.words i 0 in
      let seen = (r.kept.sees id me.0 at).learns keeper i inside in
      exchanged n old new (λ m. Outcome rows t i id me m (exchange_made f (step slots i old new none) me n))
      (λ e. (f me.0 i old new, keeps, tt, hits t r at here e, (seen, ((λ _. refl), λ ne. absurd (ne e)))))
      (λ ne. missed rows t r i id me FailedExchange n (exchange_made f (step slots i old new none) me n) inside at here refl (seen, ((λ e. absurd (ne e)), λ _. refl))))

  pub settles : (slots id : ℕ) (me : WordMe) (i old new : ℕ) → i < rows → me.0.keeps ≡ true → 0 < stamp_of old → mark_of old ≡ 0 → stamp_of new ≡ stamp_of old → mark_of new ≡ 2 → field_of new ≡ field_of old → new < 18446744073709551616
      → Allows (Ruled rows) slots id me i (λ n. either (eqb n old) new n) (Knowing (exchange_made settling) (step slots i old new none) me)
  settles slots id me i old new inside keeper pos om ns nm nf small = swap settling slots id me i old new inside keeper
      (λ t r at here e. let w : View = settling me.0 i old new in let y : Write = Expired i (stamp_of old) (field_of old) in
      let re = reaped_same t.views id me.0 w at refl in let open_old : withdrawn old ≡ 0 = withdrawn_no old (λ z. omega arith) in let open_new : withdrawn new ≡ 0 = withdrawn_no new (λ z. omega arith) in
      let live : lives old ≡ 1 = lives_yes old om pos in let dead : lives new ≡ 0 = lives_no new (λ z. omega arith) in
      ruled_after rows t r i id me.0 w old new (settles_at rows t r.kept i id me.0 inside at keeper old new e pos om ns nm nf)
      (counts_writes rows t i id me.0 w y old new inside at e small here refl refl refl refl (now_written t.views id me.0 w at (my_id rows t r.kept i id me.0 inside at keeper) y refl refl) refl (omega arith)
      (λ ws. omega arith) (λ ws. omega arith) (λ ws g o. (sym g, o)) (λ ws g. g ∙ sym ns) (λ ws j ne. refl)) me.1)

  pub finishes : (slots id : ℕ) (me : WordMe) (i old new : ℕ) → i < rows → me.0.keeps ≡ true → 0 < stamp_of old → mark_of old ≡ 0 → stamp_of new ≡ stamp_of old → mark_of new ≡ 3 → field_of new ≡ field_of old → new < 18446744073709551616
      → Allows (Ruled rows) slots id me i (λ n. either (eqb n old) new n) (Knowing (exchange_made finishing) (step slots i old new none) me)
  finishes slots id me i old new inside keeper pos om ns nm nf small = swap finishing slots id me i old new inside keeper
      (λ t r at here e. let w : View = finishing me.0 i old new in let y : Write = Removed i (stamp_of old) (field_of old) in
      let re = reaped_same t.views id me.0 w at refl in let open_old : withdrawn old ≡ 0 = withdrawn_no old (λ z. omega arith) in let open_new : withdrawn new ≡ 0 = withdrawn_no new (λ z. omega arith) in
      let live : lives old ≡ 1 = lives_yes old om pos in let dead : lives new ≡ 0 = lives_no new (λ z. omega arith) in
      ruled_after rows t r i id me.0 w old new (finishes_at rows t r.kept i id me.0 inside at keeper old new e pos om ns nm nf)
      (counts_writes rows t i id me.0 w y old new inside at e small here refl refl refl refl (now_written t.views id me.0 w at (my_id rows t r.kept i id me.0 inside at keeper) y refl refl) refl (omega arith)
      (λ ws. omega arith) (λ ws. omega arith) (λ ws g o. (sym g, o)) (λ ws g. g ∙ sym ns) (λ ws j ne. refl)) me.1)

  pub renews : (slots id : ℕ) (me : WordMe) (i old new : ℕ) → i < rows → me.0.keeps ≡ true → 0 < stamp_of old → mark_of old ≡ 0 → stamp_of new ≡ stamp_of old + 1 → mark_of new ≡ 0 → new < 18446744073709551616
      → Allows (Ruled rows) slots id me i (λ n. either (eqb n old) new n) (Knowing (exchange_made renewing) (step slots i old new none) me)
  renews slots id me i old new inside keeper pos om next nm small = swap renewing slots id me i old new inside keeper
      (λ t r at here e. let w : View = renewing me.0 i old new in let y : Write = Renewed i (stamp_of old) (field_of old) (field_of new) in
      let re = reaped_same t.views id me.0 w at refl in let open_old : withdrawn old ≡ 0 = withdrawn_no old (λ z. omega arith) in let open_new : withdrawn new ≡ 0 = withdrawn_no new (λ z. omega arith) in
      let live : lives old ≡ 1 = lives_yes old om pos in let still_live : lives new ≡ 1 = lives_yes new nm (omega arith) in let one = one_here i in
      ruled_after rows t r i id me.0 w old new (renews_at rows t r.kept i id me.0 inside at keeper old new e pos om next nm)
      (counts_writes rows t i id me.0 w y old new inside at e small here refl refl refl refl (now_written t.views id me.0 w at (my_id rows t r.kept i id me.0 inside at keeper) y refl refl) refl (omega arith)
      (λ ws. omega arith) (λ ws. omega arith) (λ ws g o. (sym g, o)) (λ ws g. omega arith) (λ ws j ne. let z = none_other j i ne in omega arith)) me.1)
