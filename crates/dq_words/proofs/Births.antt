-- An entry's stamps are those from its Begin to the next, each given by the renewal of the one before.
use Rattle.std.proofs.Common.{◌≡◌, ◌≢◌, ◌⊎◌, ℕ, zero, suc, ◌+◌, ◌<◌, ◌≤◌, eqb, leb, ◌&&◌, if◌then◌else◌, Bool, true, false, List, [], ◌∷◌, length, get_or, sym, refl, ap, ◌∙◌, subst, inl, inr, ⊎_elim, eq-eqb, ne_eqb, le-leb, arith}
use Rattle.std.proofs.lemmas.Bool.{lt-leb}
use mathlib.Core.Logic.{dite}
use native.Mathlib.Decide.{ℕ_discrete, dec_le}
use Rattle.atomic_table.specs.Table.{State}
use Rattle.dq_ticks.specs.Word.{word, stamp_of}
use Rattle.dq_words.specs.declared.views.View.{View}
use Rattle.dq_words.specs.declared.views.Write.{Write}
use Rattle.dq_words.specs.declared.views.Write.TheVariants.{Begin, Expired, Renewed, Removed}
use Rattle.dq_words.specs.Word.{Left}
use Rattle.dq_words.specs.Counts.{given_in, InOrder}
use Rattle.dq_words.specs.Files.{is_at, with_if, File, file, blank, keeper_writes, bases_at, ends_at, IsIn}
use Rattle.dq_words.specs.Rule.{UnbornStamp, LivingStamp, CancelledStamp, EndedStamp, Law, Ruled}
use Rattle.dq_words.specs.Endings.{fates_at, birth_at, over_life, EntriesEndOnce}
use Rattle.dq_words.proofs.Gathers.{at_here, at_other_slot, at_other_stamp}
use Rattle.dq_words.proofs.Advances.{by_index, by_order}
use Rattle.dq_words.proofs.Ends.{renewed_in, both_ways, stamps, others}

-- how often the writes begin the slot i at the stamp s
abbrev begun_at : ℕ → ℕ → List Write → ℕ
begun_at i s [] = 0
begun_at i s (Begin j b d ∷ ws) = (if is_at i s j b then 1 else 0) + begun_at i s ws
begun_at i s (Expired j b d ∷ ws) = begun_at i s ws
begun_at i s (Renewed j b d x ∷ ws) = begun_at i s ws
begun_at i s (Removed j b d ∷ ws) = begun_at i s ws

-- a test of two places, by cases
places : (i s j b : ℕ) → ((i ≡ j) × (s ≡ b) × (is_at i s j b ≡ true)) ⊎ (((i ≡ j) → s ≢ b) × (is_at i s j b ≡ false))
places i s j b = dite (ℕ_discrete i j)
    (λ e. dite (ℕ_discrete s b)
    (λ f. inl (e, f, ap (λ (p : Bool × Bool). p.0 && p.1) (λ k. (eq-eqb i j e k, eq-eqb s b f k))))
    (λ ne. inr ((λ _. ne), at_other_stamp i s j b ne)))
    (λ ne. inr ((λ e. absurd (ne e)), at_other_slot i s j b ne))

-- 1 for a test that holds
abbrev one_if : Bool → ℕ
one_if b = if b then 1 else 0

length_if : {A : Type 0} (b : Bool) (x : A) (xs : List A) → length (with_if b x xs) ≡ one_if b + length xs
length_if true x xs = omega arith
length_if false x xs = omega arith

renewed_if : (b : Bool) (d : ℕ) (es : List (ℕ × ℕ)) → renewed_in (with_if b (0, d) es) ≡ one_if b + renewed_in es
renewed_if true d es = refl
renewed_if false d es = omega arith

closed_if : (b : Bool) (m d : ℕ) (es : List (ℕ × ℕ)) → 0 < m → renewed_in (with_if b (m, d) es) ≡ renewed_in es
closed_if true m d es h = let e : one_if (eqb m 0) ≡ 0 = ap one_if (ne_eqb m 0 (λ z. omega arith)) in omega arith
closed_if false m d es h = refl

next_place : (i s j b : ℕ) → is_at i (s + 1) j (b + 1) ≡ is_at i s j b
next_place i s j b = by_index s b (is_at i (s + 1) j (b + 1) ≡ is_at i s j b)
    (λ e. ap (λ (p : Bool). eqb i j && p) (eq-eqb (s + 1) (b + 1) (omega arith) ∙ sym (eq-eqb s b (sym e))))
    (λ ne. at_other_stamp i (s + 1) j (b + 1) (λ f. ne (omega arith)) ∙ sym (at_other_stamp i s j b (λ f. ne (sym f))))

-- a stamp is given by a Begin or by the renewal of the stamp before
bases_count : (i s : ℕ) (ws : List Write) → length (bases_at i (s + 1) ws) ≡ begun_at i (s + 1) ws + renewed_in (ends_at i s ws)
bases_count i s [] = omega arith
bases_count i s (Begin j b d ∷ ws) = let a = length_if (is_at i (s + 1) j b) d (bases_at i (s + 1) ws) in let h = bases_count i s ws in omega arith
bases_count i s (Expired j b d ∷ ws) = let a = closed_if (is_at i s j b) 2 d (ends_at i s ws) (omega arith) in let h = bases_count i s ws in omega arith
bases_count i s (Renewed j b d x ∷ ws) =
    let a = length_if (is_at i (s + 1) j (b + 1)) x (bases_at i (s + 1) ws) in
    let c = renewed_if (is_at i s j b) d (ends_at i s ws) in
    let e : one_if (is_at i (s + 1) j (b + 1)) ≡ one_if (is_at i s j b) = ap one_if (next_place i s j b) in
    let h = bases_count i s ws in omega arith
bases_count i s (Removed j b d ∷ ws) = let a = closed_if (is_at i s j b) 3 d (ends_at i s ws) (omega arith) in let h = bases_count i s ws in omega arith

-- a stamp that was begun was given
begun_given : (i s : ℕ) (ws : List Write) → InOrder ws → 0 < begun_at i s ws → (0 < s) × (s ≤ given_in i ws)
begun_given i s [] o h = absurd (omega arith)
begun_given i s (Begin j b d ∷ ws) o h = ⊎_elim
    (λ (p : (i ≡ j) × (s ≡ b) × (is_at i s j b ≡ true)).
    let same : given_in j ws ≡ given_in i ws = ap (λ k. given_in k ws) (sym p.0) in
    let one : one_if (eqb i j) ≡ 1 = ap one_if (eq-eqb i j p.0) in
    let e = p.1 in let next = o.0 in (omega arith, omega arith))
    (λ (p : ((i ≡ j) → s ≢ b) × (is_at i s j b ≡ false)).
    let none_here : one_if (is_at i s j b) ≡ 0 = ap one_if p.1 in
    let k = begun_given i s ws o.1 (omega arith) in let a = k.0 in let c = k.1 in (a, omega arith))
    (places i s j b)
begun_given i s (Expired j b d ∷ ws) o h = begun_given i s ws o.1 h
begun_given i s (Renewed j b d x ∷ ws) o h = let k = begun_given i s ws o.1 h in let c = k.1 in (k.0, omega arith)
begun_given i s (Removed j b d ∷ ws) o h = begun_given i s ws o.1 h

-- the test of `birth_at`, by cases
tells_birth : (i s j b : ℕ) → ((i ≡ j) × (b ≤ s) × ((eqb i j && leb b s) ≡ true)) ⊎ ((i ≡ j → s < b) × ((eqb i j && leb b s) ≡ false))
tells_birth i s j b = dite (ℕ_discrete i j)
    (λ e. dite (dec_le b s)
    (λ le. inl (e, le, ap (λ (p : Bool × Bool). p.0 && p.1) (λ k. (eq-eqb i j e k, le-leb b s le k))))
    (λ gt. let far : s < b = omega arith in inr ((λ _. far), ap (λ (p : Bool × Bool). p.0 && p.1) (λ k. (eq-eqb i j e k, lt-leb b s far k)))))
    (λ ne. inr ((λ e. absurd (ne e)), ap (λ (p : Bool). p && leb b s) (ne_eqb i j ne)))

-- the birth of a stamp that was begun is that stamp
birth_begun : (i s : ℕ) (ws : List Write) → InOrder ws → 0 < begun_at i s ws → birth_at i s ws ≡ s
birth_begun i s [] o h = absurd (omega arith)
birth_begun i s (Begin j b d ∷ ws) o h = ⊎_elim
    (λ (t : (i ≡ j) × (b ≤ s) × ((eqb i j && leb b s) ≡ true)).
    let same : given_in j ws ≡ given_in i ws = ap (λ k. given_in k ws) (sym t.0) in
    let next = o.0 in let low = t.1 in
    ap (λ (p : Bool). if p then b else birth_at i s ws) t.2 ∙ ⊎_elim
    (λ (p : (i ≡ j) × (s ≡ b) × (is_at i s j b ≡ true)). sym p.1)
    (λ (p : ((i ≡ j) → s ≢ b) × (is_at i s j b ≡ false)).
    let none_here : one_if (is_at i s j b) ≡ 0 = ap one_if p.1 in
    let k = begun_given i s ws o.1 (omega arith) in let c = k.1 in absurd (omega arith))
    (places i s j b))
    (λ (t : (i ≡ j → s < b) × ((eqb i j && leb b s) ≡ false)).
    ap (λ (p : Bool). if p then b else birth_at i s ws) t.1 ∙ ⊎_elim
    (λ (p : (i ≡ j) × (s ≡ b) × (is_at i s j b ≡ true)). let far = t.0 p.0 in let e = p.1 in absurd (omega arith))
    (λ (p : ((i ≡ j) → s ≢ b) × (is_at i s j b ≡ false)).
    let none_here : one_if (is_at i s j b) ≡ 0 = ap one_if p.1 in birth_begun i s ws o.1 (omega arith))
    (places i s j b))
    (tells_birth i s j b)
birth_begun i s (Expired j b d ∷ ws) o h = birth_begun i s ws o.1 h
birth_begun i s (Renewed j b d x ∷ ws) o h = birth_begun i s ws o.1 h
birth_begun i s (Removed j b d ∷ ws) o h = birth_begun i s ws o.1 h

-- a stamp that was not begun has the birth of the stamp before
birth_kept : (i s : ℕ) (ws : List Write) → begun_at i (suc s) ws ≡ 0 → birth_at i (suc s) ws ≡ birth_at i s ws
birth_kept i s [] h = refl
birth_kept i s (Begin j b d ∷ ws) h =
    let rest : birth_at i (suc s) ws ≡ birth_at i s ws = birth_kept i s ws (omega arith) in ⊎_elim
    (λ (t : (i ≡ j) × (b ≤ s) × ((eqb i j && leb b s) ≡ true)). ⊎_elim
    (λ (u : (i ≡ j) × (b ≤ suc s) × ((eqb i j && leb b (suc s)) ≡ true)). ap (λ (p : Bool). if p then b else birth_at i (suc s) ws) u.2 ∙ sym (ap (λ (p : Bool). if p then b else birth_at i s ws) t.2))
    (λ (u : (i ≡ j → suc s < b) × ((eqb i j && leb b (suc s)) ≡ false)). let far = u.0 t.0 in let low = t.1 in absurd (omega arith))
    (tells_birth i (suc s) j b))
    (λ (t : (i ≡ j → s < b) × ((eqb i j && leb b s) ≡ false)). ⊎_elim
    (λ (u : (i ≡ j) × (b ≤ suc s) × ((eqb i j && leb b (suc s)) ≡ true)).
    let far = t.0 u.0 in let low = u.1 in let at : suc s ≡ b = omega arith in
    let one : one_if (is_at i (suc s) j b) ≡ 1 = ap one_if (ap (λ (p : Bool × Bool). p.0 && p.1) (λ k. (eq-eqb i j u.0 k, eq-eqb (suc s) b at k))) in absurd (omega arith))
    (λ (u : (i ≡ j → suc s < b) × ((eqb i j && leb b (suc s)) ≡ false)).
    ap (λ (p : Bool). if p then b else birth_at i (suc s) ws) u.1 ∙ rest ∙ sym (ap (λ (p : Bool). if p then b else birth_at i s ws) t.1))
    (tells_birth i (suc s) j b))
    (tells_birth i s j b)
birth_kept i s (Expired j b d ∷ ws) h = birth_kept i s ws h
birth_kept i s (Renewed j b d x ∷ ws) h = birth_kept i s ws h
birth_kept i s (Removed j b d ∷ ws) h = birth_kept i s ws h

birth_low : (i s : ℕ) (ws : List Write) → birth_at i s ws ≤ s
birth_low i s [] = omega arith
birth_low i s (Begin j b d ∷ ws) = ⊎_elim
    (λ (t : (i ≡ j) × (b ≤ s) × ((eqb i j && leb b s) ≡ true)). let e = ap (λ (p : Bool). if p then b else birth_at i s ws) t.2 in let low = t.1 in omega arith)
    (λ (t : (i ≡ j → s < b) × ((eqb i j && leb b s) ≡ false)). let e = ap (λ (p : Bool). if p then b else birth_at i s ws) t.1 in let low = birth_low i s ws in omega arith)
    (tells_birth i s j b)
birth_low i s (Expired j b d ∷ ws) = birth_low i s ws
birth_low i s (Renewed j b d x ∷ ws) = birth_low i s ws
birth_low i s (Removed j b d ∷ ws) = birth_low i s ws

-- a Begin of the list counts
begun_has : (i b d : ℕ) (ws : List Write) → IsIn ws (Begin i b d) → 0 < begun_at i b ws
begun_has i b d [] h = absurd h
begun_has i b d (w ∷ ws) h = ⊎_elim
    (λ (e : Begin i b d ≡ w). let P : Write → Type 0 = λ (x : Write). 0 < begun_at i b (x ∷ ws) in subst P e (let one : one_if (is_at i b i b) ≡ 1 = ap one_if (at_here i b) in omega arith))
    (λ (k : IsIn ws (Begin i b d)). let a = begun_has i b d ws k in more w a) h
  where
    more : (w : Write) → 0 < begun_at i b ws → 0 < begun_at i b (w ∷ ws)
    more (Begin j t x) a = omega arith
    more (Expired j t x) a = a
    more (Renewed j t x y) a = a
    more (Removed j t x) a = a

-- the stamp of the word was not renewed
last_stays : (n s : ℕ) (f : File) → stamp_of n ≡ s → Law n s f → renewed_in f.ends ≡ 0
last_stays n s f at law = ⊎_elim
    (λ (u : UnbornStamp n s f). ap (λ (g : File). renewed_in g.ends) u.none)
    (⊎_elim (λ (l : LivingStamp n s f). ap renewed_in l.unended)
    (⊎_elim (λ (c : CancelledStamp n s f). ap renewed_in c.unended)
    (λ (e : EndedStamp n s f). ⊎_elim
    (λ (now : (n ≡ word s e.mark e.deadline) × (1 < e.mark) × (e.mark < 4)). let a = now.1 in
    let z : one_if (eqb e.mark 0) ≡ 0 = ap one_if (ne_eqb e.mark 0 (λ q. omega arith)) in
    let r : renewed_in f.ends ≡ one_if (eqb e.mark 0) + 0 = ap renewed_in e.ended in omega arith)
    (λ (left : Left n s). absurd (omega arith)) e.now)))
    law

module _ (rows : ℕ) (t : State ℕ View) (r : Ruled rows t) (i b : ℕ) (inside : i < rows) (begun : 0 < begun_at i b (keeper_writes t.views)) where
  abbrev ws : List Write
  ws = keeper_writes t.views

  abbrev top : ℕ
  top = stamp_of (get_or t.words i 0)

  abbrev f : ℕ → ℕ
  f s = fates_at i s t

  abbrev renewed : ℕ → ℕ
  renewed s = renewed_in (ends_at i s ws)

  -- 1 where the entry of birth b had the stamp k and was renewed there
  abbrev carried : ℕ → ℕ
  carried k = if eqb (birth_at i k ws) b then renewed k else 0

  one_fate : (s : ℕ) → 0 < s → s ≤ top → f s + renewed s ≡ 1
  one_fate s pos low = let a = stamps rows t r i s inside pos low in let e = a.1 in let w = both_ways (ends_at i s ws) in omega arith

  one_base : (s : ℕ) → s + 1 ≤ top → begun_at i (s + 1) ws + renewed s ≡ 1
  one_base s low = let a = stamps rows t r i (s + 1) inside (omega arith) low in let e = a.0 in let k = bases_count i s ws in omega arith

  mine : (k : ℕ) (x : ℕ) → birth_at i k ws ≡ b → (if eqb (birth_at i k ws) b then x else 0) ≡ x
  mine k x e = ap (λ (p : Bool). if p then x else 0) (eq-eqb (birth_at i k ws) b e)

  other : (k : ℕ) (x : ℕ) → birth_at i k ws ≢ b → ◌≡◌ {A = ℕ} (if eqb (birth_at i k ws) b then x else 0) 0
  other k x ne = ap (λ (p : Bool). if p then x else 0) (ne_eqb (birth_at i k ws) b ne)

  pub known : (0 < b) × (b ≤ given_in i ws)
  known = begun_given i b ws r.tallied.ordered begun

  pub walks : (k : ℕ) → k ≤ top → (k < b → over_life f i b ws k ≡ 0) × (b ≤ k → over_life f i b ws k + carried k ≡ 1)
  walks zero low = ((λ h. refl), λ h. absurd (let a = known.0 in omega arith))
  walks (suc k) low =
      let before = walks k (omega arith) in
      let fate = one_fate (suc k) (omega arith) low in
      let base : begun_at i (suc k) ws + renewed k ≡ 1 = let e : k + 1 ≡ suc k = omega arith in let P : ℕ → Type 0 = λ z. begun_at i z ws + renewed k ≡ 1 in subst P e (one_base k (omega arith)) in (
        (λ early. let a = birth_low i (suc k) ws in let z = other (suc k) (f (suc k)) (λ e. omega arith) in let y = before.0 (omega arith) in omega arith),
        (λ late. by_index b (suc k) (over_life f i b ws (suc k) + carried (suc k) ≡ 1)
            (λ (e : suc k ≡ b). let P : ℕ → Type 0 = λ z. 0 < begun_at i z ws in
            let born : birth_at i (suc k) ws ≡ b = birth_begun i (suc k) ws r.tallied.ordered (subst P (sym e) begun) ∙ e in
            let x = mine (suc k) (f (suc k)) born in let y = mine (suc k) (renewed (suc k)) born in let z = before.0 (omega arith) in omega arith)
            (λ ne. let old = before.1 (omega arith) in
            by_order 1 (begun_at i (suc k) ws) (over_life f i b ws (suc k) + carried (suc k) ≡ 1)
            (λ fresh. let born = birth_begun i (suc k) ws r.tallied.ordered (omega arith) in
            let away : birth_at i (suc k) ws ≢ b = (λ (e : birth_at i (suc k) ws ≡ b). ne (sym born ∙ e)) in
            let x = other (suc k) (f (suc k)) away in let y = other (suc k) (renewed (suc k)) away in
            let gone : renewed k ≡ 0 = omega arith in
            let done : carried k ≡ 0 = quiet k gone in
            omega arith)
            (λ renews. let born = birth_kept i k ws (omega arith) in
            let full : renewed k ≡ 1 = omega arith in
            by_index b (birth_at i k ws) (over_life f i b ws (suc k) + carried (suc k) ≡ 1)
            (λ e. let x = mine (suc k) (f (suc k)) (born ∙ e) in let y = mine (suc k) (renewed (suc k)) (born ∙ e) in let z = mine k (renewed k) e in omega arith)
            (λ away. let x = other (suc k) (f (suc k)) (λ e. away (sym born ∙ e)) in let y = other (suc k) (renewed (suc k)) (λ e. away (sym born ∙ e)) in let z = other k (renewed k) away in omega arith)))),
      )
    where
      quiet : (k : ℕ) → renewed k ≡ 0 → carried k ≡ 0
      quiet k h = by (eqb (birth_at i k ws) b) where
        by : (p : Bool) → ◌≡◌ {A = ℕ} (if p then renewed k else 0) 0
        by true = h
        by false = refl

pub entries : EntriesEndOnce
entries rows t r i b base h = by_order rows i _
    (λ far. absurd (let o = others rows t r i b (inl far) in let begun = begun_has i b base (keeper_writes t.views) h in none_begun b o begun))
    (λ inside. let begun = begun_has i b base (keeper_writes t.views) h in
    let top : ℕ = stamp_of (get_or t.words i 0) in
    let known_low = known rows t r i b inside begun in
    let given = r.tallied.given i inside in
    let low = known_low.1 in
    let pos = known_low.0 in
    let walk = (walks rows t r i b inside begun top (omega arith)).1 (omega arith) in
    let stays : renewed_in (ends_at i top (keeper_writes t.views)) ≡ 0 = last_stays (get_or t.words i 0) top (file i top t.views) refl (r.kept.cells i top inside (omega arith)) in
    let none_left = quiet_at (eqb (birth_at i top (keeper_writes t.views)) b) (renewed_in (ends_at i top (keeper_writes t.views))) stays in
    omega arith)
  where
    quiet_at : (p : Bool) (x : ℕ) → x ≡ 0 → ◌≡◌ {A = ℕ} (if p then x else 0) 0
    quiet_at true x e = e
    quiet_at false x e = refl

    none_begun : (s : ℕ) → file i s t.views ≡ blank → 0 < begun_at i s (keeper_writes t.views) → ⊥
    none_begun zero o begun = let a = (begun_given i 0 (keeper_writes t.views) r.tallied.ordered begun).0 in omega arith
    none_begun (suc k) o begun =
        let e : k + 1 ≡ suc k = omega arith in
        let P : ℕ → Type 0 = λ s. length (bases_at i s (keeper_writes t.views)) ≡ begun_at i s (keeper_writes t.views) + renewed_in (ends_at i k (keeper_writes t.views)) in
        let c = subst P e (bases_count i k (keeper_writes t.views)) in
        let z : length (bases_at i (suc k) (keeper_writes t.views)) ≡ 0 = ap (λ (g : File). length g.bases) o in
        omega arith
