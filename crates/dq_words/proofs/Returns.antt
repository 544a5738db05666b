-- The steps on the return word keep the rule.
use Rattle.std.proofs.Common.{◌≡◌, ◌≢◌, ℕ, zero, suc, ◌+◌, ◌*◌, ◌/◌, ◌%◌, ◌^◌, ◌<◌, ◌≤◌, if◌then◌else◌, Bool, true, false, true≢false, List, [], ◌∷◌, length, get_or, set, sym, refl, ap, ◌∙◌, subst, inl, inr, ⊎_elim, length-set, get_or-set_same, get_or-set_other, le_refl, arith}
use mathlib.Core.Option.{some, none, some-injective, some-ne-none}
use lib.ListN.{get_elem?}
use Rattle.atomic_table.specs.Table.{State, step, keeps, Allows}
use Rattle.atomic_table.proofs.Lists.{at_set}
use Rattle.dq_words.specs.declared.views.View.{View}
use Rattle.dq_ticks.specs.Word.{stamp_of}
use Rattle.dq_words.specs.Word.{LearnedWord}
use Rattle.dq_words.specs.Counts.{most_begins, begins_in, expiries_in, removals_in, cancels_in, total, goes, gone_cancels, made_cancels, lives, issued_in, returns_in, given_in, InOrder, passes_of, passed_cancels, withdrawn}
use Rattle.dq_words.specs.Files.{File, file, keeper_writes}
use Rattle.dq_words.specs.Rule.{Law, HadAt, Had, Role, Sees, Kept, Tallied, Ruled}
use Rattle.dq_words.specs.Plays.{WordMe, Knowing, giving_back, loading_return, give_back_made, return_loaded}
use Rattle.dq_words.proofs.Gathers.{file_same, writes_same, writes_own}
use Rattle.dq_words.proofs.Advances.{role_first, role_here, role_issuer, role_after, after}
use Rattle.dq_words.proofs.Knowing.{knows}
use Rattle.dq_words.proofs.Tallies.{total_set, total_le, below_other, below_bound, issued_same, returns_same, goes_none, gone_none, passes_same, passes_none, reaped_same}
use Rattle.dq_words.proofs.Steps.{Outcome}

module _ (rows : ℕ) (t : State ℕ View) (r : Kept rows t) (id : ℕ) (v w : View) (n : ℕ) (at : get_elem? t.views id ≡ some v) (s : w.seen ≡ v.seen) (k : w.keeps ≡ v.keeps) (q : w.passes ≡ v.passes) (g : v.keeps ≡ true → w.gone ≡ v.gone) (c : w.calls ≡ v.calls) (e : w.writes ≡ v.writes) where
  same_word : (i : ℕ) → i < rows → get_or (set t.words rows n) i 0 ≡ get_or t.words i 0
  same_word i h = get_or-set_other t.words rows i n 0 (λ z. omega arith)

  same_file : (j z : ℕ) → file j z (set t.views id w) ≡ file j z t.views
  same_file j z = file_same t.views id v w j z at c e

  had_same : (x i : ℕ) → Had x i t.views → Had x i (set t.views id w)
  had_same x i h = ⊎_elim inl (λ (a : (z : ℕ) × HadAt x z (file i z t.views)). inr (a.0, let P : File → Type 0 = λ f. HadAt x a.0 f in subst P (sym (same_file i a.0)) a.1)) h

  sees_same : (j : ℕ) (u u' : View) → u'.seen ≡ u.seen → u'.keeps ≡ u.keeps → (Role j u → Role j u') → Sees rows t.words t.views j u → Sees rows (set t.words rows n) (set t.views id w) j u'
  sees_same j u u' same same_role role old = record {
    role = role old.role;
    row = ap length same ∙ old.row;
    below = λ i h. let a = same_word i h in let b = old.below i h in let d : get_or u'.seen i 0 ≡ get_or u.seen i 0 = ap (λ (xs : List ℕ). get_or xs i 0) same in omega arith;
    had = λ i h. let P : List ℕ → Type 0 = λ xs. Had (get_or xs i 0) i (set t.views id w) in subst P (sym same) (had_same (get_or u.seen i 0) i (old.had i h));
    learns = λ is i h. let P : List ℕ × ℕ → Type 0 = λ x. LearnedWord (get_or x.0 i 0) x.1 in subst P (λ z. (sym same z, sym (same_word i h) z)) (old.learns (sym same_role ∙ is) i h);
  }

  pub kept_return : (held : List (ℕ × ℕ)) → Kept rows (after t rows n id held w)
  kept_return held = record {
    sized = length-set t.words rows n ∙ r.sized;
    cells = λ i z h p. let P : ℕ × File → Type 0 = λ x. Law x.0 z x.1 in subst P (λ q. (sym (same_word i h) q, sym (same_file i z) q)) (r.cells i z h p);
    outside = λ i z h. same_file i z ∙ r.outside i z h;
    unused = λ i h small. let a = same_word i h in a ∙ r.unused i h (omega arith);
    sees = λ j u there. ⊎_elim
        (λ (x : (j ≡ id) × (w ≡ u)). let P : ℕ × View → Type 0 = λ y. Sees rows (set t.words rows n) (set t.views id w) y.0 y.1 in
        subst P (λ z. (sym x.0 z, x.1 z)) (sees_same id v w s k (role_after id v w k q g (λ _. c) (λ _. e)) (r.sees id v at)))
        (λ (x : (j ≢ id) × (get_elem? t.views j ≡ some u)). sees_same j u u refl refl (λ y. y) (r.sees j u x.1))
        (at_set t.views id j w u there);
  }

goes_le : (v : View) → goes v + passes_of v ≤ 1
goes_le v = by v.passes v.gone where
  by : (p b : Bool) → (if p then 0 else (if b then 1 else 0)) + (if p then 1 else 0) ≤ 1
  by true b = omega arith
  by false true = omega arith
  by false false = omega arith

total_goes : (vs : List View) → total goes vs + total passes_of vs ≤ length vs
total_goes [] = omega arith
total_goes (v ∷ vs) = let a = goes_le v in let b = total_goes vs in omega arith

gone_le : (v : View) → gone_cancels v ≤ made_cancels v
gone_le v = by v.passes v.gone where
  by : (p b : Bool) → (if p then 0 else (if b then cancels_in v.calls else 0)) ≤ cancels_in v.calls
  by true b = omega arith
  by false true = omega arith
  by false false = omega arith

total_gone : (vs : List View) → total gone_cancels vs ≤ total made_cancels vs
total_gone [] = omega arith
total_gone (v ∷ vs) = let a = gone_le v in let b = total_gone vs in omega arith

goes_one : (v : View) → goes v + passes_of v ≡ 1 → gone_cancels v + passed_cancels v ≡ made_cancels v
goes_one v h = by v.passes v.gone h where
  by : (p b : Bool) → ◌≡◌ {A = ℕ} ((if p then 0 else (if b then 1 else 0)) + (if p then 1 else 0)) 1 → (if p then 0 else (if b then cancels_in v.calls else 0)) + (if p then cancels_in v.calls else 0) ≡ cancels_in v.calls
  by true b e = omega arith
  by false true e = omega arith
  by false false e = absurd (omega arith)

all_gone : (vs : List View) → total goes vs + total passes_of vs ≡ length vs → total gone_cancels vs + total passed_cancels vs ≡ total made_cancels vs
all_gone [] h = refl
all_gone (v ∷ vs) h = let a = goes_le v in let b = total_goes vs in let c = goes_one v (omega arith) in let d = all_gone vs (omega arith) in omega arith

-- all but the keeper are gone
pub others_gone : (vs : List View) (id : ℕ) (v : View) → id ≡ 0 → get_elem? vs id ≡ some v → v.gone ≡ false → v.passes ≡ false → v.calls ≡ [] → (total goes vs + 1) + total passes_of vs ≡ length vs → total gone_cancels vs + total passed_cancels vs ≡ total made_cancels vs
others_gone [] id v first at here issuer none_made h = absurd (some-ne-none v (sym at))
others_gone (u ∷ vs) zero v first at here issuer none_made h =
    let same : u ≡ v = some-injective u v at in
    let a : goes u ≡ 0 = ap goes same ∙ goes_none v here in
    let b : gone_cancels u ≡ 0 = ap gone_cancels same ∙ gone_none v here in
    let q : passed_cancels u ≡ 0 = ap passed_cancels same ∙ ap (λ (b : Bool). if b then cancels_in v.calls else 0) issuer in
    let p : passes_of u ≡ 0 = ap passes_of same ∙ passes_none v issuer in
    let d : made_cancels u ≡ 0 = ap made_cancels same ∙ ap cancels_in none_made in
    let f = all_gone vs (omega arith) in
    omega arith
others_gone (u ∷ vs) (suc id) v first at here issuer none_made h = absurd (omega arith)

goes_yes : (v : View) → v.passes ≡ false → v.gone ≡ true → goes v ≡ 1
goes_yes v p h = ap (λ (x : Bool × Bool). if x.0 then 0 else (if x.1 then 1 else 0)) (λ k. (p k, h k))

gone_yes : (v : View) → v.passes ≡ false → v.gone ≡ true → gone_cancels v ≡ made_cancels v
gone_yes v p h = ap (λ (x : Bool × Bool). if x.0 then 0 else (if x.1 then cancels_in v.calls else 0)) (λ k. (p k, h k))

-- all cancels together are few
pub all_few : (rows : ℕ) (t : State ℕ View) (r : Tallied rows t) → total made_cancels t.views ≤ most_begins
all_few rows t r = let a = r.balance in let b = r.bounded in let c = below_bound t.words rows r.wide in let d = r.few in omega arith

-- what a step on the return word keeps of the numbers
numbers_on : (rows : ℕ) (t : State ℕ View) (r : Tallied rows t) (sized : length t.words ≡ rows + 1) (id : ℕ) (v w : View) (n : ℕ) → get_elem? t.views id ≡ some v → w.passes ≡ v.passes → w.calls ≡ v.calls → w.writes ≡ v.writes → w.reaped ≡ v.reaped → w.issued ≡ v.issued
    → n ≡ total goes (set t.views id w) + 2048 * total gone_cancels (set t.views id w)
    → returns_in (set t.views id w) % 2048 ≤ total goes (set t.views id w)
    → (returns_in (set t.views id w) % 2048 ≡ total goes (set t.views id w) → returns_in (set t.views id w) ≡ n)
    → (held : List (ℕ × ℕ)) → Tallied rows (after t rows n id held w)
numbers_on rows t r sized id v w n at passed calls writes reaped issued returned older same held =
    let in_words : rows < length t.words = omega arith in
    let here : get_or (set t.words rows n) rows 0 ≡ n = get_or-set_same t.words rows n 0 in_words in
    let other = λ (j : ℕ) (h : j < rows). let e : get_or (set t.words rows n) j 0 ≡ get_or t.words j 0 = get_or-set_other t.words rows j n 0 (λ z. omega arith) in e in
    let k = writes_same t.views id v w at writes in
    let own = total_set made_cancels t.views id v w at in
    let own_one : made_cancels w ≡ made_cancels v = ap cancels_in calls in
    let kb : begins_in (keeper_writes (set t.views id w)) ≡ begins_in (keeper_writes t.views) = ap begins_in k in
    let ke : expiries_in (keeper_writes (set t.views id w)) ≡ expiries_in (keeper_writes t.views) = ap expiries_in k in
    let kr : removals_in (keeper_writes (set t.views id w)) ≡ removals_in (keeper_writes t.views) = ap removals_in k in
    let bl = below_other lives t.words rows n rows (le_refl rows) in
    let bs = below_other stamp_of t.words rows n rows (le_refl rows) in
    let iss = issued_same t.views id v w at issued in
    record {
      few = r.few;
      wide = λ j h. let a = other j h in let b = r.wide j h in omega arith;
      issued = let a = r.issued in let b = length-set t.views id w in let d = total_set passes_of t.views id v w at in let e = passes_same v w passed in omega arith;
      limit = let a = r.limit in omega arith;
      returned = here ∙ returned;
      older = older;
      same = λ h. same h ∙ sym here;
      balance = let a = r.balance in omega arith;
      reaped = let a = r.reaped in let b = reaped_same t.views id v w at reaped in let d = below_other withdrawn t.words rows n rows (le_refl rows) in omega arith;
      ordered = subst InOrder (sym k) r.ordered;
      given = λ j h. ap (given_in j) k ∙ r.given j h ∙ ap stamp_of (sym (other j h));
      bounded = let a = r.bounded in omega arith;
    }

module _ (rows : ℕ) (t : State ℕ View) (r : Tallied rows t) (sized : length t.words ≡ rows + 1) (id : ℕ) (v : View) (at : get_elem? t.views id ≡ some v) (here : v.gone ≡ false) (issued : v.passes ≡ false) where
  -- with one caller more gone
  abbrev c : ℕ
  c = cancels_in v.calls

  gone_more : total goes (set t.views id (giving_back v)) ≡ total goes t.views + 1
  gone_more = let a = total_set goes t.views id v (giving_back v) at in let b = goes_none v here in let d = goes_yes (giving_back v) issued refl in omega arith

  cancels_more : total gone_cancels (set t.views id (giving_back v)) ≡ total gone_cancels t.views + c
  cancels_more = let a = total_set gone_cancels t.views id v (giving_back v) at in let b = gone_none v here in let d : gone_cancels (giving_back v) ≡ c = gone_yes (giving_back v) issued refl in omega arith

  pub gone_few : (total goes t.views + 1) + total passes_of t.views ≤ length t.views
  gone_few = let e = total_set passes_of t.views id v (giving_back v) at in let f = passes_same v (giving_back v) refl in let a = gone_more in let b = total_goes (set t.views id (giving_back v)) in let d = length-set t.views id (giving_back v) in omega arith

  pub no_wrap : (get_or t.words rows 0 + (1 + 2048 * c)) % 18446744073709551616 ≡ get_or t.words rows 0 + (1 + 2048 * c)
  no_wrap =
      let a = r.returned in let b = gone_few in let d = r.issued in let e = r.limit in
      let f = total_gone t.views in let g = all_few rows t r in let h = total_le made_cancels t.views id v at in
      omega arith

  pub gives : (held : List (ℕ × ℕ)) → Tallied rows (after t rows (get_or t.words rows 0 + (1 + 2048 * c)) id held (giving_back v))
  gives held =
      let w : View = giving_back v in
      let a = r.returned in let g = gone_more in let m = cancels_more in let o = r.older in
      let ret = returns_same t.views id v w at refl in
      let ret' : returns_in (set t.views id w) % 2048 ≡ returns_in t.views % 2048 = ap (λ z. z % 2048) ret in
      numbers_on rows t r sized id v w (get_or t.words rows 0 + (1 + 2048 * c)) at refl refl refl refl refl (omega arith) (omega arith) (λ h. absurd (omega arith)) held

module _ (rows : ℕ) (t : State ℕ View) (r : Tallied rows t) (sized : length t.words ≡ rows + 1) (id : ℕ) (v : View) (at : get_elem? t.views id ≡ some v) (here : v.gone ≡ false) (issuer : v.passes ≡ false) (first : id ≡ 0) where
  own_issued : issued_in t.views ≡ v.issued
  own_issued = by t.views id first at where
    by : (vs : List View) (j : ℕ) → j ≡ 0 → get_elem? vs j ≡ some v → issued_in vs ≡ v.issued
    by [] j z h = absurd (some-ne-none v (sym h))
    by (u ∷ vs) zero z h = ap (λ (x : View). x.issued) (some-injective u v h)
    by (u ∷ vs) (suc j) z h = absurd (omega arith)

  own_writes : keeper_writes t.views ≡ v.writes
  own_writes = let P : ℕ → Type 0 = λ j. get_elem? t.views j ≡ some v in writes_own t.views v (subst P first at)

  low : get_or t.words rows 0 % 2048 ≡ total goes t.views
  low = let a = r.returned in let b = gone_few rows t r sized id v at here issuer in let d = r.issued in let e = r.limit in omega arith

  high : get_or t.words rows 0 / 2048 ≡ total gone_cancels t.views
  high = let a = r.returned in let b = gone_few rows t r sized id v at here issuer in let d = r.issued in let e = r.limit in omega arith

  pub return_few : get_or t.words rows 0 % 2048 ≤ v.issued
  return_few = let a = low in let b = gone_few rows t r sized id v at here issuer in let d = r.issued in let e = own_issued in omega arith

  pub return_cancels : (expiries_in v.writes + removals_in v.writes) + get_or t.words rows 0 / 2048 ≤ begins_in v.writes
  return_cancels =
      let a = high in let b = total_gone t.views in let d = r.balance in
      let kb : begins_in (keeper_writes t.views) ≡ begins_in v.writes = ap begins_in own_writes in
      let ke : expiries_in (keeper_writes t.views) ≡ expiries_in v.writes = ap expiries_in own_writes in
      let kr : removals_in (keeper_writes t.views) ≡ removals_in v.writes = ap removals_in own_writes in
      omega arith

  abbrev w : View
  w = loading_return v (get_or t.words rows 0)

  same_goes : total goes (set t.views id w) ≡ total goes t.views
  same_goes = let a = total_set goes t.views id v w at in let b = goes_none v here in let d = goes_none w here in omega arith

  same_cancels : total gone_cancels (set t.views id w) ≡ total gone_cancels t.views
  same_cancels = let a = total_set gone_cancels t.views id v w at in let b = gone_none v here in let d = gone_none w here in omega arith

  pub return_tallied : (held : List (ℕ × ℕ)) → Tallied rows (after t rows (get_or t.words rows 0) id held w)
  return_tallied held =
      let a = r.returned in let g = same_goes in let m = same_cancels in
      let ret : returns_in (set t.views id w) ≡ get_or t.words rows 0 = by t.views id first at in
      let ret' : returns_in (set t.views id w) % 2048 ≡ get_or t.words rows 0 % 2048 = ap (λ z. z % 2048) ret in
      let l = low in
      numbers_on rows t r sized id v w (get_or t.words rows 0) at refl refl refl refl refl (omega arith) (omega arith) (λ h. ret) held
    where
      by : (vs : List View) (j : ℕ) → j ≡ 0 → get_elem? vs j ≡ some v → returns_in (set vs j (loading_return v (get_or t.words rows 0))) ≡ get_or t.words rows 0
      by [] j z h = absurd (some-ne-none v (sym h))
      by (u ∷ vs) zero z h = refl
      by (u ∷ vs) (suc j) z h = absurd (omega arith)

module _ (rows : ℕ) where
  pub gives_back : (slots id : ℕ) (me : WordMe) (k : ℕ) → me.0.keeps ≡ false → me.0.gone ≡ false → me.0.passes ≡ false → k ≡ 1 + 2048 * cancels_in me.0.calls → Allows (Ruled rows) slots id me rows (λ n. (n + k) % 2 ^ 64) (Knowing give_back_made (step slots rows k 0 none) me)
  gives_back slots id me k caller here issued counts = knows rows slots id me rows (λ n. (n + k) % 2 ^ 64) (give_back_made (step slots rows k 0 none) me) (λ t r sized at wide.
      let n : ℕ = get_or t.words rows 0 in
      let w : View = giving_back me.0 in
      let m : ℕ = n + (1 + 2048 * cancels_in me.0.calls) in
      let e : m ≡ (n + k) % 18446744073709551616 = sym (no_wrap rows t r.tallied r.kept.sized id me.0 at here issued) ∙ ap (λ z. (n + z) % 18446744073709551616) (sym counts) in
      let P : ℕ → Type 0 = λ z. Outcome rows t rows id me z (give_back_made (step slots rows k 0 none) me n) in
      subst P e (w, keeps, tt, record { kept = kept_return rows t r.kept id me.0 w m at refl refl refl (λ yes. absurd (true≢false (sym yes ∙ caller))) refl refl me.1; tallied = gives rows t r.tallied r.kept.sized id me.0 at here issued me.1 }, refl))

  pub return_loads : (slots id : ℕ) (me : WordMe) → me.0.keeps ≡ true → Allows (Ruled rows) slots id me rows (λ n. n) (Knowing return_loaded (step slots rows 0 0 none) me)
  return_loads slots id me keeper = knows rows slots id me rows (λ n. n) (return_loaded (step slots rows 0 0 none) me) (λ t r sized at wide.
      let n : ℕ = get_or t.words rows 0 in
      let w : View = loading_return me.0 n in
      let mine = r.kept.sees id me.0 at in
      let first = role_first id me.0 mine.role keeper in
      let here = role_here id me.0 mine.role keeper in
      let issuer = role_issuer id me.0 mine.role keeper in (
        w,
        keeps,
        tt,
        record { kept = kept_return rows t r.kept id me.0 w n at refl refl refl (λ _. refl) refl refl me.1; tallied = return_tallied rows t r.tallied r.kept.sized id me.0 at here issuer first me.1 },
        (
          refl,
          return_few rows t r.tallied r.kept.sized id me.0 at here issuer first,
          return_cancels rows t r.tallied r.kept.sized id me.0 at here issuer first,
        ),
      ))
