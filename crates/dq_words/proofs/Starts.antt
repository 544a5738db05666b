-- The table at the start, and a new caller.
use Rattle.std.proofs.Common.{◌≡◌, ◌≢◌, ℕ, zero, suc, ◌+◌, ◌%◌, ◌<◌, ◌≤◌, true, true≢false, List, [], ◌∷◌, ◌++◌, length, get_or, set, replicate, sym, refl, ap, ◌∙◌, subst, inl, inr, ⊎_elim, length-append, length-set, zero-le, arith}
use Rattle.std.proofs.lemmas.List.{length-replicate}
use mathlib.Core.Option.{some, some-injective, some-ne-none}
use lib.ListN.{get_elem?}
use Rattle.atomic_table.specs.Table.{State, opening, Splits}
use Rattle.atomic_table.proofs.Lists.{at_set, at_snoc}
use Rattle.dq_words.specs.declared.views.View.{View}
use Rattle.dq_ticks.specs.Word.{stamp_of}
use Rattle.dq_words.specs.Word.{LearnedWord}
use Rattle.dq_words.specs.Counts.{begins_in, expiries_in, removals_in, total, goes, gone_cancels, made_cancels, lives, below, issued_in, returns_in, given_in, InOrder, passes_of, withdrawn, reaped_in}
use Rattle.dq_words.specs.Files.{File, file, keeper_writes, bases_at, ends_at, extends_at, cancels_at}
use Rattle.dq_words.specs.Rule.{Law, HadAt, Had, Role, Sees, Kept, Tallied, Ruled, zeros, first_keeper}
use Rattle.dq_words.specs.Plays.{issuing, newcomer}
use Rattle.dq_words.proofs.Gathers.{writes_same, writes_new, gathered_same, gathered_new, file_of}
use Rattle.dq_words.proofs.Advances.{role_first}
use Rattle.dq_words.proofs.Tallies.{total_set, total_new, lives_none, withdrawn_none}

pub zero_at : (n i : ℕ) → get_or (zeros n) i 0 ≡ 0
zero_at zero i = refl
zero_at (suc n) zero = refl
zero_at (suc n) (suc i) = zero_at n i

starts_kept : (rows : ℕ) (words : List ℕ) → words ≡ replicate (rows + 1) 0 → Kept rows (opening words [] (first_keeper rows))
starts_kept rows words is =
    let word = λ (i : ℕ). let e : get_or words i 0 ≡ 0 = ap (λ (ws : List ℕ). get_or ws i 0) is ∙ zero_at (rows + 1) i in e in
    record {
      sized = ap length is ∙ length-replicate (rows + 1) 0;
      cells = λ i s h p. let a = word i in inl record { none = refl; below = omega arith };
      outside = λ i s h. refl;
      unused = λ i h small. word i;
      sees = λ j v at. by j v at;
    }
  where
    at_zero : (i : ℕ) → get_or words i 0 ≡ 0
    at_zero i = ap (λ (ws : List ℕ). get_or ws i 0) is ∙ zero_at (rows + 1) i

    mine : Sees rows words (first_keeper rows ∷ []) 0 (first_keeper rows)
    mine = record {
      role = (refl, refl, refl, refl);
      row = length-replicate rows 0;
      below = λ i h. let a = zero_at rows i in omega arith;
      had = λ i h. inl (zero_at rows i);
      learns = λ k i h. inl (at_zero i ∙ sym (zero_at rows i));
    }

    by : (j : ℕ) (v : View) → get_elem? (first_keeper rows ∷ []) j ≡ some v → Sees rows words (first_keeper rows ∷ []) j v
    by zero v at = let P : View → Type 0 = λ u. Sees rows words (first_keeper rows ∷ []) 0 u in subst P (some-injective (first_keeper rows) v at) mine
    by (suc j) v at = absurd (some-ne-none v (sym at))

nonempty : (l : List View) (j : ℕ) (u : View) → get_elem? l j ≡ some u → 0 < length l
nonempty [] j u at = absurd (some-ne-none u (sym at))
nonempty (v ∷ l) j u at = omega arith

module _ (rows : ℕ) (t : State ℕ View) (r : Kept rows t) (id : ℕ) (v : View) (at : get_elem? t.views id ≡ some v) (keeper : v.keeps ≡ true) where
  abbrev now : List View
  now = set t.views id (issuing v)

  some_there : 0 < length now
  some_there = let a = nonempty t.views id v at in let b = length-set t.views id (issuing v) in omega arith

  same_file : (j z : ℕ) → file j z (now ++ newcomer v ∷ []) ≡ file j z t.views
  same_file j z =
      let k : keeper_writes (now ++ newcomer v ∷ []) ≡ keeper_writes t.views = writes_new now (newcomer v) some_there ∙ writes_same t.views id v (issuing v) at refl in
      file_of _ _ _ _ _ _ _ _ (ap (bases_at j z) k) (ap (ends_at j z) k)
      (gathered_new (extends_at j z) now (newcomer v) refl ∙ gathered_same (extends_at j z) t.views id v (issuing v) at refl)
      (gathered_new (cancels_at j z) now (newcomer v) refl ∙ gathered_same (cancels_at j z) t.views id v (issuing v) at refl)

  had_same : (x i : ℕ) → Had x i t.views → Had x i (now ++ newcomer v ∷ [])
  had_same x i h = ⊎_elim inl (λ (a : (z : ℕ) × HadAt x z (file i z t.views)). inr (a.0, let P : File → Type 0 = λ f. HadAt x a.0 f in subst P (sym (same_file i a.0)) a.1)) h

  keeps_seat : (j : ℕ) (u u' : View) → u'.seen ≡ u.seen → u'.keeps ≡ u.keeps → (Role j u → Role j u') → Sees rows t.words t.views j u → Sees rows t.words (now ++ newcomer v ∷ []) j u'
  keeps_seat j u u' same same_role role old = record {
    role = role old.role;
    row = ap length same ∙ old.row;
    below = λ i h. let b = old.below i h in let d : get_or u'.seen i 0 ≡ get_or u.seen i 0 = ap (λ (xs : List ℕ). get_or xs i 0) same in omega arith;
    had = λ i h. let P : List ℕ → Type 0 = λ xs. Had (get_or xs i 0) i (now ++ newcomer v ∷ []) in subst P (sym same) (had_same (get_or u.seen i 0) i (old.had i h));
    learns = λ is i h. let P : List ℕ → Type 0 = λ xs. LearnedWord (get_or xs i 0) (get_or t.words i 0) in subst P (sym same) (old.learns (sym same_role ∙ is) i h);
  }

  role_issuing : (j : ℕ) → Role j v → Role j (issuing v)
  role_issuing zero role = role
  role_issuing (suc j) role = role

  old_seat : (j : ℕ) (u : View) → get_elem? now j ≡ some u → Sees rows t.words (now ++ newcomer v ∷ []) j u
  old_seat j u there = ⊎_elim
      (λ (x : (j ≡ id) × (issuing v ≡ u)). let P : ℕ × View → Type 0 = λ y. Sees rows t.words (now ++ newcomer v ∷ []) y.0 y.1 in
      subst P (λ q. (sym x.0 q, x.1 q)) (keeps_seat id v (issuing v) refl refl (role_issuing id) (r.sees id v at)))
      (λ (x : (j ≢ id) × (get_elem? t.views j ≡ some u)). keeps_seat j u u refl refl (λ y. y) (r.sees j u x.1))
      (at_set t.views id j (issuing v) u there)

  new_seat : (j : ℕ) → Sees rows t.words (now ++ newcomer v ∷ []) (suc j) (newcomer v)
  new_seat j = let size = (r.sees id v at).row in record {
    role = (refl, refl);
    row = length-replicate (length v.seen) 0 ∙ size;
    below = λ i h. let a = zero_at (length v.seen) i in omega arith;
    had = λ i h. inl (zero_at (length v.seen) i);
    learns = λ is i h. absurd (true≢false (sym is));
  }

  seat_of : (j : ℕ) (u : View) → get_elem? (now ++ newcomer v ∷ []) j ≡ some u → Sees rows t.words (now ++ newcomer v ∷ []) j u
  seat_of zero u there = old_seat 0 u (head now some_there there) where
    head : (l : List View) → 0 < length l → get_elem? (l ++ newcomer v ∷ []) 0 ≡ some u → get_elem? l 0 ≡ some u
    head [] h e = absurd (omega arith)
    head (x ∷ l) h e = e
  seat_of (suc j) u there = ⊎_elim (λ h. old_seat (suc j) u h)
      (λ (is : newcomer v ≡ u). let P : View → Type 0 = λ y. Sees rows t.words (now ++ newcomer v ∷ []) (suc j) y in subst P is (new_seat j))
      (at_snoc now (newcomer v) u (suc j) there)

  pub issued_kept : Kept rows record { words = t.words; homes = t.homes; views = now ++ newcomer v ∷ [] }
  issued_kept = record {
    sized = r.sized;
    cells = λ i z h p. let P : File → Type 0 = λ f. Law (get_or t.words i 0) z f in subst P (sym (same_file i z)) (r.cells i z h p);
    outside = λ i z h. same_file i z ∙ r.outside i z h;
    unused = r.unused;
    sees = seat_of;
  }

zero_below : (f : ℕ → ℕ) → ◌≡◌ {A = ℕ} (f 0) 0 → (ws : List ℕ) → ((i : ℕ) → get_or ws i 0 ≡ 0) → (k : ℕ) → below f ws k ≡ 0
zero_below f h ws all zero = refl
zero_below f h ws all (suc k) = let a = zero_below f h ws all k in let b : f (get_or ws k 0) ≡ f 0 = ap f (all k) in omega arith

pub starts : (rows : ℕ) (words : List ℕ) → words ≡ replicate (rows + 1) 0 → rows ≤ 65536 → Ruled rows (opening words [] (first_keeper rows))
starts rows words is few =
    let all = λ (i : ℕ). let e : get_or words i 0 ≡ 0 = ap (λ (ws : List ℕ). get_or ws i 0) is ∙ zero_at (rows + 1) i in e in
    let l = zero_below lives lives_none words all rows in
    let s = zero_below stamp_of refl words all rows in
    let sh = zero_below withdrawn withdrawn_none words all rows in
    record {
      kept = starts_kept rows words is;
      tallied = record {
        few = few;
        wide = λ i h. let a = all i in omega arith;
        issued = refl;
        limit = omega arith;
        returned = all rows;
        older = zero-le;
        same = λ h. sym (all rows);
        balance = omega arith;
        reaped = omega arith;
        ordered = tt;
        given = λ i h. ap stamp_of (sym (all i));
        bounded = omega arith;
      };
    }

issued_own : (vs : List View) (id : ℕ) (v : View) → id ≡ 0 → get_elem? vs id ≡ some v → issued_in vs ≡ v.issued
issued_own [] id v first at = absurd (some-ne-none v (sym at))
issued_own (u ∷ vs) zero v first at = ap (λ (x : View). x.issued) (some-injective u v at)
issued_own (u ∷ vs) (suc id) v first at = absurd (omega arith)

issued_more : (vs : List View) (id : ℕ) (v u : View) → id ≡ 0 → get_elem? vs id ≡ some v → issued_in (set vs id (issuing v) ++ u ∷ []) ≡ v.issued + 1
issued_more [] id v u first at = absurd (some-ne-none v (sym at))
issued_more (x ∷ vs) zero v u first at = refl
issued_more (x ∷ vs) (suc id) v u first at = absurd (omega arith)

returns_more : (vs : List View) (id : ℕ) (v u : View) → id ≡ 0 → get_elem? vs id ≡ some v → returns_in (set vs id (issuing v) ++ u ∷ []) ≡ returns_in vs
returns_more [] id v u first at = absurd (some-ne-none v (sym at))
returns_more (x ∷ vs) zero v u first at = ap (λ (y : View). y.returns) (sym (some-injective x v at))
returns_more (x ∷ vs) (suc id) v u first at = absurd (omega arith)

reaped_more : (vs : List View) (id : ℕ) (v u : View) → id ≡ 0 → get_elem? vs id ≡ some v → reaped_in (set vs id (issuing v) ++ u ∷ []) ≡ reaped_in vs
reaped_more [] id v u first at = absurd (some-ne-none v (sym at))
reaped_more (x ∷ vs) zero v u first at = ap (λ (y : View). y.reaped) (sym (some-injective x v at))
reaped_more (x ∷ vs) (suc id) v u first at = absurd (omega arith)

issued_tallied : (rows : ℕ) (t : State ℕ View) (r : Tallied rows t) (id : ℕ) (v : View) → get_elem? t.views id ≡ some v → id ≡ 0 → v.issued < 1024 → Tallied rows record { words = t.words; homes = t.homes; views = set t.views id (issuing v) ++ newcomer v ∷ [] }
issued_tallied rows t r id v at first room =
    let vs : List View = set t.views id (issuing v) in
    let all : List View = vs ++ newcomer v ∷ [] in
    let some_seat : 0 < length vs = let a = nonempty t.views id v at in let b = length-set t.views id (issuing v) in omega arith in
    let k : keeper_writes all ≡ keeper_writes t.views = writes_new vs (newcomer v) some_seat ∙ writes_same t.views id v (issuing v) at refl in
    let kb : begins_in (keeper_writes all) ≡ begins_in (keeper_writes t.views) = ap begins_in k in
    let ke : expiries_in (keeper_writes all) ≡ expiries_in (keeper_writes t.views) = ap expiries_in k in
    let kr : removals_in (keeper_writes all) ≡ removals_in (keeper_writes t.views) = ap removals_in k in
    let same_total = λ (f : View → ℕ) (e : f (issuing v) ≡ f v) (z : f (newcomer v) ≡ 0). let a = total_set f t.views id v (issuing v) at in let b = total_new f vs (newcomer v) in let h : total f all ≡ total f t.views = omega arith in h in
    let g = same_total goes refl refl in
    let gc = same_total gone_cancels refl refl in
    let oc = same_total made_cancels refl refl in
    let pc = same_total passes_of refl refl in
    let is = issued_own t.views id v first at in
    let more = issued_more t.views id v (newcomer v) first at in
    let ret = returns_more t.views id v (newcomer v) first at in
    let rea = reaped_more t.views id v (newcomer v) first at in
    let ret' : returns_in all % 2048 ≡ returns_in t.views % 2048 = ap (λ z. z % 2048) ret in
    let len : length all ≡ length vs + 1 = length-append vs (newcomer v ∷ []) in
    let len' : length vs ≡ length t.views = length-set t.views id (issuing v) in
    let ri = r.issued in let rl = r.limit in let rr = r.returned in let ro = r.older in let rb = r.balance in let rn = r.bounded in
    record {
      few = r.few;
      wide = r.wide;
      issued = omega arith;
      limit = omega arith;
      returned = omega arith;
      older = omega arith;
      same = λ h. let f : returns_in t.views % 2048 ≡ total goes t.views = sym ret' ∙ h ∙ g in ret ∙ r.same f;
      balance = omega arith;
      reaped = let a = r.reaped in omega arith;
      ordered = subst InOrder (sym k) r.ordered;
      given = λ j h. ap (given_in j) k ∙ r.given j h;
      bounded = omega arith;
    }

pub issues : (rows id : ℕ) (v : View) → v.keeps ≡ true → v.issued < 1024 → Splits (Ruled rows) id v (issuing v) (newcomer v)
issues rows id v keeper room t r at = record {
  kept = issued_kept rows t r.kept id v at keeper;
  tallied = issued_tallied rows t r.tallied id v at (role_first id v (r.kept.sees id v at).role keeper) room;
}
