-- A step on one slot keeps the numbers.
use Rattle.std.proofs.Common.{◌≡◌, ◌≢◌, ℕ, zero, suc, ◌+◌, ◌*◌, ◌%◌, ◌<◌, ◌≤◌, eqb, ◌&&◌, not, if◌then◌else◌, Bool, true, false, List, [], ◌∷◌, ◌++◌, length, get_or, set, sym, refl, ap, ◌∙◌, subst, length-set, get_or-set_other, eq-eqb, ne_eqb, arith}
use mathlib.Core.Option.{some, some-injective, some-ne-none}
use lib.ListN.{get_elem?}
use Rattle.atomic_table.specs.Table.{State}
use Rattle.dq_words.specs.declared.views.View.{View}
use Rattle.dq_words.specs.declared.views.Write.{Write}
use Rattle.dq_ticks.specs.Word.{stamp_of, mark_of}
use Rattle.dq_words.specs.Counts.{most_begins, begins_in, expiries_in, removals_in, cancels_in, total, goes, gone_cancels, made_cancels, lives, below, issued_in, returns_in, given_in, InOrder, passes_of, reaped_in, withdrawn}
use Rattle.dq_words.specs.Files.{keeper_writes}
use Rattle.dq_words.specs.Rule.{Tallied, Ruled}
use Rattle.dq_words.proofs.Gathers.{writes_same}
use Rattle.dq_words.proofs.Advances.{by_index, get_here, Moves, after, advances}

pub lives_yes : (n : ℕ) → mark_of n ≡ 0 → 0 < stamp_of n → lives n ≡ 1
lives_yes n m s =
    let a : eqb (mark_of n) 0 ≡ true = eq-eqb (mark_of n) 0 m in
    let b : eqb (stamp_of n) 0 ≡ false = ne_eqb (stamp_of n) 0 (λ e. omega arith) in
    ap (λ (p : Bool × Bool). if p.0 && not p.1 then 1 else 0) (λ k. (a k, b k))

pub lives_no : (n : ℕ) → mark_of n ≢ 0 → lives n ≡ 0
lives_no n m = ap (λ (p : Bool). if p && not (eqb (stamp_of n) 0) then 1 else 0) (ne_eqb (mark_of n) 0 m)

pub lives_none : lives 0 ≡ 0
lives_none = refl

pub total_set : (f : View → ℕ) (vs : List View) (id : ℕ) (v w : View) → get_elem? vs id ≡ some v → total f (set vs id w) + f v ≡ total f vs + f w
total_set f [] id v w at = absurd (some-ne-none v (sym at))
total_set f (u ∷ vs) zero v w at = let e : f u ≡ f v = ap f (some-injective u v at) in omega arith
total_set f (u ∷ vs) (suc id) v w at = let e = total_set f vs id v w at in omega arith

pub total_new : (f : View → ℕ) (vs : List View) (u : View) → total f (vs ++ u ∷ []) ≡ total f vs + f u
total_new f [] u = omega arith
total_new f (v ∷ vs) u = let e = total_new f vs u in omega arith

pub total_le : (f : View → ℕ) (vs : List View) (id : ℕ) (v : View) → get_elem? vs id ≡ some v → f v ≤ total f vs
total_le f [] id v at = absurd (some-ne-none v (sym at))
total_le f (u ∷ vs) zero v at = let e : f u ≡ f v = ap f (some-injective u v at) in omega arith
total_le f (u ∷ vs) (suc id) v at = let e = total_le f vs id v at in omega arith

pub below_other : (f : ℕ → ℕ) (ws : List ℕ) (i n k : ℕ) → k ≤ i → below f (set ws i n) k ≡ below f ws k
below_other f ws i n zero h = refl
below_other f ws i n (suc k) h =
    let e = below_other f ws i n k (omega arith) in
    let g : f (get_or (set ws i n) k 0) ≡ f (get_or ws k 0) = ap f (get_or-set_other ws i k n 0 (λ x. omega arith)) in
    omega arith

pub below_set : (f : ℕ → ℕ) (ws : List ℕ) (i n k : ℕ) → i < k → i < length ws → below f (set ws i n) k + f (get_or ws i 0) ≡ below f ws k + f n
below_set f ws i n zero h l = absurd (omega arith)
below_set f ws i n (suc k) h l = by_index i k _
    (λ e. let a = below_other f ws i n k (omega arith) in let b : f (get_or (set ws i n) k 0) ≡ f n = ap f (get_here ws i k n l e) in let c : f (get_or ws k 0) ≡ f (get_or ws i 0) = ap (λ z. f (get_or ws z 0)) e in omega arith)
    (λ ne. let a = below_set f ws i n k (omega arith) l in let b : f (get_or (set ws i n) k 0) ≡ f (get_or ws k 0) = ap f (get_or-set_other ws i k n 0 ne) in omega arith)

pub below_bound : (ws : List ℕ) (k : ℕ) → ((i : ℕ) → i < k → get_or ws i 0 < 18446744073709551616) → below stamp_of ws k ≤ k * 1048575
below_bound ws zero h = omega arith
below_bound ws (suc k) h = let a = below_bound ws k (λ i l. h i (omega arith)) in let b = h k (omega arith) in omega arith

head_same : {A : Type 0} (f : View → A) (g : List View → A) → ((x : View) (xs : List View) → g (x ∷ xs) ≡ f x) → (vs : List View) (id : ℕ) (v w : View) → get_elem? vs id ≡ some v → f w ≡ f v → g (set vs id w) ≡ g vs
head_same f g h [] id v w at e = refl
head_same f g h (u ∷ vs) zero v w at e = h w vs ∙ e ∙ ap f (sym (some-injective u v at)) ∙ sym (h u vs)
head_same f g h (u ∷ vs) (suc id) v w at e = h u (set vs id w) ∙ sym (h u vs)

pub issued_same : (vs : List View) (id : ℕ) (v w : View) → get_elem? vs id ≡ some v → w.issued ≡ v.issued → issued_in (set vs id w) ≡ issued_in vs
issued_same vs id v w at e = head_same (λ (x : View). x.issued) issued_in (λ x xs. refl) vs id v w at e

pub returns_same : (vs : List View) (id : ℕ) (v w : View) → get_elem? vs id ≡ some v → w.returns ≡ v.returns → returns_in (set vs id w) ≡ returns_in vs
returns_same vs id v w at e = head_same (λ (x : View). x.returns) returns_in (λ x xs. refl) vs id v w at e

pub goes_none : (v : View) → v.gone ≡ false → goes v ≡ 0
goes_none v h = by v.passes v.gone h where
  by : (p b : Bool) → b ≡ false → ◌≡◌ {A = ℕ} (if p then 0 else (if b then 1 else 0)) 0
  by true b e = refl
  by false b e = ap (λ (x : Bool). if x then 1 else 0) e

pub gone_none : (v : View) → v.gone ≡ false → gone_cancels v ≡ 0
gone_none v h = by v.passes v.gone h where
  by : (p b : Bool) → b ≡ false → ◌≡◌ {A = ℕ} (if p then 0 else (if b then cancels_in v.calls else 0)) 0
  by true b e = refl
  by false b e = ap (λ (x : Bool). if x then cancels_in v.calls else 0) e

pub withdrawn_no : (n : ℕ) → mark_of n ≢ 1 → withdrawn n ≡ 0
withdrawn_no n m = ap (λ (p : Bool). if p then 1 else 0) (ne_eqb (mark_of n) 1 m)

pub withdrawn_yes : (n : ℕ) → mark_of n ≡ 1 → withdrawn n ≡ 1
withdrawn_yes n m = ap (λ (p : Bool). if p then 1 else 0) (eq-eqb (mark_of n) 1 m)

pub withdrawn_none : withdrawn 0 ≡ 0
withdrawn_none = refl

pub gone_same : (v w : View) → w.passes ≡ v.passes → w.gone ≡ v.gone → cancels_in w.calls ≡ cancels_in v.calls → gone_cancels w ≡ gone_cancels v
gone_same v w p g c = ap (λ (x : Bool × Bool × ℕ). if x.0 then 0 else (if x.1 then x.2 else 0)) (λ k. (p k, g k, c k))

pub passes_same : (v w : View) → w.passes ≡ v.passes → passes_of w ≡ passes_of v
passes_same v w e = ap (λ (b : Bool). if b then 1 else 0) e

pub passes_none : (v : View) → v.passes ≡ false → passes_of v ≡ 0
passes_none v e = ap (λ (b : Bool). if b then 1 else 0) e

pub reaped_same : (vs : List View) (id : ℕ) (v w : View) → get_elem? vs id ≡ some v → w.reaped ≡ v.reaped → reaped_in (set vs id w) ≡ reaped_in vs
reaped_same vs id v w at e = head_same (λ (x : View). x.reaped) reaped_in (λ x xs. refl) vs id v w at e

pub reaped_own : (vs : List View) (id : ℕ) (v : View) → get_elem? vs id ≡ some v → id ≡ 0 → reaped_in vs ≡ v.reaped
reaped_own [] id v at first = absurd (some-ne-none v (sym at))
reaped_own (u ∷ vs) zero v at first = ap (λ (x : View). x.reaped) (some-injective u v at)
reaped_own (u ∷ vs) (suc id) v at first = absurd (omega arith)

pub reaped_first : (vs : List View) (id : ℕ) (v w : View) → get_elem? vs id ≡ some v → id ≡ 0 → reaped_in (set vs id w) ≡ w.reaped
reaped_first [] id v w at first = absurd (some-ne-none v (sym at))
reaped_first (u ∷ vs) zero v w at first = refl
reaped_first (u ∷ vs) (suc id) v w at first = absurd (omega arith)

-- what a step on the slot i owes to the numbers
pub record Counts (rows : ℕ) (t : State ℕ View) (i id : ℕ) (v w : View) (n n' : ℕ) : Type 0 where
  pub inside : i < rows
  pub seat : get_elem? t.views id ≡ some v
  pub found : get_or t.words i 0 ≡ n
  pub wide : n' < 18446744073709551616
  pub here : v.gone ≡ false
  pub stays : w.gone ≡ false
  pub passes : w.passes ≡ v.passes
  pub counted : gone_cancels w ≡ gone_cancels v
  pub reaped : (reaped_in (set t.views id w) + cancels_in v.calls) + withdrawn n' ≡ (reaped_in t.views + cancels_in w.calls) + withdrawn n
  pub issued : w.issued ≡ v.issued
  pub returns : w.returns ≡ v.returns
  pub balance : begins_in (keeper_writes (set t.views id w)) + (((expiries_in (keeper_writes t.views) + removals_in (keeper_writes t.views)) + cancels_in v.calls) + lives n) ≡ begins_in (keeper_writes t.views) + (((expiries_in (keeper_writes (set t.views id w)) + removals_in (keeper_writes (set t.views id w))) + cancels_in w.calls) + lives n')
  pub orders : InOrder (keeper_writes t.views) → given_in i (keeper_writes t.views) ≡ stamp_of n → InOrder (keeper_writes (set t.views id w))
  pub gives : given_in i (keeper_writes t.views) ≡ stamp_of n → given_in i (keeper_writes (set t.views id w)) ≡ stamp_of n'
  pub others : (j : ℕ) → j ≢ i → given_in j (keeper_writes (set t.views id w)) ≡ given_in j (keeper_writes t.views)
  pub bounded : begins_in (keeper_writes (set t.views id w)) + stamp_of n ≤ begins_in (keeper_writes t.views) + stamp_of n'

length_of : (vs : List View) (id : ℕ) (w : View) → length (set vs id w) ≡ length vs
length_of vs id w = length-set vs id w

pub counts_on : (rows : ℕ) (t : State ℕ View) (r : Tallied rows t) (sized : length t.words ≡ rows + 1) (i id : ℕ) (v w : View) (n n' : ℕ) → Counts rows t i id v w n n' → (held : List (ℕ × ℕ)) → Tallied rows (after t i n' id held w)
counts_on rows t r sized i id v w n n' c held =
    let inside = c.inside in
    let in_words : i < length t.words = omega arith in
    let apart : rows ≢ i = λ e. omega arith in
    let last : get_or (set t.words i n') rows 0 ≡ get_or t.words rows 0 = get_or-set_other t.words i rows n' 0 apart in
    let g = total_set goes t.views id v w c.seat in
    let gv = goes_none v c.here in
    let gw = goes_none w c.stays in
    let goes_now : total goes (set t.views id w) ≡ total goes t.views = omega arith in
    let gc = total_set gone_cancels t.views id v w c.seat in
    let gcs = c.counted in
    let gone_now : total gone_cancels (set t.views id w) ≡ total gone_cancels t.views = omega arith in
    let pas = total_set passes_of t.views id v w c.seat in
    let pas' = passes_same v w c.passes in
    let own = total_set made_cancels t.views id v w c.seat in
    let iss = issued_same t.views id v w c.seat c.issued in
    let ret = returns_same t.views id v w c.seat c.returns in
    let len = length_of t.views id w in
    let ri = r.issued in let rl = r.limit in let rr = r.returned in let ro = r.older in
    let ret' : returns_in (set t.views id w) % 2048 ≡ returns_in t.views % 2048 = ap (λ z. z % 2048) ret in
    record {
      few = r.few;
      wide = λ j h. by_index i j (get_or (set t.words i n') j 0 < 18446744073709551616)
          (λ e. let a = get_here t.words i j n' in_words e in let b = c.wide in omega arith)
          (λ ne. let a = get_or-set_other t.words i j n' 0 ne in let b = r.wide j h in omega arith);
      issued = omega arith;
      limit = omega arith;
      returned = omega arith;
      older = omega arith;
      same = λ e. let f : returns_in t.views % 2048 ≡ total goes t.views = sym ret' ∙ e ∙ goes_now in ret ∙ r.same f ∙ sym last;
      balance = let b = r.balance in let s = below_set lives t.words i n' rows inside in_words in let f : lives (get_or t.words i 0) ≡ lives n = ap lives c.found in let cb = c.balance in omega arith;
      reaped = let b = r.reaped in let s = below_set withdrawn t.words i n' rows inside in_words in let f : withdrawn (get_or t.words i 0) ≡ withdrawn n = ap withdrawn c.found in let cb = c.reaped in omega arith;
      ordered = c.orders r.ordered (r.given i inside ∙ ap stamp_of c.found);
      given = λ j h. by_index i j (given_in j (keeper_writes (set t.views id w)) ≡ stamp_of (get_or (set t.words i n') j 0))
          (λ e. let a : stamp_of (get_or (set t.words i n') j 0) ≡ stamp_of n' = ap stamp_of (get_here t.words i j n' in_words e) in
          ap (λ z. given_in z (keeper_writes (set t.views id w))) e ∙ c.gives (r.given i inside ∙ ap stamp_of c.found) ∙ sym a)
          (λ ne. c.others j ne ∙ r.given j h ∙ ap stamp_of (sym (get_or-set_other t.words i j n' 0 ne)));
      bounded = let b = r.bounded in let s = below_set stamp_of t.words i n' rows inside in_words in let f : stamp_of (get_or t.words i 0) ≡ stamp_of n = ap stamp_of c.found in let cb = c.bounded in omega arith;
    }

-- a caller's step
pub counts_calls : (rows : ℕ) (t : State ℕ View) (i id : ℕ) (v w : View) (n n' : ℕ) → i < rows → get_elem? t.views id ≡ some v → get_or t.words i 0 ≡ n → n' < 18446744073709551616 → v.gone ≡ false → w.gone ≡ v.gone → w.passes ≡ v.passes → gone_cancels w ≡ gone_cancels v
    → w.issued ≡ v.issued → w.returns ≡ v.returns → w.writes ≡ v.writes → w.reaped ≡ v.reaped → cancels_in w.calls + lives n' ≡ cancels_in v.calls + lives n → cancels_in v.calls + withdrawn n' ≡ cancels_in w.calls + withdrawn n → stamp_of n' ≡ stamp_of n → Counts rows t i id v w n n'
counts_calls rows t i id v w n n' inside at found wide here gone passes counted issued returns writes reaped calls shut stamps =
    let re = reaped_same t.views id v w at reaped in
    let k = writes_same t.views id v w at writes in
    let kb : begins_in (keeper_writes (set t.views id w)) ≡ begins_in (keeper_writes t.views) = ap begins_in k in
    let ke : expiries_in (keeper_writes (set t.views id w)) ≡ expiries_in (keeper_writes t.views) = ap expiries_in k in
    let kr : removals_in (keeper_writes (set t.views id w)) ≡ removals_in (keeper_writes t.views) = ap removals_in k in
    record {
      inside = inside;
      seat = at;
      found = found;
      wide = wide;
      here = here;
      stays = gone ∙ here;
      passes = passes;
      counted = counted;
      reaped = omega arith;
      issued = issued;
      returns = returns;
      balance = omega arith;
      orders = λ o g. subst InOrder (sym k) o;
      gives = λ g. ap (given_in i) k ∙ g ∙ sym stamps;
      others = λ j ne. ap (given_in j) k;
      bounded = omega arith;
    }

-- the keeper's step
pub counts_writes : (rows : ℕ) (t : State ℕ View) (i id : ℕ) (v w : View) (x : Write) (n n' : ℕ) → i < rows → get_elem? t.views id ≡ some v → get_or t.words i 0 ≡ n → n' < 18446744073709551616 → v.gone ≡ false → w.gone ≡ v.gone → w.passes ≡ v.passes
    → w.issued ≡ v.issued → w.returns ≡ v.returns → keeper_writes (set t.views id w) ≡ x ∷ keeper_writes t.views → w.calls ≡ v.calls → reaped_in (set t.views id w) + withdrawn n' ≡ reaped_in t.views + withdrawn n
    → ((ws : List Write) → begins_in (x ∷ ws) + ((expiries_in ws + removals_in ws) + lives n) ≡ begins_in ws + ((expiries_in (x ∷ ws) + removals_in (x ∷ ws)) + lives n')) → ((ws : List Write) → begins_in (x ∷ ws) + stamp_of n ≤ begins_in ws + stamp_of n')
    → ((ws : List Write) → given_in i ws ≡ stamp_of n → InOrder ws → InOrder (x ∷ ws)) → ((ws : List Write) → given_in i ws ≡ stamp_of n → given_in i (x ∷ ws) ≡ stamp_of n') → ((ws : List Write) (j : ℕ) → j ≢ i → given_in j (x ∷ ws) ≡ given_in j ws) → Counts rows t i id v w n n'
counts_writes rows t i id v w x n n' inside at found wide here gone passes issued returns k calls reaped balance bounded orders gives others =
    let ws : List Write = keeper_writes t.views in
    let kb : begins_in (keeper_writes (set t.views id w)) ≡ begins_in (x ∷ ws) = ap begins_in k in
    let ke : expiries_in (keeper_writes (set t.views id w)) ≡ expiries_in (x ∷ ws) = ap expiries_in k in
    let kr : removals_in (keeper_writes (set t.views id w)) ≡ removals_in (x ∷ ws) = ap removals_in k in
    let kc : cancels_in w.calls ≡ cancels_in v.calls = ap cancels_in calls in
    let b = balance ws in
    let c = bounded ws in
    record {
      inside = inside;
      seat = at;
      found = found;
      wide = wide;
      here = here;
      stays = gone ∙ here;
      passes = passes;
      counted = gone_same v w passes gone kc;
      reaped = omega arith;
      issued = issued;
      returns = returns;
      balance = omega arith;
      orders = λ o g. subst InOrder (sym k) (orders ws g o);
      gives = λ g. ap (given_in i) k ∙ gives ws g;
      others = λ j ne. ap (given_in j) k ∙ others ws j ne;
      bounded = omega arith;
    }

pub one_here : (i : ℕ) → ◌≡◌ {A = ℕ} (if eqb i i then 1 else 0) 1
one_here i = ap (λ (b : Bool). if b then 1 else 0) (eq-eqb i i refl)

pub none_other : (j i : ℕ) → j ≢ i → ◌≡◌ {A = ℕ} (if eqb j i then 1 else 0) 0
none_other j i ne = ap (λ (b : Bool). if b then 1 else 0) (ne_eqb j i ne)

pub ruled_after : (rows : ℕ) (t : State ℕ View) (r : Ruled rows t) (i id : ℕ) (v w : View) (n n' : ℕ) → Moves rows t i id v w n n' → Counts rows t i id v w n n' → (held : List (ℕ × ℕ)) → Ruled rows (after t i n' id held w)
ruled_after rows t r i id v w n n' m c held = record { kept = advances rows t r.kept i id v w n n' m held; tallied = counts_on rows t r.tallied r.kept.sized i id v w n n' c held }

-- a caller's cancels are few
pub all_cancels : (rows : ℕ) (t : State ℕ View) (r : Ruled rows t) (id : ℕ) (v : View) → get_elem? t.views id ≡ some v → cancels_in v.calls ≤ most_begins
all_cancels rows t r id v at =
    let a = total_le made_cancels t.views id v at in
    let b = r.tallied.balance in
    let c = r.tallied.bounded in
    let d = below_bound t.words rows r.tallied.wide in
    let e = r.tallied.few in
    omega arith
