-- What the return word accounts for, where it shows all callers as gone.
use Rattle.std.proofs.Common.{◌≡◌, ℕ, zero, suc, ◌+◌, ◌/◌, ◌%◌, ◌<◌, eqb, ◌&&◌, not, Bool, true, false, if◌then◌else◌, List, ◌∷◌, [], length, get_or, sym, refl, ap, ◌∙◌, ⊎_elim, eq-eqb, arith}
use Rattle.dq_ticks.specs.Word.{stamp_of, mark_of}
use Rattle.dq_words.specs.Keeping.{IsEnded}
use Rattle.dq_words.specs.Word.{LearnedWord}
use Rattle.dq_words.proofs.Advances.{by_order}
use Rattle.dq_words.proofs.Ends.{still_ended}
use Rattle.dq_words.proofs.Keepings.{Grown}
use Rattle.dq_words.proofs.Tallies.{lives_no}
use mathlib.Core.Option.{some, some-injective, some-ne-none}
use lib.ListN.{get_elem?}
use Rattle.dq_words.specs.declared.views.View.{View}
use Rattle.dq_words.specs.Counts.{begins_in, expiries_in, removals_in, total, goes, own_cancels, made_cancels, cancels_in, returns_in, passed_cancels, withdrawn, reaped_in, lives, below}
use Rattle.dq_words.specs.Files.{keeper_writes}
use Rattle.dq_words.specs.KeeperCalls.{AccountsFor, AccountsAnyhow, CountsCancels}
use Rattle.dq_words.proofs.Gathers.{writes_own}
use Rattle.dq_words.proofs.Returns.{others_gone, gone_few}
use Rattle.dq_words.proofs.Knowing.{issued_first}

returns_first : (vs : List View) (v : View) → get_elem? vs 0 ≡ some v → returns_in vs ≡ v.returns
returns_first [] v at = absurd (some-ne-none v (sym at))
returns_first (u ∷ vs) v at = ap (λ (x : View). x.returns) (some-injective u v at)

-- what a seat cancelled, it cancelled as a caller or as a passer
apart_of : (v : View) → own_cancels v + passed_cancels v ≡ made_cancels v
apart_of v = by v.passes where
  by : (p : Bool) → (if p then 0 else cancels_in v.calls) + (if p then cancels_in v.calls else 0) ≡ cancels_in v.calls
  by true = omega arith
  by false = omega arith

apart : (vs : List View) → total own_cancels vs + total passed_cancels vs ≡ total made_cancels vs
apart [] = refl
apart (v ∷ vs) = let a = apart_of v in let b = apart vs in omega arith

pub accounts : (w : View) (c : ℕ) → w.returns % 2048 ≡ w.issued → c ≡ w.returns / 2048 → AccountsFor w c
accounts w c all is t r at =
    let mine = r.kept.sees 0 w at in
    let own = writes_own t.views w at in
    let kb : begins_in (keeper_writes t.views) ≡ begins_in w.writes = ap begins_in own in
    let ke : expiries_in (keeper_writes t.views) ≡ expiries_in w.writes = ap expiries_in own in
    let kr : removals_in (keeper_writes t.views) ≡ removals_in w.writes = ap removals_in own in
    let back = returns_first t.views w at in
    let low : returns_in t.views % 2048 ≡ w.returns % 2048 = ap (λ z. z % 2048) back in
    let issued = issued_first t.views w at in
    let few = gone_few (length w.seen) t r.tallied r.kept.sized 0 w at mine.role.1 mine.role.3 in
    let a = r.tallied.issued in
    let b = r.tallied.older in
    let goes_all : total goes t.views ≡ w.issued = omega arith in
    let word = r.tallied.same (omega arith) in
    let counted = r.tallied.returned in
    let limit = r.tallied.limit in
    let others = others_gone t.views 0 w refl at mine.role.1 mine.role.3 mine.role.2 (omega arith) in
    let split = apart t.views in
    let cancels : total own_cancels t.views ≡ c = omega arith in
    let balance = r.tallied.balance in
    (goes_all, cancels, λ none. omega arith)

reaped_at : (vs : List View) (v : View) → get_elem? vs 0 ≡ some v → reaped_in vs ≡ v.reaped
reaped_at [] v at = absurd (some-ne-none v (sym at))
reaped_at (u ∷ vs) v at = ap (λ (x : View). x.reaped) (some-injective u v at)

-- the account that needs nobody's return
pub anyhow : (w : View) → AccountsAnyhow w
anyhow w t r at =
    let own = writes_own t.views w at in
    let kb : begins_in (keeper_writes t.views) ≡ begins_in w.writes = ap begins_in own in
    let ke : expiries_in (keeper_writes t.views) ≡ expiries_in w.writes = ap expiries_in own in
    let kr : removals_in (keeper_writes t.views) ≡ removals_in w.writes = ap removals_in own in
    let re = reaped_at t.views w at in
    let a = r.tallied.reaped in
    let b = r.tallied.balance in
    let cancels : total made_cancels t.views ≡ w.reaped + below withdrawn t.words (length w.seen) = omega arith in
    (cancels, omega arith)

below_same : (f : ℕ → ℕ) (xs ys : List ℕ) (k : ℕ) → ((i : ℕ) → i < k → f (get_or xs i 0) ≡ f (get_or ys i 0)) → below f xs k ≡ below f ys k
below_same f xs ys zero h = refl
below_same f xs ys (suc k) h = let a = below_same f xs ys k (λ i l. h i (omega arith)) in let b = h k (omega arith) in omega arith

none_below : (f : ℕ → ℕ) (xs : List ℕ) (k : ℕ) → ((i : ℕ) → i < k → f (get_or xs i 0) ≡ 0) → below f xs k ≡ 0
none_below f xs zero h = refl
none_below f xs (suc k) h = let a = none_below f xs k (λ i l. h i (omega arith)) in let b = h k (omega arith) in omega arith

lives_ended : (n : ℕ) → IsEnded n → lives n ≡ 0
lives_ended n e = by_order 1 (stamp_of n) (lives n ≡ 0) (λ pos. lives_no n (e pos))
    (λ zeroth. ap (λ (p : Bool). if (eqb (mark_of n) 0) && not p then 1 else 0) (eq-eqb (stamp_of n) 0 (omega arith)) ∙ by (eqb (mark_of n) 0))
  where
    by : (b : Bool) → ◌≡◌ {A = ℕ} (if b && not true then 1 else 0) 0
    by true = refl
    by false = refl

withdrawn_at : (x n : ℕ) → LearnedWord x n → IsEnded x → withdrawn n ≡ withdrawn x
withdrawn_at x n h over = ⊎_elim (λ (e : n ≡ x). ap withdrawn e) (λ (l : Grown x n). let a = l.2 in let b = l.3 in let c = l.4 in absurd (over (omega arith) (omega arith))) h

-- and where the keeper saw no word live, its own view has all of it
pub counts_cancels : (w : View) → CountsCancels w
counts_cancels w none t r at =
    let a = anyhow w t r at in
    let mine = r.kept.sees 0 w at in
    let row = mine.row in
    let learns = λ (i : ℕ) (h : i < length w.seen). let l : LearnedWord (get_or w.seen i 0) (get_or t.words i 0) = mine.learns mine.role.0 i (omega arith) in l in
    let l : below lives t.words (length w.seen) ≡ 0 = none_below lives t.words (length w.seen) (λ i h. lives_ended (get_or t.words i 0) (still_ended (get_or w.seen i 0) (get_or t.words i 0) (learns i h) (none i h))) in
    let s : below withdrawn t.words (length w.seen) ≡ below withdrawn w.seen (length w.seen) = below_same withdrawn t.words w.seen (length w.seen) (λ i h. withdrawn_at (get_or w.seen i 0) (get_or t.words i 0) (learns i h) (none i h)) in
    let b = a.0 in let d = a.1 in
    (omega arith, omega arith)
