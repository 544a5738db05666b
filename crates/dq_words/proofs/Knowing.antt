-- Behind each step that the rule allows the seat goes on.
use Rattle.std.proofs.Common.{◌≡◌, ℕ, List, [], ◌∷◌, length, set, sym, refl, ap, ◌∙◌, subst, length-set, arith}
use mathlib.Core.Option.{some, some-injective, some-ne-none}
use lib.ListN.{get_elem?}
use Rattle.atomic_table.specs.Table.{State, Allows}
use Rattle.dq_words.specs.declared.views.View.{View}
use Rattle.dq_words.specs.Counts.{issued_in, passes_of, total}
use Rattle.dq_words.specs.Plays.{WordMe}
use Rattle.dq_words.specs.Rule.{Ruled}
use Rattle.dq_words.specs.Plays.{SeatGoesOn}
use Rattle.dq_words.proofs.Advances.{role_first, role_issuer, role_same}
use Rattle.dq_words.proofs.Gathers.{set_at}
use Rattle.dq_words.proofs.Tallies.{total_set, passes_none}

pub issued_first : (vs : List View) (v : View) → get_elem? vs 0 ≡ some v → issued_in vs ≡ v.issued
issued_first [] v at = absurd (some-ne-none v (sym at))
issued_first (u ∷ vs) v at = ap (λ (x : View). x.issued) (some-injective u v at)

module _ (rows : ℕ) (t : State ℕ View) (r : Ruled rows t) (id : ℕ) (v : View) (at : get_elem? t.views id ≡ some v) where
  -- the seat after a step that keeps the rule
  pub goes_on : (u : State ℕ View) (w : View) → Ruled rows u → u.views ≡ set t.views id w → SeatGoesOn v w
  goes_on u w s is =
      let P : List View → Type 0 = λ vs. get_elem? vs id ≡ some w in
      let there : get_elem? u.views id ≡ some w = subst P (sym is) (set_at t.views id v w at) in
      let old = r.kept.sees id v at in
      let mine = s.kept.sees id w there in
      let role = role_same id v w old.role mine.role in
      let Q : ℕ → Type 0 = λ k. Ruled k u in
      record {
        knew = (u, id, subst Q (sym mine.row) s, there);
        row = mine.row ∙ sym old.row;
        role = role;
        issued = λ keeper.
            let first = role_first id v old.role keeper in
            let R : ℕ → Type 0 = λ j. get_elem? t.views j ≡ some v in
            let S : ℕ → Type 0 = λ j. get_elem? u.views j ≡ some w in
            let a = issued_first t.views v (subst R first at) in
            let b = issued_first u.views w (subst S first there) in
            let p = passes_none v (role_issuer id v old.role keeper) in
            let q = passes_none w (role_issuer id w mine.role (role ∙ keeper)) in
            let tot = total_set passes_of t.views id v w at in
            let same : total passes_of u.views ≡ total passes_of (set t.views id w) = ap (total passes_of) is in
            let c = r.tallied.issued in
            let d = s.tallied.issued in
            let e : length u.views ≡ length t.views = ap length is ∙ length-set t.views id w in
            omega arith;
      }

-- the same of a step
pub knows : (rows slots id : ℕ) (me : WordMe) (i : ℕ) (f : ℕ → ℕ) (then : ℕ → WordMe → Type 0) → Allows (Ruled rows) slots id me i f then → Allows (Ruled rows) slots id me i f (λ n m. then n m × SeatGoesOn me.0 m.0)
knows rows slots id me i f then allowed t r sized at wide =
    let x = allowed t r sized at wide in
    (x.0, x.1, x.2, x.3, (x.4, goes_on rows t r id me.0 at _ x.0 x.3 refl))
