-- What an end by the keeper leaves of its view, behind the load that it makes first.
use Rattle.std.proofs.Common.{◌≡◌, ◌≢◌, ℕ, ◌<◌, List, ◌∷◌, length, get_or, set, Option, Some, None, sym, ap, ◌∙◌, subst, get_or-set_same, set-set, arith}
use Rattle.dq_ticks.specs.Word.{word, stamp_of, mark_of, field_of}
use Rattle.dq_words.specs.declared.views.View.{View}
use Rattle.dq_words.specs.declared.views.Write.{Write}
use Rattle.dq_words.specs.declared.views.Write.TheVariants.{Removed}
use Rattle.dq_words.specs.Counts.{begins_in, expiries_in, removals_in}
use Rattle.dq_words.specs.Endings.{WritesStay}
use Rattle.dq_words.specs.Keeping.{counts_of, IsEnded}
use Rattle.dq_words.specs.KeeperCalls.{KeeperFinishes, OnlyRemoves}
use Rattle.dq_words.specs.Plays.{KeeperLoads}
use Rattle.dq_words.proofs.Begun.{load_stays, finish_stays}

-- the word that a finish leaves
abbrev pub left_by : ℕ → Option ℕ → ℕ
left_by s (Some d) = word s 3 d
left_by s None = word s 1 0

finish_seen : (v w : View) (i s : ℕ) (r : Option ℕ) → KeeperFinishes v i s r w → w.seen ≡ set v.seen i (left_by s r)
finish_seen v w i s (Some d) h = ap (λ (u : View). u.seen) h.2.1 ∙ set-set v.seen i (word s 0 d) (word s 3 d)
finish_seen v w i s None h = ap (λ (u : View). u.seen) h.1.1

not_live : (v w : View) (i s : ℕ) (r : Option ℕ) → KeeperFinishes v i s r w → mark_of (left_by s r) ≢ 0
not_live v w i s (Some d) h = λ (e : mark_of (word s 3 d) ≡ 0). let a = h.0 in omega (arith, a, e)
not_live v w i s None h = λ (e : mark_of (word s 1 0) ≡ 0). omega (arith, e)

written : (v w : View) (i s : ℕ) (r : Option ℕ) → KeeperFinishes v i s r w → OnlyRemoves (counts_of v.writes) (counts_of w.writes)
written v w i s (Some d) h =
    let k : w.writes ≡ Removed i (stamp_of (word s 0 d)) (field_of (word s 0 d)) ∷ v.writes = ap (λ (u : View). u.writes) h.2.1 in
    let more : removals_in w.writes ≡ removals_in (Removed i (stamp_of (word s 0 d)) (field_of (word s 0 d)) ∷ v.writes) = ap removals_in k in
    (ap begins_in k, ap expiries_in k, omega (arith, more))
written v w i s None h =
    let k : w.writes ≡ v.writes = ap (λ (u : View). u.writes) h.1.1 in
    let same : removals_in w.writes ≡ removals_in v.writes = ap removals_in k in
    (ap begins_in k, ap expiries_in k, omega (arith, same))

row_is : (xs ys : List ℕ) (i y : ℕ) → i < length xs → ys ≡ set xs i y → get_or ys i 0 ≡ y
row_is xs ys i y inside is = ap (λ (zs : List ℕ). get_or zs i 0) is ∙ get_or-set_same xs i y 0 inside

row_only : (xs ys : List ℕ) (i y : ℕ) → i < length xs → ys ≡ set xs i y → ys ≡ set xs i (get_or ys i 0)
row_only xs ys i y inside is = is ∙ ap (λ (z : ℕ). set xs i z) (sym (row_is xs ys i y inside is))

-- the load alone
module _ (v u : View) (i m : ℕ) (inside : i < length v.seen) (load : KeeperLoads v u i m) where
  pub loads_only : u.seen ≡ set v.seen i (get_or u.seen i 0)
  loads_only = row_only v.seen u.seen i m inside (ap (λ (x : View). x.seen) load.0)

  pub loads_write : OnlyRemoves (counts_of v.writes) (counts_of u.writes)
  loads_write =
      let k : u.writes ≡ v.writes = ap (λ (x : View). x.writes) load.0 in
      let same : removals_in u.writes ≡ removals_in v.writes = ap removals_in k in
      (ap begins_in k, ap expiries_in k, omega (arith, same))

  -- the finish behind it
  module _ (w : View) (s : ℕ) (r : Option ℕ) (h : KeeperFinishes u i s r w) where
    row : w.seen ≡ set v.seen i (left_by s r)
    row = finish_seen u w i s r h ∙ ap (λ (x : View). set x.seen i (left_by s r)) load.0 ∙ set-set v.seen i m (left_by s r)

    pub ends : IsEnded (get_or w.seen i 0)
    ends = let P : ℕ → Type 0 = λ x. mark_of x ≢ 0 in
        λ _. subst P (sym (row_is v.seen w.seen i (left_by s r) inside row)) (not_live u w i s r h)

    pub ends_only : w.seen ≡ set v.seen i (get_or w.seen i 0)
    ends_only = row_only v.seen w.seen i (left_by s r) inside row

    pub ends_write : OnlyRemoves (counts_of v.writes) (counts_of w.writes)
    ends_write =
        let k : u.writes ≡ v.writes = ap (λ (x : View). x.writes) load.0 in
        let P : List Write → Type 0 = λ x. OnlyRemoves (counts_of x) (counts_of w.writes) in
        subst P k (written u w i s r h)

    pub ends_stay : WritesStay v w
    ends_stay = λ j b d x. finish_stays u w i s r h j b d (load_stays v u i m load j b d x)
