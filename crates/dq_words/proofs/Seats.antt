-- What a seat knew at a moment of the rule.
use Rattle.std.proofs.Common.{◌≡◌, ℕ, zero, suc, ◌+◌, ◌<◌, ◌≤◌, true, List, [], ◌∷◌, ◌++◌, length, get_or, set, replicate, sym, refl, ap, ◌∙◌, subst, arith}
use mathlib.Core.Option.{some, some-ne-none}
use lib.ListN.{get_elem?}
use Rattle.std.proofs.lemmas.List.{length-replicate}
use Rattle.atomic_table.specs.Seated.{TableId}
use Rattle.atomic_table.specs.Table.{State, opening}
use Rattle.dq_words.specs.declared.views.View.{View}
use Rattle.dq_ticks.specs.Word.{stamp_of}
use Rattle.dq_words.specs.Counts.{begins_in, below}
use Rattle.dq_words.specs.Files.{keeper_writes}
use Rattle.dq_words.specs.Keeping.{IsKeeper, Stood, Knew}
use Rattle.dq_words.specs.Plays.{issuing, newcomer}
use Rattle.dq_words.specs.Rule.{Ruled, first_keeper}
use Rattle.dq_words.specs.Plays.{FitsTable}
use Rattle.dq_words.specs.Seats.{Sat}
use Rattle.dq_words.proofs.Advances.{role_first}
use Rattle.dq_words.proofs.Gathers.{writes_own}
use Rattle.dq_words.proofs.Keepings.{learned_stamp}
use Rattle.dq_words.proofs.Knowing.{issued_first}
use Rattle.dq_words.proofs.Starts.{starts, issues}

-- a keeper's seat is the first
pub stood : (v : View) → Knew v → v.keeps ≡ true → Stood v
stood v k keeper =
    let first = role_first k.1 v (k.2.kept.sees k.1 v k.3).role keeper in
    let P : ℕ → Type 0 = λ j. get_elem? k.0.views j ≡ some v in
    (k.0, k.2, subst P first k.3)

pub knew : (v : View) → Stood v → Knew v
knew v s = (s.0, 0, s.1, s.2)

below_same : (f : ℕ → ℕ) (xs ys : List ℕ) (k : ℕ) → ((i : ℕ) → i < k → f (get_or xs i 0) ≡ f (get_or ys i 0)) → below f xs k ≡ below f ys k
below_same f xs ys zero h = refl
below_same f xs ys (suc k) h = let a = below_same f xs ys k (λ i l. h i (omega arith)) in let b = h k (omega arith) in omega arith

-- what the rule says of a keeper's own view
pub keeper : (v : View) → Stood v → IsKeeper v
keeper v s =
    let t = s.0 in
    let mine = s.1.kept.sees 0 v s.2 in
    let stamps = below_same stamp_of t.words v.seen (length v.seen) (λ i h. learned_stamp (get_or v.seen i 0) (get_or t.words i 0) (mine.learns mine.role.0 i h)) in
    let own : begins_in (keeper_writes t.views) ≡ begins_in v.writes = ap begins_in (writes_own t.views v s.2) in
    let bound = s.1.tallied.bounded in
    let issued = issued_first t.views v s.2 in
    let limit = s.1.tallied.limit in
    (mine.role.0, mine.role.1, omega arith, omega arith)

-- a new table
pub starts_knew : (rows : ℕ) (v : View) → rows ≤ 65536 → v ≡ first_keeper rows → Knew v
starts_knew rows v few is =
    let P : View → Type 0 = λ u. Knew u in
    let Q : ℕ → Type 0 = λ k. Ruled k (opening (replicate (rows + 1) 0) [] (first_keeper rows)) in
    subst P (sym is) (opening (replicate (rows + 1) 0) [] (first_keeper rows), 0, subst Q (sym (length-replicate rows 0)) (starts rows (replicate (rows + 1) 0) refl few), refl)

module _ (v : View) (k : Knew v) (keeper : v.keeps ≡ true) (room : v.issued < 1024) where
  -- the state after one more caller was issued
  abbrev issued_state : State ℕ View
  issued_state = record { words = k.0.words; homes = k.0.homes; views = set k.0.views k.1 (issuing v) ++ newcomer v ∷ [] }

  issued_rules : Ruled (length v.seen) issued_state
  issued_rules = issues (length v.seen) k.1 v keeper room k.0 k.2 k.3

  left_at : (vs : List View) (j : ℕ) (w u x : View) → get_elem? vs j ≡ some x → get_elem? (set vs j w ++ u ∷ []) j ≡ some w
  left_at [] j w u x at = absurd (some-ne-none x (sym at))
  left_at (y ∷ vs) zero w u x at = refl
  left_at (y ∷ vs) (suc j) w u x at = left_at vs j w u x at

  last_at : (vs : List View) (u : View) → get_elem? (vs ++ u ∷ []) (length vs) ≡ some u
  last_at [] u = refl
  last_at (x ∷ vs) u = last_at vs u

  -- a new caller is issued
  pub issues_knew : Knew (issuing v)
  issues_knew = (issued_state, k.1, issued_rules, left_at k.0.views k.1 (issuing v) (newcomer v) v k.3)

  -- and it knew nothing then
  pub newcomer_knew : Knew (newcomer v)
  newcomer_knew = let P : ℕ → Type 0 = λ n. Ruled n issued_state in
      (issued_state, length (set k.0.views k.1 (issuing v)), subst P (sym (length-replicate (length v.seen) 0)) issued_rules, last_at (set k.0.views k.1 (issuing v)) (newcomer v))

module _ (sits hand at : TableId) (key rows : ℕ) (v : View) (fit : FitsTable sits hand key rows v) (same : at ≡ hand) where
  -- a word of the table in hand: that of a slot, and the return word
  pub fits : (s : Sat) (i : ℕ) → record { table = sits; view = v } ≡ s → i < length s.view.seen → (sits ≡ at) × (i < at.words) × (i < rows)
  fits s i is inside =
      let n = fit.words in
      let row = fit.row in
      let e : at.words ≡ hand.words = ap (λ (t : TableId). t.words) same in
      let size : length v.seen ≡ length s.view.seen = ap (λ (x : Sat). length x.view.seen) is in
      (fit.same ∙ sym same, omega arith, omega arith)

  pub fits_return : (sits ≡ at) × (rows < at.words) × (0 < at.words)
  fits_return =
      let n = fit.words in
      let e : at.words ≡ hand.words = ap (λ (t : TableId). t.words) same in
      (fit.same ∙ sym same, omega arith, omega arith)

-- another seat at the same table, or the seat after a step
pub fits_same : (sits hand sits' hand' : TableId) (key key' rows : ℕ) (v w : View) → FitsTable sits hand key rows v → sits' ≡ sits → hand' ≡ hand → key' ≡ key → length w.seen ≡ length v.seen → FitsTable sits' hand' key' rows w
fits_same sits hand sits' hand' key key' rows v w fit seat table keyed row = record {
  same = seat ∙ fit.same ∙ sym table;
  keyed = keyed ∙ fit.keyed;
  words = ap (λ (t : TableId). t.words) table ∙ fit.words;
  row = row ∙ fit.row;
}

-- the first seat at a new table
pub fits_new : (sits hand at : TableId) (key now rows n : ℕ) (v : View) → sits ≡ at → hand ≡ at → now ≡ key → key ≡ rows → at.words ≡ n → n ≡ rows + 1 → v ≡ first_keeper rows → FitsTable sits hand now rows v
fits_new sits hand at key now rows n v seat table held keyed words counted is = record {
  same = seat ∙ sym table;
  keyed = held ∙ keyed;
  words = ap (λ (t : TableId). t.words) table ∙ words ∙ counted;
  row = ap (λ (u : View). length u.seen) is ∙ length-replicate rows 0;
}
