-- What callers see of rows, of which a list may be open.

use Rattle.std.proofs.Common.{◌≡◌, ◌≢◌, ℕ, ◌+◌, ◌<◌, ◌≤◌, List, length, get_or, set, take, map, refl, sym, arith, ◌∙◌, ap, Option, None, Some, MatchOption}
use Rattle.std.proofs.Math.ListN.{length-set}
use Rattle.std.proofs.lemmas.List.{get_or-set_same, get_or-set_other, get_or-take, length-map}
use Rattle.std.proofs.Math.Seq.{take-set-lt}
use Rattle.dq_wheel.specs.Circle.{Node, IsCircles}
use Rattle.dq_wheel.specs.Lists.{ListsState, IsListEmpty, IsListFilled, StandsBeside, StandsIn}
use Rattle.dq_wheel.specs.Seen.{home_seen, number_seen, homes_seen, numbers_seen}
use Rattle.dq_wheel.specs.Rows.{nexts, prevs, homes, filed_numbers, moves_made, shown_homes, shown_numbers, shown_filed, entry_homes, entry_filed, entry_moves, AreCircles, AreSeenCircles, HasNeighbours}
use Rattle.dq_wheel.specs.declared.lists.Row.{Row}
use Rattle.dq_wheel.specs.declared.TheConstants.{LISTS}
use Rattle.dq_wheel.specs.declared.lists.TheConstants.{NOT_FILED}
use Rattle.dq_wheel.proofs.Rows.{circles_link, circles_unlink, circles_detach, first_none, first_stands, capacity_is, seen_home}
use Rattle.dq_wheel.proofs.Hanging.{hung}
use Rattle.dq_wheel.proofs.Seen.{homes_length, homes_at, homes_past, homes_set, homes_none, homes_take, homes_same, loose_seen, other_seen, other_number, numbers_set, numbers_none, numbers_length, numbers_at, numbers_take, numbers_same, loose_number, home_there, home_elsewhere}

module _ (cap : ℕ) (o : Option ℕ) (old : List Row) (r : AreSeenCircles cap o old) where
  pub homes_are : length (homes old) ≡ cap + LISTS
  homes_are = sym (homes_length cap o (homes old)) ∙ r.homes_len

  pub rows_are : length old ≡ cap + LISTS
  rows_are = sym (length-map old (λ w. w.home)) ∙ homes_are

  numbers_are : length (filed_numbers old) ≡ length (homes old)
  numbers_are = length-map old (λ w. w.filed) ∙ sym (length-map old (λ w. w.home))

  pub head_in : (p : ℕ) → p < LISTS → cap + p < length old
  head_in p p_in = omega (arith, rows_are)

  node_at : (x : ℕ) → x < cap + LISTS → 0 < get_or (homes_seen cap o (homes old)) x 0 →
      Node (cap + LISTS) (λ y. get_or (nexts old) y 0) (λ y. get_or (prevs old) y 0) (λ y. get_or (homes_seen cap o (homes old)) y 0) x
  node_at x x_in on = r.circle.node x x_in on

  -- what follows an entry in its list, as callers see it
  pub after_seen : (i x : ℕ) (now : List ℕ) → take cap (homes_seen cap o (homes old)) ≡ now → i < length now → 0 < get_or now i 0 →
      x ≡ get_or (nexts old) i 0 → x < cap → StandsBeside now i x
  after_seen i x now now_is i_in on x_is x_in =
      let all = homes_seen cap o (homes old) in
      let len : length now ≡ cap = capacity_is cap all now (omega (arith, r.homes_len)) now_is in
      let i_cap : i < cap = omega arith in
      let i_seen : get_or now i 0 ≡ get_or all i 0 = seen_home cap all now i now_is i_cap in
      let x_seen : get_or now x 0 ≡ get_or all x 0 = seen_home cap all now x now_is x_in in
      let linked : 0 < get_or all i 0 = omega arith in
      let node = node_at i (omega arith) linked in
      let beside : get_or all (get_or (nexts old) i 0) 0 ≡ get_or all i 0 = node.next_home in
      let same : get_or all x 0 ≡ get_or all i 0 = rw x_is beside in
      let back : get_or (prevs old) (get_or (nexts old) i 0) 0 ≡ i = node.back in
      let before : get_or (prevs old) x 0 ≡ i = rw x_is back in
      let falls : r.rank (get_or (prevs old) x 0) < r.rank x = r.circle.falls x x_in (omega arith) in
      let later : r.rank i < r.rank x = rw before at falls in
      (omega arith, x_seen ∙ (same ∙ sym i_seen), λ e. let less : r.rank i < r.rank i = rw e at later in omega arith)

  head_on : (p : ℕ) → p < LISTS → 0 < get_or (homes_seen cap o (homes old)) (cap + p) 0
  head_on p p_in = omega (arith, r.circle.head_home p p_in)

  pub first_below : (p : ℕ) → p < LISTS → get_or (nexts old) (cap + p) 0 < length old
  first_below p p_in = rw rows_are (node_at (cap + p) (omega arith) (head_on p p_in)).next_in

  pub last_below : (p : ℕ) → p < LISTS → get_or (prevs old) (cap + p) 0 < length old
  last_below p p_in = rw rows_are (node_at (cap + p) (omega arith) (head_on p p_in)).prev_in

  -- what follows the head of list p, where that is an entry
  pub first_shown : (p i : ℕ) → p < LISTS → i ≡ get_or (nexts old) (cap + p) 0 → i < cap → StandsIn (shown_homes cap o old) p i
  first_shown p i p_in i_is i_in =
      let all = homes_seen cap o (homes old) in
      let len : length (take cap all) ≡ cap = capacity_is cap all (take cap all) (omega (arith, r.homes_len)) refl in
      let stands : get_or all i 0 ≡ p + 1 = rw i_is (first_stands cap (nexts old) (prevs old) all r p p_in) in
      (rw len i_in, get_or-take cap all i 0 i_in ∙ stands)

  -- the home of an entry was written
  module _ (i v w : ℕ) (i_in : i < cap) (new : List Row) (home_is : homes new ≡ set (homes old) i v) (v_seen : home_seen o v ≡ w) where
    pub seen_written : homes_seen cap o (homes new) ≡ set (homes_seen cap o (homes old)) i w
    seen_written = rw (home_is, ← v_seen) (homes_set cap o (homes old) i v i_in)

    pub homes_written : shown_homes cap o new ≡ set (shown_homes cap o old) i w
    homes_written = rw seen_written (take-set-lt cap (homes_seen cap o (homes old)) i w i_in)

    pub filed_written : (t f g : ℕ) → filed_numbers new ≡ set (filed_numbers old) i f → number_seen o t v f ≡ g →
        shown_filed cap o t new ≡ set (shown_filed cap o t old) i g
    filed_written t f g filed_is f_seen =
        rw (home_is, filed_is, numbers_set o t (homes old) (filed_numbers old) i v f, f_seen)
        (take-set-lt cap (shown_numbers o t old) i g i_in)

  pub moves_written : (i m : ℕ) (new : List Row) → i < cap → moves_made new ≡ set (moves_made old) i m → entry_moves cap new ≡ set (entry_moves cap old) i m
  moves_written i m new i_in is =
      rw is (take-set-lt cap (moves_made old) i m i_in)

  -- entry i is linked at the end of list p
  pub link_circles : (i p : ℕ) (new : List Row) → i < cap → p < LISTS → o ≢ Some p → get_or (homes_seen cap o (homes old)) i 0 ≡ 0 →
      nexts new ≡ set (set (nexts old) i (cap + p)) (get_or (prevs old) (cap + p) 0) i →
      prevs new ≡ set (set (prevs old) i (get_or (prevs old) (cap + p) 0)) (cap + p) i →
      homes new ≡ set (homes old) i (p + 1) → AreSeenCircles cap o new
  link_circles i p new i_in p_in shut loose next_is prev_is home_is =
      rw (next_is, prev_is, seen_written i (p + 1) (p + 1) i_in new home_is (other_seen o p shut))
      (circles_link cap (nexts old) (prevs old) (homes_seen cap o (homes old)) i p (get_or (prevs old) (cap + p) 0) r i_in p_in loose refl)

  -- entry i is taken out of its list
  pub unlink_circles : (i : ℕ) (new : List Row) → i < cap → 0 < get_or (homes_seen cap o (homes old)) i 0 →
      nexts new ≡ set (nexts old) (get_or (prevs old) i 0) (get_or (nexts old) i 0) →
      prevs new ≡ set (prevs old) (get_or (nexts old) i 0) (get_or (prevs old) i 0) →
      homes new ≡ set (homes old) i 0 → AreSeenCircles cap o new
  unlink_circles i new i_in on next_is prev_is home_is =
      rw (next_is, prev_is, seen_written i 0 0 i_in new home_is (loose_seen o))
      (circles_unlink cap (nexts old) (prevs old) (homes_seen cap o (homes old)) i (get_or (prevs old) i 0) (get_or (nexts old) i 0) r i_in on refl refl)

  -- the first of list p is taken out of it
  pub detach_circles : (p i : ℕ) (new : List Row) → p < LISTS → i ≡ get_or (nexts old) (cap + p) 0 → i < cap →
      nexts new ≡ set (nexts old) (cap + p) (get_or (nexts old) i 0) →
      prevs new ≡ set (prevs old) (get_or (nexts old) i 0) (cap + p) →
      homes new ≡ set (homes old) i 0 → AreSeenCircles cap o new
  detach_circles p i new p_in i_is i_in next_is prev_is home_is =
      rw (next_is, prev_is, seen_written i 0 0 i_in new home_is (loose_seen o))
      (circles_detach cap (nexts old) (prevs old) (homes_seen cap o (homes old)) p i (get_or (nexts old) i 0) r p_in i_is i_in refl)

-- the number that is seen of a row
pub number_shown : (o : Option ℕ) (t : ℕ) (rows : List Row) (x h f v : ℕ) → x < length rows → h ≡ get_or (homes rows) x 0 →
    f ≡ get_or (filed_numbers rows) x 0 → number_seen o t h f ≡ v → v ≡ get_or (shown_numbers o t rows) x 0
number_shown o t rows x h f v x_in h_is f_is v_is =
    let size : length (filed_numbers rows) ≡ length (homes rows) = length-map rows (λ w. w.filed) ∙ sym (length-map rows (λ w. w.home)) in
    sym v_is ∙ (ap (λ n. number_seen o t n f) h_is ∙ (ap (λ n. number_seen o t (get_or (homes rows) x 0) n) f_is
    ∙ sym (numbers_at o t (homes rows) (filed_numbers rows) size x (rw (length-map rows (λ w. w.home)) x_in))))

-- where no list is open, rows are seen as they are
module _ (cap : ℕ) (o : Option ℕ) (rows : List Row) (none : o ≡ None) where
  plain : homes_seen cap o (homes rows) ≡ homes rows
  plain = rw none (homes_none cap (homes rows))

  pub plain_circles : AreSeenCircles cap o rows → AreCircles cap rows
  plain_circles r = rw (← plain) r

  pub seen_circles : AreCircles cap rows → AreSeenCircles cap o rows
  seen_circles r = rw plain r

  pub plain_homes : shown_homes cap o rows ≡ entry_homes cap rows
  plain_homes = ap (take cap) plain

  pub plain_filed : (t : ℕ) → shown_filed cap o t rows ≡ entry_filed cap rows
  plain_filed t =
      let size : length (filed_numbers rows) ≡ length (homes rows) = length-map rows (λ w. w.filed) ∙ sym (length-map rows (λ w. w.home)) in
      ap (take cap) (rw none (numbers_none t (homes rows) (filed_numbers rows) size))

-- three links are written in a row
module _ (xs : List ℕ) (a b c u v w : ℕ) where
  abbrev thrice : List ℕ
  thrice = set (set (set xs a u) b v) c w

  thrice_a : a < length xs → a ≢ b → a ≢ c → get_or thrice a 0 ≡ u
  thrice_a a_in d e = get_or-set_other (set (set xs a u) b v) c a w 0 e ∙ (get_or-set_other (set xs a u) b a v 0 d ∙ get_or-set_same xs a u 0 a_in)

  thrice_b : b < length xs → b ≢ c → get_or thrice b 0 ≡ v
  thrice_b b_in e = get_or-set_other (set (set xs a u) b v) c b w 0 e ∙ get_or-set_same (set xs a u) b v 0 (rw length-set b_in)

  thrice_c : c < length xs → get_or thrice c 0 ≡ w
  thrice_c c_in = get_or-set_same (set (set xs a u) b v) c w 0 (rw (length-set, length-set) c_in)

  thrice_o : (x : ℕ) → x ≢ a → x ≢ b → x ≢ c → get_or thrice x 0 ≡ get_or xs x 0
  thrice_o x d e f =
      get_or-set_other (set (set xs a u) b v) c x w 0 f ∙ (get_or-set_other (set xs a u) b x v 0 e ∙ get_or-set_other xs a x u 0 d)

-- list p hangs on the head of list 0, which is empty
module _ (cap : ℕ) (next prev homes : List ℕ) (r : IsCircles cap next prev homes) (p onto : ℕ) (onto_is : onto ≡ cap + 0) (p_in : p < LISTS) (above : 0 < p)
    (free : (x : ℕ) → x < cap → get_or homes x 0 ≢ 0 + 1) (i : ℕ) (i_in : i < cap) (stands : get_or homes i 0 ≡ p + 1) where
  abbrev first : ℕ
  first = get_or next (cap + p) 0

  abbrev last : ℕ
  last = get_or prev (cap + p) 0

  from_node : Node (cap + LISTS) (λ y. get_or next y 0) (λ y. get_or prev y 0) (λ y. get_or homes y 0) (cap + p)
  from_node = r.circle.node (cap + p) (omega arith) (omega (arith, r.circle.head_home p p_in))

  own_home : get_or homes (cap + p) 0 ≡ p + 1
  own_home = r.circle.head_home p p_in

  onto_home : get_or homes onto 0 ≡ 1
  onto_home = rw onto_is (omega (arith, r.circle.head_home 0 (omega arith)))

  first_here : get_or homes first 0 ≡ p + 1
  first_here = from_node.next_home ∙ own_home

  last_here : get_or homes last 0 ≡ p + 1
  last_here = from_node.prev_home ∙ own_home

  some : first ≢ cap + p
  some e = first_none cap next prev homes r p p_in (omega arith) i i_in stands

  some_last : last ≢ cap + p
  some_last e = some (ap (λ y. get_or next y 0) (sym e) ∙ from_node.forth)

  not_onto : (x : ℕ) → get_or homes x 0 ≡ p + 1 → x ≢ onto
  not_onto x here e = let h : get_or homes onto 0 ≡ p + 1 = rw e at here in omega (arith, onto_home)

  first_in : first < length next
  first_in = omega (arith, from_node.next_in, r.next_len)

  last_in : last < length next
  last_in = omega (arith, from_node.prev_in, r.next_len)

  abbrev next2 : List ℕ
  next2 = set (set (set next last onto) onto first) (cap + p) (cap + p)

  abbrev prev2 : List ℕ
  prev2 = set (set (set prev first onto) onto last) (cap + p) (cap + p)

  onto_from : onto ≢ cap + p
  onto_from e = omega arith

  pub hung_circles : (homes2 : List ℕ) → homes2 ≡ homes → IsCircles cap next2 prev2 (homes_seen cap (Some p) homes2)
  hung_circles homes2 same =
      rw same (record {
        small = r.small;
        next_len = simp length-set r.next_len;
        prev_len = simp length-set r.prev_len;
        homes_len = homes_length cap (Some p) homes ∙ r.homes_len;
        rank = _;
        circle = hung cap LISTS (λ x. get_or next x 0) (λ x. get_or prev x 0) (λ x. get_or homes x 0) r.rank r.circle p 0 p_in (omega arith)
            (λ e. omega arith) free some
            (λ x. get_or next2 x 0) (λ x. get_or prev2 x 0) (λ x. get_or (homes_seen cap (Some p) homes) x 0)
            (rw (← onto_is) (thrice_a next last onto (cap + p) onto first (cap + p) last_in (not_onto last last_here) some_last))
            (rw (← onto_is) (thrice_b next last onto (cap + p) onto first (cap + p) (omega (arith, r.next_len)) onto_from))
            (thrice_c next last onto (cap + p) onto first (cap + p) (omega (arith, r.next_len)))
            (rw (← onto_is) (thrice_o next last onto (cap + p) onto first (cap + p)))
            (rw (← onto_is) (thrice_a prev first onto (cap + p) onto last (cap + p) (omega (arith, from_node.next_in, r.prev_len)) (not_onto first first_here) some))
            (rw (← onto_is) (thrice_b prev first onto (cap + p) onto last (cap + p) (omega (arith, r.prev_len)) onto_from))
            (thrice_c prev first onto (cap + p) onto last (cap + p) (omega (arith, r.prev_len)))
            (rw (← onto_is) (thrice_o prev first onto (cap + p) onto last (cap + p)))
            (λ x x_in h. homes_at cap (Some p) homes x x_in ∙ home_there p (get_or homes x 0) h)
            (λ x x_in d. homes_at cap (Some p) homes x x_in ∙ home_elsewhere p (get_or homes x 0) d)
            (λ x high. homes_past cap (Some p) homes x high);
      })

abbrev pub lists_of : ℕ → Option ℕ → ℕ → List Row → List ℕ → ListsState
lists_of cap o t rows maps =
    record {
      homes = shown_homes cap o rows;
      filed = shown_filed cap o t rows;
      moves = entry_moves cap rows;
      next = nexts rows;
      opened = o;
      maps = maps;
    }

-- the first index of a list, as callers see it
pub first_told : (first : Option ℕ) (all now : List ℕ) (p x : ℕ) → all ≡ now → MatchOption first (IsListEmpty all p) (λ i. StandsIn all p i × (i ≡ x)) →
    MatchOption first (IsListEmpty now p) (λ i. StandsIn now p i)
first_told None all now p x is told = rw is at told
first_told (Some i) all now p x is told = rw is at told.0

-- the same as callers see it
module _ (cap : ℕ) (o : Option ℕ) (t : ℕ) (old : List Row) (r : AreSeenCircles cap o old) (maps : List ℕ) (now : ListsState)
    (now_is : lists_of cap o t old maps ≡ now) where
  pub homes_now : shown_homes cap o old ≡ now.homes
  homes_now = ap (λ w. w.homes) now_is

  filed_now : shown_filed cap o t old ≡ now.filed
  filed_now = ap (λ w. w.filed) now_is

  pub moves_now : entry_moves cap old ≡ now.moves
  moves_now = ap (λ w. w.moves) now_is

  opened_now : o ≡ now.opened
  opened_now = ap (λ w. w.opened) now_is

  size_now : length now.homes ≡ cap
  size_now = capacity_is cap (homes_seen cap o (homes old)) now.homes (omega (arith, r.homes_len)) homes_now

  pub inside : (i : ℕ) → i < length now.homes → i < cap
  inside i i_in = omega (arith, size_now)

  pub home_now : (i : ℕ) → i < cap → get_or now.homes i 0 ≡ get_or (homes_seen cap o (homes old)) i 0
  home_now i i_in = seen_home cap (homes_seen cap o (homes old)) now.homes i homes_now i_in

  -- the home that a caller is told
  pub home_told : (i h v : ℕ) → i < length now.homes → h ≡ get_or (homes old) i 0 → home_seen o h ≡ v → v ≡ get_or now.homes i 0
  home_told i h v i_in h_is v_is =
      sym v_is ∙ (ap (home_seen o) h_is ∙ (sym (homes_at cap o (homes old) i (inside i i_in)) ∙ sym (home_now i (inside i i_in))))

  pub home_few : (i h v : ℕ) → i < length now.homes → h ≡ get_or (homes old) i 0 → home_seen o h ≡ v → v ≤ LISTS
  home_few i h v i_in h_is v_is =
      let le : get_or (homes_seen cap o (homes old)) i 0 ≤ LISTS = r.circle.home_le i (inside i i_in) in
      omega (arith, home_told i h v i_in h_is v_is, home_now i (inside i i_in))

  -- the opening ends
  module _ (empty : IsListEmpty now.homes 0) where
    none_there : (x : ℕ) → x < cap → get_or (homes_seen cap o (homes old)) x 0 ≢ 1
    none_there x x_in there = empty x (rw size_now x_in) (home_now x x_in ∙ there)

    fits : cap ≤ length (homes old)
    fits = omega (arith, homes_are cap o old r)

    same_homes : homes_seen cap o (homes old) ≡ homes_seen cap None (homes old)
    same_homes = homes_same cap o (homes old) fits none_there ∙ sym (homes_none cap (homes old))

    pub closed_circles : AreSeenCircles cap None old
    closed_circles = rw (← same_homes) r

    pub closed_homes : shown_homes cap None old ≡ now.homes
    closed_homes = ap (take cap) (sym same_homes) ∙ homes_now

    pub closed_filed : shown_filed cap None t old ≡ now.filed
    closed_filed =
        plain_filed cap None old refl t
        ∙ (sym (numbers_same cap o (homes old) fits none_there t (filed_numbers old) (numbers_are cap o old r)) ∙ filed_now)

    -- no list is open, so rows are seen as they are
    pub open_circles : AreCircles cap old
    open_circles = plain_circles cap None old refl closed_circles

    pub open_homes : entry_homes cap old ≡ now.homes
    open_homes = sym (plain_homes cap None old refl) ∙ closed_homes

    pub open_filed : entry_filed cap old ≡ now.filed
    open_filed = sym (plain_filed cap None old refl t) ∙ closed_filed

  -- the rows after a change
  module _ (mid new filled : List Row) (mid_is : mid ≡ old) (filled_is : filled ≡ new) where
    abbrev IsWritten : ℕ → ℕ → ℕ → ℕ → Type 0
    IsWritten i h f m =
        AreSeenCircles cap o filled × (shown_homes cap o filled ≡ set now.homes i h) × (shown_filed cap o t filled ≡ set now.filed i f)
        × (entry_moves cap filled ≡ set now.moves i m)

    pub link_now : (i p f : ℕ) → i < length now.homes → p < LISTS → get_or now.homes i 0 ≡ 0 → now.opened ≢ Some p →
        nexts new ≡ set (set (nexts mid) i (cap + p)) (get_or (prevs mid) (cap + p) 0) i →
        prevs new ≡ set (set (prevs mid) i (get_or (prevs mid) (cap + p) 0)) (cap + p) i →
        homes new ≡ set (homes mid) i (p + 1) → filed_numbers new ≡ set (filed_numbers mid) i f → moves_made new ≡ set (moves_made mid) i 0 →
        IsWritten i (p + 1) f 0
    link_now i p f i_in p_in loose shut next_is prev_is home_is filed_is moves_is =
        let low : i < cap = inside i i_in in
        let away : o ≢ Some p = rw opened_now shut in
        let homes_old : homes new ≡ set (homes old) i (p + 1) = rw mid_is at home_is in
        rw filled_is (
          link_circles cap o old r i p new low p_in away (sym (home_now i low) ∙ loose) (rw mid_is at next_is) (rw mid_is at prev_is) homes_old,
          homes_written cap o old r i (p + 1) (p + 1) low new homes_old (other_seen o p away) ∙ ap (λ w. set w i (p + 1)) homes_now,
          filed_written cap o old r i (p + 1) (p + 1) low new homes_old (other_seen o p away) t f f (rw mid_is at filed_is) (other_number o t p f away)
              ∙ ap (λ w. set w i f) filed_now,
          moves_written cap o old r i 0 new low (rw mid_is at moves_is) ∙ ap (λ w. set w i 0) moves_now,
        )

    taken_now : (i : ℕ) → i < cap → AreSeenCircles cap o new → homes new ≡ set (homes old) i 0 → filed_numbers new ≡ set (filed_numbers old) i NOT_FILED →
        moves_made new ≡ set (moves_made old) i 0 → IsWritten i 0 NOT_FILED 0
    taken_now i low circles home_is filed_is moves_is =
        rw filled_is (
          circles,
          homes_written cap o old r i 0 0 low new home_is (loose_seen o) ∙ ap (λ w. set w i 0) homes_now,
          filed_written cap o old r i 0 0 low new home_is (loose_seen o) t NOT_FILED NOT_FILED filed_is (loose_number o t NOT_FILED)
              ∙ ap (λ w. set w i NOT_FILED) filed_now,
          moves_written cap o old r i 0 new low moves_is ∙ ap (λ w. set w i 0) moves_now,
        )

    pub unlink_now : (i : ℕ) → i < length now.homes → 0 < get_or now.homes i 0 →
        nexts new ≡ set (nexts mid) (get_or (prevs mid) i 0) (get_or (nexts mid) i 0) →
        prevs new ≡ set (prevs mid) (get_or (nexts mid) i 0) (get_or (prevs mid) i 0) →
        homes new ≡ set (homes mid) i 0 → filed_numbers new ≡ set (filed_numbers mid) i NOT_FILED → moves_made new ≡ set (moves_made mid) i 0 →
        IsWritten i 0 NOT_FILED 0
    unlink_now i i_in on next_is prev_is home_is filed_is moves_is =
        let low : i < cap = inside i i_in in
        let home_old : homes new ≡ set (homes old) i 0 = rw mid_is at home_is in
        taken_now i low
        (unlink_circles cap o old r i new low (rw (home_now i low) at on) (rw mid_is at next_is) (rw mid_is at prev_is) home_old)
        home_old (rw mid_is at filed_is) (rw mid_is at moves_is)

    pub detach_now : (p i : ℕ) → p < LISTS → i < length now.homes → i ≡ get_or (nexts old) (cap + p) 0 →
        nexts new ≡ set (nexts mid) (cap + p) (get_or (nexts mid) i 0) →
        prevs new ≡ set (prevs mid) (get_or (nexts mid) i 0) (cap + p) →
        homes new ≡ set (homes mid) i 0 → filed_numbers new ≡ set (filed_numbers mid) i NOT_FILED → moves_made new ≡ set (moves_made mid) i 0 →
        IsWritten i 0 NOT_FILED 0
    detach_now p i p_in i_in i_is next_is prev_is home_is filed_is moves_is =
        let low : i < cap = inside i i_in in
        let home_old : homes new ≡ set (homes old) i 0 = rw mid_is at home_is in
        taken_now i low
        (detach_circles cap o old r p i new p_in i_is low (rw mid_is at next_is) (rw mid_is at prev_is) home_old)
        home_old (rw mid_is at filed_is) (rw mid_is at moves_is)

    -- list p hangs on the head of list 0
    pub hang_now : (p tick onto : ℕ) → onto ≡ cap + 0 → p < LISTS → 0 < p → IsListEmpty now.homes 0 → IsListFilled now.homes p →
        nexts new ≡ set (set (set (nexts mid) (get_or (prevs mid) (cap + p) 0) onto) onto (get_or (nexts mid) (cap + p) 0)) (cap + p) (cap + p) →
        prevs new ≡ set (set (set (prevs mid) (get_or (nexts mid) (cap + p) 0) onto) onto (get_or (prevs mid) (cap + p) 0)) (cap + p) (cap + p) →
        homes new ≡ homes mid → filed_numbers new ≡ filed_numbers mid → moves_made new ≡ moves_made mid →
        AreSeenCircles cap (Some p) filled × (shown_homes cap (Some p) filled ≡ map (home_seen (Some p)) now.homes)
        × (shown_filed cap (Some p) tick filled ≡ numbers_seen (Some p) tick now.homes now.filed) × (entry_moves cap filled ≡ now.moves)
    hang_now p tick onto onto_is p_in above free (i, stands) next_is prev_is home_is filed_is moves_is =
        let plain_r : IsCircles cap (nexts old) (prevs old) (homes old) = open_circles free in
        let now_homes : take cap (homes old) ≡ now.homes = open_homes free in
        let now_filed : take cap (filed_numbers old) ≡ now.filed = open_filed free in
        let low : i < cap = inside i stands.0 in
        let there : (x : ℕ) → x < cap → get_or now.homes x 0 ≡ get_or (homes old) x 0 =
        λ x x_in. seen_home cap (homes old) now.homes x now_homes x_in in
        let homes_old : homes new ≡ homes old = rw mid_is at home_is in
        let filed_old : filed_numbers new ≡ filed_numbers old = rw mid_is at filed_is in
        rw filled_is (
          rw (rw mid_is at next_is, rw mid_is at prev_is)
              (hung_circles cap (nexts old) (prevs old) (homes old) plain_r p onto onto_is p_in above
              (λ x x_in h. free x (rw size_now x_in) (there x x_in ∙ h)) i low (sym (there i low) ∙ stands.1) (homes new) homes_old),
          rw (homes_old, ← now_homes) (homes_take cap (Some p) (homes old)),
          rw (homes_old, filed_old, ← now_homes, ← now_filed) (numbers_take cap (Some p) tick (homes old) (filed_numbers old)),
          rw (rw mid_is at moves_is) moves_now,
        )
