-- The circular lists as rows of numbers.

use Rattle.std.proofs.Common.{◌≡◌, ◌≢◌, ℕ, ◌+◌, ◌-◌, ◌<◌, ◌≤◌, List, length, get_or, set, map, take, replicate, min, sym, arith, ◌∙◌, ap}
use Rattle.std.proofs.Math.ListN.{length-set}
use Rattle.std.proofs.lemmas.List.{get_or-set_same, get_or-set_other}
use Rattle.std.proofs.Math.Seq.{take-set-lt, map-set_same}
use Rattle.std.proofs.lemmas.List.{map-set, length-take-le, get_or-take, length-take, length-map, length-replicate, get_or-replicate, ext_get_or}
use Rattle.dq_wheel.specs.Circle.{IsCircles}
use Rattle.dq_wheel.specs.Rows.{nexts, prevs, homes, filed_numbers, moves_made, AreAlone}
use Rattle.dq_wheel.specs.declared.lists.Row.{Row}
use Rattle.dq_wheel.proofs.Links.{linked, unlinked, first_home, first_back, none_in, last_home, last_in, before_in, after_in}
use Rattle.dq_ticks.specs.declared.TheConstants.{CAPACITY_LIMIT}
use Rattle.dq_wheel.specs.declared.TheConstants.{LISTS}
use Rattle.dq_wheel.specs.declared.lists.TheConstants.{NOT_FILED}

-- a row with two numbers written
pub set_first : (xs : List ℕ) (i j v w : ℕ) → i < length xs → i ≢ j → get_or (set (set xs i v) j w) i 0 ≡ v
set_first xs i j v w i_in d = get_or-set_other (set xs i v) j i w 0 d ∙ get_or-set_same xs i v 0 i_in

pub set_second : (xs : List ℕ) (i j v w : ℕ) → j < length xs → get_or (set (set xs i v) j w) j 0 ≡ w
set_second xs i j v w j_in = get_or-set_same (set xs i v) j w 0 (rw length-set j_in)

pub set_others : (xs : List ℕ) (i j v w x : ℕ) → x ≢ i → x ≢ j → get_or (set (set xs i v) j w) x 0 ≡ get_or xs x 0
set_others xs i j v w x d e = get_or-set_other (set xs i v) j x w 0 e ∙ get_or-set_other xs i x v 0 d

-- entry i is linked at the end of list p
pub circles_link : (cap : ℕ) (next prev homes : List ℕ) (i p last : ℕ) → IsCircles cap next prev homes → i < cap → p < LISTS →
    get_or homes i 0 ≡ 0 → last ≡ get_or prev (cap + p) 0 →
    IsCircles cap (set (set next i (cap + p)) last i) (set (set prev i last) (cap + p) i) (set homes i (p + 1))
circles_link cap next prev homes i p last r i_in p_in loose last_is =
    let stands : get_or homes (get_or prev (cap + p) 0) 0 ≡ p + 1 = last_home cap LISTS _ _ _ r.rank r.circle p p_in in
    let inside : get_or prev (cap + p) 0 < cap + LISTS = last_in cap LISTS _ _ _ r.rank r.circle p p_in in
    let last_below : last < cap + LISTS = rw last_is inside in
    let last_stands : get_or homes last 0 ≡ p + 1 = rw last_is stands in
    let apart : i ≢ last = λ e. let h : get_or homes last 0 ≡ 0 = rw e at loose in omega arith in
    record {
      small = r.small;
      next_len = simp length-set r.next_len;
      prev_len = simp length-set r.prev_len;
      homes_len = simp length-set r.homes_len;
      rank = _;
      circle = linked cap LISTS (λ x. get_or next x 0) (λ x. get_or prev x 0) (λ x. get_or homes x 0) r.rank r.circle i i_in p last p_in loose last_is
          (λ x. get_or (set (set next i (cap + p)) last i) x 0) (λ x. get_or (set (set prev i last) (cap + p) i) x 0) (λ x. get_or (set homes i (p + 1)) x 0)
          (set_first next i last (cap + p) i (omega (arith, r.next_len)) apart) (set_second next i last (cap + p) i (omega (arith, r.next_len)))
          (set_others next i last (cap + p) i)
          (set_first prev i (cap + p) last i (omega (arith, r.prev_len)) (λ e. omega arith)) (set_second prev i (cap + p) last i (omega (arith, r.prev_len)))
          (set_others prev i (cap + p) last i)
          (get_or-set_same homes i (p + 1) 0 (omega (arith, r.homes_len))) (λ x. get_or-set_other homes i x (p + 1) 0);
    }

-- entry i is taken out of its list
pub circles_unlink : (cap : ℕ) (next prev homes : List ℕ) (i before after : ℕ) → IsCircles cap next prev homes → i < cap →
    0 < get_or homes i 0 → before ≡ get_or prev i 0 → after ≡ get_or next i 0 →
    IsCircles cap (set next before after) (set prev after before) (set homes i 0)
circles_unlink cap next prev homes i before after r i_in on before_is after_is =
    let before_below : get_or prev i 0 < cap + LISTS = before_in cap LISTS _ _ _ r.rank r.circle i i_in on in
    let after_below : get_or next i 0 < cap + LISTS = after_in cap LISTS _ _ _ r.rank r.circle i i_in on in
    record {
      small = r.small;
      next_len = simp length-set r.next_len;
      prev_len = simp length-set r.prev_len;
      homes_len = simp length-set r.homes_len;
      rank = _;
      circle = unlinked cap LISTS (λ x. get_or next x 0) (λ x. get_or prev x 0) (λ x. get_or homes x 0) r.rank r.circle i i_in before after on before_is after_is
          (λ x. get_or (set next before after) x 0) (λ x. get_or (set prev after before) x 0) (λ x. get_or (set homes i 0) x 0)
          (get_or-set_same next before after 0 (omega (arith, r.next_len))) (λ x. get_or-set_other next before x after 0)
          (get_or-set_same prev after before 0 (omega (arith, r.prev_len))) (λ x. get_or-set_other prev after x before 0)
          (get_or-set_same homes i 0 0 (omega (arith, r.homes_len))) (λ x. get_or-set_other homes i x 0 0);
    }

-- what follows the head of list p
module _ (cap : ℕ) (next prev homes : List ℕ) (r : IsCircles cap next prev homes) (p : ℕ) (p_in : p < LISTS) where
  pub first_stands : get_or homes (get_or next (cap + p) 0) 0 ≡ p + 1
  first_stands = first_home cap LISTS _ _ _ r.rank r.circle p p_in

  pub first_follows : get_or prev (get_or next (cap + p) 0) 0 ≡ cap + p
  first_follows = first_back cap LISTS _ _ _ r.rank r.circle p p_in

  pub first_none : cap ≤ get_or next (cap + p) 0 → (x : ℕ) → x < cap → get_or homes x 0 ≡ p + 1 → ⊥
  first_none = none_in cap LISTS _ _ _ r.rank r.circle p p_in

-- the entry that follows the head of list p is taken out of it
pub circles_detach : (cap : ℕ) (next prev homes : List ℕ) (p i after : ℕ) → IsCircles cap next prev homes → p < LISTS →
    i ≡ get_or next (cap + p) 0 → i < cap → after ≡ get_or next i 0 →
    IsCircles cap (set next (cap + p) after) (set prev after (cap + p)) (set homes i 0)
circles_detach cap next prev homes p i after r p_in i_is i_in after_is =
    let stands : get_or homes i 0 ≡ p + 1 = rw i_is (first_stands cap next prev homes r p p_in) in
    let follows : get_or prev i 0 ≡ cap + p = rw i_is (first_follows cap next prev homes r p p_in) in
    circles_unlink cap next prev homes i (cap + p) after r i_in (omega arith) (sym follows) after_is

-- what callers see of a row of which one tick or one count of moves was written
module _ (cap i v : ℕ) (rows old new filled : List Row) (now_homes now : List ℕ) (homes_is : take cap (homes rows) ≡ now_homes) (i_in : i < length now_homes)
    (filled_is : filled ≡ new) (old_is : old ≡ rows) where
  below : i < min cap (length (homes rows))
  below = rw (← length-take cap (homes rows), homes_is) i_in

  pub filed_written : take cap (filed_numbers rows) ≡ now → filed_numbers new ≡ set (filed_numbers old) i v → take cap (filed_numbers filled) ≡ set now i v
  filed_written now_is new_is =
      let size = length-map rows (λ r. r.filed) ∙ sym (length-map rows (λ r. r.home)) in
      rw (filled_is, new_is, old_is, ← now_is) (take-set-lt cap (filed_numbers rows) i v (omega (arith, below)))

  pub moves_written : take cap (moves_made rows) ≡ now → moves_made new ≡ set (moves_made old) i v → take cap (moves_made filled) ≡ set now i v
  moves_written now_is new_is =
      let size = length-map rows (λ r. r.moves) ∙ sym (length-map rows (λ r. r.home)) in
      rw (filled_is, new_is, old_is, ← now_is) (take-set-lt cap (moves_made rows) i v (omega (arith, below)))

-- the number of entries that callers see
pub capacity_is : (cap : ℕ) (xs : List ℕ) (now : List ℕ) → cap ≤ length xs → take cap xs ≡ now → length now ≡ cap
capacity_is cap xs now fits now_is = rw (← now_is) (length-take-le cap xs fits)

-- a row that callers see is the row
pub seen_home : (cap : ℕ) (xs now : List ℕ) (i : ℕ) → take cap xs ≡ now → i < cap → get_or now i 0 ≡ get_or xs i 0
seen_home cap xs now i now_is i_in = rw (← now_is) (get_or-take cap xs i 0 i_in)

-- where the head of list p follows itself, callers see that it is empty
pub empty_seen : (cap : ℕ) (next prev homes now : List ℕ) (p : ℕ) → IsCircles cap next prev homes → p < LISTS → take cap homes ≡ now →
    cap ≤ get_or next (cap + p) 0 → (x : ℕ) → x < length now → get_or now x 0 ≡ p + 1 → ⊥
empty_seen cap next prev homes now p r p_in now_is high x x_in h =
    let len : length now ≡ cap = capacity_is cap homes now (omega (arith, r.homes_len)) now_is in
    let x_cap : x < cap = omega arith in
    first_none cap next prev homes r p p_in high x x_cap (sym (seen_home cap homes now x now_is x_cap) ∙ h)

-- rows that stand alone are circles of which each is empty
pub circles_alone : (cap : ℕ) (rows : List Row) → cap ≤ CAPACITY_LIMIT → length rows ≡ cap + LISTS → AreAlone cap rows →
    IsCircles cap (nexts rows) (prevs rows) (homes rows)
circles_alone cap rows small len alone =
    let size : length (homes rows) ≡ cap + LISTS = length-map rows (λ r. r.home) ∙ len in
    let home_of : (x : ℕ) → x < cap + LISTS → get_or (homes rows) x 0 ≡ x + 1 - cap = λ x x_in. alone.home x (omega arith) in
    record {
      small = small;
      next_len = length-map rows (λ r. r.next) ∙ len;
      prev_len = length-map rows (λ r. r.prev) ∙ len;
      homes_len = size;
      rank = λ _. 0;
      circle = record {
        head_home = λ p p_in. omega (arith, home_of (cap + p) (omega arith));
        home_le = λ x x_in. omega (arith, home_of x (omega arith));
        node = λ x x_in on.
            let n : get_or (nexts rows) x 0 ≡ x = alone.next x (omega arith) in
            let v : get_or (prevs rows) x 0 ≡ x = alone.prev x (omega arith) in
            record {
              next_in = omega arith;
              prev_in = omega arith;
              next_home = ap (λ y. get_or (homes rows) y 0) n;
              prev_home = ap (λ y. get_or (homes rows) y 0) v;
              back = ap (λ y. get_or (prevs rows) y 0) n ∙ v;
              forth = ap (λ y. get_or (nexts rows) y 0) v ∙ n;
            };
        falls = λ x x_in on. let h : 0 < get_or (homes rows) x 0 = on in absurd (omega (arith, home_of x (omega arith)));
      };
    }

-- what is the same in each row
same_of : (cap v : ℕ) (column : List ℕ) → cap ≤ length column → ((x : ℕ) → x < cap → get_or column x 0 ≡ v) → take cap column ≡ replicate cap v
same_of cap v column fits each =
    let seen : length (take cap column) ≡ cap = length-take-le cap column fits in
    ext_get_or 0 (take cap column) (replicate cap v) (seen ∙ sym (length-replicate cap v))
    (λ i i_in.
    let i_cap : i < cap = omega arith in
    get_or-take cap column i 0 i_cap ∙ (each i i_cap ∙ sym (get_or-replicate cap i v 0 i_cap)))

-- callers see that no index stands in a list
pub seen_alone : (cap : ℕ) (rows : List Row) → length rows ≡ cap + LISTS → AreAlone cap rows → take cap (homes rows) ≡ replicate cap 0
seen_alone cap rows len alone =
    let size = length-map rows (λ r. r.home) ∙ len in
    same_of cap 0 (homes rows) (omega arith) (λ x x_in. omega (arith, alone.home x (omega arith)))

-- callers see that none is filed, and that none moved
pub filed_alone : (cap : ℕ) (rows : List Row) → length rows ≡ cap + LISTS → AreAlone cap rows → take cap (filed_numbers rows) ≡ replicate cap NOT_FILED
filed_alone cap rows len alone =
    let size = length-map rows (λ r. r.filed) ∙ len in
    same_of cap NOT_FILED (filed_numbers rows) (omega arith) (λ x x_in. alone.filed x (omega arith))

pub moves_alone : (cap : ℕ) (rows : List Row) → length rows ≡ cap + LISTS → AreAlone cap rows → take cap (moves_made rows) ≡ replicate cap 0
moves_alone cap rows len alone =
    let size = length-map rows (λ r. r.moves) ∙ len in
    same_of cap 0 (moves_made rows) (omega arith) (λ x x_in. alone.moves x (omega arith))

-- an index that callers see is an entry
pub stands_seen : (cap : ℕ) (next prev homes now : List ℕ) (i : ℕ) → IsCircles cap next prev homes → take cap homes ≡ now → i < length now → i < cap
stands_seen cap next prev homes now i r now_is i_in =
    let len : length now ≡ cap = capacity_is cap homes now (omega (arith, r.homes_len)) now_is in
    omega arith

-- one element is replaced, one by one that f can't tell from it, and one more
pub set_kept_set : {A : Type 0} (f : A → ℕ) (xs : List A) (i j k v : ℕ) (a b x d : A) → f b ≡ f (get_or (set xs i a) j d) → v ≡ f a
    → map f (set (set (set xs i a) j b) k x) ≡ set (set (map f xs) i v) k (f x)
set_kept_set f xs i j k v a b x d kept v_is =
    rw v_is (map-set f (set (set xs i a) j b) k x
    ∙ ap (λ ys. set ys k (f x)) (map-set_same f (set xs i a) j b d kept ∙ map-set f xs i a))

-- two elements are replaced, and one by one that f can't tell from it
pub set_set_kept : {A : Type 0} (f : A → ℕ) (xs : List A) (i j k at : ℕ) (a b x d : A) → f x ≡ f (get_or (set (set xs i a) j b) k d) → at ≡ j
    → map f (set (set (set xs i a) j b) k x) ≡ set (set (map f xs) i (f a)) at (f b)
set_set_kept f xs i j k at a b x d kept at_is =
    rw at_is (map-set_same f (set (set xs i a) j b) k x d kept
    ∙ (map-set f (set xs i a) j b ∙ ap (λ ys. set ys j (f b)) (map-set f xs i a)))

-- one element is replaced, and two by ones that f can't tell from them
pub set_kept_kept : {A B : Type 0} (f : A → B) (xs : List A) (i j k : ℕ) (a b x d : A) → f b ≡ f (get_or (set xs i a) j d)
    → f x ≡ f (get_or (set (set xs i a) j b) k d) → map f (set (set (set xs i a) j b) k x) ≡ set (map f xs) i (f a)
set_kept_kept f xs i j k a b x d kept same =
    map-set_same f (set (set xs i a) j b) k x d same ∙ (map-set_same f (set xs i a) j b d kept ∙ map-set f xs i a)

-- one element is replaced between two that are replaced by ones that f can't tell from them
pub kept_set_kept : {A : Type 0} (f : A → ℕ) (xs : List A) (i j k at : ℕ) (a b x d : A) → f a ≡ f (get_or xs i d)
    → f x ≡ f (get_or (set (set xs i a) j b) k d) → at ≡ j → map f (set (set (set xs i a) j b) k x) ≡ set (map f xs) at (f b)
kept_set_kept f xs i j k at a b x d kept same at_is =
    rw at_is (map-set_same f (set (set xs i a) j b) k x d same
    ∙ (map-set f (set xs i a) j b ∙ ap (λ ys. set ys j (f b)) (map-set_same f xs i a d kept)))

-- one element is replaced after two by ones that f can't tell from them
pub kept_kept_set : {A : Type 0} (f : A → ℕ) (xs : List A) (i j k : ℕ) (a b x d : A) → f a ≡ f (get_or xs i d)
    → f b ≡ f (get_or (set xs i a) j d) → map f (set (set (set xs i a) j b) k x) ≡ set (map f xs) k (f x)
kept_kept_set f xs i j k a b x d kept same =
    map-set f (set (set xs i a) j b) k x ∙ ap (λ ys. set ys k (f x)) (map-set_same f (set xs i a) j b d same ∙ map-set_same f xs i a d kept)
