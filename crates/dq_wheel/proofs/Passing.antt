-- The wheel's way to another tick.

use Rattle.std.proofs.Common.{◌≡◌, ◌≢◌, ℕ, zero, suc, ◌+◌, ◌*◌, ◌/◌, ◌%◌, ◌^◌, ◌==◌, if◌then◌else◌, ◌<◌, ◌≤◌, List, [], ◌∷◌, length, get_or, sum, min, refl, sym, arith, ◌∙◌, ap, inl, inr, Option, None, Some, MatchOption}
use Rattle.std.specs.List.{sum_by}
use Rattle.std.proofs.lemmas.List.{length-map, get_or-map, ext_get_or}
use Rattle.std.proofs.lemmas.List.Sums.{sum_by-cons}
use Rattle.dq_ticks.specs.Digits.{digit_of, level, start, start_for, IsAhead}
use Rattle.dq_ticks.specs.Units.{lap, tick_limit}
use Rattle.dq_ticks.proofs.Laws.{start_floor, start_le, start_above, start_opens, digit_below}
use Rattle.dq_ticks.proofs.Levels.{level_same}
use Rattle.dq_wheel.specs.State.{Filing, filed_at, IsLeast}
use Rattle.dq_wheel.specs.Moves.{moves_down, move_counts, passed}
use Rattle.dq_wheel.specs.Wakes.{wake_for, IsNextWake}
use Rattle.dq_wheel.specs.Filed.{filed_by, filed_ticks}
use Rattle.dq_wheel.specs.Lists.{StandsIn, IsListEmpty, IsListFilled}
use Rattle.dq_wheel.specs.Maps.{IsEarlier}
use Rattle.dq_wheel.specs.Homes.{list_number, home_after, moves_after, CanGo, IsOpened, IsAt, IsHome, IsLawfulFiling}
use Rattle.dq_wheel.proofs.Links.{same_or_not}
use Rattle.dq_wheel.proofs.Numbers.{number_same, second_level}
use Rattle.dq_wheel.proofs.Opening.{home_after_there, home_after_elsewhere, moves_after_due, moves_after_moved, moves_after_elsewhere}
use Rattle.dq_wheel.proofs.Lawful.{filing_of}
use Rattle.dq_wheel.proofs.Wakes.{ahead, some_at, home_stable, still_there, start_here, start_later, opens_after, opens_in_range, later_all, wake_other, lawful_stable, next_wake, due_stands, due_least, least_all, none_filed}
use Rattle.dq_wheel.specs.declared.TheConstants.{LISTS}
use Rattle.dq_wheel.specs.declared.lists.TheConstants.{NOT_FILED}

-- the counts of a row
move_counts_size : (e n : ℕ) (filed : List (Option ℕ)) (moves : List ℕ) → length moves ≡ length filed → length (move_counts e n filed moves) ≡ length filed
move_counts_size e n [] moves size = refl
move_counts_size e n (o ∷ filed) [] size = absurd (omega arith)
move_counts_size e n (o ∷ filed) (m ∷ moves) size = ap (λ k. suc k) (move_counts_size e n filed moves (omega arith))

move_counts_at : (e n : ℕ) (filed : List (Option ℕ)) (moves : List ℕ) → length moves ≡ length filed → (i : ℕ) → i < length filed →
    get_or (move_counts e n filed moves) i 0 ≡ get_or moves i 0 + moves_down e n (filed_at filed i)
move_counts_at e n [] moves size i i_in = absurd (omega arith)
move_counts_at e n (o ∷ filed) [] size i i_in = absurd (omega arith)
move_counts_at e n (o ∷ filed) (m ∷ moves) size zero i_in = refl
move_counts_at e n (o ∷ filed) (m ∷ moves) size (suc i) i_in = move_counts_at e n filed moves (omega arith) i (omega arith)

sum_cons : (x : ℕ) (xs : List ℕ) → sum (x ∷ xs) ≡ x + sum xs
sum_cons x xs = sum_by-cons (λ y. y) x xs

move_counts_sum : (e n : ℕ) (filed : List (Option ℕ)) (moves : List ℕ) → length moves ≡ length filed →
    sum (move_counts e n filed moves) ≡ sum moves + sum_by (moves_down e n) filed
move_counts_sum e n [] [] size = refl
move_counts_sum e n [] (m ∷ moves) size = absurd (omega arith)
move_counts_sum e n (o ∷ filed) [] size = absurd (omega arith)
move_counts_sum e n (o ∷ filed) (m ∷ moves) size =
    let rest : sum (move_counts e n filed moves) ≡ sum moves + sum_by (moves_down e n) filed = move_counts_sum e n filed moves (omega arith) in
    let here : sum (move_counts e n (o ∷ filed) (m ∷ moves)) ≡ m + moves_down e n o + sum (move_counts e n filed moves) =
    sum_cons (m + moves_down e n o) (move_counts e n filed moves) in
    let before : sum (m ∷ moves) ≡ m + sum moves = sum_cons m moves in
    let made : sum_by (moves_down e n) (o ∷ filed) ≡ moves_down e n o + sum_by (moves_down e n) filed = sum_by-cons (moves_down e n) o filed in
    omega arith

-- a row that has each count is the counted row
pub move_counts_row : (e n : ℕ) (filed : List (Option ℕ)) (moves moves2 : List ℕ) → length moves ≡ length filed → length moves2 ≡ length filed →
    ((i : ℕ) → i < length filed → get_or moves2 i 0 ≡ get_or moves i 0 + moves_down e n (filed_at filed i)) → moves2 ≡ move_counts e n filed moves
move_counts_row e n filed moves moves2 size size2 each =
    ext_get_or 0 moves2 (move_counts e n filed moves) (size2 ∙ sym (move_counts_size e n filed moves size))
    (λ i i_in. let i_low : i < length filed = omega arith in each i i_low ∙ sym (move_counts_at e n filed moves size i i_low))

-- the number that is kept of a filed tick
filed_number : (number f : ℕ) → filed_by number ≡ Some f → number ≡ f
filed_number number f is =
    elim (same_or_not number NOT_FILED) [
      | inl e ↦ let none : filed_by number ≡ None = grind arith in absurd (cc)
      | inr d ↦ let some : filed_by number ≡ Some number = grind arith in cc
    ]

pub number_of : (numbers : List ℕ) (i f : ℕ) → i < length numbers → filed_at (filed_ticks numbers) i ≡ Some f → get_or numbers i 0 ≡ f
number_of numbers i f i_in is = filed_number (get_or numbers i 0) f (sym (get_or-map filed_by numbers i 0 None i_in) ∙ is)

no_move : (e n f : ℕ) → n ≡ f → moves_down e n (Some f) ≡ 0
no_move e n f due = grind arith

one_move : (e n f : ℕ) → e ≢ f → n ≢ f → level n f < level e f → moves_down e n (Some f) ≡ 1
one_move e n f before after lower = grind arith

-- one index of the opened list
module _ (e w f h m list : ℕ) (at : IsAt e f h m) (later : e < f) (here : start_for e f ≡ w) (stands : h ≡ list + 1) where
  ahead_now : IsAhead e f
  ahead_now = ahead e f h m at later

  opens_by : w ≤ f
  opens_by = omega (arith, start_le e f ahead_now)

  opened_after : e < w
  opened_after = omega (arith, start_above e f ahead_now)

  -- where it isn't due, its level falls
  falls : w ≢ f → level w f < level e f
  falls other = elim (start_opens e f ahead_now) [ inl due ↦ absurd (other (omega arith)) | inr lower ↦ rw here at lower ]

  list_is : list ≡ 64 * level e f + digit_of f (level e f)
  list_is = omega (arith, at.number)

  -- from level 1 it comes to level 0
  to_lowest : list < 128 → level w f ≡ 0
  to_lowest low =
      elim (same_or_not w f) [
        | inl due ↦ ap (λ t. level t f) due ∙ level_same f
        | inr other ↦ omega (arith, list_is, falls other)
      ]

  -- from level 2 it comes to where its second digit says
  to_second : 128 ≤ list → list < 192 → level w f ≡ (if digit_of f 1 == 0 then 0 else 1)
  to_second from below =
      let two : level e f ≡ 2 = omega (arith, list_is, digit_below f (level e f)) in
      second_level w f at.in_range (sym here ∙ start_floor e f ahead_now ∙ ap (λ l. f / 64 ^ l * 64 ^ l) two)

  pub goes : 64 ≤ list → CanGo w list f m
  goes high =
      let few : m + level e f ≤ 5 = at.few in
      record {
        not_before = opens_by;
        in_range = at.in_range;
        away = λ same. elim (same_or_not w f) [
          | inl due ↦
              let number : list_number w f ≡ digit_of w 0 = number_same w f due in
              let small : digit_of w 0 < 64 = digit_below w 0 in
              omega arith
          | inr other ↦
              let lower : level w f < level e f = falls other in
              omega (arith, list_is, digit_below f (level w f), digit_below f (level e f))
        ];
        few = omega (arith, list_is, digit_below f (level e f));
        lowest = to_lowest;
        second = to_second;
      }

  -- where it stood at level 0 it is due, and in the due list
  pub due_here : list < 64 → w ≡ f
  due_here low =
      elim (start_opens e f ahead_now) [
        | inl due ↦ omega arith
        | inr lower ↦ let flat : level e f ≡ 0 = omega (arith, list_is, digit_below f (level e f)) in absurd (omega arith)
      ]

  pub stays_home : list < 64 → h ≡ home_after w list f h
  stays_home low =
      let due : w ≡ f = due_here low in
      let number : list_number w f ≡ digit_of w 0 = number_same w f due in
      let flat : level e f ≡ 0 = omega (arith, list_is, digit_below f (level e f)) in
      let digit : digit_of f (level e f) ≡ digit_of w 0 = ap (λ l. digit_of f l) flat ∙ ap (λ t. digit_of t 0) (sym due) in
      omega (arith, list_is, home_after_there w list f h stands)

  pub stays_counted : list < 64 → m ≡ moves_after w list f h m
  stays_counted low = sym (moves_after_due w list f h m stands (due_here low))

  pub opened_home : IsAt w f (home_after w list f h) (moves_after w list f h m)
  opened_home =
      let few : m + level e f ≤ 5 = at.few in
      let near : f < e + lap = at.near in
      let after : e < w = opened_after in
      record {
        not_before = opens_by;
        in_range = at.in_range;
        near = omega arith;
        number = home_after_there w list f h stands;
        few =
            elim (same_or_not w f) [
              | inl due ↦
                  let count : moves_after w list f h m ≡ m = moves_after_due w list f h m stands due in
                  let flat : level w f ≡ 0 = ap (λ t. level t f) due ∙ level_same f in
                  omega arith
              | inr other ↦
                  let count : moves_after w list f h m ≡ m + 1 = moves_after_moved w list f h m stands other in
                  let lower : level w f < level e f = falls other in
                  omega arith
            ];
      }

  pub opened_count : moves_after w list f h m ≡ m + moves_down e w (Some f)
  opened_count =
      elim (same_or_not w f) [
        | inl due ↦
            let count : moves_after w list f h m ≡ m = moves_after_due w list f h m stands due in
            let none : moves_down e w (Some f) ≡ 0 = no_move e w f due in
            omega arith
        | inr other ↦
            let count : moves_after w list f h m ≡ m + 1 = moves_after_moved w list f h m stands other in
            let one : moves_down e w (Some f) ≡ 1 = one_move e w f (λ s. omega arith) other (falls other) in
            omega arith
      ]

-- the wheel goes to the start of the first list and opens it
module _ (e : ℕ) (numbers moves homes : List ℕ) (ok : IsLawfulFiling e (filed_ticks numbers) moves homes) (list : ℕ) (list_in : list < LISTS)
    (filled : IsListFilled homes list) (first : (p : ℕ) → p < LISTS → IsListFilled homes p → IsEarlier (digit_of e 5) list p)
    (later : (i f : ℕ) → filed_at (filed_ticks numbers) i ≡ Some f → e < f) where
  abbrev opening : ℕ
  opening = start e (list / 64) (list % 64)

  pub number_in : (i : ℕ) → i < length homes → i < length numbers
  number_in i i_in = rw (← length-map numbers filed_by, ok.filed_size) i_in

  -- what stands in the opened list
  pub standing : (i : ℕ) → i < length homes → get_or homes i 0 ≡ list + 1 →
      (f : ℕ) × (filed_at (filed_ticks numbers) i ≡ Some f) × IsAt e f (get_or homes i 0) (get_or moves i 0)
  standing i i_in stands = some_at e (filed_at (filed_ticks numbers) i) (get_or homes i 0) (get_or moves i 0) (ok.home i i_in) (omega arith)

  pub opens_at : (i f : ℕ) → filed_at (filed_ticks numbers) i ≡ Some f → get_or homes i 0 ≡ list + 1 → start_for e f ≡ opening
  opens_at = start_here e (filed_ticks numbers) moves homes ok list list_in filled first later

  pub can_go : 64 ≤ list → (i : ℕ) → StandsIn homes list i → CanGo opening list (get_or numbers i 0) (get_or moves i 0)
  can_go high i stands =
      let s = standing i stands.0 stands.1 in
      rw (number_of numbers i s.0 (number_in i stands.0) s.1)
      (goes e opening s.0 (get_or homes i 0) (get_or moves i 0) list s.2 (later i s.0 s.1) (opens_at i s.0 s.1 stands.1) stands.1 high)

  -- a list of level 0 becomes the due list as it is
  pub opened_low : list < 64 → IsOpened opening list numbers homes moves homes moves 0
  opened_low low =
      record {
        size = refl;
        moves_size = ok.moves_size;
        placed = λ i i_in.
            elim (same_or_not (get_or homes i 0) (list + 1)) [
              | inl stands ↦
                  let s = standing i i_in stands in
                  rw (number_of numbers i s.0 (number_in i i_in) s.1)
                  (stays_home e opening s.0 (get_or homes i 0) (get_or moves i 0) list s.2 (later i s.0 s.1) (opens_at i s.0 s.1 stands) stands low)
              | inr elsewhere ↦ sym (home_after_elsewhere opening list _ _ elsewhere)
            ];
        counted = λ i i_in.
            elim (same_or_not (get_or homes i 0) (list + 1)) [
              | inl stands ↦
                  let s = standing i i_in stands in
                  rw (number_of numbers i s.0 (number_in i i_in) s.1)
                  (stays_counted e opening s.0 (get_or homes i 0) (get_or moves i 0) list s.2 (later i s.0 s.1) (opens_at i s.0 s.1 stands) stands low)
              | inr elsewhere ↦ sym (moves_after_elsewhere opening list _ _ _ elsewhere)
            ];
        sum = omega arith;
      }

  pub stays : (i f : ℕ) → get_or homes i 0 ≢ list + 1 → filed_at (filed_ticks numbers) i ≡ Some f → (e < f) × (opening < start_for e f)
  stays i f elsewhere is = (later i f is, start_later e (filed_ticks numbers) moves homes ok list list_in filled first later i f is elsewhere)

  pub after : e ≤ opening
  after = omega (arith, opens_after e (filed_ticks numbers) moves homes ok list list_in filled first later)

  module _ (homes2 moves2 : List ℕ) (made : ℕ) (o : IsOpened opening list numbers homes moves homes2 moves2 made) where
    home_opened : (i : ℕ) → i < length homes → IsHome opening (filed_at (filed_ticks numbers) i) (get_or homes2 i 0) (get_or moves2 i 0)
    home_opened i i_in =
        elim (same_or_not (get_or homes i 0) (list + 1)) [
          | inl stands ↦
              let s = standing i i_in stands in
              rw (o.placed i i_in, o.counted i i_in, s.1, number_of numbers i s.0 (number_in i i_in) s.1)
              (opened_home e opening s.0 (get_or homes i 0) (get_or moves i 0) list s.2 (later i s.0 s.1) (opens_at i s.0 s.1 stands) stands)
          | inr elsewhere ↦
              rw (o.placed i i_in ∙ home_after_elsewhere opening list _ _ elsewhere, o.counted i i_in ∙ moves_after_elsewhere opening list _ _ _ elsewhere)
              (home_stable e opening (filed_at (filed_ticks numbers) i) (get_or homes i 0) (get_or moves i 0) after (ok.home i i_in)
              (λ f. stays i f elsewhere))
        ]

    pub lawful_opened : IsLawfulFiling opening (filed_ticks numbers) moves2 homes2
    lawful_opened =
        record {
          large = rw o.size ok.large;
          small = rw o.size ok.small;
          filed_size = ok.filed_size ∙ sym o.size;
          moves_size = o.moves_size ∙ sym o.size;
          in_range = opens_in_range e (filed_ticks numbers) moves homes ok list list_in filled first later;
          home = λ i i_in. home_opened i (rw o.size at i_in);
        }

    moves_opened : (i : ℕ) → i < length homes → get_or moves2 i 0 ≡ get_or moves i 0 + moves_down e opening (filed_at (filed_ticks numbers) i)
    moves_opened i i_in =
        elim (same_or_not (get_or homes i 0) (list + 1)) [
          | inl stands ↦
              let s = standing i i_in stands in
              rw (o.counted i i_in, s.1, number_of numbers i s.0 (number_in i i_in) s.1)
              (opened_count e opening s.0 (get_or homes i 0) (get_or moves i 0) list s.2 (later i s.0 s.1) (opens_at i s.0 s.1 stands) stands)
          | inr elsewhere ↦
              let none : moves_down e opening (filed_at (filed_ticks numbers) i) ≡ 0 =
              still_there e opening (filed_at (filed_ticks numbers) i) _ _ after (ok.home i i_in) (λ f. stays i f elsewhere) in
              let same : get_or moves2 i 0 ≡ get_or moves i 0 = o.counted i i_in ∙ moves_after_elsewhere opening list _ _ _ elsewhere in
              omega arith
        ]

    row_opened : moves2 ≡ move_counts e opening (filed_ticks numbers) moves
    row_opened =
        move_counts_row e opening (filed_ticks numbers) moves moves2 (ok.moves_size ∙ sym ok.filed_size) (o.moves_size ∙ sym ok.filed_size)
        (λ i i_in. moves_opened i (rw ok.filed_size at i_in))

    made_is : made ≡ sum_by (moves_down e opening) (filed_ticks numbers)
    made_is =
        let all : sum moves2 ≡ sum moves + sum_by (moves_down e opening) (filed_ticks numbers) =
        ap sum row_opened ∙ move_counts_sum e opening (filed_ticks numbers) moves (ok.moves_size ∙ sym ok.filed_size) in
        let opened : sum moves2 ≡ sum moves + made = o.sum in
        omega arith

    pub seen_opened : (moved : ℕ) (now : Filing) → filing_of e (filed_ticks numbers) moves moved ≡ now →
        filing_of opening (filed_ticks numbers) moves2 (min (moved + made) 18446744073709551615) ≡ passed now opening
    seen_opened moved now now_is =
        rw (← now_is, row_opened, made_is) refl

-- the wheel goes to a tick before all that wakes
module _ (e : ℕ) (filed : List (Option ℕ)) (moves homes : List ℕ) (ok : IsLawfulFiling e filed moves homes) (n : ℕ) (after : e ≤ n)
    (early : (i f : ℕ) → filed_at filed i ≡ Some f → (e < f) × (n < start_for e f)) where
  still_at : (i : ℕ) → i < length filed → moves_down e n (filed_at filed i) ≡ 0
  still_at i i_in = still_there e n (filed_at filed i) _ _ after (ok.home i (rw ok.filed_size at i_in)) (early i)

  still_row : moves ≡ move_counts e n filed moves
  still_row =
      move_counts_row e n filed moves moves (ok.moves_size ∙ sym ok.filed_size) (ok.moves_size ∙ sym ok.filed_size)
      (λ i i_in. omega (arith, still_at i i_in))

  none_made : sum_by (moves_down e n) filed ≡ 0
  none_made =
      let all : sum (move_counts e n filed moves) ≡ sum moves + sum_by (moves_down e n) filed =
      move_counts_sum e n filed moves (ok.moves_size ∙ sym ok.filed_size) in
      let same : sum moves ≡ sum (move_counts e n filed moves) = ap sum still_row in
      omega arith

  pub seen_stayed : (moved : ℕ) (now : Filing) → moved ≤ 18446744073709551615 → filing_of e filed moves moved ≡ now → filing_of n filed moves moved ≡ passed now n
  seen_stayed moved now small now_is =
      let count : min (moved + sum_by (moves_down e n) filed) 18446744073709551615 ≡ moved = omega (arith, none_made) in
      rw (← now_is, count, ← still_row) refl

-- the same as callers see it
module _ (e : ℕ) (numbers moves homes : List ℕ) (ok : IsLawfulFiling e (filed_ticks numbers) moves homes) (moved : ℕ) (now : Filing)
    (now_is : filing_of e (filed_ticks numbers) moves moved ≡ now) where
  tick_is : e ≡ now.tick
  tick_is = ap (λ w. w.tick) now_is

  filed_is : filed_ticks numbers ≡ now.filed
  filed_is = ap (λ w. w.filed) now_is

  pub seen_later : ((i : ℕ) → filed_at now.filed i ≢ Some now.tick) → (i f : ℕ) → filed_at (filed_ticks numbers) i ≡ Some f → e < f
  seen_later none = later_all e (filed_ticks numbers) moves homes ok (rw (tick_is, filed_is) none)

  -- nothing wakes by then
  pub seen_passed : (n : ℕ) → now.tick ≤ n → moved ≤ 18446744073709551615 →
      ((i f : ℕ) → filed_at (filed_ticks numbers) i ≡ Some f → (e < f) × (n < start_for e f)) →
      ((i f : ℕ) → filed_at now.filed i ≡ Some f → n < wake_for now.tick f) × (filing_of n (filed_ticks numbers) moves moved ≡ passed now n)
  seen_passed n after small early = (
    λ i f is.
        let is_kept : filed_at (filed_ticks numbers) i ≡ Some f = rw filed_is is in
        let when = early i f is_kept in
        let later : e < f = when.0 in
        rw (← tick_is, wake_other e f (λ s. omega arith)) when.1,
    seen_stayed e (filed_ticks numbers) moves homes ok n (rw tick_is after) early moved now small now_is,
  )

  pub still_lawful : (n : ℕ) → now.tick ≤ n → n < tick_limit →
      ((i f : ℕ) → filed_at (filed_ticks numbers) i ≡ Some f → (e < f) × (n < start_for e f)) → IsLawfulFiling n (filed_ticks numbers) moves homes
  still_lawful n after in_range early = lawful_stable e (filed_ticks numbers) moves homes ok n (rw tick_is after) in_range early

  -- the first list starts by then
  pub seen_opening : (list : ℕ) → list < LISTS → (filled : IsListFilled homes list) →
      ((p : ℕ) → p < LISTS → IsListFilled homes p → IsEarlier (digit_of e 5) list p) →
      ((i f : ℕ) → filed_at (filed_ticks numbers) i ≡ Some f → e < f) →
      (homes2 moves2 : List ℕ) (made limit : ℕ) → IsOpened (start e (list / 64) (list % 64)) list numbers homes moves homes2 moves2 made →
      start e (list / 64) (list % 64) ≤ limit →
      (w : ℕ) × IsNextWake now.tick now.filed w × (w ≤ limit)
      × (filing_of (start e (list / 64) (list % 64)) (filed_ticks numbers) moves2 (min (moved + made) 18446744073709551615) ≡ passed now w)
  seen_opening list list_in filled first later homes2 moves2 made limit o reached = (
    start e (list / 64) (list % 64),
    rw (← tick_is, ← filed_is) (next_wake e (filed_ticks numbers) moves homes ok list list_in filled first later),
    reached,
    seen_opened e numbers moves homes ok list list_in filled first later homes2 moves2 made o moved now now_is,
  )

  -- and is of level 0
  pub seen_arrival : (list : ℕ) → list < LISTS → (filled : IsListFilled homes list) →
      ((p : ℕ) → p < LISTS → IsListFilled homes p → IsEarlier (digit_of e 5) list p) →
      ((i f : ℕ) → filed_at (filed_ticks numbers) i ≡ Some f → e < f) → list < 64 → moved ≤ 18446744073709551615 →
      (limit : ℕ) → start e (list / 64) (list % 64) ≤ limit →
      (w : ℕ) × IsNextWake now.tick now.filed w × (w ≤ limit)
      × (filing_of (start e (list / 64) (list % 64)) (filed_ticks numbers) moves moved ≡ passed now w)
  seen_arrival list list_in filled first later low small limit reached =
      let o = opened_low e numbers moves homes ok list list_in filled first later low in
      let seen = seen_opening list list_in filled first later homes moves 0 limit o reached in
      let count : min (moved + 0) 18446744073709551615 ≡ moved = omega arith in
      rw count at seen

  -- no index is filed at the tick
  pub seen_none_due : ((i f : ℕ) → filed_at (filed_ticks numbers) i ≡ Some f → e < f) → (i : ℕ) → filed_at now.filed i ≢ Some now.tick
  seen_none_due later i is = let after : e < now.tick = later i now.tick (rw filed_is is) in omega (arith, tick_is)

  -- what is filed least
  pub seen_least_due : (i : ℕ) → StandsIn homes (digit_of e 0) i → IsLeast now.filed i
  seen_least_due i stands =
      let is : filed_at (filed_ticks numbers) i ≡ Some e = due_stands e (filed_ticks numbers) moves homes ok i stands in
      rw (← filed_is) (e, rw ok.filed_size stands.0, is, due_least e (filed_ticks numbers) moves homes ok i is)

  pub seen_least : (list : ℕ) → list < LISTS → (filled : IsListFilled homes list) →
      ((p : ℕ) → p < LISTS → IsListFilled homes p → IsEarlier (digit_of e 5) list p) →
      ((i f : ℕ) → filed_at (filed_ticks numbers) i ≡ Some f → e < f) → (o : Option ℕ) →
      MatchOption o (IsListEmpty homes list) (λ x. StandsIn homes list x × ((y : ℕ) → StandsIn homes list y → get_or numbers x 0 ≤ get_or numbers y 0)) →
      MatchOption o ((i f : ℕ) → filed_at now.filed i ≢ Some f) (λ i. IsLeast now.filed i)
  seen_least list list_in filled first later None empty = absurd (empty filled.0 filled.1.0 filled.1.1)
  seen_least list list_in filled first later (Some x) found =
      let in_numbers : (y : ℕ) → y < length homes → y < length numbers = λ y y_in. rw (← length-map numbers filed_by, ok.filed_size) y_in in
      let s = some_at e (filed_at (filed_ticks numbers) x) (get_or homes x 0) (get_or moves x 0) (ok.home x found.0.0) (omega (arith, found.0.1)) in
      let number : get_or numbers x 0 ≡ s.0 = number_of numbers x s.0 (in_numbers x found.0.0) s.1 in
      rw (← filed_is) (
        s.0,
        rw ok.filed_size found.0.0,
        s.1,
        least_all e (filed_ticks numbers) moves homes ok list list_in filled first later x found.0 s.0 s.1
            (λ j g stands there.
            let le : get_or numbers x 0 ≤ get_or numbers j 0 = found.1 j stands in
            let other : get_or numbers j 0 ≡ g = number_of numbers j g (in_numbers j stands.0) there in
            omega arith),
      )

  pub seen_none : ((p : ℕ) → p < LISTS → IsListEmpty homes p) → (i f : ℕ) → filed_at now.filed i ≡ Some f → ⊥
  seen_none empty = rw (← filed_is) (none_filed e (filed_ticks numbers) moves homes ok empty)
