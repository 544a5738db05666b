-- The first list starts first, and a tick before a list's start leaves it as it is.

use Rattle.std.proofs.Common.{◌≡◌, ◌≢◌, ℕ, ◌+◌, ◌-◌, ◌*◌, ◌/◌, ◌%◌, ◌<◌, ◌≤◌, List, length, get_or, refl, sym, arith, ◌∙◌, ap, inl, inr, Option, None, Some}
use Rattle.std.proofs.lemmas.List.{get_or_past}
use Rattle.dq_ticks.specs.Digits.{digit_of, level, start, start_for, turn, IsAhead}
use Rattle.dq_ticks.specs.Units.{lap, tick_limit}
use Rattle.dq_ticks.proofs.Laws.{start_le, start_above, level_stable, lower_first, before_later, turn_low, turn_top, digit_below}
use Rattle.dq_wheel.specs.State.{filed_at}
use Rattle.dq_wheel.specs.Moves.{moves_down}
use Rattle.dq_wheel.specs.Wakes.{wake_for, IsNextWake, IsWithin, WakesAreAhead}
use Rattle.dq_wheel.specs.Lists.{StandsIn, IsListEmpty, IsListFilled}
use Rattle.dq_wheel.specs.Maps.{IsEarlier}
use Rattle.dq_wheel.specs.Homes.{list_number, IsAt, IsHome, IsLawfulFiling}
use Rattle.dq_wheel.proofs.Links.{same_or_not, nat_le_or_lt}
use Rattle.dq_wheel.proofs.Numbers.{number_same, number_low}
use Rattle.dq_wheel.proofs.Lawful.{home_due}
use Rattle.dq_wheel.specs.declared.TheConstants.{LISTS}

pub wake_same : (e f : ℕ) → e ≡ f → wake_for e f ≡ e
wake_same e f same = grind arith

pub wake_other : (e f : ℕ) → e ≢ f → wake_for e f ≡ start_for e f
wake_other e f other = grind arith

pub ahead : (e f h m : ℕ) → IsAt e f h m → e < f → IsAhead e f
ahead e f h m at later = record { later = later; near = at.near; in_range = at.in_range }

pub at_some : (e : ℕ) (o : Option ℕ) (h m f : ℕ) → IsHome e o h m → o ≡ Some f → IsAt e f h m
at_some e None h m f home is = absurd (cc)
at_some e (Some g) h m f home is = let same : g ≡ f = cc in rw same at home

pub some_at : (e : ℕ) (o : Option ℕ) (h m : ℕ) → IsHome e o h m → 0 < h → (f : ℕ) × (o ≡ Some f) × IsAt e f h m
some_at e None h m home on = let zero_home : h ≡ 0 = home.0 in absurd (omega arith)
some_at e (Some f) h m home on = (f, refl, home)

-- the list of f stays while the tick is before its start
pub number_stable : (e n f : ℕ) → IsAhead e f → e ≤ n → n < start_for e f → list_number n f ≡ list_number e f
number_stable e n f a after before =
    let still : level n f ≡ level e f = level_stable e f a n after before in
    ap (λ l. 64 * l + digit_of f l) still

-- so does its home
pub home_stable : (e n : ℕ) (o : Option ℕ) (h m : ℕ) → e ≤ n → IsHome e o h m →
    ((f : ℕ) → o ≡ Some f → (e < f) × (n < start_for e f)) → IsHome n o h m
home_stable e n None h m after home early = home
home_stable e n (Some f) h m after home early =
    let at : IsAt e f h m = home in
    let when = early f refl in
    let a : IsAhead e f = ahead e f h m at when.0 in
    let le : start_for e f ≤ f = start_le e f a in
    let before : n < start_for e f = when.1 in
    let near : f < e + lap = at.near in
    record {
      not_before = omega arith;
      in_range = at.in_range;
      near = omega arith;
      number = at.number ∙ ap (λ l. l + 1) (sym (number_stable e n f a after before));
      few = rw (level_stable e f a n after before) at.few;
    }

-- and no move is counted
pub still_there : (e n : ℕ) (o : Option ℕ) (h m : ℕ) → e ≤ n → IsHome e o h m →
    ((f : ℕ) → o ≡ Some f → (e < f) × (n < start_for e f)) → moves_down e n o ≡ 0
still_there e n None h m after home early = refl
still_there e n (Some f) h m after home early =
    let at : IsAt e f h m = home in
    let when = early f refl in
    let same : level n f ≡ level e f = level_stable e f (ahead e f h m at when.0) n after when.1 in
    grind arith

-- two lists of a level have two turns
apart_turns : (own j k : ℕ) → own < 64 → j < 64 → k < 64 → j ≢ k → (j + 63 - own) % 64 ≤ (k + 63 - own) % 64 → (j + 63 - own) % 64 < (k + 63 - own) % 64
apart_turns own j k own_in j_in k_in d le = omega arith

turn_less : (e place j k : ℕ) → j < 64 → k < 64 → j ≢ k → turn e place j ≤ turn e place k → turn e place j < turn e place k
turn_less e place j k j_in k_in d le =
    elim (same_or_not place 5) [
      | inl top ↦
          let of_j : turn e place j ≡ (j + 63 - digit_of e 5) % 64 = turn_top e place j top in
          let of_k : turn e place k ≡ (k + 63 - digit_of e 5) % 64 = turn_top e place k top in
          let less = apart_turns (digit_of e 5) j k (digit_below e 5) j_in k_in d (omega arith) in
          omega (arith, less)
      | inr low ↦
          let of_j : turn e place j ≡ j = turn_low e place j low in
          let of_k : turn e place k ≡ k = turn_low e place k low in
          omega arith
    ]

-- a list tells its level and its digit
pub list_level : (e f p : ℕ) → list_number e f ≡ p → p / 64 ≡ level e f
list_level e f p is = omega (arith, digit_below f (level e f))

pub list_digit : (e f p : ℕ) → list_number e f ≡ p → p % 64 ≡ digit_of f (level e f)
list_digit e f p is = omega (arith, digit_below f (level e f))

-- what stands in an earlier list comes before the start of a later one
pub earlier_first : (e f g p q : ℕ) → IsAhead e f → IsAhead e g → list_number e f ≡ p → list_number e g ≡ q → p ≢ q →
    IsEarlier (digit_of e 5) p q → f < start_for e g
earlier_first e f g p q of_f of_g p_is q_is apart earlier =
    let p_level : p / 64 ≡ level e f = list_level e f p p_is in
    let q_level : q / 64 ≡ level e g = list_level e g q q_is in
    let p_digit : p % 64 ≡ digit_of f (level e f) = list_digit e f p p_is in
    let q_digit : q % 64 ≡ digit_of g (level e g) = list_digit e g q q_is in
    elim earlier [
      | inl lower ↦ lower_first e f g of_f of_g (omega arith)
      | inr same ↦
          let levels : level e f ≡ level e g = omega (arith, same.0) in
          let turns : turn e (p / 64) (p % 64) ≤ turn e (p / 64) (q % 64) = rw (← same.0) at same.1 in
          let less : turn e (p / 64) (p % 64) < turn e (p / 64) (q % 64) =
          turn_less e (p / 64) (p % 64) (q % 64) (omega arith) (omega arith) (λ s. apart (omega (arith, same.0))) turns in
          let here : turn e (level e f) (digit_of f (level e f)) < turn e (level e f) (q % 64) = rw (p_level, p_digit) at less in
          let there : turn e (level e f) (digit_of f (level e f)) < turn e (level e f) (digit_of g (level e f)) =
          rw (q_digit, ← levels) at here in
          before_later e f g of_f of_g levels there
    ]

-- where a slot of the lowest level starts
start_low : (e k : ℕ) → start e 0 k ≡ e / 64 * 64 + k
unfolding start
start_low e k = omega arith

-- the due list starts at the tick
start_due : (e : ℕ) → start e (digit_of e 0 / 64) (digit_of e 0 % 64) ≡ e
start_due e =
    let place : digit_of e 0 / 64 ≡ 0 = omega (arith, digit_below e 0) in
    let digit : digit_of e 0 % 64 ≡ digit_of e 0 = omega (arith, digit_below e 0) in
    rw (place, digit) (omega (arith, start_low e (digit_of e 0)))

start_at : (e f place k : ℕ) → level e f ≡ place → digit_of f (level e f) ≡ k → start_for e f ≡ start e place k
unfolding start_for
start_at e f place k is digit = ap (start e (level e f)) digit ∙ ap (λ p. start e p k) is

module _ (e : ℕ) (filed : List (Option ℕ)) (moves homes : List ℕ) (ok : IsLawfulFiling e filed moves homes) where
  pub filed_home : (i f : ℕ) → filed_at filed i ≡ Some f → (i < length homes) × IsAt e f (get_or homes i 0) (get_or moves i 0)
  filed_home i f is =
      elim (nat_le_or_lt (length homes) i) [
        | inl past ↦ let none : filed_at filed i ≡ None = get_or_past filed i None (rw ok.filed_size past) in absurd (cc)
        | inr i_in ↦ (i_in, at_some e (filed_at filed i) _ _ f (ok.home i i_in) is)
      ]

  -- what is filed is in reach
  pub in_reach : (i f : ℕ) → filed_at filed i ≡ Some f → IsWithin e f
  in_reach i f is =
      let at = (filed_home i f is).1 in
      record { not_before = at.not_before; in_range = at.in_range; near = at.near }

  pub none_before : (i f : ℕ) → filed_at filed i ≡ Some f → e ≤ f
  none_before i f is = (filed_home i f is).1.not_before

  -- what stands on the due list is filed at the tick
  pub due_stands : (i : ℕ) → StandsIn homes (digit_of e 0) i → filed_at filed i ≡ Some e
  due_stands i stands = home_due e (filed_at filed i) _ _ (ok.home i stands.0) stands.1

  -- what is filed at the tick stands on the due list
  pub stands_due : (i : ℕ) → filed_at filed i ≡ Some e → (i < length homes) × (get_or homes i 0 ≡ digit_of e 0 + 1)
  stands_due i is =
      let home = filed_home i e is in
      let at : IsAt e e (get_or homes i 0) (get_or moves i 0) = home.1 in
      let due : list_number e e ≡ digit_of e 0 = number_same e e refl in
      (home.0, at.number ∙ ap (λ k. k + 1) due)

  -- nothing is due where no index stands on the due list
  pub none_due : IsListEmpty homes (digit_of e 0) → (i f : ℕ) → filed_at filed i ≡ Some f → e < f
  none_due empty i f is =
      let home = filed_home i f is in
      let at : IsAt e f (get_or homes i 0) (get_or moves i 0) = home.1 in
      let later : e ≤ f = at.not_before in
      elim (same_or_not e f) [
        | inl same ↦
            let number : get_or homes i 0 ≡ list_number e f + 1 = at.number in
            let due : list_number e f ≡ digit_of e 0 = number_same e f same in
            absurd (empty i home.0 (omega arith))
        | inr other ↦ omega arith
      ]

  -- or where no index is filed at the tick
  pub later_all : ((i : ℕ) → filed_at filed i ≢ Some e) → (i f : ℕ) → filed_at filed i ≡ Some f → e < f
  later_all none i f is =
      let home = filed_home i f is in
      let at : IsAt e f (get_or homes i 0) (get_or moves i 0) = home.1 in
      let later : e ≤ f = at.not_before in
      elim (same_or_not e f) [ inl same ↦ absurd (none i (is ∙ ap Some (sym same))) | inr other ↦ omega arith ]

  -- no list is filled
  pub none_filed : ((p : ℕ) → p < LISTS → IsListEmpty homes p) → (i f : ℕ) → filed_at filed i ≡ Some f → ⊥
  none_filed empty i f is =
      let home = filed_home i f is in
      let at : IsAt e f (get_or homes i 0) (get_or moves i 0) = home.1 in
      empty (list_number e f) (number_low e f) i home.0 at.number

  -- an index that is due is next
  pub due_wake : (i : ℕ) → filed_at filed i ≡ Some e → IsNextWake e filed e
  due_wake i is =
      record {
        some = (i, e, is, sym (wake_same e e refl));
        least = λ j g there.
            let at : IsAt e g (get_or homes j 0) (get_or moves j 0) = (filed_home j g there).1 in
            let later : e ≤ g = at.not_before in
            elim (same_or_not e g) [
              | inl same ↦ omega (arith, wake_same e g same)
              | inr other ↦ omega (arith, wake_other e g other, start_above e g (ahead e g _ _ at (omega arith)))
            ];
      }

  pub due_least : (i : ℕ) → filed_at filed i ≡ Some e → (j g : ℕ) → filed_at filed j ≡ Some g → e ≤ g
  due_least i is j g there = (filed_home j g there).1.not_before

  -- before all that wakes the lists stay
  pub lawful_stable : (n : ℕ) → e ≤ n → n < tick_limit → ((i f : ℕ) → filed_at filed i ≡ Some f → (e < f) × (n < start_for e f)) →
      IsLawfulFiling n filed moves homes
  lawful_stable n after in_range early =
      record {
        large = ok.large;
        small = ok.small;
        filed_size = ok.filed_size;
        moves_size = ok.moves_size;
        in_range = in_range;
        home = λ i i_in. home_stable e n (filed_at filed i) _ _ after (ok.home i i_in) (early i);
      }

  -- the first list that is filled
  module _ (list : ℕ) (list_in : list < LISTS) (filled : IsListFilled homes list)
      (first : (p : ℕ) → p < LISTS → IsListFilled homes p → IsEarlier (digit_of e 5) list p) (later : (i f : ℕ) → filed_at filed i ≡ Some f → e < f) where
    abbrev pub opens : ℕ
    opens = start e (list / 64) (list % 64)

    ahead_of : (i f : ℕ) → filed_at filed i ≡ Some f → IsAhead e f
    ahead_of i f is = ahead e f _ _ (filed_home i f is).1 (later i f is)

    number_of : (i f : ℕ) → filed_at filed i ≡ Some f → get_or homes i 0 ≡ list_number e f + 1
    number_of i f is = (filed_home i f is).1.number

    -- each that stands in it has its start
    pub start_here : (i f : ℕ) → filed_at filed i ≡ Some f → get_or homes i 0 ≡ list + 1 → start_for e f ≡ opens
    unfolding start_for
    start_here i f is stands =
        let after : e < f = later i f is in
        let here : list_number e f ≡ list = omega (arith, number_of i f is) in
        rw (list_level e f list here, list_digit e f list here) refl

    pub first_filed : (g : ℕ) × (filed_at filed filled.0 ≡ Some g) × IsAt e g (get_or homes filled.0 0) (get_or moves filled.0 0)
    first_filed = some_at e (filed_at filed filled.0) _ _ (ok.home filled.0 filled.1.0) (omega (arith, filled.1.1))

    -- what stands in the first list comes before the start of all that stands elsewhere
    pub first_before : (i f : ℕ) → filed_at filed i ≡ Some f → get_or homes i 0 ≡ list + 1 →
        (j g : ℕ) → filed_at filed j ≡ Some g → get_or homes j 0 ≢ list + 1 → f < start_for e g
    first_before i f is stands j g there elsewhere =
        let after : e < g = later j g there in
        let home = filed_home j g there in
        earlier_first e f g list (list_number e g) (ahead_of i f is) (ahead_of j g there) (omega (arith, number_of i f is)) refl
        (λ s. elsewhere (omega (arith, number_of j g there)))
        (first (list_number e g) (number_low e g) (j, (home.0, number_of j g there)))

    -- the others start later
    pub start_later : (j g : ℕ) → filed_at filed j ≡ Some g → get_or homes j 0 ≢ list + 1 → opens < start_for e g
    start_later j g there elsewhere =
        let f = first_filed in
        let here : start_for e f.0 ≡ opens = start_here filled.0 f.0 f.1 filled.1.1 in
        let le : start_for e f.0 ≤ f.0 = start_le e f.0 (ahead_of filled.0 f.0 f.1) in
        let before : f.0 < start_for e g = first_before filled.0 f.0 f.1 filled.1.1 j g there elsewhere in
        omega arith

    starts_from : (i f : ℕ) → filed_at filed i ≡ Some f → opens ≤ start_for e f
    starts_from i f is =
        elim (same_or_not (get_or homes i 0) (list + 1)) [
          | inl stands ↦ omega (arith, start_here i f is stands)
          | inr elsewhere ↦ omega (arith, start_later i f is elsewhere)
        ]

    pub opens_after : e < opens
    opens_after =
        let f = first_filed in
        let here : start_for e f.0 ≡ opens = start_here filled.0 f.0 f.1 filled.1.1 in
        let above : e < start_for e f.0 = start_above e f.0 (ahead_of filled.0 f.0 f.1) in
        omega arith

    pub opens_in_range : opens < tick_limit
    opens_in_range =
        let f = first_filed in
        let here : start_for e f.0 ≡ opens = start_here filled.0 f.0 f.1 filled.1.1 in
        let le : start_for e f.0 ≤ f.0 = start_le e f.0 (ahead_of filled.0 f.0 f.1) in
        let top : f.0 < tick_limit = f.2.in_range in
        omega arith

    wake_is : (i f : ℕ) → filed_at filed i ≡ Some f → wake_for e f ≡ start_for e f
    wake_is i f is = let after : e < f = later i f is in wake_other e f (λ s. omega arith)

    -- so its start is the next wake
    pub next_wake : IsNextWake e filed opens
    next_wake =
        let f = first_filed in
        record {
          some = (filled.0, f.0, f.1, sym (wake_is filled.0 f.0 f.1 ∙ start_here filled.0 f.0 f.1 filled.1.1));
          least = λ j g there. rw (wake_is j g there) (starts_from j g there);
        }

    -- before it all stay
    pub all_later : (n : ℕ) → n < opens → (i f : ℕ) → filed_at filed i ≡ Some f → (e < f) × (n < start_for e f)
    all_later n before i f is = (later i f is, let from : opens ≤ start_for e f = starts_from i f is in omega arith)

    -- the least that stands in it is the least of all
    pub least_all : (i : ℕ) → StandsIn homes list i → (f : ℕ) → filed_at filed i ≡ Some f →
        ((j g : ℕ) → StandsIn homes list j → filed_at filed j ≡ Some g → f ≤ g) → (j g : ℕ) → filed_at filed j ≡ Some g → f ≤ g
    least_all i stands f is least j g there =
        elim (same_or_not (get_or homes j 0) (list + 1)) [
          | inl same ↦ least j g ((filed_home j g there).0, same) there
          | inr elsewhere ↦
              let before : f < start_for e g = first_before i f is stands.1 j g there elsewhere in
              let le : start_for e g ≤ g = start_le e g (ahead_of j g there) in
              omega arith
        ]

  -- the same without a look at the due list: while an index is due, that is the first list
  module _ (list : ℕ) (list_in : list < LISTS) (filled : IsListFilled homes list)
      (first : (p : ℕ) → p < LISTS → IsListFilled homes p → IsEarlier (digit_of e 5) list p) where
    one_filed : (g : ℕ) × (filed_at filed filled.0 ≡ Some g) × IsAt e g (get_or homes filled.0 0) (get_or moves filled.0 0)
    one_filed = some_at e (filed_at filed filled.0) _ _ (ok.home filled.0 filled.1.0) (omega (arith, filled.1.1))

    number_there : list_number e one_filed.0 ≡ list
    number_there = omega (arith, one_filed.2.number, filled.1.1)

    none_at : e < one_filed.0 → (i : ℕ) → filed_at filed i ≢ Some e
    none_at later i is =
        let g : ℕ = one_filed.0 in
        let a : IsAhead e g = ahead e g _ _ one_filed.2 later in
        let order : IsEarlier (digit_of e 5) list (digit_of e 0) = first (digit_of e 0) (omega (arith, digit_below e 0)) (i, stands_due i is) in
        let low : list / 64 ≡ 0 = elim order [
          | inl lower ↦ absurd (omega (arith, lower, digit_below e 0))
          | inr same ↦ omega (arith, same.0, digit_below e 0)
        ] in
        let of_list : turn e (list / 64) (list % 64) ≡ list % 64 = turn_low e (list / 64) (list % 64) (λ top. omega (arith, low)) in
        let of_due : turn e (digit_of e 0 / 64) (digit_of e 0 % 64) ≡ digit_of e 0 % 64 =
        turn_low e (digit_of e 0 / 64) (digit_of e 0 % 64) (λ top. omega (arith, digit_below e 0)) in
        let not_after : list % 64 ≤ digit_of e 0 = elim order [
          | inl lower ↦ absurd (omega (arith, lower, digit_below e 0))
          | inr same ↦ omega (arith, same.1, of_list, of_due, digit_below e 0)
        ] in
        let flat : level e g ≡ 0 = sym (list_level e g list number_there) ∙ low in
        let digit : digit_of g (level e g) ≡ list % 64 = sym (list_digit e g list number_there) in
        let begins : start_for e g ≡ start e 0 (list % 64) = start_at e g 0 (list % 64) flat digit in
        omega (arith, start_above e g a, begins, start_low e (list % 64), not_after)

    pub first_wake : IsNextWake e filed (start e (list / 64) (list % 64))
    first_wake =
        elim (same_or_not e one_filed.0) [
          | inl same ↦
              let due : list ≡ digit_of e 0 = sym number_there ∙ number_same e one_filed.0 same in
              let begins : start e (list / 64) (list % 64) ≡ e = ap (λ p. start e (p / 64) (p % 64)) due ∙ start_due e in
              rw begins (due_wake filled.0 (one_filed.1 ∙ ap Some (sym same)))
          | inr other ↦
              let later : e < one_filed.0 = omega (arith, one_filed.2.not_before, other) in
              next_wake list list_in filled first (later_all (none_at later))
        ]

-- where nothing is due, what wakes next wakes after the tick
pub wakes_ahead : WakesAreAhead
wakes_ahead e filed w within none next =
    let i = next.some.0 in
    let f = next.some.1 in
    let is : filed_at filed i ≡ Some f = next.some.2 in
    let reach : IsWithin e f = within i f is in
    let not_due : e ≢ f = λ same. none i (is ∙ ap Some (sym same)) in
    let le : e ≤ f = reach.not_before in
    let above : e < start_for e f = start_above e f (record { later = omega arith; near = reach.near; in_range = reach.in_range }) in
    omega (arith, next.some.3, wake_other e f not_due)
