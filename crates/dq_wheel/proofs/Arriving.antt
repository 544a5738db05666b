-- The wheel's arrival at the start of a slot, where each index of the slot is filed at that tick.

use Rattle.std.proofs.Common.{◌≡◌, ◌≢◌, ℕ, suc, ◌+◌, ◌-◌, ◌*◌, ◌/◌, ◌%◌, ◌^◌, ◌<◌, ◌≤◌, List, length, get_or, map, refl, sym, arith, ◌∙◌, ap, inl, inr, Option, None, Some, MatchOption}
use Rattle.std.proofs.lemmas.List.{length-map, get_or-map, ext_get_or, get_or_past}
use Rattle.std.proofs.Math.Nat.{pow-suc, mul_assoc, mul-div_cancel}
use Rattle.dq_ticks.specs.Digits.{digit_of, level, start, start_for, IsAhead}
use Rattle.dq_ticks.specs.Units.{lap, tick_limit}
use Rattle.dq_ticks.proofs.Laws.{at_level, digit_below, start_floor, start_le}
use Rattle.dq_ticks.proofs.Levels.{IsLevel, above_suc, above_zero, digits_make, level_same, power_pos}
use Rattle.dq_wheel.specs.State.{Filing, filed_at, NoneFiledAt, NoneFiledBefore}
use Rattle.dq_wheel.specs.Arrivals.{arrives, arrived, ArrivesAtWake, AreFiledByThen}
use Rattle.dq_wheel.specs.Wakes.{IsWithin}
use Rattle.dq_wheel.specs.Filed.{filed_by, filed_ticks}
use Rattle.dq_wheel.specs.Seen.{home_seen, number_seen, numbers_seen, IsUnnamed}
use Rattle.dq_wheel.specs.Lists.{IsListEmpty, IsListFilled}
use Rattle.dq_wheel.specs.Maps.{IsEarlier, IsFirstFilled}
use Rattle.dq_wheel.specs.Homes.{list_number, IsAt, IsHome, IsLawfulFiling}
use Rattle.dq_wheel.specs.declared.TheConstants.{LISTS}
use Rattle.dq_wheel.proofs.Links.{same_or_not, nat_le_or_lt}
use Rattle.dq_wheel.proofs.Numbers.{number_same}
use Rattle.dq_wheel.proofs.Lawful.{filing_of, filed_some}
use Rattle.dq_wheel.proofs.Wakes.{ahead, filed_home, home_stable, next_wake, none_before, opens_in_range, some_at}
use Rattle.dq_wheel.proofs.Seen.{home_there, home_elsewhere, number_there, number_elsewhere, numbers_at, numbers_length}
use Rattle.dq_wheel.proofs.Passing.{after, due_here, opens_at, seen_later, standing, stays}

-- an open list that no place names is not the one in which an index is put
pub unnamed_shut : (e : ℕ) (o : Option ℕ) (f list : ℕ) → IsUnnamed e o → IsWithin e f → list ≡ list_number e f → o ≢ Some list
unnamed_shut e None f list unnamed within is same = absurd (cc)
unnamed_shut e (Some p) f list unnamed within is same = let p_is : p ≡ list = cc in unnamed f within (sym is ∙ sym p_is)

-- nothing that is filed later stands in list 0
low_zero : (e f : ℕ) → IsLevel e f 0 → digit_of f 0 ≡ 0 → f ≤ e
low_zero e f at none =
    let high : e / 64 ≡ f / 64 =
    ap (λ t. t / 64) (sym (above_zero e)) ∙ (sym (above_suc e 0) ∙ (at.agrees (omega arith) ∙ (above_suc f 0 ∙ ap (λ t. t / 64) (above_zero f)))) in
    let low : f % 64 ≡ 0 = ap (λ t. t % 64) (sym (above_zero f)) ∙ none in
    omega arith

pub number_zero : (e f : ℕ) → IsAhead e f → list_number e f ≢ 0
number_zero e f a none =
    let flat : level e f ≡ 0 = omega arith in
    let digit : digit_of f (level e f) ≡ 0 = omega arith in
    let le : f ≤ e = low_zero e f (rw flat at (at_level e f a)) (rw flat at digit) in
    omega (arith, a.later)

pub free_list : (e : ℕ) (filed : List (Option ℕ)) (moves homes : List ℕ) → IsLawfulFiling e filed moves homes →
    ((i f : ℕ) → filed_at filed i ≡ Some f → e < f) → IsListEmpty homes 0
free_list e filed moves homes ok later i i_in there =
    let at = some_at e (filed_at filed i) _ _ (ok.home i i_in) (omega arith) in
    let is : IsAt e at.0 (get_or homes i 0) (get_or moves i 0) = at.2 in
    number_zero e at.0 (ahead e at.0 _ _ is (later i at.0 at.1)) (omega (arith, is.number))

-- the start of a slot above level 0
times_64 : (s m : ℕ) → s ≡ m * 64 → s % 64 ≡ 0
times_64 s m is = omega arith

top_meets : (s q f : ℕ) → s ≡ q * 1073741824 → s ≤ f → f < s + lap → f / 1073741824 % 64 ≡ q % 64 → q ≡ f / 1073741824
top_meets s q f is le near same = omega arith

module _ (e g : ℕ) (a : IsAhead e g) (high : 64 ≤ list_number e g) where
  abbrev s : ℕ
  s = start_for e g

  above : 0 < level e g
  above = omega (arith, digit_below g (level e g))

  starts : s ≡ g / 64 ^ level e g * 64 ^ level e g
  starts = start_floor e g a

  quotient : s / 64 ^ level e g ≡ g / 64 ^ level e g
  quotient = ap (λ t. t / 64 ^ level e g) starts ∙ mul-div_cancel (g / 64 ^ level e g) (power_pos (level e g))

  pub first_due : digit_of s 0 ≡ 0
  first_due =
      let unit : 64 ^ level e g ≡ 64 ^ (level e g - 1) * 64 =
      ap (λ n. 64 ^ n) (omega (arith, above)) ∙ pow-suc 64 (level e g - 1) in
      let whole : s ≡ g / 64 ^ level e g * 64 ^ (level e g - 1) * 64 =
      starts ∙ (ap (λ x. g / 64 ^ level e g * x) unit ∙ sym (mul_assoc (g / 64 ^ level e g) (64 ^ (level e g - 1)) 64)) in
      ap (λ t. t % 64) (above_zero s) ∙ times_64 s (g / 64 ^ level e g * 64 ^ (level e g - 1)) whole

  module _ (f : ℕ) (at : IsLevel s f (level e g)) (digit : digit_of f (level e g) ≡ digit_of g (level e g)) (le : s ≤ f) (near : f < s + lap) where
    meets : g / 64 ^ level e g ≡ f / 64 ^ level e g
    meets =
        elim (nat_le_or_lt 5 (level e g)) [
          | inl top ↦
              let is : level e g ≡ 5 = omega (arith, at.small) in
              rw is (top_meets s (g / 64 ^ 5) f (rw is at starts) le near (rw is at digit))
          | inr low ↦
              let agrees : s / 64 ^ suc (level e g) ≡ f / 64 ^ suc (level e g) = at.agrees low in
              digits_make (g / 64 ^ level e g) (f / 64 ^ level e g)
              (ap (λ t. t / 64) (sym quotient) ∙ (sym (above_suc s (level e g)) ∙ (agrees ∙ above_suc f (level e g))))
              (sym digit)
        ]

    never : ⊥
    never = at.differs (quotient ∙ meets)

  -- no place there names its list
  pub unnamed : (f : ℕ) → IsWithin s f → list_number s f ≢ list_number e g
  unnamed f w same =
      elim (same_or_not s f) [
        | inl due ↦
            let number : list_number s f ≡ digit_of s 0 = number_same s f due in
            omega (arith, digit_below s 0)
        | inr other ↦
            let le : s ≤ f = w.not_before in
            let levels : level s f ≡ level e g = omega (arith, digit_below f (level s f), digit_below g (level e g)) in
            let digits : digit_of f (level s f) ≡ digit_of g (level e g) = omega arith in
            never f
            (rw levels at (at_level s f (record { later = omega arith; near = w.near; in_range = w.in_range })))
            (rw levels at digits) le w.near
      ]

arrives_there : (e n f : ℕ) → start_for e f ≡ n → arrives e n (Some f) ≡ Some n
arrives_there e n f is = grind arith

arrives_elsewhere : (e n f : ℕ) → start_for e f ≢ n → arrives e n (Some f) ≡ Some f
arrives_elsewhere e n f other = grind arith

arrives_still : (e n : ℕ) (o : Option ℕ) → ((f : ℕ) → o ≡ Some f → start_for e f ≢ n) → arrives e n o ≡ o
arrives_still e n None other = refl
arrives_still e n (Some f) other = arrives_elsewhere e n f (other f refl)

-- what arrives is filed by the tick at which it was
by_then_at : (e n : ℕ) (o : Option ℕ) → ((f : ℕ) → o ≡ Some f → start_for e f ≤ f) → (p : Option ℕ) → p ≡ arrives e n o →
    MatchOption o (p ≡ None) (λ f. (g : ℕ) × (p ≡ Some g) × (g ≤ f))
by_then_at e n None early p is = is
by_then_at e n (Some f) early p is =
    elim (same_or_not (start_for e f) n) [
      | inl there ↦ (n, is ∙ arrives_there e n f there, rw (← there) (early f refl))
      | inr other ↦ (f, is ∙ arrives_elsewhere e n f other, omega arith)
    ]

pub by_then : (e n : ℕ) (filed : List (Option ℕ)) → ((i f : ℕ) → filed_at filed i ≡ Some f → start_for e f ≤ f) →
    AreFiledByThen filed (map (arrives e n) filed)
by_then e n filed early i =
    elim (nat_le_or_lt (length filed) i) [
      | inl past ↦
          let none : filed_at filed i ≡ None = get_or_past filed i None past in
          let none_too : filed_at (map (arrives e n) filed) i ≡ None = get_or_past (map (arrives e n) filed) i None (rw (length-map filed (arrives e n)) past) in
          rw none none_too
      | inr i_in ↦ by_then_at e n (filed_at filed i) (early i) _ (get_or-map (arrives e n) filed i None None i_in)
    ]

still_at : (o : Option ℕ) → MatchOption o (o ≡ None) (λ f. (g : ℕ) × (o ≡ Some g) × (g ≤ f))
still_at None = refl
still_at (Some f) = (f, refl, omega arith)

-- the wheel comes to the start of the first list
module _ (e : ℕ) (numbers moves homes : List ℕ) (ok : IsLawfulFiling e (filed_ticks numbers) moves homes) (list : ℕ) (list_in : list < LISTS)
    (filled : IsListFilled homes list) (first : (p : ℕ) → p < LISTS → IsListFilled homes p → IsEarlier (digit_of e 5) list p)
    (later : (i f : ℕ) → filed_at (filed_ticks numbers) i ≡ Some f → e < f) where
  abbrev begin : ℕ
  begin = start e (list / 64) (list % 64)

  abbrev numbers2 : List ℕ
  numbers2 = numbers_seen (Some list) begin homes numbers

  abbrev homes2 : List ℕ
  homes2 = map (home_seen (Some list)) homes

  size : length numbers ≡ length homes
  size = sym (length-map numbers filed_by) ∙ ok.filed_size

  size2 : length numbers2 ≡ length homes
  size2 = numbers_length (Some list) begin homes numbers size

  begin_in : begin < tick_limit
  begin_in = opens_in_range e (filed_ticks numbers) moves homes ok list list_in filled first later

  earliest : (g : ℕ) × (filed_at (filed_ticks numbers) filled.0 ≡ Some g) × IsAt e g (get_or homes filled.0 0) (get_or moves filled.0 0)
  earliest = some_at e (filed_at (filed_ticks numbers) filled.0) _ _ (ok.home filled.0 filled.1.0) (omega (arith, filled.1.1))

  earliest_ahead : IsAhead e earliest.0
  earliest_ahead = ahead e earliest.0 _ _ earliest.2 (later filled.0 earliest.0 earliest.1)

  earliest_list : list_number e earliest.0 ≡ list
  earliest_list = let at : IsAt e earliest.0 (get_or homes filled.0 0) (get_or moves filled.0 0) = earliest.2 in omega (arith, at.number, filled.1.1)

  earliest_start : start_for e earliest.0 ≡ begin
  earliest_start = opens_at e numbers moves homes ok list list_in filled first later filled.0 earliest.0 earliest.1 filled.1.1

  begin_digit : 64 ≤ list → digit_of begin 0 ≡ 0
  begin_digit high = rw (← earliest_start) (first_due e earliest.0 earliest_ahead (rw earliest_list high))

  pub begin_unnamed : 64 ≤ list → IsUnnamed begin (Some list)
  begin_unnamed high f w same =
      unnamed e earliest.0 earliest_ahead (rw earliest_list high) f (rw earliest_start w)
      (ap (λ t. list_number t f) earliest_start ∙ (same ∙ sym earliest_list))

  filed2_at : (i : ℕ) → i < length homes →
      filed_at (filed_ticks numbers2) i ≡ filed_by (number_seen (Some list) begin (get_or homes i 0) (get_or numbers i 0))
  filed2_at i i_in =
      get_or-map filed_by numbers2 i 0 None (rw size2 i_in) ∙ ap filed_by (numbers_at (Some list) begin homes numbers size i i_in)

  filed_there : (i : ℕ) → i < length homes → get_or homes i 0 ≡ list + 1 → filed_at (filed_ticks numbers2) i ≡ Some begin
  filed_there i i_in stands =
      filed2_at i i_in ∙ (ap filed_by (number_there list begin (get_or homes i 0) (get_or numbers i 0) stands) ∙ filed_some begin begin_in)

  filed_elsewhere : (i : ℕ) → i < length homes → get_or homes i 0 ≢ list + 1 → filed_at (filed_ticks numbers2) i ≡ filed_at (filed_ticks numbers) i
  filed_elsewhere i i_in other =
      filed2_at i i_in
      ∙ (ap filed_by (number_elsewhere list begin (get_or homes i 0) (get_or numbers i 0) other)
      ∙ sym (get_or-map filed_by numbers i 0 None (rw size i_in)))

  home2_at : (i : ℕ) → i < length homes → get_or homes2 i 0 ≡ home_seen (Some list) (get_or homes i 0)
  home2_at i i_in = get_or-map (home_seen (Some list)) homes i 0 0 i_in

  -- an index of the slot is due
  due_now : (f h m : ℕ) → 64 ≤ list → IsAt e f h m → IsAt begin begin 1 m
  due_now f h m high at =
      let few : m + level e f ≤ 5 = at.few in
      let flat : level begin begin ≡ 0 = level_same begin in
      record {
        not_before = omega arith;
        in_range = begin_in;
        near = omega arith;
        number = omega (arith, number_same begin begin refl, begin_digit high);
        few = omega arith;
      }

  home_hung : 64 ≤ list → (i : ℕ) → i < length homes → IsHome begin (filed_at (filed_ticks numbers2) i) (get_or homes2 i 0) (get_or moves i 0)
  home_hung high i i_in =
      elim (same_or_not (get_or homes i 0) (list + 1)) [
        | inl stands ↦
            let s = standing e numbers moves homes ok list list_in filled first later i i_in stands in
            rw (filed_there i i_in stands, home2_at i i_in ∙ home_there list (get_or homes i 0) stands)
            (due_now s.0 (get_or homes i 0) (get_or moves i 0) high s.2)
        | inr elsewhere ↦
            rw (filed_elsewhere i i_in elsewhere, home2_at i i_in ∙ home_elsewhere list (get_or homes i 0) elsewhere)
            (home_stable e begin (filed_at (filed_ticks numbers) i) (get_or homes i 0) (get_or moves i 0)
            (after e numbers moves homes ok list list_in filled first later) (ok.home i i_in)
            (λ f. stays e numbers moves homes ok list list_in filled first later i f elsewhere))
      ]

  pub lawful_hung : 64 ≤ list → IsLawfulFiling begin (filed_ticks numbers2) moves homes2
  lawful_hung high =
      let long : length homes2 ≡ length homes = length-map homes (home_seen (Some list)) in
      record {
        large = rw long ok.large;
        small = rw long ok.small;
        filed_size = length-map numbers2 filed_by ∙ (size2 ∙ sym long);
        moves_size = ok.moves_size ∙ sym long;
        in_range = begin_in;
        home = λ i i_in. home_hung high i (rw long at i_in);
      }

  still_elsewhere : (i : ℕ) → get_or homes i 0 ≢ list + 1 → arrives e begin (filed_at (filed_ticks numbers) i) ≡ filed_at (filed_ticks numbers) i
  still_elsewhere i elsewhere =
      arrives_still e begin (filed_at (filed_ticks numbers) i) (λ f is same.
      let s = stays e numbers moves homes ok list list_in filled first later i f elsewhere is in
      let past : begin < start_for e f = s.1 in
      omega arith)

  arrives_at : (i : ℕ) → i < length homes → arrives e begin (filed_at (filed_ticks numbers) i) ≡ filed_at (filed_ticks numbers2) i
  arrives_at i i_in =
      elim (same_or_not (get_or homes i 0) (list + 1)) [
        | inl stands ↦
            let s = standing e numbers moves homes ok list list_in filled first later i i_in stands in
            ap (arrives e begin) s.1
            ∙ (arrives_there e begin s.0 (opens_at e numbers moves homes ok list list_in filled first later i s.0 s.1 stands)
            ∙ sym (filed_there i i_in stands))
        | inr elsewhere ↦ still_elsewhere i elsewhere ∙ sym (filed_elsewhere i i_in elsewhere)
      ]

  pub row_hung : filed_ticks numbers2 ≡ map (arrives e begin) (filed_ticks numbers)
  row_hung =
      let long : length (filed_ticks numbers2) ≡ length homes = length-map numbers2 filed_by ∙ size2 in
      ext_get_or None (filed_ticks numbers2) (map (arrives e begin) (filed_ticks numbers))
      (long ∙ (sym ok.filed_size ∙ sym (length-map (filed_ticks numbers) (arrives e begin))))
      (λ i i_in.
      let i_home : i < length homes = rw long at i_in in
      sym (get_or-map (arrives e begin) (filed_ticks numbers) i None None (rw ok.filed_size i_home) ∙ arrives_at i i_home))

  -- at level 0 all of the slot is filed there already
  low_at : list < 64 → (i : ℕ) → i < length homes → arrives e begin (filed_at (filed_ticks numbers) i) ≡ filed_at (filed_ticks numbers) i
  low_at low i i_in =
      elim (same_or_not (get_or homes i 0) (list + 1)) [
        | inl stands ↦
            let s = standing e numbers moves homes ok list list_in filled first later i i_in stands in
            let here : start_for e s.0 ≡ begin = opens_at e numbers moves homes ok list list_in filled first later i s.0 s.1 stands in
            ap (arrives e begin) s.1
            ∙ (arrives_there e begin s.0 here
            ∙ (ap Some (due_here e begin s.0 (get_or homes i 0) (get_or moves i 0) list s.2 (later i s.0 s.1) here stands low) ∙ sym s.1))
        | inr elsewhere ↦ still_elsewhere i elsewhere
      ]

  pub row_low : list < 64 → filed_ticks numbers ≡ map (arrives e begin) (filed_ticks numbers)
  row_low low =
      ext_get_or None (filed_ticks numbers) (map (arrives e begin) (filed_ticks numbers)) (sym (length-map (filed_ticks numbers) (arrives e begin)))
      (λ i i_in.
      sym (get_or-map (arrives e begin) (filed_ticks numbers) i None None i_in ∙ low_at low i (rw ok.filed_size at i_in)))

  pub seen_arrived : (numbers3 : List ℕ) → filed_ticks numbers3 ≡ map (arrives e begin) (filed_ticks numbers) → (moved : ℕ) (now : Filing) →
      filing_of e (filed_ticks numbers) moves moved ≡ now → filing_of begin (filed_ticks numbers3) moves moved ≡ arrived now begin
  seen_arrived numbers3 row moved now now_is = rw (← now_is, row) refl

  pub starts_early : (i f : ℕ) → filed_at (filed_ticks numbers) i ≡ Some f → start_for e f ≤ f
  starts_early i f is =
      start_le e f (ahead e f _ _ (filed_home e (filed_ticks numbers) moves homes ok i f is).1 (later i f is))

-- the same from what callers see. Nothing is due.
module _ (e : ℕ) (numbers moves homes : List ℕ) (ok : IsLawfulFiling e (filed_ticks numbers) moves homes) (moved : ℕ) (now : Filing)
    (now_is : filing_of e (filed_ticks numbers) moves moved ≡ now) (none_due : NoneFiledAt now.filed now.tick) where
  none_yet : (i f : ℕ) → filed_at (filed_ticks numbers) i ≡ Some f → e < f
  none_yet = seen_later e numbers moves homes ok moved now now_is none_due

  pub no_due_list : IsListEmpty homes 0
  no_due_list = free_list e (filed_ticks numbers) moves homes ok none_yet

  module _ (own list at : ℕ) (own_is : own ≡ digit_of e 5) (first : IsFirstFilled own homes list)
      (at_is : at ≡ start e (list / 64) (list % 64)) where
    found : IsFirstFilled (digit_of e 5) homes list
    found = rw (← own_is) first

    abbrev numbers_at_it : List ℕ
    numbers_at_it = numbers_seen (Some list) at homes numbers

    pub lawful_arrival : 64 ≤ list → IsLawfulFiling at (filed_ticks numbers_at_it) moves (map (home_seen (Some list)) homes)
    lawful_arrival high = rw at_is (lawful_hung e numbers moves homes ok list found.0 found.1 found.2 none_yet high)

    pub unnamed_arrival : 64 ≤ list → IsUnnamed at (Some list)
    unnamed_arrival high = rw at_is (begin_unnamed e numbers moves homes ok list found.0 found.1 found.2 none_yet high)

    row_is : filed_ticks numbers_at_it ≡ map (arrives e at) (filed_ticks numbers)
    row_is = rw at_is (row_hung e numbers moves homes ok list found.0 found.1 found.2 none_yet)

    low_row_is : list < 64 → filed_ticks numbers ≡ map (arrives e at) (filed_ticks numbers)
    low_row_is low = rw at_is (row_low e numbers moves homes ok list found.0 found.1 found.2 none_yet low)

    arrives_by : (numbers3 : List ℕ) → filed_ticks numbers3 ≡ map (arrives e at) (filed_ticks numbers) → (limit : ℕ) → at ≤ limit →
        ArrivesAtWake now limit (filing_of at (filed_ticks numbers3) moves moved)
    arrives_by numbers3 row limit reached = (
      at,
      rw (← ap (λ w. w.tick) now_is, ← ap (λ w. w.filed) now_is, at_is)
          (next_wake e (filed_ticks numbers) moves homes ok list found.0 found.1 found.2 none_yet),
      reached,
      rw at_is (seen_arrived e numbers moves homes ok list found.0 found.1 found.2 none_yet numbers3 (rw at_is at row) moved now now_is),
    )

    pub hang_arrives : (limit : ℕ) → at ≤ limit → ArrivesAtWake now limit (filing_of at (filed_ticks numbers_at_it) moves moved)
    hang_arrives = arrives_by numbers_at_it row_is

    pub low_arrives : list < 64 → (limit : ℕ) → at ≤ limit → ArrivesAtWake now limit (filing_of at (filed_ticks numbers) moves moved)
    low_arrives low = arrives_by numbers (low_row_is low)

    pub none_before_arrival : 64 ≤ list → NoneFiledBefore (filed_ticks numbers_at_it) at
    none_before_arrival high = none_before at (filed_ticks numbers_at_it) moves (map (home_seen (Some list)) homes) (lawful_arrival high)

    pub comes_earlier : AreFiledByThen now.filed (filed_ticks numbers_at_it)
    comes_earlier =
        rw (← ap (λ w. w.filed) now_is, row_is)
        (by_then e at (filed_ticks numbers) (starts_early e numbers moves homes ok list found.0 found.1 found.2 none_yet))
