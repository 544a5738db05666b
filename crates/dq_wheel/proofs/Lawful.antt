-- What a wheel keeps of its rows, through a link and an unlink.

use Rattle.std.proofs.Common.{◌≡◌, ℕ, ◌+◌, ◌<◌, ◌≤◌, List, length, get_or, set, replicate, refl, sym, arith, ◌∙◌, ap, inl, inr, Option, None, Some, IfSome}
use Rattle.std.proofs.Math.ListN.{length-set}
use Rattle.std.proofs.lemmas.List.{get_or-set_same, get_or-set_other, map-set, length-map, length-replicate, get_or-replicate, get_or-map, ext_get_or}
use Rattle.dq_ticks.specs.Digits.{digit_of}
use Rattle.dq_ticks.specs.Units.{lap, tick_limit}
use Rattle.dq_ticks.proofs.Levels.{level_small}
use Rattle.dq_wheel.specs.State.{Filing, filed_at, linked, unlinked, fresh_filing}
use Rattle.dq_wheel.specs.Filed.{filed_by, filed_ticks}
use Rattle.dq_wheel.specs.Homes.{list_number, IsAt, IsHome, IsLawfulFiling}
use Rattle.dq_wheel.specs.Wakes.{IsWithin}
use Rattle.dq_wheel.proofs.Links.{same_or_not}
use Rattle.dq_wheel.proofs.Numbers.{number_apart}
use Rattle.dq_ticks.specs.declared.TheConstants.{CAPACITY_LIMIT}
use Rattle.dq_wheel.specs.declared.lists.TheConstants.{NOT_FILED}

abbrev pub filing_of : ℕ → List (Option ℕ) → List ℕ → ℕ → Filing
filing_of tick filed moves moved = record { tick = tick; filed = filed; moves = moves; moved = moved }

pub filed_some : (f : ℕ) → f < tick_limit → filed_by f ≡ Some f
filed_some f low = grind arith

-- one index is filed anew
pub lawful_set : (tick : ℕ) (filed : List (Option ℕ)) (moves homes : List ℕ) → IsLawfulFiling tick filed moves homes → (i : ℕ) → i < length homes →
    (o : Option ℕ) (h m : ℕ) → IsHome tick o h m → IsLawfulFiling tick (set filed i o) (set moves i m) (set homes i h)
lawful_set tick filed moves homes ok i i_in o h m is_home =
    record {
      large = simp length-set ok.large;
      small = simp length-set ok.small;
      filed_size = simp length-set ok.filed_size;
      moves_size = simp length-set ok.moves_size;
      in_range = ok.in_range;
      home = λ j j_in.
          let j_low : j < length homes = rw length-set at j_in in
          elim (same_or_not j i) [
            | inl e ↦
                rw (e, get_or-set_same filed i o None (rw ok.filed_size i_in), get_or-set_same homes i h 0 i_in, get_or-set_same moves i m 0 (rw ok.moves_size i_in)) is_home
            | inr d ↦
                rw (get_or-set_other filed i j o None d, get_or-set_other homes i j h 0 d, get_or-set_other moves i j m 0 d) (ok.home j j_low)
          ];
    }

-- what is filed in reach is at home in the list of its place
pub linked_home : (e f : ℕ) → e ≤ f → f < tick_limit → f < e + lap → IsHome e (Some f) (list_number e f + 1) 0
linked_home e f later in_range near =
    record { not_before = later; in_range = in_range; near = near; number = refl; few = omega (arith, level_small e f) }

-- what is filed is in reach
pub within_home : (e : ℕ) (o : Option ℕ) (h m : ℕ) → IsHome e o h m → IfSome o (λ f. IsWithin e f)
within_home e None h m home = tt
within_home e (Some f) h m home = record { not_before = home.not_before; in_range = home.in_range; near = home.near }

-- what stands on the due list is filed at the tick
pub at_due : (e f h m : ℕ) → IsAt e f h m → list_number e f ≡ digit_of e 0 → e ≡ f
at_due e f h m at is =
    elim (same_or_not e f) [
      | inl same ↦ same
      | inr other ↦
          let later : e ≤ f = at.not_before in
          absurd (number_apart e f (record { later = omega arith; near = at.near; in_range = at.in_range }) is)
    ]

pub home_due : (e : ℕ) (o : Option ℕ) (h m : ℕ) → IsHome e o h m → h ≡ digit_of e 0 + 1 → o ≡ Some e
home_due e None h m home there = let zero_home : h ≡ 0 = home.0 in absurd (omega arith)
home_due e (Some f) h m home there =
    let at : IsAt e f h m = home in
    ap Some (sym (at_due e f h m at (omega (arith, at.number))))

-- a wheel's rows, and what callers see of them
module _ (tick moved : ℕ) (numbers moves homes : List ℕ) (now : Filing) (ok : IsLawfulFiling tick (filed_ticks numbers) moves homes)
    (now_is : filing_of tick (filed_ticks numbers) moves moved ≡ now) where
  tick_is : tick ≡ now.tick
  tick_is = ap (λ w. w.tick) now_is

  filed_is : filed_ticks numbers ≡ now.filed
  filed_is = ap (λ w. w.filed) now_is

  moves_is : moves ≡ now.moves
  moves_is = ap (λ w. w.moves) now_is

  pub seen_in : (i : ℕ) → i < length now.filed → i < length homes
  seen_in i i_in = rw (← ok.filed_size, filed_is) i_in

  pub seen_moved : (i : ℕ) → i < length now.filed → i < length now.moves
  seen_moved i i_in = rw (← moves_is, ok.moves_size) (seen_in i i_in)

  pub lawful_linked : (i f : ℕ) → i < length now.filed → now.tick ≤ f → f < tick_limit → f < now.tick + lap →
      IsLawfulFiling tick (filed_ticks (set numbers i f)) (set moves i 0) (set homes i (list_number tick f + 1))
  lawful_linked i f i_in later in_range near =
      rw (map-set filed_by numbers i f, filed_some f in_range)
      (lawful_set tick (filed_ticks numbers) moves homes ok i (seen_in i i_in) (Some f) _ 0
      (linked_home tick f (rw tick_is later) in_range (rw tick_is near)))

  pub lawful_unlinked : (i : ℕ) → i < length homes →
      IsLawfulFiling tick (filed_ticks (set numbers i NOT_FILED)) (set moves i 0) (set homes i 0)
  lawful_unlinked i i_in =
      rw (map-set filed_by numbers i NOT_FILED)
      (lawful_set tick (filed_ticks numbers) moves homes ok i i_in None 0 0 (refl, refl))

  -- what stands on the due list is filed at the tick
  pub seen_due : (i : ℕ) → i < length homes → get_or homes i 0 ≡ digit_of tick 0 + 1 → (i < length now.filed) × (filed_at now.filed i ≡ Some now.tick)
  seen_due i i_in h = (
    rw (← filed_is, ok.filed_size) i_in,
    rw (← filed_is, ← tick_is) (home_due tick (filed_at (filed_ticks numbers) i) (get_or homes i 0) (get_or moves i 0) (ok.home i i_in) h),
  )

  pub seen_within : (i : ℕ) → i < length now.filed → IfSome (filed_at now.filed i) (λ f. IsWithin now.tick f)
  seen_within i i_in =
      rw (← filed_is, ← tick_is) (within_home tick (filed_at (filed_ticks numbers) i) _ _ (ok.home i (seen_in i i_in)))

-- the same as callers see it
pub seen_linked : (tick moved : ℕ) (numbers moves : List ℕ) (now : Filing) → filing_of tick (filed_ticks numbers) moves moved ≡ now → (i f : ℕ) → f < tick_limit →
    filing_of tick (filed_ticks (set numbers i f)) (set moves i 0) moved ≡ linked now i f
seen_linked tick moved numbers moves now now_is i f in_range =
    rw (← now_is) (ap (λ d. filing_of tick d (set moves i 0) moved) (map-set filed_by numbers i f ∙ ap (set (filed_ticks numbers) i) (filed_some f in_range)))

pub seen_unlinked : (tick moved : ℕ) (numbers moves : List ℕ) (now : Filing) → filing_of tick (filed_ticks numbers) moves moved ≡ now → (i : ℕ) →
    filing_of tick (filed_ticks (set numbers i NOT_FILED)) (set moves i 0) moved ≡ unlinked now i
seen_unlinked tick moved numbers moves now now_is i =
    rw (← now_is) (ap (λ d. filing_of tick d (set moves i 0) moved) (map-set filed_by numbers i NOT_FILED))

-- a wheel that was just made
loose_rows : (n : ℕ) → filed_ticks (replicate n NOT_FILED) ≡ replicate n None
loose_rows n =
    let size : length (filed_ticks (replicate n NOT_FILED)) ≡ n =
    length-map (replicate n NOT_FILED) filed_by ∙ length-replicate {A = ℕ} n NOT_FILED in
    ext_get_or None (filed_ticks (replicate n NOT_FILED)) (replicate n None) (size ∙ sym (length-replicate n None)) (λ i i_in.
    let i_low : i < n = rw size at i_in in
    get_or-map filed_by (replicate n NOT_FILED) i 0 None (rw (length-replicate {A = ℕ} n NOT_FILED) i_low)
    ∙ (ap filed_by (get_or-replicate {A = ℕ} n i NOT_FILED 0 i_low) ∙ sym (get_or-replicate {A = Option ℕ} n i None None i_low)))

pub lawful_fresh : (n : ℕ) (numbers moves homes : List ℕ) → 0 < n → n ≤ CAPACITY_LIMIT → numbers ≡ replicate n NOT_FILED → moves ≡ replicate n 0 →
    homes ≡ replicate n 0 → IsLawfulFiling 0 (filed_ticks numbers) moves homes
lawful_fresh n numbers moves homes large small numbers_is moves_is homes_is =
    let size : length homes ≡ n = rw homes_is (length-replicate n 0) in
    rw (numbers_is, loose_rows n) (record {
      large = rw size large;
      small = rw size small;
      filed_size = length-replicate n None ∙ sym size;
      moves_size = rw moves_is (length-replicate n 0) ∙ sym size;
      in_range = omega arith;
      home = λ i i_in.
          let i_low : i < n = rw size at i_in in
          rw (get_or-replicate {A = Option ℕ} n i None None i_low) (rw homes_is (get_or-replicate {A = ℕ} n i 0 0 i_low), rw moves_is (get_or-replicate {A = ℕ} n i 0 0 i_low));
    })

pub seen_fresh : (n : ℕ) (numbers moves : List ℕ) → numbers ≡ replicate n NOT_FILED → moves ≡ replicate n 0 →
    filing_of 0 (filed_ticks numbers) moves 0 ≡ fresh_filing n
seen_fresh n numbers moves numbers_is moves_is =
    rw (numbers_is, moves_is) (ap (λ d. filing_of 0 d (replicate n 0) 0) (loose_rows n))
