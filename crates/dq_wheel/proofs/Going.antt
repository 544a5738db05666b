-- The ways on which the wheel goes to another tick, from what callers see. Nothing is due.

use Rattle.std.proofs.Common.{◌≡◌, ℕ, ◌+◌, ◌/◌, ◌%◌, ◌<◌, ◌≤◌, List, get_or, min, arith, ap, refl, inl, inr, Some}
use Rattle.dq_ticks.specs.Digits.{digit_of, start, start_for}
use Rattle.dq_ticks.specs.declared.TheConstants.{LAST_TICK}
use Rattle.dq_wheel.specs.State.{Filing, filed_at, NoneFiledAt, NoneFiledBefore}
use Rattle.dq_wheel.specs.Moves.{ReachesLimit, ReachesWake}
use Rattle.dq_wheel.specs.Filed.{filed_ticks}
use Rattle.dq_wheel.specs.Lists.{StandsIn, IsListEmpty}
use Rattle.dq_wheel.specs.Maps.{IsFirstFilled}
use Rattle.dq_wheel.specs.Wakes.{StopsLater}
use Rattle.dq_wheel.specs.Homes.{CanGo, IsLawfulFiling, IsOpened}
use Rattle.dq_wheel.specs.declared.TheConstants.{LISTS}
use Rattle.dq_wheel.proofs.Lawful.{filing_of}
use Rattle.dq_wheel.proofs.Wakes.{all_later, none_before, none_filed, opens_after}
use Rattle.dq_wheel.proofs.Passing.{seen_later, seen_passed, seen_opening, seen_arrival, still_lawful, can_go, lawful_opened, opened_low}

module _ (e : ℕ) (numbers moves homes : List ℕ) (ok : IsLawfulFiling e (filed_ticks numbers) moves homes) (moved : ℕ) (now : Filing)
    (now_is : filing_of e (filed_ticks numbers) moves moved ≡ now) (none_due : NoneFiledAt now.filed now.tick)
    (limit : ℕ) (from : now.tick ≤ limit) (top : limit ≤ LAST_TICK) (few : moved ≤ 18446744073709551615) where
  later : (i f : ℕ) → filed_at (filed_ticks numbers) i ≡ Some f → e < f
  later = seen_later e numbers moves homes ok moved now now_is none_due

  -- no list starts by the limit
  abbrev pub StartsLater : Type 0
  StartsLater = (i f : ℕ) → filed_at (filed_ticks numbers) i ≡ Some f → (e < f) × (limit < start_for e f)

  pub lawful_at_limit : StartsLater → IsLawfulFiling limit (filed_ticks numbers) moves homes
  lawful_at_limit starts = still_lawful e numbers moves homes ok moved now now_is limit from (omega arith) starts

  pub reaches_limit : StartsLater → ReachesLimit now limit (filing_of limit (filed_ticks numbers) moves moved)
  reaches_limit = seen_passed e numbers moves homes ok moved now now_is limit from few

  pub none_before_limit : StartsLater → NoneFiledBefore (filed_ticks numbers) limit
  none_before_limit starts = none_before limit (filed_ticks numbers) moves homes (lawful_at_limit starts)

  pub starts_never : ((p : ℕ) → p < LISTS → IsListEmpty homes p) → StartsLater
  starts_never empty i f is = absurd (none_filed e (filed_ticks numbers) moves homes ok empty i f is)

  -- the first list that is filled, and when it starts
  module _ (own list begin : ℕ) (own_is : own ≡ digit_of e 5) (first : IsFirstFilled own homes list)
      (begin_is : begin ≡ start e (list / 64) (list % 64)) where
    found : IsFirstFilled (digit_of e 5) homes list
    found = rw (← own_is) first

    pub starts_later : limit < begin → StartsLater
    starts_later short = all_later e (filed_ticks numbers) moves homes ok list found.0 found.1 found.2 later limit (rw begin_is at short)

    pub begins_after : now.tick < begin
    begins_after = rw (← ap (λ w. w.tick) now_is, begin_is) (opens_after e (filed_ticks numbers) moves homes ok list found.0 found.1 found.2 later)

    pub may_open : 64 ≤ list → (i : ℕ) → StandsIn homes list i → CanGo begin list (get_or numbers i 0) (get_or moves i 0)
    may_open = rw begin_is (can_go e numbers moves homes ok list found.0 found.1 found.2 later)

    -- a list of level 0 is opened as it is
    pub low_opened : list < 64 → IsOpened begin list numbers homes moves homes moves 0
    low_opened = rw begin_is (opened_low e numbers moves homes ok list found.0 found.1 found.2 later)

    pub low_reaches : list < 64 → begin ≤ limit → ReachesWake now limit (filing_of begin (filed_ticks numbers) moves moved)
    low_reaches low =
        rw begin_is (seen_arrival e numbers moves homes ok moved now now_is list found.0 found.1 found.2 later low few limit)

    module _ (homes2 moves2 : List ℕ) (made : ℕ) (o : IsOpened begin list numbers homes moves homes2 moves2 made) where
      pub lawful_open : IsLawfulFiling begin (filed_ticks numbers) moves2 homes2
      lawful_open =
          rw begin_is (lawful_opened e numbers moves homes ok list found.0 found.1 found.2 later homes2 moves2 made (rw begin_is at o))

      pub open_reaches : begin ≤ limit → ReachesWake now limit (filing_of begin (filed_ticks numbers) moves2 (min (moved + made) 18446744073709551615))
      open_reaches =
          rw begin_is (seen_opening e numbers moves homes ok moved now now_is list found.0 found.1 found.2 later homes2 moves2 made limit (rw begin_is at o))

      pub none_before_open : NoneFiledBefore (filed_ticks numbers) begin
      none_before_open = none_before begin (filed_ticks numbers) moves2 homes2 lawful_open

  -- the first list that is filled starts after the limit, or none is
  pub starts_past : StopsLater e limit homes → StartsLater
  starts_past (inl empty) = starts_never empty
  starts_past (inr (list, first, short)) = starts_later (digit_of e 5) list (start e (list / 64) (list % 64)) refl first refl short
