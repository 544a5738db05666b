-- Somebody leads wherever anybody sleeps, and the lead is handed on.

use Rattle.std.proofs.Common.{◌≡◌, ◌≢◌, ◌⊎◌, ℕ, zero, suc, ◌+◌, ◌<◌, ◌≤◌, ◌==◌, if◌then◌else◌, Bool, true, false, Option, None, Some, List, [], ◌∷◌, get_or, set, true≢false, length, refl, sym, ap, ◌∙◌, subst, inl, inr, arith}
use Rattle.std.proofs.lemmas.List.{get_or-set_other, get_or-set_same, length-set}
use Rattle.dq_bell.specs.Seats.{HintSeat, LeaderSeat, CloserSeat, AtSameBell, IsFreshLeader, DealsHint}
use Rattle.dq_bell.specs.Rolls.{RollState, StandsInLine, first_in, LeavesRoll, HandsLead}
use Rattle.dq_bell.specs.Lines.{LineState, SleepsAt, IsAwakeAt, HasLooked, IsLine, LeavesLine, FallsAsleep, StaysAwake, MayNotSleep, IsFreshLine}

first_of : (count x : ℕ) → 0 < count → (f : ℕ) × ((if count == 0 then None else Some x) ≡ Some f)
first_of count x h = (x, grind arith)

someone_leads : (r : RollState) (i : ℕ) → StandsInLine r i → (f : ℕ) × (first_in r ≡ Some f)
someone_leads r i h = first_of r.count (get_or r.indexes 0 0) (let a = h.1 in omega arith)

pub led_by : (l : LeaderSeat) (c : CloserSeat) (r : RollState) (s : List Bool) → IsLine l c r s
    → (i : ℕ) → SleepsAt s i → (f : ℕ) × (first_in r ≡ Some f) × (SleepsAt s f → HasLooked l)
led_by l c r s line i h = let x = someone_leads r i (line.in_line i h) in (x.0, x.1, line.led x.0 x.1)

one_or_not : (x y : ℕ) → (x ≡ y) ⊎ (x ≢ y)
one_or_not x y = grind arith

abbrev value : Option ℕ → ℕ
value None = 0
value (Some x) = x

same : {o : Option ℕ} (f g : ℕ) → o ≡ Some f → o ≡ Some g → f ≡ g
same f g e h = ap value (sym e ∙ h)

pub awake_there : (s : List Bool) (i : ℕ) → IsAwakeAt (set s i false) i
awake_there [] i = refl
awake_there (b ∷ s) zero = refl
awake_there (b ∷ s) (suc i) = awake_there s i

abbrev pub line_of : LeaderSeat → CloserSeat → RollState → List Bool → LineState
line_of l c r s = record { leader = l; closer = c; roll = r; sleeps = s }

-- the one that led left, and the next one is called
pub hands_on : (l : LeaderSeat) (c : CloserSeat) (r r2 : RollState) (s : List Bool) (i f : ℕ) (called : Bool)
    → LeavesRoll r i r2 → IsAwakeAt s i → first_in r ≡ Some i → first_in r2 ≡ Some f → called ≡ get_or s f false
    → LeavesLine (line_of l c r s) i called (line_of l c r2 (set s f false))
hands_on l c r r2 s i f called left awake first next is_called = record {
  leader = refl;
  closer = refl;
  is_out = left.is_out;
  awake = elim (one_or_not i f) [ inl e ↦ rw e (awake_there s f) | inr n ↦ get_or-set_other s f i false false n ∙ awake ];
  stay = left.others;
  size = left.size;
  follows = λ n. absurd (n first);
  next = λ _ g e. let q : g ≡ f = same g f e next in (rw q (awake_there s f), rw q is_called);
  sleep_on = λ j ji or. elim or [
    | inl n ↦ absurd (n first)
    | inr n ↦ get_or-set_other s f j false false (λ e. n (rw e next))
  ];
}

-- one that is awake takes the lead
pub taken_over : (l l2 : LeaderSeat) (c : CloserSeat) (r r2 : RollState) (s : List Bool) (i f : ℕ)
    → IsLine l c r s → HandsLead r i f r2 → AtSameBell l l2 → IsAwakeAt s i → f ≢ i → IsLine l2 c r2 (set s f false)
taken_over l l2 c r r2 s i f line hands bell awake ne = record {
  in_line = λ j h. elim (one_or_not j f) [
    | inl e ↦ absurd (true≢false (sym h ∙ (let P : ℕ → Type 0 = λ a. IsAwakeAt (set s f false) a in subst P (sym e) (awake_there s f))))
    | inr n ↦ (hands.others j n).0 (line.in_line j (sym (get_or-set_other s f j false false n) ∙ h))
  ];
  led = λ j first h.
      let e : i ≡ j = same i j hands.first first in
      let P : ℕ → Type 0 = λ a. get_or (set s f false) a false ≡ false in
      let is : get_or (set s f false) j false ≡ false = subst P e (get_or-set_other s f i false false (λ q. ne (sym q)) ∙ awake) in
      absurd (true≢false (sym h ∙ is));
  room = λ o. (let a = line.room o in let b = hands.size in let d = length-set s f false in omega arith);
  bell = (line.bell.0 ∙ sym bell.0, line.bell.1 ∙ sym bell.1, line.bell.2);
}

-- nobody sleeps
pub all_awake : (l l2 : LeaderSeat) (c : CloserSeat) (r : RollState) (s s2 : List Bool)
    → IsLine l c r s → AtSameBell l l2 → ((i : ℕ) → IsAwakeAt s2 i) → length s2 ≡ length s → IsLine l2 c r s2
all_awake l l2 c r s s2 line bell awake size = record {
  in_line = λ j h. absurd (true≢false (sym h ∙ awake j));
  led = λ j first h. absurd (true≢false (sym h ∙ awake j));
  room = λ o. (let a = line.room o in omega arith);
  bell = (line.bell.0 ∙ sym bell.0, line.bell.1 ∙ sym bell.1, line.bell.2);
}

-- one that is awake falls asleep, or may not
module _ (l l2 : LeaderSeat) (c : CloserSeat) (r : RollState) (s : List Bool) (i until : ℕ) (old : LineState)
    (view : line_of l c r s ≡ old) (line : IsLine l c r s) where
  pub refused : MayNotSleep (line_of l c r s) i (line_of l c r s) → StaysAwake old i old
  refused reason =
      let P : LineState → Type 0 = λ o. StaysAwake o i o in
      subst P view (record {
        stays = record { bell = (refl, refl, refl); closer = refl; roll = refl };
        sleeps = refl;
        follows = λ _. refl;
        reason = reason;
      })

  pub found_earlier : AtSameBell l l2 → first_in r ≡ Some i → l2.found ≡ true → StaysAwake old i (line_of l2 c r s)
  found_earlier bell first found =
      let P : LineState → Type 0 = λ o. StaysAwake o i (line_of l2 c r s) in
      subst P view (record {
        stays = record { bell = bell; closer = refl; roll = refl };
        sleeps = refl;
        follows = λ ne. absurd (ne first);
        reason = inr (inr (inr (first, found)));
      })

  -- where it led, it leads on awake
  pub leads_awake : AtSameBell l l2 → first_in r ≡ Some i → IsAwakeAt s i → IsLine l2 c r s
  leads_awake bell first awake = record {
    in_line = line.in_line;
    led = λ j h on.
        let e : i ≡ j = same i j first h in
        let P : ℕ → Type 0 = λ a. IsAwakeAt s a in
        absurd (true≢false (sym on ∙ subst P e awake));
    room = line.room;
    bell = (line.bell.0 ∙ sym bell.0, line.bell.1 ∙ sym bell.1, line.bell.2);
  }

  -- it is in line, awake, and the bell is open
  module _ (is_open : c.is_closed ≡ false) (stands : StandsInLine r i) (awake : IsAwakeAt s i) where
    others_on : (j : ℕ) → j ≢ i → get_or (set s i true) j false ≡ get_or s j false
    others_on j ne = get_or-set_other s i j true false ne

    sleeps_in_line : (j : ℕ) → SleepsAt (set s i true) j → StandsInLine r j
    sleeps_in_line j h = elim (one_or_not j i) [
      | inl e ↦ let P : ℕ → Type 0 = λ a. StandsInLine r a in subst P (sym e) stands
      | inr n ↦ line.in_line j (sym (others_on j n) ∙ h)
    ]

    roomy : c.is_closed ≡ false → length r.places ≤ length (set s i true)
    roomy o = let a = line.room o in let d = length-set s i true in omega arith

    falls : AtSameBell l l2 → (first_in r ≡ Some i → (l2.until ≡ until) × HasLooked l2) → (first_in r ≢ Some i → l2 ≡ l)
        → FallsAsleep old i until (line_of l2 c r (set s i true))
    falls bell leads follows =
        let P : LineState → Type 0 = λ o. FallsAsleep o i until (line_of l2 c r (set s i true)) in
        subst P view (record {
          stays = record { bell = bell; closer = refl; roll = refl };
          is_open = is_open;
          was_awake = awake;
          sleeps = get_or-set_same s i true false (let a = line.room is_open in let b = stands.0 in omega arith);
          others = others_on;
          leads = leads;
          follows = follows;
        })

    pub leader_falls : AtSameBell l l2 → first_in r ≡ Some i → (l2.until ≡ until) × HasLooked l2 → FallsAsleep old i until (line_of l2 c r (set s i true))
    leader_falls bell first looked = falls bell (λ _. looked) (λ ne. absurd (ne first))

    pub follower_falls : l2 ≡ l → first_in r ≢ Some i → FallsAsleep old i until (line_of l2 c r (set s i true))
    follower_falls e ne =
        falls (ap (λ (a : LeaderSeat). a.table) e, ap (λ (a : LeaderSeat). a.places) e, ap (λ (a : LeaderSeat). a.dealt) e) (λ first. absurd (ne first)) (λ _. e)

    pub leader_line : AtSameBell l l2 → HasLooked l2 → IsLine l2 c r (set s i true)
    leader_line bell looked = record {
      in_line = sleeps_in_line;
      led = λ _ _ _. looked;
      room = roomy;
      bell = (line.bell.0 ∙ sym bell.0, line.bell.1 ∙ sym bell.1, line.bell.2);
    }

    pub follower_line : first_in r ≢ Some i → IsLine l c r (set s i true)
    follower_line ne = record {
      in_line = sleeps_in_line;
      led = λ j first h. elim (one_or_not j i) [
        | inl e ↦ absurd (ne (first ∙ ap (λ (a : ℕ). Some a) e))
        | inr n ↦ line.led j first (sym (others_on j n) ∙ h)
      ];
      room = roomy;
      bell = line.bell;
    }

-- nobody sleeps where there is no room
empty_awake : (s : List Bool) (i : ℕ) → length s ≡ 0 → IsAwakeAt s i
empty_awake [] i e = refl
empty_awake (b ∷ s) i e = absurd (omega (arith, e))

-- a line of a fresh bell, whose first hint is that of the closing
module _ (n : ℕ) (l l2 : LeaderSeat) (h : HintSeat) (c : CloserSeat) (r : RollState) (s : List Bool) (fresh : IsFreshLeader (n + 1) l) (deals : DealsHint l l2 h)
    (is_open : c.is_closed ≡ false) (hint : c.hint ≡ h) (nobody : (r.count ≡ 0) × (length r.places ≡ 0)) where
  pub fresh_line : IsFreshLine n (line_of l2 c r s)
  fresh_line = record {
    places_is = ap (λ (a : LeaderSeat). a.places) deals.0 ∙ fresh.0;
    dealt = ap (λ (a : LeaderSeat). a.dealt) deals.0 ∙ ap (λ k. k + 1) fresh.1;
    nobody = nobody.0;
    empty = nobody.1;
    is_open = is_open;
  }

  pub fresh_is_line : length s ≡ 0 → IsLine l2 c r s
  fresh_is_line none = record {
    in_line = λ j on. absurd (true≢false (sym on ∙ empty_awake s j none));
    led = λ j first on. absurd (true≢false (sym on ∙ empty_awake s j none));
    room = λ _. let a = nobody.1 in omega (arith, a);
    bell = (
      ap (λ (a : HintSeat). a.table) hint ∙ (deals.1 ∙ sym (ap (λ (a : LeaderSeat). a.table) deals.0)),
      ap (λ (a : HintSeat). a.places) hint ∙ (deals.2 ∙ sym (ap (λ (a : LeaderSeat). a.places) deals.0)),
      ap (λ (a : HintSeat). a.place) hint ∙ (deals.3 ∙ fresh.1),
    );
  }
