-- The core that wakes first, found one core after the other.
use Rattle.std.proofs.Common.{◌≡◌, ◌≢◌, ℕ, ◌<◌, ◌≤◌, ◌+◌, Bool, true, false, List, length, get_or, min, refl, sym, ◌∙◌, subst, inl, inr, ⊎_elim, arith, MatchOption, IfSome, Option, Some, None, Ok, IsNone, ◌↔◌, ◌^◌, T, nat_eq, if◌then◌else◌}
use Rattle.std.proofs.lemmas.Bool.{cases_eq, eq-eqb, ne_eqb, lt-ltb, le-ltb}
use mathlib.Core.Logic.{dite}
use native.Mathlib.Decide.{ℕ_discrete}
use Rattle.dq_wheel.proofs.Links.{nat_le_or_lt}
use Rattle.dq_core.specs.Core.{Core, machine, IsLawfulCore}
use Rattle.dq_core.specs.Machine.{Machine, NoneLinked, NoneLiveBefore}
use Rattle.std.specs.Prelude.{unwrap_or}
use Rattle.dq_core.specs.Calls.{TellsWake, Polls}
use Rattle.dq_core.specs.Readers.{WakesBoundDeadlines}
use Rattle.dq_wheel.specs.Lawful.{IsLawfulWheel}
use Rattle.dq_growing.specs.declared.TheConstants.{NEVER}
use Rattle.dq_growing.specs.declared.cores.Least.{Least}
use Rattle.dq_core.specs.declared.outcomes.Piece.{Piece}
use Rattle.dq_core.specs.Pieces.{IfAnswer, PollsSome}
use Rattle.dq_core.specs.AtTheCall.{IfRests}
use Rattle.dq_core.specs.declared.outcomes.Turn.{Turn}
use Rattle.dq_core.specs.declared.outcomes.Turn.TheVariants.{Out, Waiting, Idle}
use Rattle.dq_core.specs.declared.outcomes.Piece.TheVariants.{Answer, Working}
use Rattle.dq_core.specs.Readers.{TellsLeast}
use Rattle.dq_core.specs.Deferring.{TakesDeferredValue, waiting_in}
use Rattle.dq_ticks.specs.declared.keys.Key.{Key}
use Rattle.dq_growing.specs.Cores.{CoreRow, IsCoreAt, with_core}
use Rattle.dq_growing.specs.Polls.{joined_with, AreIdleBelow, IsLeastBelow, TellsLeastBelow, WakeBounds, OthersAreQuiet, NoneLiveIn, RestsIn, IfPieceRests, PollsCore, HasTurn, TellsDue, PeeksIn, TakesDeferredAt, TakesDeferredIn, told}
use Rattle.dq_growing.specs.declared.cores.Due.TheVariants.{In}
use Rattle.dq_growing.proofs.Rows.{at_after, one_at, on_place}

pub earlier : {T : Type 0} (m : Machine T) (t u : ℕ) → NoneLiveBefore m t → u ≤ t → NoneLiveBefore m u
earlier m t u h le i e d is due = let a = h i e d is due in omega arith

pub some_not_none : {X : Type 0} (x : X) → Some x ≡ None → ⊥
some_not_none {X} x e =
    let P : Option X → Type 0 = λ o. MatchOption o ⊥ (λ _. Unit {0}) in
    subst P e (tt {0})

pub none_ever : {T : Type 0} (m : Machine T) (t : ℕ) → NoneLinked m → NoneLiveBefore m t
none_ever m t h i e d is due = absurd (some_not_none e (sym is ∙ h i))

pub wake_bounds : {T W : Type 0} (c : Core T W) (r : Option ℕ) → WakesBoundDeadlines T W → IsLawfulCore c → IsLawfulWheel c.wheel → TellsWake c r
    → (IsNone r ↔ NoneLinked (machine c)) → IfSome r (λ w. w < 2 ^ 64) → WakeBounds c r
wake_bounds c None law lawful wheel tells none fits = tells
wake_bounds c (Some w) law lawful wheel tells none fits = (law c w lawful wheel tells, (λ h. subst T (none.1 h) (tt {0})), omega (arith, fits))

abbrev pub least_of : ℕ → ℕ → ℕ → Least
least_of place wake others = record { place = place; wake = wake; others = others }

module _ {T W : Type 0} (cores : List (Core T W)) (n : ℕ) (d : Core T W) (at : IsCoreAt cores n d) where
  -- what holds of the next core and of those before it
  pub one_more : (P : ℕ → Core T W → Type 0) → P n d → ((i : ℕ) (c : Core T W) → i < n → IsCoreAt cores i c → P i c)
      → (i : ℕ) (c : Core T W) → i < n + 1 → IsCoreAt cores i c → P i c
  one_more P here before i c h x =
      dite (ℕ_discrete i n)
      (λ e. let A : ℕ → Type 0 = λ k. IsCoreAt cores k c in
      let same = one_at cores n d c at (subst A e x) in
      let Q : ℕ → Type 0 = λ k. P k c in
      let R : Core T W → Type 0 = λ k. P n k in
      subst Q (sym e) (subst R same here))
      (λ ne. before i c (omega arith) x)

  pub idle_more : AreIdleBelow cores n → NoneLinked (machine d) → AreIdleBelow cores (n + 1)
  idle_more so_far idle =
      let P : ℕ → Core T W → Type 0 = λ i c. NoneLinked (machine c) in
      one_more P idle so_far

  pub first_found : (w : ℕ) → AreIdleBelow cores n → TellsWake d (Some w) → WakeBounds d (Some w)
      → IsLeastBelow cores (n + 1) (least_of n w NEVER)
  first_found w so_far tells bounds =
      let P : ℕ → Core T W → Type 0 = λ i c. i ≢ n → NoneLiveBefore (machine c) NEVER in
      let all = one_more P (λ ne. absurd (ne refl)) (λ i c h x ne. none_ever (machine c) NEVER (so_far i c h x)) in
      record { core = d; at = at; below = omega arith; wake = tells; own = bounds.0; linked = bounds.1; first = bounds.2; others = λ i c h ne x. all i c h x ne }

  pub stays_least : (l : Least) (t : ℕ) → IsLeastBelow cores n l → NoneLiveBefore (machine d) t → t ≤ l.others → l.wake ≤ t
      → IsLeastBelow cores (n + 1) (least_of l.place l.wake t)
  stays_least l t so_far quiet le first =
      let P : ℕ → Core T W → Type 0 = λ i c. i ≢ l.place → NoneLiveBefore (machine c) t in
      let all = one_more P (λ ne. quiet) (λ i c h x ne. earlier (machine c) l.others t (so_far.others i c h ne x) le) in
      let below = so_far.below in
      record { core = so_far.core; at = so_far.at; below = omega arith; wake = so_far.wake; own = so_far.own; linked = so_far.linked; first = first; others = λ i c h ne x. all i c h x ne }

  pub new_least : (l : Least) (w : ℕ) → IsLeastBelow cores n l → TellsWake d (Some w) → WakeBounds d (Some w) → w < l.wake
      → IsLeastBelow cores (n + 1) (least_of n w l.wake)
  new_least l w so_far tells bounds lt =
      let P : ℕ → Core T W → Type 0 = λ i c. i ≢ n → NoneLiveBefore (machine c) l.wake in
      let before : (i : ℕ) (c : Core T W) → i < n → IsCoreAt cores i c → P i c = λ i c h x ne.
      dite (ℕ_discrete i l.place)
      (λ e. let A : ℕ → Type 0 = λ k. IsCoreAt cores k c in
      let same = one_at cores l.place so_far.core c so_far.at (subst A e x) in
      let R : Core T W → Type 0 = λ k. NoneLiveBefore (machine k) l.wake in
      subst R same so_far.own)
      (λ other. earlier (machine c) l.others l.wake (so_far.others i c h other x) so_far.first)
      in
      let all = one_more P (λ ne. absurd (ne refl)) before in
      record { core = d; at = at; below = omega arith; wake = tells; own = bounds.0; linked = bounds.1; first = omega arith; others = λ i c h ne x. all i c h x ne }

  pub joins : (l : Option Least) (r : Option ℕ) → TellsLeastBelow cores n l → TellsWake d r
      → WakeBounds d r → TellsLeastBelow cores (n + 1) (joined_with l n r)
  joins None None so_far tells bounds = idle_more so_far bounds
  joins None (Some w) so_far tells bounds = first_found w so_far tells bounds
  joins (Some l) None so_far tells bounds =
      stays_least l l.others so_far (none_ever (machine d) l.others bounds) (omega arith) so_far.first
  joins (Some l) (Some w) so_far tells bounds =
      let first = so_far.first in
      elim (nat_le_or_lt l.wake w) [
        | inl le ↦ rw (le-ltb w l.wake le) (stays_least l (min l.others w) so_far (earlier (machine d) w (min l.others w) bounds.0 (omega arith)) (omega arith) (omega arith))
        | inr lt ↦ rw (lt-ltb w l.wake lt) (new_least l w so_far tells bounds lt)
      ]

pub either_rests : {T : Type 0} (b : Bool) (x y : Piece T) (P : Option ℕ → Type 0) → IfPieceRests (Ok x) P → IfPieceRests (Ok y) P
    → IfPieceRests (Ok (if b then x else y)) P
either_rests true x y P p q = p
either_rests false x y P p q = q

module _ {T W : Type 0} where
  pub polls_core : (Did : ℕ → Piece T → Core T W → Core T W → Type 0) (s : CoreRow T W) (until place others : ℕ) (b c : Core T W) (made : Piece T)
      → place < length s.cores → OthersAreQuiet s place others → HasTurn s place others → b ≡ get_or s.cores place b → Did until made b c
      → until ≡ min s.noted others → PollsCore Did s (told s.noted others made) (with_core s place c)
  polls_core Did s until place others b c made inside quiet turn at did is =
      let P : ℕ → Type 0 = λ u. Did u made b c in
      record {
        place = place;
        others = others;
        quiet = quiet;
        turn = turn;
        made = made;
        did = on_place s place (Did (min s.noted others) made) b c inside at (subst P is did);
        tells = refl;
      }

  -- the core that wakes first has something linked, so it names an entry
  pub peeks : (s : CoreRow T W) (l : Least) (c : Core T W) (r : Option Key) → IsLeastBelow s.cores (length s.cores) l → c ≡ get_or s.cores l.place c
      → TellsLeast c r → PeeksIn s r
  peeks s l c None is at tells =
      let P : Core T W → Type 0 = λ k. ¬ NoneLinked (machine k) in
      let same = one_at s.cores l.place is.core c is.at (is.at.0, sym at) in
      absurd (subst P same is.linked tells)
  peeks s l c (Some k) is at tells = (l, c, is, (is.at.0, sym at), tells)

  -- a core in which a value waits gives one
  pub takes_deferred : (s : CoreRow T W) (i : ℕ) (b c : Core T W) (r : Option T) → ((x : Core T W) × IsCoreAt s.cores i x × (waiting_in x.deferred ≢ 0))
      → b ≡ get_or s.cores i b → TakesDeferredValue b.deferred r c.deferred → c ≡ record b { deferred = c.deferred } → TakesDeferredIn s r (with_core s i c)
  takes_deferred s i b c None found at takes rest =
      let P : Core T W → Type 0 = λ k. waiting_in k.deferred ≢ 0 in
      let same = one_at s.cores i found.0 b found.1 (found.1.0, sym at) in
      absurd (subst P same found.2 takes.0)
  takes_deferred s i b c (Some v) found at takes rest = (i, on_place s i (TakesDeferredAt v) b c found.1.0 at (takes, rest))

  -- no live entry of the store has a deadline before the least wake
  pub quiet_in : (cores : List (Core T W)) (l : Least) → IsLeastBelow cores (length cores) l → (i : ℕ) (c : Core T W) → IsCoreAt cores i c
      → NoneLiveBefore (machine c) l.wake
  quiet_in cores l is i c at =
      dite (ℕ_discrete i l.place)
      (λ e. let A : ℕ → Type 0 = λ k. IsCoreAt cores k c in
      let P : Core T W → Type 0 = λ k. NoneLiveBefore (machine k) l.wake in
      subst P (one_at cores l.place is.core c is.at (subst A e at)) is.own)
      (λ n. earlier (machine c) l.others l.wake (is.others i c at.0 n at) is.first)

  -- no core has a live entry before a tick: the one that changed by what is known of it, every other as before
  pub all_quiet : (s : CoreRow T W) (place t : ℕ) (c : Core T W) → place < length s.cores → OthersAreQuiet s place t → NoneLiveBefore (machine c) t
      → NoneLiveIn (with_core s place c) t
  all_quiet s place t c inside quiet own i d at =
      ⊎_elim
      (λ (y : (i ≡ place) × (d ≡ c)). let P : Core T W → Type 0 = λ k. NoneLiveBefore (machine k) t in subst P (sym y.1) own)
      (λ (y : (i ≢ place) × IsCoreAt s.cores i d). quiet i d y.0 y.1)
      (at_after s.cores place i c d inside at)

  -- a poll of a core that finds nothing due tells a tick before which none is live there
  pub poll_waits : (shared : Bool) (tick : ℕ) (b c : Core T W) (turn : Turn T) → WakesBoundDeadlines T W → IsLawfulCore c → IsLawfulWheel c.wheel → Polls shared b tick (Ok turn) c
      → IfPieceRests (Ok (Answer turn)) (λ next. NoneLiveBefore (machine c) (unwrap_or next NEVER))
  poll_waits shared tick b c (Out x) bounds lawful wheel did = tt {0}
  poll_waits shared tick b c (Waiting next) bounds lawful wheel did = bounds c next lawful wheel did.2.run.2.3
  poll_waits shared tick b c Idle bounds lawful wheel did = none_ever (machine c) NEVER did.2.run.2.3

  -- so does a piece of one
  pub piece_waits : (shared : Bool) (tick most : ℕ) (b c : Core T W) (made : Piece T) → WakesBoundDeadlines T W → IsLawfulCore c → IsLawfulWheel c.wheel
      → PollsSome shared b tick most (Ok made) c → IfPieceRests (Ok made) (λ next. NoneLiveBefore (machine c) (unwrap_or next NEVER))
  piece_waits shared tick most b c Working bounds lawful wheel did = tt {0}
  piece_waits shared tick most b c (Answer (Out x)) bounds lawful wheel did = tt {0}
  piece_waits shared tick most b c (Answer (Waiting next)) bounds lawful wheel did = bounds c next lawful wheel did.2.run.2.3
  piece_waits shared tick most b c (Answer Idle) bounds lawful wheel did = none_ever (machine c) NEVER did.2.run.2.3

  -- an answer that none is due says so of every core
  pub rests_core : (s : CoreRow T W) (place others : ℕ) (c : Core T W) (made : Piece T) → place < length s.cores → OthersAreQuiet s place others → others ≤ NEVER
      → IfPieceRests (Ok made) (λ next. NoneLiveBefore (machine c) (unwrap_or next NEVER))
      → IfPieceRests (Ok (told s.noted others made)) (λ next. NoneLiveIn (with_core s place c) (unwrap_or next NEVER))
  rests_core s place others c Working inside quiet le own = tt {0}
  rests_core s place others c (Answer (Out x)) inside quiet le own = tt {0}
  rests_core s place others c (Answer (Waiting next)) inside quiet le own =
      elim (nat_le_or_lt others s.noted) [
        | inl past ↦ rw (le-ltb s.noted others past) (tt {0})
        | inr lt ↦ rw (lt-ltb s.noted others lt) (all_quiet s place (min next others) c inside
            (λ i d ne at. earlier (machine d) others (min next others) (quiet i d ne at) (omega arith)) (earlier (machine c) next (min next others) own (omega arith)))
      ]
  rests_core s place others c (Answer Idle) inside quiet le own =
      elim (nat_le_or_lt others s.noted) [
        | inl past ↦ rw (le-ltb s.noted others past) (tt {0})
        | inr lt ↦ rw (lt-ltb s.noted others lt) (elim (cases_eq others NEVER) [
          | inl same ↦ rw (eq-eqb others NEVER same) (all_quiet s place NEVER c inside (λ i d ne at. earlier (machine d) others NEVER (quiet i d ne at) (omega arith)) own)
          | inr other ↦ rw (ne_eqb others NEVER other) (all_quiet s place others c inside quiet (earlier (machine c) NEVER others own le))
        ])
      ]

  -- where the least wake is after the noted tick, none is live before it
  pub rests_quiet : (s : CoreRow T W) (next : ℕ) → RestsIn s (Answer (Waiting next)) → NoneLiveIn s next
  rests_quiet s next rests i c at =
      let l = rests.0 in
      let is = rests.2 in
      earlier (machine c) l.wake next (quiet_in s.cores l rests.1 i c at) (omega arith)

  -- and where nothing is linked, none is live ever
  pub idle_quiet : (s : CoreRow T W) (t : ℕ) → RestsIn s (Answer Idle) → NoneLiveIn s t
  idle_quiet s t rests i c at = none_ever (machine c) t (rests i c at.0 at)

  -- the core that wakes first has the turn
  pub takes_turn : (s : CoreRow T W) (l : Least) → IsLeastBelow s.cores (length s.cores) l → TellsDue s (In l.place l.others)
  takes_turn s l is = (is.below, (λ i c ne x. is.others i c x.0 ne x), inr (l.wake, is.core, is.at, is.wake, is.first))

  -- and one that wakes by what the others have
  pub wakes_turn : (s : CoreRow T W) (place others : ℕ) (c : Core T W) → place < length s.cores → OthersAreQuiet s place others
      → c ≡ get_or s.cores place c → ((w : ℕ) × TellsWake c (Some w) × (w ≤ others)) → TellsDue s (In place others)
  wakes_turn s place others c inside quiet at wakes = (inside, quiet, inr (wakes.0, c, (inside, sym at), wakes.1, wakes.2))

module _ {T : Type 0} where
  -- a tick that is told to come again is after the noted one
  pub ahead_core : (noted others tick : ℕ) (made : Piece T) → min noted others ≤ tick
      → IfAnswer (Ok made) (λ turn. IfRests turn (λ next. IfSome next (λ t. tick < t)))
      → IfPieceRests (Ok (told noted others made)) (λ next. IfSome next (λ t. noted < t))
  ahead_core noted others tick Working le own = tt {0}
  ahead_core noted others tick (Answer (Out x)) le own = tt {0}
  ahead_core noted others tick (Answer (Waiting next)) le own =
      elim (nat_le_or_lt others noted) [
        | inl h ↦ rw (le-ltb noted others h) (tt {0})
        | inr lt ↦ rw (lt-ltb noted others lt) (omega arith)
      ]
  ahead_core noted others tick (Answer Idle) le own =
      elim (nat_le_or_lt others noted) [
        | inl h ↦ rw (le-ltb noted others h) (tt {0})
        | inr lt ↦ rw (lt-ltb noted others lt) (either_rests (nat_eq others NEVER) (Answer Idle) (Answer (Waiting others)) (λ next. IfSome next (λ t. noted < t)) (tt {0}) lt)
      ]
