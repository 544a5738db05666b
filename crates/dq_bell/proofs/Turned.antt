-- Whoever sits stays in line, as seats are taken, left and led from.

use Rattle.std.proofs.Common.{◌≡◌, ◌≢◌, ℕ, zero, suc, ◌+◌, ◌≤◌, if◌then◌else◌, Bool, false, min, Option, None, Some, List, [], ◌∷◌, length, get_or, set, refl, sym, ap, ◌∙◌, subst, arith}
use Rattle.std.proofs.lemmas.List.{get_or-set_other, length-set}
use mathlib.Core.Logic.{dite}
use native.Mathlib.Decide.{ℕ_discrete}
use Rattle.dq_bell.specs.declared.TheConstants.{NEVER}
use Rattle.dq_bell.specs.declared.turns.TheConstants.{WATCH}
use Rattle.dq_bell.specs.declared.turns.Seat.{Seat}
use Rattle.dq_bell.specs.declared.turns.Sitter.{Sitter}
use Rattle.dq_bell.specs.Rolls.{RollState, StandsInLine, OthersStayInLine, first_in}
use Rattle.dq_bell.specs.Lines.{LineState, FallsAsleep, StaysAwake, IsCalled, LeavesLine}
use Rattle.dq_bell.specs.Turns.{TurnsState, IsTurns, HoldsSeat, no_sitter, acting, act_by_of, watched, with_leader_acting, FallsAsleepIn, StaysAwakeIn, LeavesTurn}

-- who sits where the one that leads acts from a tick on
abbrev acted : List Sitter → ℕ → ℕ → List Sitter
acted xs f t = set xs f (acting (get_or xs f no_sitter) t)

same_number : (xs : List Sitter) (f t j : ℕ) → (get_or (acted xs f t) j no_sitter).number ≡ (get_or xs j no_sitter).number
same_number [] f t j = refl
same_number (x ∷ xs) zero t zero = refl
same_number (x ∷ xs) zero t (suc j) = refl
same_number (x ∷ xs) (suc f) t zero = refl
same_number (x ∷ xs) (suc f) t (suc j) = same_number xs f t j

no_tick : (b : Bool) (t a : ℕ) → (b ≡ false → a ≡ NEVER) → b ≡ false → (if b then min (t + 50) NEVER else a) ≡ NEVER
no_tick b t a h e = rw e (h e)

still_none : (xs : List Sitter) (f t j : ℕ)
    → ((get_or xs j no_sitter).is_task ≡ false → (get_or xs j no_sitter).act_by ≡ NEVER)
    → (get_or (acted xs f t) j no_sitter).is_task ≡ false → (get_or (acted xs f t) j no_sitter).act_by ≡ NEVER
still_none [] f t j h = h
still_none (x ∷ xs) zero t zero h = no_tick x.is_task t x.act_by h
still_none (x ∷ xs) zero t (suc j) h = h
still_none (x ∷ xs) (suc f) t zero h = h
still_none (x ∷ xs) (suc f) t (suc j) h = still_none xs f t j h

acts_on : (r : RollState) (xs : List Sitter) (n f t : ℕ) → IsTurns r xs n → IsTurns r (acted xs f t) n
acts_on r xs n f t h = record {
  room = let a = length-set xs f (acting (get_or xs f no_sitter) t) in let b = h.room in omega arith;
  in_line = λ i x. h.in_line i (λ e. x (same_number xs f t i ∙ e));
  seated = λ i x e. h.seated i x (sym (same_number xs f t i) ∙ e);
  counted = λ i. let P : ℕ → Type 0 = λ a. a ≤ n in subst P (sym (same_number xs f t i)) (h.counted i);
  once = λ i j x e. h.once i j (λ y. x (same_number xs f t i ∙ y)) (sym (same_number xs f t i) ∙ (e ∙ same_number xs f t j));
  threads = λ i. still_none xs f t i (h.threads i);
}

-- the roll stays
pub still_turns : (r r2 : RollState) (xs : List Sitter) (n : ℕ) → r2 ≡ r → IsTurns r xs n → IsTurns r2 xs n
still_turns r r2 xs n same h = let P : RollState → Type 0 = λ q. IsTurns q xs n in subst P (sym same) h

-- the one that leads acts from a tick on
pub led_turns : (r r2 : RollState) (xs : List Sitter) (n : ℕ) (o : Option ℕ) (t : ℕ) → r2 ≡ r → IsTurns r xs n
    → IsTurns r2 (with_leader_acting xs o t) n
led_turns r r2 xs n None t same h = still_turns r r2 xs n same h
led_turns r r2 xs n (Some f) t same h = let P : RollState → Type 0 = λ q. IsTurns q (acted xs f t) n in subst P (sym same) (acts_on r xs n f t h)

zero_le : (n : ℕ) → 0 ≤ n
zero_le n = omega arith

nobody_there : (xs : List Sitter) (i : ℕ) → get_or (set xs i no_sitter) i no_sitter ≡ no_sitter
nobody_there [] i = refl
nobody_there (x ∷ xs) zero = refl
nobody_there (x ∷ xs) (suc i) = nobody_there xs i

-- one has left the line and its seat
module _ (r r1 r2 : RollState) (xs : List Sitter) (i n : ℕ) (same : r1 ≡ r) (h : IsTurns r xs n)
    (stay : OthersStayInLine r1 i r2) (out : ¬ StandsInLine r2 i) (size : length r2.places ≡ length r1.places) where
  gone : (j : ℕ) → j ≡ i → get_or (set xs i no_sitter) j no_sitter ≡ no_sitter
  gone j e = rw e (nobody_there xs i)

  other : (j : ℕ) → j ≢ i → get_or (set xs i no_sitter) j no_sitter ≡ get_or xs j no_sitter
  other j ne = get_or-set_other xs i j no_sitter no_sitter ne

  -- what holds where nobody sits, and of all others, holds of each
  each : (P : Sitter → Type 0) (j : ℕ) → (j ≡ i → P no_sitter) → (j ≢ i → P (get_or xs j no_sitter)) → P (get_or (set xs i no_sitter) j no_sitter)
  each P j here there = dite (ℕ_discrete j i) (λ e. subst P (sym (gone j e)) (here e)) (λ ne. subst P (sym (other j ne)) (there ne))

  was_in : (j : ℕ) → StandsInLine r1 j → StandsInLine r j
  was_in j x = let P : RollState → Type 0 = λ q. StandsInLine q j in subst P same x

  is_in : (j : ℕ) → StandsInLine r j → StandsInLine r1 j
  is_in j x = let P : RollState → Type 0 = λ q. StandsInLine q j in subst P (sym same) x

  pub vacates : IsTurns r2 (set xs i no_sitter) n
  vacates = record {
    room = let a = length-set xs i no_sitter in let b = h.room in let d = ap (λ (q : RollState). length q.places) same in let e = size in omega arith;
    in_line = λ j. each (λ s. s.number ≢ 0 → StandsInLine r2 j) j (λ e x. absurd (x refl)) (λ ne x. (stay j ne).0 (is_in j (h.in_line j x)));
    seated = λ j x. each (λ s. s.number ≢ 0) j (λ e. let P : ℕ → Type 0 = λ a. StandsInLine r2 a in absurd (out (subst P e x))) (λ ne. h.seated j (was_in j ((stay j ne).1 x)));
    counted = λ j. each (λ s. s.number ≤ n) j (λ e. zero_le n) (λ ne. h.counted j);
    once = λ j k. each (λ s. s.number ≢ 0 → s.number ≡ (get_or (set xs i no_sitter) k no_sitter).number → j ≡ k) j
        (λ e x. absurd (x refl))
        (λ ne x. each (λ s. (get_or xs j no_sitter).number ≡ s.number → j ≡ k) k (λ e y. absurd (x y)) (λ nk y. h.once j k x y));
    threads = λ j. each (λ s. s.is_task ≡ false → s.act_by ≡ NEVER) j (λ e x. refl) (λ ne. h.threads j);
  }

abbrev pub turns_of : LineState → List Sitter → ℕ → Bool → TurnsState
turns_of l xs n b = record { line = l; sitters = xs; stays = n; has_tasks = b }

-- one that sits falls asleep, or stays awake
module _ (l l2 : LineState) (xs xs2 : List Sitter) (n : ℕ) (b : Bool) (t : TurnsState) (seat : Seat) (until now : ℕ)
    (view : turns_of l xs n b ≡ t) where
  sat_there : HoldsSeat t seat → HoldsSeat (turns_of l xs n b) seat
  sat_there h = let P : TurnsState → Type 0 = λ u. HoldsSeat u seat in subst P (sym view) h

  pub leader_asleep : HoldsSeat t seat → FallsAsleep l seat.at until l2 → first_in l.roll ≡ Some seat.at
      → xs2 ≡ with_leader_acting xs (Some seat.at) until → FallsAsleepIn t seat until now until (turns_of l2 xs2 n b)
  leader_asleep h asleep first acts =
      let P : TurnsState → Type 0 = λ u. FallsAsleepIn u seat until now until (turns_of l2 xs2 n b) in
      subst P view (record {
        sat = sat_there h;
        line = asleep;
        leads = λ _. (refl, acts);
        follows = λ ne. absurd (ne first);
        same = record { stays = refl; has_tasks = refl };
      })

  pub follower_asleep : (tick : ℕ) → HoldsSeat t seat → FallsAsleep l seat.at until l2 → first_in l.roll ≢ Some seat.at
      → tick ≡ watched (turns_of l2 xs n b) now → FallsAsleepIn t seat until now tick (turns_of l2 xs n b)
  follower_asleep tick h asleep ne is =
      let P : TurnsState → Type 0 = λ u. FallsAsleepIn u seat until now tick (turns_of l2 xs n b) in
      let W : RollState → Type 0 = λ r. tick ≡ (if b then min (act_by_of xs (first_in r)) (min (now + WATCH) NEVER) else NEVER) in
      subst P view (record {
        sat = sat_there h;
        line = asleep;
        leads = λ e. absurd (ne e);
        follows = λ _. (subst W asleep.stays.roll is, refl);
        same = record { stays = refl; has_tasks = refl };
      })

  pub leader_awake : StaysAwake l seat.at l2 → first_in l.roll ≡ Some seat.at
      → xs2 ≡ with_leader_acting xs (Some seat.at) now → StaysAwakeIn t seat now (turns_of l2 xs2 n b)
  leader_awake awake first acts =
      let P : TurnsState → Type 0 = λ u. StaysAwakeIn u seat now (turns_of l2 xs2 n b) in
      subst P view (record {
        line = awake;
        leads = λ _. acts;
        follows = λ ne. absurd (ne first);
        same = record { stays = refl; has_tasks = refl };
      })

  pub follower_awake : StaysAwake l seat.at l2 → first_in l.roll ≢ Some seat.at → StaysAwakeIn t seat now (turns_of l2 xs n b)
  follower_awake awake ne =
      let P : TurnsState → Type 0 = λ u. StaysAwakeIn u seat now (turns_of l2 xs n b) in
      subst P view (record {
        line = awake;
        leads = λ e. absurd (ne e);
        follows = λ _. refl;
        same = record { stays = refl; has_tasks = refl };
      })

-- one that sat has risen and left
module _ (l l1 l2 : LineState) (xs put : List Sitter) (nobody : Sitter) (n : ℕ) (b : Bool) (t : TurnsState) (seat : Seat) (now : ℕ) (gave calls : Bool)
    (view : turns_of l xs n b ≡ t) (rises : IsCalled l seat.at l1) (leaves : LeavesLine l1 seat.at calls l2)
    (slept : gave ≡ get_or l.sleeps seat.at false) (is_nobody : nobody ≡ no_sitter) (is_put : put ≡ set xs seat.at nobody) where
  emptied : put ≡ set xs seat.at no_sitter
  emptied = is_put ∙ ap (λ (s : Sitter). set xs seat.at s) is_nobody

  pub leader_left : (xs2 : List Sitter) (o : Option ℕ) → first_in l.roll ≡ Some seat.at → o ≡ first_in l2.roll
      → xs2 ≡ with_leader_acting put o now → LeavesTurn t seat now gave calls (turns_of l2 xs2 n b)
  leader_left xs2 o first is acts =
      let P : TurnsState → Type 0 = λ u. LeavesTurn u seat now gave calls (turns_of l2 xs2 n b) in
      subst P view (record {
        risen = l1;
        rises = rises;
        leaves = leaves;
        slept = slept;
        led = λ _. acts ∙ (ap (λ (p : List Sitter). with_leader_acting p o now) emptied
            ∙ ap (λ (q : Option ℕ). with_leader_acting (set xs seat.at no_sitter) q now) is);
        followed = λ ne. absurd (ne first);
        same = record { stays = refl; has_tasks = refl };
      })

  pub follower_left : first_in l.roll ≢ Some seat.at → LeavesTurn t seat now gave calls (turns_of l2 put n b)
  follower_left ne =
      let P : TurnsState → Type 0 = λ u. LeavesTurn u seat now gave calls (turns_of l2 put n b) in
      subst P view (record {
        risen = l1;
        rises = rises;
        leaves = leaves;
        slept = slept;
        led = λ e. absurd (ne e);
        followed = λ _. emptied;
        same = record { stays = refl; has_tasks = refl };
      })
