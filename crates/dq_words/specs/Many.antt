-- What a poll says that takes out many entries: the polls one after another.
use Rattle.std.specs.Prelude.{◌≡◌, ◌<◌, ◌≤◌, ◌++◌, ℕ, true, List, [], ◌∷◌, length}
use Rattle.std.specs.Prelude.{Result, Ok, Err}
use Rattle.dq_ticks.specs.declared.TheConstants.{LAST_TICK}
use Rattle.dq_core.specs.Calls.{Polls}
use Rattle.dq_core.specs.Core.{Core}
use Rattle.dq_core.specs.declared.errors.CoreError.{CoreError}
use Rattle.dq_core.specs.declared.errors.CoreError.TheVariants.{TickTooLarge}
use Rattle.dq_core.specs.declared.outcomes.Expired.{Expired}
use Rattle.dq_core.specs.declared.outcomes.Turn.TheVariants.{Out, Waiting, Idle}
use Rattle.dq_words.specs.Seats.{Sat}
use Rattle.dq_words.specs.declared.many.ManyTurn.{ManyTurn}
use Rattle.dq_words.specs.declared.many.ManyTurn.TheVariants.{More, Waiting as ManyWait}
use Rattle.dq_words.specs.declared.many.ManyTurn.TheVariants.{Idle as ManyIdle}

module _ {T : Type 0} where
  -- these entries came out in order, each by one poll at the tick, and nothing else was done
  unfoldable pub ComeOutInTurn : Core T Sat → ℕ → List (Expired T) → Core T Sat → Type 0
  ComeOutInTurn b tick [] c = c ≡ b
  ComeOutInTurn b tick (x ∷ xs) c =
      (m : Core T Sat) × Polls true b tick (Ok (Out x)) m × ComeOutInTurn m tick xs c

  -- they came out, and stand in order behind what stood in the row before
  abbrev pub ComeBehind :
      Core T Sat → ℕ → List (Expired T) → List (Expired T) → Core T Sat → Type 0
  ComeBehind b tick before row c =
      (xs : List (Expired T)) × (row ≡ before ++ xs) × ComeOutInTurn b tick xs c

  -- the row is full; or it has room, and a last poll took nothing out; or the tick was refused
  abbrev pub PollsInto :
      Core T Sat → ℕ → ℕ → List (Expired T) → List (Expired T)
      → Result ManyTurn CoreError → Core T Sat → Type 0
  PollsInto b tick room before row (Ok More) c =
      (tick ≤ LAST_TICK) × (length row ≡ room) × ComeBehind b tick before row c
  PollsInto b tick room before row (Ok (ManyWait next)) c =
      (length row < room)
      × ((m : Core T Sat) × ComeBehind b tick before row m
      × Polls true m tick (Ok (Waiting next)) c)
  PollsInto b tick room before row (Ok ManyIdle) c =
      (length row < room)
      × ((m : Core T Sat) × ComeBehind b tick before row m × Polls true m tick (Ok Idle) c)
  PollsInto b tick room before row (Err e) c =
      (e ≡ TickTooLarge LAST_TICK) × (LAST_TICK < tick) × (row ≡ before) × (c ≡ b)
