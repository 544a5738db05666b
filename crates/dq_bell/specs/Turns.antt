-- Turns in the lead: who sits in line, and by when the one that leads is to act.

use Rattle.std.specs.Prelude.{◌≡◌, ◌≢◌, ℕ, ◌+◌, ◌<◌, ◌≤◌, Bool, true, false, List, length, min, if◌then◌else◌}
use Rattle.std.specs.Prelude.{slice_index_or, slice_set, Option, None, Some}
use Rattle.dq_bell.specs.declared.TheConstants.{NEVER}
use Rattle.dq_bell.specs.declared.turns.TheConstants.{GRACE, WATCH}
use Rattle.dq_bell.specs.declared.turns.Seat.{Seat}
use Rattle.dq_bell.specs.declared.turns.Sitter.{Sitter}
use Rattle.dq_bell.specs.Rolls.{RollState, StandsInLine, first_in}
use Rattle.dq_bell.specs.Lines.{LineState, SleepsAt, IsAwakeAt, IsSameLine, Joins, FallsAsleep, StaysAwake, StaysInLine}
use Rattle.dq_bell.specs.Lines.{IsFreshLine, IsCalled, LeavesLine, HearsRung, TakesLead, sleeping}

-- the line, who sits at each index, how many stays there have been, and whether a task has waited
pub record TurnsState : Type 0 where
  pub line : LineState
  pub sitters : List Sitter
  pub stays : ℕ
  pub has_tasks : Bool

-- nobody sits there
abbrev pub no_sitter : Sitter
no_sitter = record { number = 0; is_task = false; act_by = NEVER }

-- one that has just joined
abbrev pub just_joined : ℕ → Bool → Sitter
just_joined number is_task = record { number = number; is_task = is_task; act_by = NEVER }

-- who sits at an index
abbrev pub sitter_at : List Sitter → ℕ → Sitter
sitter_at sitters i = slice_index_or sitters i no_sitter

-- the same sit
abbrev pub AllSit : List Sitter → List Sitter → Type 0
AllSit old new = (j : ℕ) → sitter_at new j ≡ sitter_at old j

-- Whoever sits is in line, by the number of a stay, which no other has, and whoever is in line sits.
-- Only a task is to act by a tick.
pub record IsTurns (roll : RollState) (sitters : List Sitter) (stays : ℕ) : Type 0 where
  pub room : length roll.places ≤ length sitters
  pub in_line : (i : ℕ) → (sitter_at sitters i).number ≢ 0 → StandsInLine roll i
  pub seated : (i : ℕ) → StandsInLine roll i → (sitter_at sitters i).number ≢ 0
  pub counted : (i : ℕ) → (sitter_at sitters i).number ≤ stays
  pub once : (i j : ℕ) → (sitter_at sitters i).number ≢ 0
      → (sitter_at sitters i).number ≡ (sitter_at sitters j).number → i ≡ j
  pub threads : (i : ℕ) → (sitter_at sitters i).is_task ≡ false → (sitter_at sitters i).act_by ≡ NEVER

-- the stay of a seat lasts
abbrev pub HoldsSeat : TurnsState → Seat → Type 0
HoldsSeat t seat = (seat.number ≢ 0) × ((sitter_at t.sitters seat.at).number ≡ seat.number)

-- whoever sits there acts from a tick on: a task by the tick and its grace, and a thread by none
abbrev pub acting : Sitter → ℕ → Sitter
acting s tick = record {
  number = s.number;
  is_task = s.is_task;
  act_by = if s.is_task then min (tick + GRACE) NEVER else s.act_by;
}

-- the one that leads acts from a tick on
abbrev pub with_leader_acting : List Sitter → Option ℕ → ℕ → List Sitter
with_leader_acting sitters None tick = sitters
with_leader_acting sitters (Some f) tick = slice_set sitters f (acting (sitter_at sitters f) tick)

-- by when the one that leads is to act
abbrev pub act_by_of : List Sitter → Option ℕ → ℕ
act_by_of sitters None = NEVER
act_by_of sitters (Some f) = (sitter_at sitters f).act_by

-- when one that follows looks again whether the leader acts
abbrev pub watched : TurnsState → ℕ → ℕ
watched t now = if t.has_tasks
    then min (act_by_of t.sitters (first_in t.line.roll)) (min (now + WATCH) NEVER) else NEVER

-- a line in which nobody waits, and nobody has
pub record IsFreshTurns (places : ℕ) (t : TurnsState) : Type 0 where
  pub line : IsFreshLine places t.line
  pub stays : t.stays ≡ 0
  pub has_tasks : t.has_tasks ≡ false

-- there were as many stays, and a task has waited if it had
pub record SameStays (old new : TurnsState) : Type 0 where
  pub stays : new.stays ≡ old.stays
  pub has_tasks : new.has_tasks ≡ old.has_tasks

-- the same sit, and wait as they did
pub record IsSameTurns (old new : TurnsState) : Type 0 where
  pub line : IsSameLine old.line new.line
  pub sitters : AllSit old.sitters new.sitters
  pub same : SameStays old new

-- One joins, by the number of a new stay, and is to act by no tick yet. All others sit as they did.
pub record TakesSeat
    (old : TurnsState) (seat : Seat) (is_task : Bool) (new : TurnsState) : Type 0 where
  pub line : Joins old.line seat.at new.line
  pub number : seat.number ≡ old.stays + 1
  pub stays : new.stays ≡ old.stays + 1
  pub sits : sitter_at new.sitters seat.at ≡ just_joined seat.number is_task
  pub others : (j : ℕ) → j ≢ seat.at → sitter_at new.sitters j ≡ sitter_at old.sitters j
  pub has_tasks : new.has_tasks ≡ (if is_task then true else old.has_tasks)

-- it is awake, and gave what was to wake it, exactly if it slept
pub record Rises (old : TurnsState) (seat : Seat) (gave : Bool) (new : TurnsState) : Type 0 where
  pub line : IsCalled old.line seat.at new.line
  pub told : first_in old.line.roll ≡ Some seat.at → new.line.leader.until ≡ 0
  pub slept : gave ≡ slice_index_or old.line.sleeps seat.at false
  pub sitters : new.sitters ≡ old.sitters
  pub same : SameStays old new

-- It rose, and left the line and its seat. Where it led, the one that leads now acts from now on.
pub record LeavesTurn
    (old : TurnsState) (seat : Seat) (now : ℕ) (gave calls : Bool) (new : TurnsState) : Type 0 where
  pub risen : LineState
  pub rises : IsCalled old.line seat.at risen
  pub leaves : LeavesLine risen seat.at calls new.line
  pub slept : gave ≡ slice_index_or old.line.sleeps seat.at false
  pub led : first_in old.line.roll ≡ Some seat.at → new.sitters
      ≡ with_leader_acting (slice_set old.sitters seat.at no_sitter) (first_in new.line.roll) now
  pub followed : first_in old.line.roll ≢ Some seat.at →
      new.sitters ≡ slice_set old.sitters seat.at no_sitter
  pub same : SameStays old new

-- one that is awake sits, and another one leads that was to act by now
pub record IsOverdue (t : TurnsState) (seat : Seat) (now f : ℕ) : Type 0 where
  pub sits : HoldsSeat t seat
  pub awake : IsAwakeAt t.line.sleeps seat.at
  pub first : first_in t.line.roll ≡ Some f
  pub other : f ≢ seat.at
  pub due : (sitter_at t.sitters f).act_by ≤ now

-- It leads in place of the one that led, which has lost its seat, and it acts from now on.
pub record Overtakes
    (old : TurnsState) (seat : Seat) (f now : ℕ) (gave : Bool) (new : TurnsState) : Type 0 where
  pub line : TakesLead old.line seat.at f gave new.line
  pub sitters : new.sitters
      ≡ with_leader_acting (slice_set old.sitters f no_sitter) (Some seat.at) now
  pub same : SameStays old new

-- The line hears what was rung, and the one that leads acts from now on if it was called.
pub record HearsRungIn
    (old : TurnsState) (rung : Bool) (now : ℕ) (calls : Bool) (new : TurnsState) : Type 0 where
  pub line : HearsRung old.line rung calls new.line
  pub called : calls ≡ true →
      new.sitters ≡ with_leader_acting old.sitters (first_in old.line.roll) now
  pub awake : calls ≡ false → new.sitters ≡ old.sitters
  pub same : SameStays old new

-- One that sits falls asleep. It looks again at the tick: one that leads acts from then on, and one
-- that follows watches the leader.
pub record FallsAsleepIn
    (old : TurnsState) (seat : Seat) (until now tick : ℕ) (new : TurnsState) : Type 0 where
  pub sat : HoldsSeat old seat
  pub line : FallsAsleep old.line seat.at until new.line
  pub leads : first_in old.line.roll ≡ Some seat.at → (tick ≡ until)
      × (new.sitters ≡ with_leader_acting old.sitters (Some seat.at) until)
  pub follows : first_in old.line.roll ≢ Some seat.at → (tick ≡ watched old now)
      × (new.sitters ≡ old.sitters)
  pub same : SameStays old new

-- One that sits may not fall asleep: one that leads acts from now on.
pub record StaysAwakeIn (old : TurnsState) (seat : Seat) (now : ℕ) (new : TurnsState) : Type 0 where
  pub line : StaysAwake old.line seat.at new.line
  pub leads : first_in old.line.roll ≡ Some seat.at →
      new.sitters ≡ with_leader_acting old.sitters (Some seat.at) now
  pub follows : first_in old.line.roll ≢ Some seat.at → new.sitters ≡ old.sitters
  pub same : SameStays old new

-- All that slept rose. One that led and slept acts from now on.
pub record AllRise (old : TurnsState) (now : ℕ) (new : TurnsState) : Type 0 where
  pub line : StaysInLine old.line new.line
  pub awake : (i : ℕ) → IsAwakeAt new.line.sleeps i
  pub slept : (f : ℕ) → first_in old.line.roll ≡ Some f → SleepsAt old.line.sleeps f →
      new.sitters ≡ with_leader_acting old.sitters (Some f) now
  pub waked : ((f : ℕ) → first_in old.line.roll ≡ Some f → IsAwakeAt old.line.sleeps f) →
      new.sitters ≡ old.sitters
  pub same : SameStays old new
