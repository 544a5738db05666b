-- The line of those that wait.

use Rattle.std.specs.Prelude.{◌≡◌, ◌≢◌, ◌⊎◌, ℕ, ◌+◌, ◌<◌, ◌≤◌, Bool, true, false, List, [], ◌∷◌, length}
use Rattle.std.specs.Prelude.{slice_index_or, slice_set, Option, None, Some}
use Rattle.dq_bell.specs.Seats.{LeaderSeat, CloserSeat, AtSameBell}
use Rattle.dq_bell.specs.Rolls.{RollState, StandsInLine, first_in, OthersStayInLine, GrowsIfFull, HandsLead}

-- who leads, who closes, who is in line, and who sleeps
pub record LineState : Type 0 where
  pub leader : LeaderSeat
  pub closer : CloserSeat
  pub roll : RollState
  pub sleeps : List Bool

-- the one at an index sleeps
abbrev pub SleepsAt : List Bool → ℕ → Type 0
SleepsAt sleeps i = slice_index_or sleeps i false ≡ true

-- the one at an index is awake
abbrev pub IsAwakeAt : List Bool → ℕ → Type 0
IsAwakeAt sleeps i = slice_index_or sleeps i false ≡ false

-- the same sleep
abbrev pub AllSleepOn : List Bool → List Bool → Type 0
AllSleepOn old new = (j : ℕ) → slice_index_or new j false ≡ slice_index_or old j false

-- of all others the same sleep
abbrev pub OthersSleepOn : List Bool → ℕ → List Bool → Type 0
OthersSleepOn old i new =
    (j : ℕ) → j ≢ i → slice_index_or new j false ≡ slice_index_or old j false

-- One was called: one index that slept is awake, and every other one sleeps on as it did.
abbrev pub CallsOne : List Bool → List Bool → Type 0
CallsOne old new = (i : ℕ) × SleepsAt old i × IsAwakeAt new i × OthersSleepOn old i new

-- it has looked at all hints since it said until when it sleeps
abbrev pub HasLooked : LeaderSeat → Type 0
HasLooked s = s.seen ≡ s.places

-- it closes the bell that this one leads, by the hint of its first place
abbrev pub ClosesBellOf : LeaderSeat → CloserSeat → Type 0
ClosesBellOf leader closer =
    (closer.hint.table ≡ leader.table) × (closer.hint.places ≡ leader.places) × (closer.hint.place ≡ 0)

-- Who sleeps is in line. The first in line sleeps only where the leader has looked at all hints.
pub record IsLine
    (leader : LeaderSeat) (closer : CloserSeat) (roll : RollState) (sleeps : List Bool) : Type 0 where
  pub in_line : (i : ℕ) → SleepsAt sleeps i → StandsInLine roll i
  pub led : (i : ℕ) → first_in roll ≡ Some i → SleepsAt sleeps i → HasLooked leader
  pub room : closer.is_closed ≡ false → length roll.places ≤ length sleeps
  pub bell : ClosesBellOf leader closer

-- Wherever anybody sleeps, somebody leads, who is awake or has looked at all hints.
abbrev pub IsLed : LineState → Type 0
IsLed l =
    (i : ℕ) → SleepsAt l.sleeps i
    → (f : ℕ) × (first_in l.roll ≡ Some f) × (SleepsAt l.sleeps f → HasLooked l.leader)

-- a line in which nobody waits, at a bell of so many places beside that of the closing
pub record IsFreshLine (places : ℕ) (l : LineState) : Type 0 where
  pub places_is : l.leader.places ≡ places + 1
  pub dealt : l.leader.dealt ≡ 1
  pub nobody : l.roll.count ≡ 0
  pub empty : length l.roll.places ≡ 0
  pub is_open : l.closer.is_closed ≡ false

-- the same are in line, and the same sleep; nothing else of it changed but until when it sleeps
pub record StaysInLine (old new : LineState) : Type 0 where
  pub bell : AtSameBell old.leader new.leader
  pub closer : new.closer ≡ old.closer
  pub roll : new.roll ≡ old.roll

-- the same are in line, in which the same one leads, and the same sleep
pub record IsSameLine (old new : LineState) : Type 0 where
  pub leader : new.leader ≡ old.leader
  pub closer : new.closer ≡ old.closer
  pub first : first_in new.roll ≡ first_in old.roll
  pub kept : (j : ℕ) → StandsInLine old.roll j → StandsInLine new.roll j
  pub none_more : (j : ℕ) → StandsInLine new.roll j → StandsInLine old.roll j
  pub sleeps : AllSleepOn old.sleeps new.sleeps

-- one joins, awake, and no other
pub record Joins (old : LineState) (i : ℕ) (new : LineState) : Type 0 where
  pub leader : new.leader ≡ old.leader
  pub closer : new.closer ≡ old.closer
  pub was_out : ¬ StandsInLine old.roll i
  pub is_in : StandsInLine new.roll i
  pub room : GrowsIfFull old.roll new.roll
  pub stay : OthersStayInLine old.roll i new.roll
  pub awake : IsAwakeAt new.sleeps i
  pub others : OthersSleepOn old.sleeps i new.sleeps
  pub first : (f : ℕ) → first_in old.roll ≡ Some f → first_in new.roll ≡ Some f
  pub leads : first_in old.roll ≡ None → first_in new.roll ≡ Some i

-- One in line that was awake sleeps. Where it leads it has looked at all hints since it said until
-- when.
pub record FallsAsleep (old : LineState) (i until : ℕ) (new : LineState) : Type 0 where
  pub stays : StaysInLine old new
  pub is_open : old.closer.is_closed ≡ false
  pub was_awake : IsAwakeAt old.sleeps i
  pub sleeps : SleepsAt new.sleeps i
  pub others : OthersSleepOn old.sleeps i new.sleeps
  pub leads : first_in old.roll ≡ Some i → (new.leader.until ≡ until) × HasLooked new.leader
  pub follows : first_in old.roll ≢ Some i → new.leader ≡ old.leader

-- why one may not fall asleep
abbrev pub MayNotSleep : LineState → ℕ → LineState → Type 0
MayNotSleep old i new =
    (old.closer.is_closed ≡ true) ⊎ ((¬ StandsInLine old.roll i) ⊎ (SleepsAt old.sleeps i
    ⊎ ((first_in old.roll ≡ Some i) × (new.leader.found ≡ true))))

-- it may not fall asleep, and nobody else does
pub record StaysAwake (old : LineState) (i : ℕ) (new : LineState) : Type 0 where
  pub stays : StaysInLine old new
  pub sleeps : new.sleeps ≡ old.sleeps
  pub follows : first_in old.roll ≢ Some i → new.leader ≡ old.leader
  pub reason : MayNotSleep old i new

-- one is awake from now on
pub record IsCalled (old : LineState) (i : ℕ) (new : LineState) : Type 0 where
  pub stays : StaysInLine old new
  pub awake : IsAwakeAt new.sleeps i
  pub others : OthersSleepOn old.sleeps i new.sleeps

-- One left the line, awake. Where it led, the one that leads now is awake, and was called if it
-- slept; else the same one leads. All others sleep on.
pub record LeavesLine (old : LineState) (i : ℕ) (called : Bool) (new : LineState) : Type 0 where
  pub leader : new.leader ≡ old.leader
  pub closer : new.closer ≡ old.closer
  pub is_out : ¬ StandsInLine new.roll i
  pub awake : IsAwakeAt new.sleeps i
  pub stay : OthersStayInLine old.roll i new.roll
  pub size : length new.roll.places ≡ length old.roll.places
  pub follows : first_in old.roll ≢ Some i → (first_in new.roll ≡ first_in old.roll) × (called ≡ false)
  pub next : first_in old.roll ≡ Some i → (f : ℕ) → first_in new.roll ≡ Some f →
      IsAwakeAt new.sleeps f × (called ≡ slice_index_or old.sleeps f false)
  pub sleep_on : (j : ℕ) → j ≢ i → (first_in old.roll ≢ Some i) ⊎ (first_in new.roll ≢ Some j) →
      slice_index_or new.sleeps j false ≡ slice_index_or old.sleeps j false

-- It was rung, where the answer of who lowered a hint says so: the one that leads is awake, and was
-- called if it slept.
pub record HearsRung (old : LineState) (rung called : Bool) (new : LineState) : Type 0 where
  pub stays : StaysInLine old new
  pub until : new.leader ≡ old.leader
  pub nobody : rung ≡ false → (new.sleeps ≡ old.sleeps) × (called ≡ false)
  pub leader : rung ≡ true → (f : ℕ) → first_in old.roll ≡ Some f →
      IsCalled old f new × (called ≡ slice_index_or old.sleeps f false)

-- It is closed for good. One that slept was called; where nobody was, nobody slept, and nobody
-- sleeps. So each that slept is called once until nobody is.
pub record ClosesLine (old : LineState) (called : Bool) (new : LineState) : Type 0 where
  pub leader : new.leader ≡ old.leader
  pub roll : new.roll ≡ old.roll
  pub closed : new.closer.is_closed ≡ true
  pub one : called ≡ true → CallsOne old.sleeps new.sleeps
  pub nobody : called ≡ false → (i : ℕ) → IsAwakeAt old.sleeps i
  pub all : called ≡ false → (i : ℕ) → IsAwakeAt new.sleeps i

-- One that is awake takes the lead. The one that led is out of the line, and gave what was to wake
-- it, exactly if it slept. Nobody else leaves, and all others sleep on.
pub record TakesLead (old : LineState) (i f : ℕ) (gave : Bool) (new : LineState) : Type 0 where
  pub bell : AtSameBell old.leader new.leader
  pub told : new.leader.until ≡ 0
  pub closer : new.closer ≡ old.closer
  pub roll : HandsLead old.roll i f new.roll
  pub sleeps : new.sleeps ≡ slice_set old.sleeps f false
  pub slept : gave ≡ slice_index_or old.sleeps f false

-- how many sleep
abbrev pub sleeping : List Bool → ℕ
sleeping [] = 0
sleeping (true ∷ sleeps) = sleeping sleeps + 1
sleeping (false ∷ sleeps) = sleeping sleeps
