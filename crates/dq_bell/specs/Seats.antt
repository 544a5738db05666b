-- Seats as contracts see them.

use Rattle.std.specs.Prelude.{◌≡◌, ℕ, ◌+◌, ◌*◌, ◌<◌, ◌≤◌, Bool, true, false}
use Rattle.atomic_table.specs.Seated.{TableId}
use Rattle.dq_bell.specs.declared.TheConstants.{NEVER}
use Rattle.dq_bell.specs.declared.hint.Rung.{Rung}
use Rattle.dq_bell.specs.declared.hint.Rung.TheVariants.{Nobody, Leader}

-- a hint: its bell, which has so many places, its place, the tick, how often its writer rang, and
-- until when it heard that the leader sleeps, as it asked since it wrote the hint
pub record HintSeat : Type 0 where
  pub table : TableId
  pub places : ℕ
  pub place : ℕ
  pub tick : ℕ
  pub rings : ℕ
  pub heard : ℕ

-- who closes: its hint, and whether it has closed
pub record CloserSeat : Type 0 where
  pub hint : HintSeat
  pub is_closed : Bool

-- what the hint of who closes is: 0 once it has closed
abbrev pub IsHintOfCloser : Bool → ℕ → Type 0
IsHintOfCloser false tick = tick ≡ NEVER
IsHintOfCloser true tick = tick ≡ 0

-- a lead: its bell, until when it said that it sleeps, at how many hints it has looked since,
-- whether it found an earlier one, and how many places have a hint
pub record LeaderSeat : Type 0 where
  pub table : TableId
  pub places : ℕ
  pub until : ℕ
  pub seen : ℕ
  pub found : Bool
  pub dealt : ℕ

-- the seat of a table sits at this one, of a bell of so many places
abbrev pub IsSeatOf : TableId → TableId → ℕ → ℕ → Type 0
IsSeatOf sits table key places =
    (sits ≡ table) × (table.words ≡ places * 16 + 1) × (key ≡ places) × (places < 65536)

-- the same place of the same bell
abbrev pub SamePlace : HintSeat → HintSeat → Type 0
SamePlace old new =
    (new.table ≡ old.table) × (new.places ≡ old.places) × (new.place ≡ old.place)

-- The answer says whether the leader was rung. It is rung exactly where it was heard to sleep beyond
-- the hint.
abbrev pub RungOnce : HintSeat → HintSeat → Rung → Type 0
RungOnce old new Nobody = (new.rings ≡ old.rings) × (new.heard ≤ new.tick)
RungOnce old new Leader = (new.rings ≡ old.rings + 1) × (new.tick < new.heard)

-- whether an answer says that the leader was rung
abbrev pub is_leader_rung : Rung → Bool
is_leader_rung Nobody = false
is_leader_rung Leader = true

-- the lead of a bell of so many places, none of which has a hint
abbrev pub IsFreshLeader : ℕ → LeaderSeat → Type 0
IsFreshLeader places s = (s.places ≡ places) × (s.dealt ≡ 0)

-- the same bell, with hints at as many places
abbrev pub AtSameBell : LeaderSeat → LeaderSeat → Type 0
AtSameBell old new = (new.table ≡ old.table) × (new.places ≡ old.places) × (new.dealt ≡ old.dealt)

-- the next place got its hint, where nothing waits
abbrev pub DealsHint : LeaderSeat → LeaderSeat → HintSeat → Type 0
DealsHint old new h =
    (new ≡ record old { dealt = old.dealt + 1 }) × (h.table ≡ old.table)
    × (h.places ≡ old.places) × (h.place ≡ old.dealt) × (h.tick ≡ NEVER)

-- it looked at one hint more
abbrev pub SeesOneMore : LeaderSeat → LeaderSeat → Type 0
SeesOneMore old new = new ≡ record old { seen = old.seen + 1 }

-- it found a hint before its tick
abbrev pub FindsEarlier : LeaderSeat → LeaderSeat → Type 0
FindsEarlier old new = new ≡ record old { found = true }
