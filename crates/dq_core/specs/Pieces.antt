-- A poll in pieces: each call makes at most so many steps, and a slot that starts is opened as it
-- is, so no step goes through all of its indexes.
use Rattle.std.specs.Prelude.{max, ◌≡◌, ◌≢◌, ℕ, ◌+◌, ◌-◌, ◌*◌, ◌<◌, ◌≤◌, ◌⊎◌, ◌==◌, Bool, true}
use Rattle.std.specs.Prelude.{false, List, [], ◌∷◌, Option, Some, None, Result, Ok, Err, length}
use Rattle.std.specs.Prelude.{if◌then◌else◌}
use Rattle.std.specs.List.{sum_by}
use Rattle.dq_ticks.specs.declared.words.Parts.{Parts}
use Rattle.dq_ticks.specs.declared.words.Mark.TheVariants.{LiveMark}
use Rattle.dq_ticks.specs.declared.TheConstants.{LAST_TICK}
use Rattle.dq_wheel.specs.State.{Filing, filed_at, NoneFiledAt}
use Rattle.dq_wheel.specs.Arrivals.{ArrivesAtWake}
use Rattle.dq_wheel.specs.Moves.{ReachesLimit}
use Rattle.dq_core.specs.declared.errors.CoreError.{CoreError}
use Rattle.dq_core.specs.declared.errors.CoreError.TheVariants.{TickTooLarge}
use Rattle.dq_core.specs.declared.outcomes.Turn.{Turn}
use Rattle.dq_core.specs.declared.outcomes.Turn.TheVariants.{Out}
use Rattle.dq_core.specs.declared.outcomes.Piece.{Piece}
use Rattle.dq_core.specs.declared.outcomes.Piece.TheVariants.{Answer, Working}
use Rattle.dq_core.specs.declared.outcomes.Pace.{Pace}
use Rattle.dq_core.specs.declared.outcomes.Pace.TheVariants.{Whole, InPieces}
use Rattle.dq_core.specs.declared.outcomes.Progress.{Progress}
use Rattle.dq_core.specs.declared.outcomes.Progress.TheVariants.{Gave, Went, Rests}
use Rattle.dq_core.specs.Machine.{Machine, Note, Step, RunOf, IsOnTheWay, NoneLiveBefore}
use Rattle.dq_core.specs.Words.{word_at}
use Rattle.dq_core.specs.Core.{Core, machine, filing_for}
use Rattle.dq_core.specs.Calls.{LooksOver, IsTurn, TurnRow, turn_counts, IsProgress, noting}
use Rattle.dq_core.specs.WheelWays.{TakesOut, FilesLater}

-- where none is filed at the tick, the wheel goes on: it arrives at its next wake, or goes to the
-- limit where there is no wake up to it
abbrev pub ArrivesOn : ℕ → Filing → Filing → Type 0
ArrivesOn limit v w =
    (v.tick < limit) × NoneFiledAt v.filed v.tick
    × (ArrivesAtWake v limit w ⊎ ReachesLimit v limit w)

-- one step of the wheel, over those known words
abbrev pub PieceStep : Bool → List Parts → ℕ → Filing → Filing → Type 0
PieceStep shared known limit v w =
    TakesOut v w ⊎ (FilesLater shared known v w ⊎ ArrivesOn limit v w)

-- such steps, one after the other, through those filings
abbrev pub ComesThrough : Bool → List Parts → ℕ → Filing → List Filing → Filing → Type 0
ComesThrough shared known limit v [] w = w ≡ v
ComesThrough shared known limit v (u ∷ us) w =
    PieceStep shared known limit v u × ComesThrough shared known limit u us w

-- the wheel's way from one filing to another, by at most so many steps
abbrev pub WheelComes : Bool → List Parts → ℕ → ℕ → Filing → Filing → Type 0
WheelComes shared known limit most v w =
    (us : List Filing) × (length us ≤ most) × ComesThrough shared known limit v us w

-- how an index is filed after some pieces: nowhere; as before or earlier, with its word as it was
-- known; or by its known deadline, at a tick that was passed, or earlier
abbrev pub IsFiledByThen : Filing → List Parts → Filing → List Parts → ℕ → Type 0
IsFiledByThen v old w new i =
    (filed_at w.filed i ≡ None)
    ⊎ (((f g : ℕ) × (filed_at v.filed i ≡ Some f) × (filed_at w.filed i ≡ Some g) × (g ≤ f)
    × (word_at new i ≡ word_at old i))
    ⊎ ((t g : ℕ) × (v.tick ≤ t) × (t ≤ w.tick) × ((word_at new i).mark ≡ LiveMark)
    × (filed_at w.filed i ≡ Some g) × (g ≤ filing_for t (word_at new i).field)))

-- the way from one queue to another, by at most so many steps
pub record IsComing {T W : Type 0} (shared : Bool) (most : ℕ) (b c : Core T W) : Type 0 where
  pub way : RunOf (IsOnTheWay shared) b.slots.last_stamp (machine b) (machine c)
  pub looks : LooksOver shared b.known c.known
  pub wheel : WheelComes shared b.known b.noted most b.wheel.filing c.wheel.filing
  pub ticks : b.wheel.filing.tick ≤ c.wheel.filing.tick
  pub filed : (i : ℕ) → IsFiledByThen b.wheel.filing b.known c.wheel.filing c.known i
  pub counts : c.counts ≡ b.counts

-- the way to an answer, by at most so many steps
pub record IsAnsweredBy {T W : Type 0} (shared : Bool) (most : ℕ) (b : Core T W) (turn : Turn T)
    (c : Core T W) : Type 0 where
  pub run :
      (m : Machine T) × RunOf (IsOnTheWay shared) b.slots.last_stamp (machine b) m
      × IsTurn b.shard b.slots.last_stamp m turn (machine c) c.wheel.filing
  pub row : TurnRow shared b.known turn c.known
  pub wheel : WheelComes shared b.known b.noted most b.wheel.filing c.wheel.filing
  pub ticks : b.wheel.filing.tick ≤ c.wheel.filing.tick
  pub filed : (i : ℕ) → IsFiledByThen b.wheel.filing b.known c.wheel.filing c.known i
  pub counts : c.counts ≡ turn_counts b.counts turn

-- 1 where an index is filed at that tick
abbrev pub due_step : ℕ → Option ℕ → ℕ
due_step tick None = 0
due_step tick (Some f) = if f == tick then 1 else 0

-- how many steps are left at the most: two for each index that is due, a look and one that settles
-- it, and for each tick up to the noted one twice as many as there are slots, and the step to it
abbrev pub steps_left : {T W : Type 0} → Core T W → ℕ
steps_left c =
    (c.noted - c.wheel.filing.tick) * (2 * length c.slots.rows + 1)
    + 2 * sum_by (due_step c.wheel.filing.tick) c.wheel.filing.filed

-- some index is filed at the wheel's tick
abbrev pub IsSomeDue : {T W : Type 0} → Core T W → Type 0
IsSomeDue c = (i : ℕ) × (filed_at c.wheel.filing.filed i ≡ Some c.wheel.filing.tick)

-- a step leaves at least one step fewer, and two where one was due
abbrev pub LeavesFewer : {T W : Type 0} → Core T W → Core T W → Type 0
LeavesFewer b c =
    (steps_left c + 1 ≤ steps_left b) × (IsSomeDue b → steps_left c + 2 ≤ steps_left b)

-- what one step does
abbrev pub IsPieceStep : {T W : Type 0} → Bool → Core T W → Progress T → Core T W → Type 0
IsPieceStep shared b (Gave x) c = IsAnsweredBy shared 1 b (Out x) c
IsPieceStep shared b Went c = IsComing shared 1 b c × LeavesFewer b c
IsPieceStep shared b Rests c =
    (c ≡ b) × (c.wheel.filing.tick ≡ c.noted) × NoneLiveBefore (machine c) (c.noted + 1)
    × ((i : ℕ) → filed_at c.wheel.filing.filed i ≢ Some c.wheel.filing.tick)

-- what steps do of which so many are made over the words
abbrev pub IsPieceBy : {T W : Type 0} → Bool → Core T W → ℕ → Progress T → Core T W → Type 0
IsPieceBy shared b made (Gave x) c = IsAnsweredBy shared 1 b (Out x) c
IsPieceBy shared b made Went c = IsComing shared made b c × (steps_left c + made ≤ steps_left b)
IsPieceBy shared b made Rests c = IsPieceStep shared b Rests c

-- a due index is settled by a look at its word, which is one step; or its word is live at the tick,
-- and then nothing changes but what the words are
abbrev pub SettlesByLook : {T W : Type 0} → Bool → Core T W → Bool → Core T W → Type 0
SettlesByLook shared b true c = IsComing shared 1 b c × (steps_left c + 2 ≤ steps_left b)
SettlesByLook shared b false c = c ≡ record b { words = c.words }

-- so many looks at due indexes: each settled its own, but for the last one, which may have settled none
abbrev pub LooksOn : {T W : Type 0} → Bool → Core T W → ℕ → Core T W → Type 0
LooksOn shared b made c = IsComing shared made b c × (steps_left c + made ≤ steps_left b + 1)

-- an index, where there is one, is due
abbrev pub IfDue : Filing → Option ℕ → Type 0
IfDue w None = Unit {0}
IfDue w (Some i) = (i < length w.filed) × (filed_at w.filed i ≡ Some w.tick)

-- what one step does at that pace
abbrev pub IsStepAt : {T W : Type 0} → Bool → Pace → Core T W → Progress T → Core T W → Type 0
IsStepAt shared Whole b made c = IsProgress shared b made c
IsStepAt shared InPieces b made c = IsPieceStep shared b made c

-- an index that is due is settled, by a step of a poll that is one of a poll in pieces too; where
-- none is due nothing changes
abbrev pub SettlesDue : {T W : Type 0} →
    Bool → Core T W → Option (Progress T) → Core T W → Type 0
SettlesDue shared b (Some made) c = IsProgress shared b made c × IsPieceStep shared b made c
SettlesDue shared b None c = (c ≡ b) × NoneFiledAt b.wheel.filing.filed b.wheel.filing.tick

-- what is left of a queue after a piece, which makes at most so many steps: its answer, or so many
-- steps fewer
abbrev pub IsPieceOf : {T W : Type 0} → Bool → Core T W → ℕ → Piece T → Core T W → Type 0
IsPieceOf shared b most (Answer turn) c = IsAnsweredBy shared most b turn c
IsPieceOf shared b most Working c =
    IsComing shared most b c × (steps_left c + most ≤ steps_left b)

-- a poll in pieces notes its tick, and makes at most so many steps
abbrev pub IsPolledSome : {T W : Type 0} →
    Bool → Core T W → ℕ → ℕ → Piece T → Core T W → Type 0
IsPolledSome shared b tick most piece c =
    (tick ≤ LAST_TICK) × Step b.slots.last_stamp (machine b) (Note tick) (machine (noting b tick))
    × IsPieceOf shared (noting b tick) most piece c × (c.noted ≡ max b.noted tick)

-- such a poll, or its refusal: exactly beyond the last tick, and then nothing changes
abbrev pub PollsSome : {T W : Type 0} →
    Bool → Core T W → ℕ → ℕ → Result (Piece T) CoreError → Core T W → Type 0
PollsSome shared b tick most (Ok piece) c = IsPolledSome shared b tick most piece c
PollsSome shared b tick most (Err e) c =
    (e ≡ TickTooLarge LAST_TICK) × (LAST_TICK < tick) × (c ≡ b)

-- the answer of a poll in pieces, where it came to one
abbrev pub IfAnswer : {T : Type 0} →
    Result (Piece T) CoreError → (Result (Turn T) CoreError → Type 0) → Type 0
IfAnswer (Ok (Answer turn)) P = P (Ok turn)
IfAnswer r P = Unit {0}
