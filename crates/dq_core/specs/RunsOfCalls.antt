-- The laws over whole runs reach each queue: its calls are runs of its machine.
use Rattle.std.specs.Prelude.{◌≡◌, ℕ, ◌≤◌, Bool, List, [], ◌∷◌, ◌++◌, Some, Result, Ok}
use Rattle.dq_ticks.specs.declared.keys.Key.{Key}
use Rattle.dq_ticks.specs.declared.keys.EntryId.{EntryId}
use Rattle.dq_core.specs.declared.errors.CoreError.{CoreError}
use Rattle.dq_core.specs.declared.outcomes.Removed.{Removed}
use Rattle.dq_core.specs.declared.outcomes.Expired.{Expired}
use Rattle.dq_core.specs.declared.outcomes.Turn.{Turn}
use Rattle.dq_core.specs.declared.outcomes.Turn.TheVariants.{Out}
use Rattle.dq_core.specs.declared.outcomes.Piece.{Piece}
use Rattle.dq_core.specs.declared.outcomes.Piece.TheVariants.{Answer}
use Rattle.dq_core.specs.declared.words.CallError.{CallError}
use Rattle.dq_core.specs.Machine.{Entry, Event, table_at, Run}
use Rattle.dq_core.specs.Core.{Core, machine, IsLawfulCore}
use Rattle.dq_core.specs.Calls.{SameCore, Inserts, Removes, Resets, TellsDeadline, Polls}
use Rattle.dq_core.specs.Calls.{IsFoundCancelled}
use Rattle.dq_core.specs.Pieces.{PollsSome}
use Rattle.dq_core.specs.Runs.{outs, RiseFrom, HasAlike, StaysOrLeft, HasEnded}
use Rattle.dq_core.specs.declared.errors.ReapError.{ReapError}
use Rattle.dq_core.specs.Sweeps.{Sweeps, SweepsSome, Reaps, Clears}
use Rattle.dq_core.specs.KeyCalls.{Extends, Cancels}

-- a run leads from one queue's machine to the other's, where entries of those deadlines expire
abbrev pub GoesByRun : {T W : Type 0} → Core T W → List ℕ → Core T W → Type 0
GoesByRun {T} b ds c =
    (es : List (Event T)) × Run b.slots.last_stamp (machine b) es (machine c) × (outs es ≡ ds)

-- the deadline of what a poll gave, where it gave an entry
abbrev pub given : {T : Type 0} → Result (Turn T) CoreError → List ℕ
given (Ok (Out x)) = x.deadline ∷ []
given r = []

-- that of what a poll in pieces gave
abbrev pub given_by_piece : {T : Type 0} → Result (Piece T) CoreError → List ℕ
given_by_piece (Ok (Answer turn)) = given (Ok turn)
given_by_piece r = []

-- if a call with some answer led from queue b to queue c, then a run leads there, on which a
-- poll's entry expires and no other
pub record CallsGoByRuns {T W : Type 0} (shared : Bool) (b c : Core T W) : Type 0 where
  pub insert :
      (value : T) (when : ℕ) (r : Result Key (CoreError × T))
      → Inserts b value when r c → GoesByRun b [] c
  pub remove :
      (id : EntryId) (r : Result (Removed T) CoreError)
      → Removes shared b id r c → GoesByRun b [] c
  pub reset :
      (id : EntryId) (when : ℕ) (r : Result Key CoreError)
      → Resets shared b id when r c → GoesByRun b [] c
  pub deadline :
      (id : EntryId) (r : Result ℕ CoreError)
      → TellsDeadline shared b id r c → GoesByRun b [] c
  pub poll :
      (tick : ℕ) (r : Result (Turn T) CoreError)
      → Polls shared b tick r c → GoesByRun b (given r) c
  pub poll_some :
      (tick most : ℕ) (r : Result (Piece T) CoreError)
      → PollsSome shared b tick most r c → GoesByRun b (given_by_piece r) c
  pub sweep : (reaped : ℕ) → Sweeps shared b reaped c → GoesByRun b [] c
  pub sweep_some :
      (from upto reaped : ℕ) → SweepsSome shared b from upto reaped c → GoesByRun b [] c
  pub reap :
      (id : EntryId) (r : Result (Unit {0}) ReapError) → Reaps shared b id r c → GoesByRun b [] c
  pub clear : (removed : ℕ) → Clears shared b removed c → GoesByRun b [] c
  pub extend :
      (k : Key) (when : ℕ) (r : Result ℕ CallError) → Extends b k when r c → GoesByRun b [] c
  pub cancel : (k : Key) (r : Result ℕ CallError) → Cancels b k r c → GoesByRun b [] c

-- each call that changes a queue is a run of its machine, also where the call is refused
abbrev pub CallsAreRuns : Type 0 → Type 0 → Type 0
CallsAreRuns T W = (shared : Bool) (b c : Core T W) → CallsGoByRuns shared b c

-- what is linked in a lawful queue was born at a stamp that its slot has had
abbrev pub NoBirthIsAhead : Type 0 → Type 0 → Type 0
NoBirthIsAhead T W =
    (c : Core T W) → IsLawfulCore c → (i : ℕ) (e : Entry T)
    → (table_at (machine c) i).entry ≡ Some e → e.born ≤ (table_at (machine c) i).stamp

-- a call as it is recorded: the deadlines of what it gave, and the queue that it left
pub record Recorded (T W : Type 0) : Type 0 where
  pub gave : List ℕ
  pub left : Core T W

-- calls, one after the other: each is a run from the queue that the one before it left, and the
-- last leaves c
abbrev pub GoesByCalls : {T W : Type 0} → Core T W → List (Recorded T W) → Core T W → Type 0
GoesByCalls b [] c = c ≡ b
GoesByCalls b (call ∷ calls) c =
    GoesByRun b call.gave call.left × SameCore b call.left × GoesByCalls call.left calls c

-- the deadlines of all that they gave, in their order
abbrev pub given_by_all : {T W : Type 0} → List (Recorded T W) → List ℕ
given_by_all [] = []
given_by_all (call ∷ calls) = call.gave ++ given_by_all calls

-- what holds over calls from queue b to queue c that gave entries of those deadlines
pub record HoldsOver {T W : Type 0} (b : Core T W) (ds : List ℕ) (c : Core T W) : Type 0 where
  -- the runs of all of them are one run
  pub run : GoesByRun b ds c
  -- what they gave came in the order of its deadlines, none before the tick at which they began
  pub order : RiseFrom b.wheel.filing.tick ds
  -- each entry that was linked in b is linked still, or one event of the run ended it
  pub leaves :
      (i : ℕ) (e : Entry T) → (table_at (machine b) i).entry ≡ Some e
      → StaysOrLeft i e run.0 (machine c)
  -- what had ended before stays ended: what is linked in c under a stamp that its slot had in b
  -- was linked there in b
  pub stays :
      (i : ℕ) (e : Entry T) → (table_at (machine c) i).entry ≡ Some e
      → e.born ≤ (table_at (machine b) i).stamp → HasAlike (machine b) i e
  -- and no entry that had expired, or was removed or cancelled, is live again
  pub ended : (i born : ℕ) → HasEnded (machine b) i born → HasEnded (machine c) i born
  -- no slot's stamp falls
  pub stamps : (i : ℕ) → (table_at (machine b) i).stamp ≤ (table_at (machine c) i).stamp

-- the laws of runs hold over any list of calls of a lawful queue
abbrev pub LawsHoldOverCalls : Type 0 → Type 0 → Type 0
LawsHoldOverCalls T W =
    (b c : Core T W) (calls : List (Recorded T W)) → IsLawfulCore b → GoesByCalls b calls c
    → HoldsOver b (given_by_all calls) c

-- What a call from queue b to queue c took out has ended there, and so has what it cancelled, or
-- found cancelled.
pub record LeftHasEnded {T W : Type 0} (shared : Bool) (b c : Core T W) : Type 0 where
  pub remove :
      (id : EntryId) (x : Removed T) → Removes shared b id (Ok x) c
      → HasEnded (machine c) id.index id.born
  pub poll :
      (tick : ℕ) (x : Expired T) → Polls shared b tick (Ok (Out x)) c
      → HasEnded (machine c) x.key.entry.index x.key.entry.born
  pub poll_some :
      (tick most : ℕ) (x : Expired T) → PollsSome shared b tick most (Ok (Answer (Out x))) c
      → HasEnded (machine c) x.key.entry.index x.key.entry.born
  pub cancel :
      (k : Key) (d born : ℕ) → Cancels b k (Ok d) c → born ≤ k.stamp
      → HasEnded (machine c) k.entry.index born
  pub found :
      (id : EntryId) → IsFoundCancelled shared b id c → HasEnded (machine c) id.index id.born

-- what a call of a lawful queue took out, cancelled, or found cancelled, has ended
abbrev pub WhatLeftHasEnded : Type 0 → Type 0 → Type 0
WhatLeftHasEnded T W =
    (shared : Bool) (b c : Core T W) → IsLawfulCore b → LeftHasEnded shared b c
