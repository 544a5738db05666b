-- How a store is polled: by pieces of its cores, each up to the tick before which no other core has
-- anything to give.
use Rattle.std.specs.Prelude.{◌≡◌, ◌≢◌, ◌⊎◌, ℕ, ◌<◌, ◌≤◌, Bool, min, max, List, length, slice_index_or}
use Rattle.std.specs.Prelude.{if◌then◌else◌, nat_lt, nat_eq, Option, Some, None, Result, Ok, Err}
use Rattle.dq_ticks.specs.declared.TheConstants.{LAST_TICK}
use Rattle.dq_core.specs.declared.errors.CoreError.{CoreError}
use Rattle.dq_core.specs.declared.errors.CoreError.TheVariants.{TickTooLarge}
use Rattle.dq_core.specs.declared.outcomes.Expired.{Expired}
use Rattle.dq_core.specs.declared.outcomes.Turn.TheVariants.{Out, Waiting, Idle}
use Rattle.dq_core.specs.declared.outcomes.Piece.{Piece}
use Rattle.dq_core.specs.declared.outcomes.Piece.TheVariants.{Answer, Working}
use Rattle.dq_core.specs.Core.{Core, machine}
use Rattle.dq_core.specs.Machine.{NoneLinked, NoneLiveBefore}
use Rattle.dq_core.specs.Calls.{TellsWake, Polls}
use Rattle.dq_core.specs.Pieces.{PollsSome}
use Rattle.dq_core.specs.Readers.{TellsLeast}
use Rattle.dq_core.specs.Deferring.{TakesDeferredValue, waiting_in}
use Rattle.dq_ticks.specs.declared.keys.Key.{Key}
use Rattle.dq_growing.specs.declared.TheConstants.{NEVER}
use Rattle.dq_growing.specs.declared.cores.Least.{Least}
use Rattle.dq_growing.specs.declared.cores.Due.{Due}
use Rattle.dq_growing.specs.declared.cores.Due.TheVariants.{In, Rests}
use Rattle.dq_growing.specs.Cores.{CoreRow, IsCoreAt, OnCoreAt}

-- what is least, once a core with that wake joins those before it
abbrev pub joined_with : Option Least → ℕ → Option ℕ → Option Least
joined_with l place None = l
joined_with None place (Some wake) = Some (record { place = place; wake = wake; others = NEVER })
joined_with (Some l) place (Some wake) =
    if nat_lt wake l.wake then Some (record { place = place; wake = wake; others = l.wake })
    else Some (record l { others = min l.others wake })

-- what a store answers where a piece of the core that wakes first came to an answer, and no other
-- core has a live entry with a deadline before `others`
abbrev pub told : {T : Type 0} → ℕ → ℕ → Piece T → Piece T
told noted others Working = Working
told noted others (Answer (Out x)) = Answer (Out x)
told noted others (Answer (Waiting next)) =
    if nat_lt noted others then Answer (Waiting (min next others)) else Working
told noted others (Answer Idle) =
    if nat_lt noted others then
    (if nat_eq others NEVER then Answer Idle else Answer (Waiting others))
    else Working

-- the core that has the turn, a tick before which no other one has a live entry with a deadline, and
-- such a tick of each of the first cores
pub record TurnState : Type 0 where
  pub place : ℕ
  pub others : ℕ
  pub bounds : List ℕ

-- what is known of the core at a place, 0 where nothing is
abbrev pub bound_at : List ℕ → ℕ → ℕ
bound_at bounds i = slice_index_or bounds i 0

-- nothing is known of the core that has the turn
abbrev pub AreTurns : TurnState → Type 0
AreTurns t = bound_at t.bounds t.place ≡ 0

-- what a core's next wake says of its entries: none where nothing is linked, and else a tick before
-- which no live entry has a deadline
abbrev pub WakeBounds : {T W : Type 0} → Core T W → Option ℕ → Type 0
WakeBounds c None = NoneLinked (machine c)
WakeBounds c (Some w) = NoneLiveBefore (machine c) w × (¬ NoneLinked (machine c)) × (w ≤ NEVER)

module _ {T W : Type 0} where
  -- nothing is linked in the first n cores
  abbrev pub AreIdleBelow : List (Core T W) → ℕ → Type 0
  AreIdleBelow cores n =
      (i : ℕ) (c : Core T W) → i < n → IsCoreAt cores i c → NoneLinked (machine c)

  -- of the first n cores one has the least wake, and no other has a live entry with a deadline
  -- before that tick
  pub record IsLeastBelow (cores : List (Core T W)) (n : ℕ) (l : Least) : Type 0 where
    pub core : Core T W
    pub at : IsCoreAt cores l.place core
    pub below : l.place < n
    pub wake : TellsWake core (Some l.wake)
    pub own : NoneLiveBefore (machine core) l.wake
    pub linked : ¬ NoneLinked (machine core)
    pub first : l.wake ≤ l.others
    pub others :
        (i : ℕ) (c : Core T W) → i < n → i ≢ l.place → IsCoreAt cores i c →
        NoneLiveBefore (machine c) l.others

  -- what is least of the first n cores, none where nothing is linked in them
  abbrev pub TellsLeastBelow : List (Core T W) → ℕ → Option Least → Type 0
  TellsLeastBelow cores n None = AreIdleBelow cores n
  TellsLeastBelow cores n (Some l) = IsLeastBelow cores n l

  -- no core of the store has a live entry with a deadline before a tick
  abbrev pub NoneLiveIn : CoreRow T W → ℕ → Type 0
  NoneLiveIn s t = (i : ℕ) (c : Core T W) → IsCoreAt s.cores i c → NoneLiveBefore (machine c) t

  -- a store with a greater tick noted
  abbrev pub noting_in : CoreRow T W → ℕ → CoreRow T W
  noting_in s tick = record s { noted = max s.noted tick }

  -- nothing is due: either nothing is linked, or the least wake is after the noted tick
  abbrev pub RestsIn : CoreRow T W → Piece T → Type 0
  RestsIn s (Answer Idle) = AreIdleBelow s.cores (length s.cores)
  RestsIn s (Answer (Waiting next)) =
      (l : Least) × IsLeastBelow s.cores (length s.cores) l × (l.wake ≡ next) × (s.noted < next)
  RestsIn s p = ⊥

  -- no core but the one at a place has a live entry with a deadline before a tick
  abbrev pub OthersAreQuiet : CoreRow T W → ℕ → ℕ → Type 0
  OthersAreQuiet s place t =
      (i : ℕ) (c : Core T W) → i ≢ place → IsCoreAt s.cores i c → NoneLiveBefore (machine c) t

  -- no live entry of a core has a deadline before what is known of it
  abbrev pub AreBounded : CoreRow T W → List ℕ → Type 0
  AreBounded s bounds =
      (i : ℕ) (c : Core T W) → IsCoreAt s.cores i c → NoneLiveBefore (machine c) (bound_at bounds i)

  -- what is known of the turns is so
  abbrev pub KeepsTurns : CoreRow T W → TurnState → Type 0
  KeepsTurns s t = OthersAreQuiet s t.place t.others × AreBounded s t.bounds

  -- a core has the turn: no other one has anything up to the noted tick, or it wakes by what they have
  abbrev pub HasTurn : CoreRow T W → ℕ → ℕ → Type 0
  HasTurn s place others =
      (s.noted < others)
      ⊎ ((w : ℕ) × (c : Core T W) × IsCoreAt s.cores place c × TellsWake c (Some w) × (w ≤ others))

  -- one core is polled, up to the noted tick, or up to a tick before which no other core has a live
  -- entry with a deadline
  pub record PollsCore (Did : ℕ → Piece T → Core T W → Core T W → Type 0) (s : CoreRow T W)
      (p : Piece T) (t : CoreRow T W) : Type 0 where
    pub place : ℕ
    pub others : ℕ
    pub quiet : OthersAreQuiet s place others
    pub turn : HasTurn s place others
    pub made : Piece T
    pub did : OnCoreAt place (Did (min s.noted others) made) s t
    pub tells : p ≡ told s.noted others made

  -- a piece of a core's poll, of at most so many steps
  abbrev pub DoesPiece : Bool → ℕ → ℕ → Piece T → Core T W → Core T W → Type 0
  DoesPiece shared most tick made b c = PollsSome shared b tick most (Ok made) c

  -- a whole poll of a core
  abbrev pub DoesPoll : Bool → ℕ → Piece T → Core T W → Core T W → Type 0
  DoesPoll shared tick (Answer turn) b c = Polls shared b tick (Ok turn) c
  DoesPoll shared tick Working b c = ⊥

  -- a store is polled so, or the poll is refused: exactly beyond the last tick, and then nothing
  -- changes
  abbrev pub PollsRow : (ℕ → Piece T → Core T W → Core T W → Type 0) → CoreRow T W → ℕ
      → Result (Piece T) CoreError → CoreRow T W → Type 0
  PollsRow Did s tick (Ok p) t =
      (tick ≤ LAST_TICK)
      × ((RestsIn (noting_in s tick) p × (t ≡ noting_in s tick))
      ⊎ PollsCore Did (noting_in s tick) p t)
  PollsRow Did s tick (Err e) t =
      (e ≡ TickTooLarge LAST_TICK) × (LAST_TICK < tick) × (t ≡ s)

  -- what is to be polled: one core, up to what the others have; or nothing is due
  abbrev pub TellsDue : CoreRow T W → Due → Type 0
  TellsDue s (In place others) =
      (place < length s.cores) × OthersAreQuiet s place others × HasTurn s place others
  TellsDue s (Rests None) = RestsIn s (Answer Idle)
  TellsDue s (Rests (Some next)) = RestsIn s (Answer (Waiting next))

  -- the tick at which a store has something to do next, none where nothing is linked
  abbrev pub TellsWakeIn : CoreRow T W → Option ℕ → Type 0
  TellsWakeIn s None = AreIdleBelow s.cores (length s.cores)
  TellsWakeIn s (Some w) = (l : Least) × IsLeastBelow s.cores (length s.cores) l × (l.wake ≡ w)

  -- what the core that wakes first names as scheduled first, none where nothing is linked
  abbrev pub PeeksIn : CoreRow T W → Option Key → Type 0
  PeeksIn s None = AreIdleBelow s.cores (length s.cores)
  PeeksIn s (Some k) =
      (l : Least) × (c : Core T W) × IsLeastBelow s.cores (length s.cores) l
      × IsCoreAt s.cores l.place c × TellsLeast c (Some k)

  -- no value waits for its drop in any core
  abbrev pub NoneWaits : CoreRow T W → Type 0
  NoneWaits s = (i : ℕ) (c : Core T W) → IsCoreAt s.cores i c → waiting_in c.deferred ≡ 0

  -- a value that waits in a core is taken out, and nothing else changes
  abbrev pub TakesDeferredAt : T → Core T W → Core T W → Type 0
  TakesDeferredAt v b c =
      TakesDeferredValue b.deferred (Some v) c.deferred × (c ≡ record b { deferred = c.deferred })

  -- a value that waits is taken out; none comes exactly where none waits
  abbrev pub TakesDeferredIn : CoreRow T W → Option T → CoreRow T W → Type 0
  TakesDeferredIn s None t = NoneWaits s × (t ≡ s)
  TakesDeferredIn s (Some v) t = (i : ℕ) × OnCoreAt i (TakesDeferredAt v) s t

-- where a piece took an entry out
abbrev pub IfPieceOut : {T : Type 0} → Result (Piece T) CoreError → (Expired T → Type 0) → Type 0
IfPieceOut (Ok (Answer (Out x))) P = P x
IfPieceOut r P = Unit {0}

-- where a poll found nothing due: by the tick that it waits for, none where it is idle
abbrev pub IfPieceRests : {T : Type 0} →
    Result (Piece T) CoreError → (Option ℕ → Type 0) → Type 0
IfPieceRests (Ok (Answer (Waiting next))) P = P (Some next)
IfPieceRests (Ok (Answer Idle)) P = P None
IfPieceRests r P = Unit {0}
