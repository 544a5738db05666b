-- What holds over any list of a store's calls.
use Rattle.std.specs.Prelude.{◌≡◌, ◌≢◌, ◌⊎◌, ℕ, ◌<◌, ◌≤◌, List, [], ◌∷◌, Option, Some, None}
use Rattle.dq_ticks.specs.declared.keys.EntryId.{EntryId}
use Rattle.dq_core.specs.Core.{Core, machine}
use Rattle.dq_core.specs.Folds.{FoldedCore, folded_machine}
use Rattle.dq_core.specs.Machine.{Entry}
use Rattle.dq_growing.specs.Cores.{CoreRow, GivesDrained}
use Rattle.dq_growing.specs.Notes.{ArePastBy, numbers_of}
use Rattle.dq_growing.specs.Stands.{IsPastIn}
use Rattle.dq_growing.specs.Store.{StoreState, StandsFor, HasFor, HasOneValue, NoneStandsFor, GoesOut}
use Rattle.dq_growing.specs.declared.moving.NextDeadline.{NextDeadline}
use Rattle.dq_growing.specs.declared.moving.NextDeadline.TheVariants.{Same, At, SameIfAfter}

-- a call: what it gave out, under its user's id and with its value, and the store that it left
pub record StoreCall (T W : Type 0) : Type 0 where
  pub gave : Option (EntryId × T)
  pub left : StoreState T W

-- a deadline in force isn't before a tick; what was cancelled has none
abbrev pub IsNotBefore : ℕ → Option ℕ → Type 0
IsNotBefore tick None = Unit {0}
IsNotBefore tick (Some due) = tick ≤ due

-- a move asks for no deadline of its own
abbrev pub KeepsItsDeadline : NextDeadline → Type 0
KeepsItsDeadline Same = Unit {0}
KeepsItsDeadline (At tick) = ⊥
KeepsItsDeadline (SameIfAfter tick) = Unit {0}

module _ {T W : Type 0} where
  -- an entry has had an id: its number is a used one, and no new entry gets the id
  abbrev pub IsUsedId : StoreState T W → EntryId → Type 0
  IsUsedId s u = (u.shard < s.cores.next) × IsPastIn s.cores u

  -- what a call leaves of an id that an entry has had: no new entry gets it; the entry stands with its
  -- value as before, or has left; and what stands under the id stood under it before
  pub record KeepsId (s t : StoreState T W) (u : EntryId) : Type 0 where
    pub given : IsUsedId t u
    pub stays : (v : T) → HasFor s u v → HasFor t u v ⊎ NoneStandsFor t u
    pub stood : (v : T) → HasFor t u v → HasFor s u v

  -- so of each id that an entry has had
  abbrev pub KeepsIds : StoreState T W → StoreState T W → Type 0
  KeepsIds s t = (u : EntryId) → IsUsedId s u → KeepsId s t u

  -- no new entry gets an id that one has had; and a call kept each such id but one
  abbrev pub KeepsOtherIds : EntryId → StoreState T W → StoreState T W → Type 0
  KeepsOtherIds id s t = (u : EntryId) → IsUsedId s u → IsUsedId t u × (u ≢ id → KeepsId s t u)

  -- so of each such id that a core which comes in doesn't give anew
  abbrev pub KeepsIdsBeside : Core T W → StoreState T W → StoreState T W → Type 0
  KeepsIdsBeside c s t =
      (u : EntryId) → ArePastBy (numbers_of u) c → IsUsedId s u → KeepsId s t u

  -- whatever stands under an id isn't due before a tick
  abbrev pub NotDueBefore : StoreState T W → EntryId → ℕ → Type 0
  NotDueBefore s u tick = (e : Entry T) → StandsFor s u e → IsNotBefore tick e.due

  -- the deadline of what stands under an id didn't fall
  abbrev pub HoldsDeadline : StoreState T W → StoreState T W → EntryId → Type 0
  HoldsDeadline s t u = (tick : ℕ) → NotDueBefore s u tick → NotDueBefore t u tick

  -- so of each id that an entry has had
  abbrev pub HoldsDeadlines : StoreState T W → StoreState T W → Type 0
  HoldsDeadlines s t = (u : EntryId) → IsUsedId s u → HoldsDeadline s t u

  -- so of each such id but one
  abbrev pub HoldsOtherDeadlines : EntryId → StoreState T W → StoreState T W → Type 0
  HoldsOtherDeadlines id s t = (u : EntryId) → u ≢ id → IsUsedId s u → HoldsDeadline s t u

  -- a tick isn't before the deadline of what stands under an id, which is live
  abbrev pub LeavesInForce : StoreState T W → EntryId → ℕ → Type 0
  LeavesInForce s u at = (tick : ℕ) → NotDueBefore s u tick → tick ≤ at

  -- no entry had had an id, and one has it now
  abbrev pub GivesId : StoreState T W → EntryId → StoreState T W → Type 0
  GivesId s u t = (¬ IsUsedId s u) × IsUsedId t u

  -- what a call gave out, if it did: that stood under its user's id, and none stands there any more
  abbrev pub GaveOut : StoreState T W → Option (EntryId × T) → StoreState T W → Type 0
  GaveOut s None t = Unit {0}
  GaveOut s (Some (u, v)) t = GoesOut s u v t

  -- calls, one after the other, from that store on: each kept an id
  abbrev pub GoesByStoreCalls : EntryId → StoreState T W → List (StoreCall T W) → Type 0
  GoesByStoreCalls u s [] = Unit {0}
  GoesByStoreCalls u s (call ∷ calls) =
      (IsUsedId s u → KeepsId s call.left u) × GaveOut s call.gave call.left
      × GoesByStoreCalls u call.left calls

  -- a call gave nothing out under an id
  abbrev pub GaveNone : EntryId → StoreCall T W → Type 0
  GaveNone u call = (v : T) → call.gave ≢ Some (u, v)

  -- none of those calls gave anything out under an id, and none stands there after one of them
  abbrev pub NoneFrom : EntryId → List (StoreCall T W) → Type 0
  NoneFrom u [] = Unit {0}
  NoneFrom u (call ∷ calls) = NoneStandsFor call.left u × GaveNone u call × NoneFrom u calls

  -- an entry stands with its value until one of those calls. If that gave it out, then with its value;
  -- no other call gave anything out under its id, and none stands there from then on
  abbrev pub StandsUntil : EntryId → T → List (StoreCall T W) → Type 0
  StandsUntil u v [] = Unit {0}
  StandsUntil u v (call ∷ calls) =
      (HasFor call.left u v × GaveNone u call × StandsUntil u v calls)
      ⊎ (NoneStandsFor call.left u × ((w : T) → call.gave ≡ Some (u, w) → w ≡ v)
      × NoneFrom u calls)

-- an entry leaves at most once, and has its value until then
abbrev pub StoreEntriesLeaveOnce : Type 0 → Type 0 → Type 0
StoreEntriesLeaveOnce T W =
    (u : EntryId) (v : T) (s : StoreState T W) (calls : List (StoreCall T W)) → IsUsedId s u →
    HasOneValue s u → GoesByStoreCalls u s calls → HasFor s u v → StandsUntil u v calls

-- under an id whose entry has left none stands ever again, and nothing is given out
abbrev pub StoreEndedStaysEnded : Type 0 → Type 0 → Type 0
StoreEndedStaysEnded T W =
    (u : EntryId) (s : StoreState T W) (calls : List (StoreCall T W)) → IsUsedId s u →
    GoesByStoreCalls u s calls → NoneStandsFor s u → NoneFrom u calls

-- a core was folded, and unfolded again: its number and its machine stayed
abbrev pub IsUnfoldedFrom : {T W : Type 0} → Core T W → Core T W → Type 0
IsUnfoldedFrom {T} {W} c d =
    (f : FoldedCore W) × (f.shard ≡ c.shard) × (folded_machine f ≡ machine c)
    × (d.shard ≡ f.shard) × (machine d ≡ folded_machine f)

-- A core of an unused number gives no id anew that an entry has had, nor does one that has drained,
-- even where it was folded and unfolded.
pub record CoresGiveNoneAnew (T W : Type 0) : Type 0 where
  pub unused :
      (u : EntryId) (s : StoreState T W) (c : Core T W) → IsUsedId s u → s.cores.next ≤ c.shard →
      ArePastBy (numbers_of u) c
  pub drained :
      (u : EntryId) (s : StoreState T W) (c : Core T W) (t : CoreRow T W) → IsUsedId s u →
      GivesDrained s.cores c t → ArePastBy (numbers_of u) c
  pub unfolded :
      (u : EntryId) (c d : Core T W) → ArePastBy (numbers_of u) c → IsUnfoldedFrom c d →
      ArePastBy (numbers_of u) d
