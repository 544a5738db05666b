-- Cores that are away from a shard: each left it drained, and may come back.
--
-- Each that leaves has a loan, with a number of its own. A register of the shard has an entry of that
-- number as the core leaves, and one more as it comes back.
use Rattle.std.specs.Prelude.{◌≡◌, ℕ, ◌≤◌, Bool, false, not, List, [], ◌∷◌, Option, Some, None, Result, Ok, Err}
use Rattle.atomic_table.specs.Seated.{TableId}
use Rattle.dq_ticks.specs.declared.keys.EntryId.{EntryId}
use Rattle.dq_core.specs.Core.{Core, machine}
use Rattle.dq_core.specs.Folds.{FoldedCore, folded_machine}
use Rattle.dq_core.specs.Machine.{Machine, table_at}
use Rattle.dq_words.specs.Claims.{Claimed}
use Rattle.dq_growing.specs.declared.cores.TakeError.{TakeError}
use Rattle.dq_growing.specs.Cores.{HasNo}
use Rattle.dq_growing.specs.Notes.{ArePastBy, numbers_of}
use Rattle.dq_growing.specs.Sized.{SizedState}
use Rattle.dq_growing.specs.Store.{StoreState}
use Rattle.dq_queue.specs.declared.journal.views.Entry.{Entry}
use Rattle.dq_queue.specs.declared.journal.views.View.{View}
use Rattle.dq_queue.specs.History.{entry, entries_by}
use Rattle.dq_queue.specs.Once.{IsWithNumber}
use Rattle.dq_words.specs.OpenCalls.{Open}
use Rattle.dq_words.specs.Seats.{Sat}
use Rattle.dq_queue.specs.Calls.{StoreGives, StoreRefuses, StoreTakesIn}
use Rattle.dq_queue.specs.Claims.{HasClaim, IsClaimed}
use Rattle.dq_queue.specs.Runs.{KeepsGivenIds, WasGivenIn}

-- whether a core is away, by its loan's entries: one was made as it left, the next as it came back
abbrev pub is_away : {E : Type 0} → List (Entry E) → Bool
is_away [] = false
is_away (e ∷ es) = not (is_away es)

-- a core that left, the number of its shard, and what its loan knows
pub record DrainedView (T : Type 0) : Type 0 where
  pub core : Core T Sat
  pub shard : ℕ
  pub loan : View (Core T Sat)

-- so of one that is folded
pub record FoldedView (T : Type 0) : Type 0 where
  pub folded : FoldedCore Sat
  pub shard : ℕ
  pub loan : View (Core T Sat)

module _ {T : Type 0} where
  -- by its loan's entries a core is away; it was this when it left
  abbrev pub IsAwayBy : List (Entry (Core T Sat)) → ℕ → Core T Sat → Type 0
  IsAwayBy mine loan c =
      (rest : List (Entry (Core T Sat))) × (mine ≡ entry loan (Some c) ∷ rest)
      × (is_away rest ≡ false)

  -- so by a register
  abbrev pub IsAway : List (Entry (Core T Sat)) → ℕ → Core T Sat → Type 0
  IsAway register loan c = IsAwayBy (entries_by loan register) loan c

  -- What a core has become has its number and its words, and gives no id anew that it wouldn't have
  -- given.
  pub record IsStill (c : Core T Sat) (number : ℕ) (words : TableId) (m : Machine T) : Type 0 where
    pub same : (number ≡ c.shard) × (words ≡ c.words.table)
    pub past :
        (u : EntryId) → ArePastBy (numbers_of u) c → u.shard ≡ number →
        u.born ≤ (table_at m u.index).stamp

  -- what has that number, those words and that machine is still a core that is away by a loan
  abbrev pub IsLent : View (Core T Sat) → ℕ → TableId → Machine T → Type 0
  IsLent loan number words m =
      IsWithNumber loan
      × ((c : Core T Sat) × IsAwayBy loan.mine loan.number c × IsStill c number words m)

  -- so of a core, and of a folded one
  abbrev pub IsLentCore : View (Core T Sat) → Core T Sat → Type 0
  IsLentCore loan c = IsLent loan c.shard c.words.table (machine c)

  abbrev pub IsLentFold : View (Core T Sat) → FoldedCore Sat → Type 0
  IsLentFold loan f = IsLent loan f.shard f.words.table (folded_machine f)

  -- What a shard keeps of its history and of the cores that are away. Its claims have the number of
  -- each id that had been given, and of each core that is away. None of these gives such an id anew,
  -- no core of their numbers is in the store, and no two of them have one number.
  pub record LoansAreKept (log : List (Entry (SizedState T Sat))) (store : StoreState T Sat)
      (register : List (Entry (Core T Sat))) (claims : List (Claimed Open)) : Type 0 where
    pub ids : KeepsGivenIds log
    pub known : (u : EntryId) → WasGivenIn log u → HasClaim claims u.shard
    pub past :
        (u : EntryId) → WasGivenIn log u → (loan : ℕ) (c : Core T Sat) → IsAway register loan c →
        ArePastBy (numbers_of u) c
    pub away :
        (loan : ℕ) (c : Core T Sat) → IsAway register loan c → HasNo store.cores.cores c.shard
    pub claimed : (loan : ℕ) (c : Core T Sat) → IsAway register loan c → IsClaimed claims c
    pub apart :
        (loan other : ℕ) (c d : Core T Sat) → IsAway register loan c → IsAway register other d →
        c.shard ≡ d.shard → loan ≡ other

  -- the core of what left, where a core did
  abbrev pub core_out : Option (DrainedView T) → Option (Core T Sat)
  core_out None = None
  core_out (Some d) = Some d.core

  -- a core that has drained leaves, or none does
  abbrev pub StoreGivesOut : Option (DrainedView T) → StoreState T Sat → StoreState T Sat → Type 0
  StoreGivesOut r s t = StoreGives (core_out r) s t

  -- the answer to a core that comes back, with the core alone
  abbrev pub bare_answer :
      Result (Unit {0}) (TakeError × DrainedView T) → Result (Unit {0}) (TakeError × Core T Sat)
  bare_answer (Ok done) = Ok done
  bare_answer (Err e) = Err (e.0, e.1.core)

  -- a core that left comes back in
  abbrev pub StoreTakesBack : DrainedView T → Result (Unit {0}) (TakeError × DrainedView T) →
      StoreState T Sat → StoreState T Sat → Type 0
  StoreTakesBack d r s t = StoreTakesIn d.core (bare_answer r) s t

  -- refused, it is so for what the store and the core are
  abbrev pub StoreRefusesBack : DrainedView T → Result (Unit {0}) (TakeError × DrainedView T) →
      StoreState T Sat → Type 0
  StoreRefusesBack d r s = StoreRefuses d.core (bare_answer r) s
