-- How the entries of a store over keepers' words end.
use Rattle.std.specs.Prelude.{◌≡◌, ◌≢◌, true, ℕ, ◌+◌, ◌≤◌, Option, Some, Result, Ok, IfOk, length, slice_index}
use Rattle.atomic_table.specs.Table.{State}
use mathlib.Core.Option.{some}
use lib.ListN.{get_elem?}
use Rattle.dq_ticks.specs.Word.{mark_number}
use Rattle.dq_ticks.specs.declared.words.Mark.{Mark}
use Rattle.dq_ticks.specs.declared.words.Mark.TheVariants.{ExpiredMark, RemovedMark}
use Rattle.dq_ticks.specs.declared.keys.EntryId.{EntryId}
use Rattle.dq_ticks.specs.declared.keys.Key.{Key}
use Rattle.dq_core.specs.Core.{Core, IsLawfulCore}
use Rattle.dq_core.specs.Machine.{Entry}
use Rattle.dq_core.specs.Words.{word_at}
use Rattle.dq_core.specs.declared.errors.CoreError.{CoreError}
use Rattle.dq_core.specs.declared.outcomes.Expired.{Expired}
use Rattle.dq_core.specs.declared.outcomes.Piece.{Piece}
use Rattle.dq_core.specs.declared.outcomes.Removed.{Removed}
use Rattle.dq_growing.specs.declared.moving.Moved.{Moved}
use Rattle.dq_growing.specs.declared.moving.NextDeadline.{NextDeadline}
use Rattle.dq_growing.specs.Cores.{CoreRow, IsCoreAt, InsertsIn}
use Rattle.dq_growing.specs.Moving.{IfTo, IfCameOut}
use Rattle.dq_growing.specs.Notes.{meant_place, user_at}
use Rattle.dq_growing.specs.Polls.{IfPieceOut}
use Rattle.dq_growing.specs.Stands.{HasEntry}
use Rattle.dq_growing.specs.Runs.{KeepsItsDeadline}
use Rattle.dq_growing.specs.Store.{StoreState, PollsFor, RelocatesFor, RemovesFor, expired_as}
use Rattle.dq_words.specs.declared.views.View.{View}
use Rattle.dq_words.specs.Endings.{lives_at}
use Rattle.dq_words.specs.Files.{File, file, IsIn, IsDeadline}
use Rattle.dq_words.specs.Plays.{Covers}
use Rattle.dq_words.specs.Rule.{Ruled}
use Rattle.dq_words.specs.Seats.{Sat}
use Rattle.dq_words.specs.Together.{IsBeside}
use Rattle.dq_queue.specs.Calls.{DoesSteps}
use Rattle.dq_words.specs.Word.{parts_row}

-- It holds whatever the table of the words is, where it meets the rule and the keeper has this
-- view. The true table of that moment is one of them.
abbrev pub InEachTable : View → (State ℕ View → Type 0) → Type 0
InEachTable w Holds =
    (t : State ℕ View) → Ruled (length w.seen) t → get_elem? t.views 0 ≡ some w → Holds t

-- all that was written and called of a key's slot at the key's stamp
abbrev pub file_under : Key → State ℕ View → File
file_under k t = file k.entry.index k.stamp t.views

-- 1 where the word of a key's slot is live at the key's stamp
abbrev pub live_under : Key → State ℕ View → ℕ
live_under k t = lives_at (slice_index t.words k.entry.index) k.stamp

-- The keeper ended the key's stamp by a word of that mark at this deadline, which was in force: the
-- greatest of the deadline that the stamp was given with and of all extends that were accepted at it.
abbrev pub EndsInForce : Mark → Key → ℕ → State ℕ View → Type 0
EndsInForce mark k deadline t =
    IsIn (file_under k t).ends (mark_number mark, deadline) × IsDeadline (file_under k t) deadline

-- A key's stamp was given once, and it was ended once by the keeper, or cancelled once by a caller,
-- or its word is live.
abbrev pub WasGivenOnce : Key → State ℕ View → Type 0
WasGivenOnce k t =
    (length (file_under k t).bases ≡ 1)
    × (length (file_under k t).ends + length (file_under k t).cancels + live_under k t ≡ 1)

module _ {T : Type 0} where
  -- what each core over a keeper's words keeps, as its law tells
  pub record IsKeptCore (c : Core T Sat) : Type 0 where
    pub core : IsLawfulCore c
    pub known : c.known ≡ parts_row c.words.view.seen

  -- an entry that came out expired at its deadline in force, which is not after the noted tick
  abbrev pub CameInForce : Core T Sat → Expired T → Type 0
  CameInForce c x =
      InEachTable c.words.view (EndsInForce ExpiredMark x.key x.deadline) × (x.deadline ≤ c.noted)

  -- a key's stamp ended at no deadline before one that another seat of the core's words was promised,
  -- where the core's keeper and that seat were told together; nor had that seat cancelled it
  abbrev pub KeepsWhatItShowed : Core T Sat → Key → ℕ → Type 0
  KeepsWhatItShowed c k deadline =
      (p : Sat) → IsBeside c.words p → Covers p.view.calls k.entry.index k.stamp deadline

  -- What came out came out of one core of the store, which had the number that its place's key has,
  -- and stood there before. Its user knows it by the id that the notes tell. By what the core keeps,
  -- it came out in force, and kept what was promised.
  pub record CameOutOf (s : StoreState T Sat) (x : Expired T) (t : StoreState T Sat) : Type 0 where
    pub place : ℕ
    pub before : Core T Sat
    pub after : Core T Sat
    pub was : IsCoreAt s.cores.cores place before
    pub is : IsCoreAt t.cores.cores place after
    pub out : Expired T
    pub number : out.key.entry.shard ≡ before.shard
    pub told : x ≡ expired_as (user_at s.notes out.key.entry) out
    pub stood : (e : Entry T) × HasEntry s.cores out.key.entry e
    pub in_force : IsKeptCore after → CameInForce after out
    pub kept : IsKeptCore after → KeepsWhatItShowed after out.key out.deadline

  -- a place isn't one of the open core
  abbrev pub IsOutsideOpen : CoreRow T Sat → EntryId → Type 0
  IsOutsideOpen s place = (c : Core T Sat) → IsCoreAt s.cores s.opened c → c.shard ≢ place.shard

  -- the key of a place's slot, of the stamp that the core knows
  abbrev pub present_key : Core T Sat → EntryId → Key
  present_key c place = record { entry = place; stamp = (word_at c.known place.index).stamp }

  -- The entry of a place was taken out at a deadline, of the core of that number. By what the core
  -- keeps, its key ended at that deadline, which was in force, and that kept what was promised.
  pub record TakenOutOf (s : StoreState T Sat) (place : EntryId) (deadline : ℕ)
      (t : StoreState T Sat) : Type 0 where
    pub core : ℕ
    pub before : Core T Sat
    pub after : Core T Sat
    pub was : IsCoreAt s.cores.cores core before
    pub is : IsCoreAt t.cores.cores core after
    pub number : place.shard ≡ before.shard
    pub same : after.shard ≡ before.shard
    pub in_force :
        IsKeptCore after → InEachTable after.words.view
        (EndsInForce RemovedMark (present_key before place) deadline)
    pub kept : IsKeptCore after → KeepsWhatItShowed after (present_key before place) deadline

  -- so was a user's entry, from the place that the notes tell
  abbrev pub LeavesAsTold : StoreState T Sat → EntryId → ℕ → StoreState T Sat → Type 0
  LeavesAsTold s u deadline t =
      (place : EntryId) → meant_place s.notes u ≡ Some place → TakenOutOf s place deadline t

  -- so was one that goes on, where that place isn't in the open core
  abbrev pub MovesInForce : StoreState T Sat → EntryId → ℕ → StoreState T Sat → Type 0
  MovesInForce s u deadline t =
      (place : EntryId) → meant_place s.notes u ≡ Some place → IsOutsideOpen s.cores place →
      TakenOutOf s place deadline t

-- whatever a poll of a store gives out is so
abbrev pub StoreOutsAreInForce : Type 0 → Type 0
StoreOutsAreInForce T =
    (s t : StoreState T Sat) (tick : ℕ) (most : Option ℕ) (r : Result (Piece T) CoreError)
    → PollsFor (DoesSteps most) s tick r t → IfPieceOut r (λ x. CameOutOf s x t)

-- Whatever key an insert into a store answers is of its open core, and its stamp was given once, by
-- what that core keeps.
abbrev pub StoreInsertsAreGiven : Type 0 → Type 0
StoreInsertsAreGiven T =
    (s t : StoreState T Sat) (value : T) (when : ℕ) (k : Key) (beside : Option T)
    → InsertsIn s.cores value when (Ok k, beside) t.cores
    → (c : Core T Sat) × IsCoreAt t.cores.cores s.cores.opened c
    × (IsKeptCore c → InEachTable c.words.view (WasGivenOnce k))

-- whatever a removal takes out is so
abbrev pub StoreRemovalsAreInForce : Type 0 → Type 0
StoreRemovalsAreInForce T =
    (s t : StoreState T Sat) (u : EntryId) (r : Result (Removed T) CoreError) →
    RemovesFor true s u r t → IfOk r (λ x. LeavesAsTold s u x.deadline t)

-- whatever a move takes on with the deadline that it has, or gives out, is so
abbrev pub StoreMovesAreInForce : Type 0 → Type 0
StoreMovesAreInForce T =
    (s t : StoreState T Sat) (u : EntryId) (next : NextDeadline)
    (r : Result (Moved T) CoreError × Option T) → RelocatesFor true s u next r t →
    (KeepsItsDeadline next → IfOk r.0 (λ moved. IfTo moved (λ k d. MovesInForce s u d t)))
    × IfOk r.0 (λ moved. IfCameOut moved (λ x. LeavesAsTold s u x.deadline t))
