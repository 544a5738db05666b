-- A store as its users see it: they know an entry by the id that it came in with, wherever it is.
use Rattle.std.specs.Prelude.{◌≡◌, ◌≢◌, ◌⊎◌, ◌<◌, ◌≤◌, ℕ, length, Bool, Option, Some, None, Result, Ok, Err}
use Rattle.dq_ticks.specs.declared.keys.Key.{Key}
use Rattle.dq_ticks.specs.declared.keys.EntryId.{EntryId}
use Rattle.dq_core.specs.declared.errors.CoreError.{CoreError}
use Rattle.dq_core.specs.declared.errors.CoreError.TheVariants.{Missing, Worn, NoMemory}
use Rattle.dq_core.specs.declared.outcomes.Removed.{Removed}
use Rattle.dq_core.specs.declared.outcomes.Expired.{Expired}
use Rattle.dq_core.specs.declared.outcomes.Turn.TheVariants.{Out as CameOut}
use Rattle.dq_core.specs.declared.outcomes.Piece.{Piece}
use Rattle.dq_core.specs.declared.outcomes.Piece.TheVariants.{Answer}
use Rattle.dq_growing.specs.declared.moving.Moved.{Moved}
use Rattle.dq_growing.specs.declared.moving.Moved.TheVariants.{To, Out}
use Rattle.dq_growing.specs.declared.moving.NextDeadline.{NextDeadline}
use Rattle.dq_growing.specs.declared.moving.NextDeadline.TheVariants.{At}
use Rattle.dq_core.specs.Calls.{Resets, TellsDeadline, FindRefused}
use Rattle.dq_core.specs.Sweeps.{Reaps}
use Rattle.dq_core.specs.Values.{ChangesValue}
use Rattle.dq_core.specs.declared.errors.ReapError.{ReapError}
use Rattle.dq_core.specs.declared.errors.ReapError.TheVariants.{Missing as NotThere}
use Rattle.dq_core.specs.Core.{Core}
use Rattle.dq_core.specs.Machine.{Entry}
use Rattle.dq_core.specs.Readers.{TellsLeast, TellsFirst}
use Rattle.dq_growing.specs.Cores.{CoreRow, IsCoreAt, OnCoreOr, TakeRefused, missing_error}
use Rattle.dq_growing.specs.Polls.{PollsRow}
use Rattle.dq_growing.specs.Stands.{HasEntry, IsPastIn, OneChanges, OneComes, OthersStand}
use Rattle.dq_growing.specs.Moving.{IsTakenOut, IsBaseIn, Relocates, HasBegunIn}
use Rattle.dq_growing.specs.Notes.{Book, AreNotes, AllArePast, SameNotes, LosesNote, IsNoted, HasNoteRoom}
use Rattle.dq_growing.specs.Notes.{with_id, user_at, meant_place}
use Rattle.dq_growing.specs.declared.cores.TakeError.{TakeError}
use Rattle.dq_growing.specs.declared.cores.TakeError.TheVariants.{UsedNumber}

-- a store: its cores, and the notes of entries that were moved
pub record StoreState (T W : Type 0) : Type 0 where
  pub cores : CoreRow T W
  pub notes : Book

-- a key of a place, as its user has it
abbrev pub key_as : EntryId → Key → Key
key_as u k = record { entry = u; stamp = k.stamp }

-- what was taken out, as its user knows it
abbrev pub removed_as : {T : Type 0} → EntryId → Removed T → Removed T
removed_as u x = record { key = key_as u x.key; deadline = x.deadline; value = x.value }

-- what came out, as its user knows it
abbrev pub expired_as : {T : Type 0} → EntryId → Expired T → Expired T
expired_as u x = record x { key = key_as u x.key }

-- what became of a moved entry, as its user knows it
abbrev pub moved_as : {T : Type 0} → EntryId → Moved T → Moved T
moved_as u (To k d) = To (key_as u k) d
moved_as u (Out x) = Out (removed_as u x)

-- the answer of a move, as its user knows it
abbrev pub answer_as : {T : Type 0} → EntryId → Result (Moved T) CoreError →
    Result (Moved T) CoreError
answer_as u (Ok moved) = Ok (moved_as u moved)
answer_as u (Err e) = Err e

-- the key of a reset, as its user has it
abbrev pub reset_as : EntryId → Result Key CoreError → Result Key CoreError
reset_as u (Ok k) = Ok (key_as u k)
reset_as u (Err e) = Err e

-- the notes after a move of a user's entry from a place: its new place is noted, or it came out
abbrev pub NotesMoved : {T : Type 0} → Book → EntryId → EntryId → Moved T → Book → Type 0
NotesMoved n u p (To k d) m = IsNoted n u k.entry m
NotesMoved n u p (Out x) m = LosesNote n p m

-- so by the answer of a move; where it is refused, the notes stay
abbrev pub NotesAnswered : {T : Type 0} → Book → EntryId → EntryId → Result (Moved T) CoreError →
    Book → Type 0
NotesAnswered n u p (Ok moved) m = NotesMoved n u p moved m
NotesAnswered n u p (Err e) m = SameNotes n m

-- the answer of a piece of a poll, as users know what came out
abbrev pub piece_as : {T : Type 0} → Book → Result (Piece T) CoreError → Result (Piece T) CoreError
piece_as n (Ok (Answer (CameOut x))) = Ok (Answer (CameOut (expired_as (user_at n x.key.entry) x)))
piece_as n r = r

-- the notes after a piece of a poll: what came out leaves none
abbrev pub NotesAfter : {T : Type 0} → Book → Result (Piece T) CoreError → Book → Type 0
NotesAfter n (Ok (Answer (CameOut x))) m = LosesNote n x.key.entry m
NotesAfter n r m = m ≡ n

-- the id of a key, where there is one
abbrev pub entry_told : Option Key → Option EntryId
entry_told None = None
entry_told (Some k) = Some k.entry

-- the key of a moved entry
abbrev pub key_told : {T : Type 0} → Result (Moved T) CoreError → Result Key CoreError
key_told (Ok (To k d)) = Ok k
key_told (Ok (Out x)) = Err Missing
key_told (Err e) = Err e

module _ {T W : Type 0} where
  -- the law of a store: what is noted was moved away from its user's id, which no new entry gets
  pub record IsStore (s : StoreState T W) : Type 0 where
    pub noted : AreNotes s.notes
    pub away :
        (u p : EntryId) → with_id s.notes.places u ≡ Some p → (e : Entry T) → ¬ HasEntry s.cores u e
    pub user_past : (u p : EntryId) → with_id s.notes.places u ≡ Some p → IsPastIn s.cores u
    pub place_past : (u p : EntryId) → with_id s.notes.places u ≡ Some p → IsPastIn s.cores p

  -- an entry stands under the id that its user has
  abbrev pub StandsFor : StoreState T W → EntryId → Entry T → Type 0
  StandsFor s u e = (p : EntryId) × (user_at s.notes p ≡ u) × HasEntry s.cores p e

  -- under a user's id a value is in force until that tick
  abbrev pub InForce : StoreState T W → EntryId → ℕ → T → Type 0
  InForce s u d v = (e : Entry T) × StandsFor s u e × (e.value ≡ v) × (e.due ≡ Some d)

  -- no entry stands under a user's id
  abbrev pub NoneStandsFor : StoreState T W → EntryId → Type 0
  NoneStandsFor s u = (e : Entry T) → ¬ StandsFor s u e

  -- under a user's id an entry stands with that value, live or cancelled
  abbrev pub HasFor : StoreState T W → EntryId → T → Type 0
  HasFor s u v = (e : Entry T) × StandsFor s u e × (e.value ≡ v)

  -- what stands under a user's id has one value
  abbrev pub HasOneValue : StoreState T W → EntryId → Type 0
  HasOneValue s u = (v w : T) → HasFor s u v → HasFor s u w → v ≡ w

  -- an entry stood under a user's id with that value, and none stands under it any more
  abbrev pub GoesOut : StoreState T W → EntryId → T → StoreState T W → Type 0
  GoesOut s u v t = HasFor s u v × NoneStandsFor t u

  -- of the value of the entry that stands under a user's id a change made another, with that
  -- answer; where none stands, no answer comes, and nothing changes
  abbrev pub ChangesFor : {R : Type 0} → (T → R → T → Type 0) → StoreState T W → EntryId →
      Option R → StoreState T W → Type 0
  ChangesFor Makes s u None t = NoneStandsFor s u × (t ≡ s)
  ChangesFor Makes s u (Some answer) t = OneChanges (StandsFor s) (StandsFor t) Makes u answer

  -- where an entry that stands under a user's id is; where there is no such place, none stands
  abbrev pub TellsPlaceFor : StoreState T W → EntryId → Option EntryId → Type 0
  TellsPlaceFor s u None = NoneStandsFor s u
  TellsPlaceFor s u (Some p) = (e : Entry T) → StandsFor s u e → HasEntry s.cores p e

  -- no two entries have one user's id
  abbrev pub KeysAreApart : StoreState T W → Type 0
  KeysAreApart s =
      (p q : EntryId) (e f : Entry T) → HasEntry s.cores p e → HasEntry s.cores q f →
      user_at s.notes p ≡ user_at s.notes q → p ≡ q

  -- a call by a user's id goes to the place that the notes tell; where there is none, it is refused so
  abbrev pub AtPlace : StoreState T W → EntryId → (EntryId → Type 0) → Type 0 → Type 0
  AtPlace s u Did Refused =
      ((p : EntryId) × (meant_place s.notes u ≡ Some p) × Did p)
      ⊎ ((meant_place s.notes u ≡ None) × Refused)

  -- a removal at a place
  abbrev pub RemovesAt : Bool → StoreState T W → EntryId → Result (Removed T) CoreError →
      StoreState T W → EntryId → Type 0
  RemovesAt shared s u (Ok x) t p =
      (y : Removed T) × IsTakenOut shared p y s.cores t.cores × (x ≡ removed_as u y)
      × LosesNote s.notes p t.notes
  RemovesAt shared s u (Err e) t p =
      OnCoreOr p.shard (λ b c. FindRefused shared b p e c) (e ≡ Missing) s.cores t.cores
      × (t.notes ≡ s.notes)

  -- a removal by a user's id
  abbrev pub RemovesFor : Bool → StoreState T W → EntryId → Result (Removed T) CoreError →
      StoreState T W → Type 0
  RemovesFor shared s u r t = AtPlace s u (RemovesAt shared s u r t) ((r ≡ Err Missing) × (t ≡ s))

  -- a look at a deadline by a user's id
  abbrev pub TellsFor : Bool → StoreState T W → EntryId → Result ℕ CoreError → StoreState T W →
      Type 0
  TellsFor shared s u r t =
      AtPlace s u
      (λ p. OnCoreOr p.shard
      (λ b c. TellsDeadline shared b p r c) (r ≡ Err Missing) s.cores t.cores
      × (t.notes ≡ s.notes))
      ((r ≡ Err Missing) × (t ≡ s))

  -- a removal of what is due by a tick: or a look at a deadline that is later, or a refusal
  abbrev pub RemovesIfDueFor : Bool → StoreState T W → EntryId → ℕ →
      Result (Option (Removed T)) CoreError → StoreState T W → Type 0
  RemovesIfDueFor shared s u tick (Ok (Some x)) t =
      (x.deadline ≤ tick) × RemovesFor shared s u (Ok x) t
  RemovesIfDueFor shared s u tick (Ok None) t =
      (d : ℕ) × (tick < d) × TellsFor shared s u (Ok d) t
  RemovesIfDueFor shared s u tick (Err e) t = RemovesFor shared s u (Err e) t

  -- a change of a value by a user's id: that of the entry at the place that the notes tell
  abbrev pub ChangesThere : {R : Type 0} → (T → R → T → Type 0) → StoreState T W → EntryId →
      Option R → StoreState T W → Type 0
  ChangesThere Makes s u r t =
      AtPlace s u
      (λ p. OnCoreOr p.shard (λ b c. ChangesValue Makes b p r c) (r ≡ None) s.cores t.cores
      × (t.notes ≡ s.notes))
      ((r ≡ None) × (t ≡ s))

  -- an entry comes in under a key that none had, live until its deadline
  abbrev pub ComesFor : StoreState T W → Key → T → ℕ → StoreState T W → Type 0
  ComesFor s k v d t =
      (base : ℕ) × IsBaseIn s.cores d base × OneComes (StandsFor s) (StandsFor t) k.entry v base

  -- an entry goes on under its user's id, with its value, live until its deadline; every other stays
  pub record GoesOnFor (s : StoreState T W) (u : EntryId) (d : ℕ) (t : StoreState T W) : Type 0 where
    pub value : T
    pub base : ℕ
    pub raised : IsBaseIn s.cores d base
    pub was : (e : Entry T) × StandsFor s u e × (e.value ≡ value)
    pub here : InForce t u base value
    pub others : OthersStand (StandsFor s) (StandsFor t) u u

  -- where a user's entry is, the words' keeper has begun its key's stamp with that deadline, raised to
  -- the tick of the core
  abbrev pub HasBegunFor : (W → ℕ → ℕ → ℕ → Type 0) → StoreState T W → Key → ℕ → StoreState T W →
      Type 0
  HasBegunFor begun s k d t =
      (p : EntryId) × (user_at t.notes p ≡ k.entry) × HasBegunIn begun s.cores (key_as p k) d t.cores

  -- a move from a place, and its note
  abbrev pub RelocatesAt : Bool → StoreState T W → EntryId → NextDeadline →
      Result (Moved T) CoreError × Option T → StoreState T W → EntryId → Type 0
  RelocatesAt shared s u next r t p =
      (made : Result (Moved T) CoreError) × Relocates shared p next (made, r.1) s.cores t.cores
      × (r.0 ≡ answer_as u made) × NotesAnswered s.notes u p made t.notes

  -- memory for a note was refused: there was none for one more
  abbrev pub HasNoMemory : StoreState T W → Result (Moved T) CoreError × Option T →
      StoreState T W → Type 0
  HasNoMemory s r t =
      (r ≡ (Err NoMemory, None)) × (t.cores ≡ s.cores) × SameNotes s.notes t.notes
      × (¬ HasNoteRoom s.notes)

  -- a move by a user's id
  abbrev pub RelocatesFor : Bool → StoreState T W → EntryId → NextDeadline →
      Result (Moved T) CoreError × Option T → StoreState T W → Type 0
  RelocatesFor shared s u next r t =
      AtPlace s u (λ p. HasNoMemory s r t ⊎ RelocatesAt shared s u next r t p)
      ((r ≡ (Err Missing, None)) × (t ≡ s))

  -- what follows a reset at a place: where the slot has no stamp left, a move with that deadline
  abbrev pub AfterReset : Bool → StoreState T W → EntryId → ℕ → Result Key CoreError →
      Result Key CoreError × Option T → StoreState T W → Type 0
  AfterReset shared m u when (Ok k) (r, beside) t = (r ≡ Ok (key_as u k)) × (beside ≡ None)
      × (t ≡ m)
  AfterReset shared m u when (Err e) (r, beside) t =
      ((e ≡ Worn)
      × ((moved : Result (Moved T) CoreError) × RelocatesFor shared m u (At when) (moved, beside) t
      × (r ≡ key_told moved)))
      ⊎ ((e ≢ Worn) × (r ≡ Err e) × (beside ≡ None) × (t ≡ m))

  -- a reset by a user's id
  abbrev pub ResetsFor : Bool → StoreState T W → EntryId → ℕ → Result Key CoreError × Option T →
      StoreState T W → Type 0
  ResetsFor shared s u when r t =
      AtPlace s u
      (λ p. (made : Result Key CoreError) × (m : CoreRow T W)
      × OnCoreOr p.shard
      (λ b c. Resets shared b p when made c) (made ≡ Err (missing_error when)) s.cores m
      × AfterReset shared (record s { cores = m }) u when made r t)
      ((r ≡ (Err (missing_error when), None)) × (t ≡ s))

  -- a reset by a user's id, after which the entry is where it was
  abbrev pub ResetsThere : Bool → StoreState T W → EntryId → ℕ → Result Key CoreError →
      StoreState T W → Type 0
  ResetsThere shared s u when r t =
      AtPlace s u
      (λ p. (made : Result Key CoreError)
      × OnCoreOr p.shard
      (λ b c. Resets shared b p when made c) (made ≡ Err (missing_error when)) s.cores t.cores
      × (r ≡ reset_as u made) × (t.notes ≡ s.notes))
      ((r ≡ Err (missing_error when)) × (t ≡ s))

  -- a poll, or a piece of one, as users know what came out
  abbrev pub PollsFor : (ℕ → Piece T → Core T W → Core T W → Type 0) → StoreState T W → ℕ →
      Result (Piece T) CoreError → StoreState T W → Type 0
  PollsFor Did s tick r t =
      (made : Result (Piece T) CoreError) × PollsRow Did s.cores tick made t.cores
      × (r ≡ piece_as s.notes made) × NotesAfter s.notes made t.notes

  -- what a core tells by its own ids of an entry of it, by the id that the entry's user has; none where
  -- there is no such core
  abbrev pub TellsAs : StoreState T W → ℕ → (Core T W → Option EntryId → Type 0) → Option EntryId →
      Type 0
  TellsAs s place Tells None =
      (length s.cores.cores ≤ place)
      ⊎ ((c : Core T W) × IsCoreAt s.cores.cores place c × Tells c None)
  TellsAs s place Tells (Some u) =
      (c : Core T W) × (p : EntryId) × IsCoreAt s.cores.cores place c × Tells c (Some p)
      × (u ≡ user_at s.notes p)

  -- the entry that a core names as scheduled first
  abbrev pub TellsFirstIn : StoreState T W → ℕ → Option EntryId → Type 0
  TellsFirstIn s place r =
      TellsAs s place (λ c o. (k : Option Key) × TellsLeast c k × (o ≡ entry_told k)) r

  -- the entry of the first of some slots of a core that has one
  abbrev pub TellsFrom : StoreState T W → ℕ → ℕ → ℕ → Option EntryId → Type 0
  TellsFrom s place from end r = TellsAs s place (λ c o. TellsFirst c from end o) r

  -- the notes after a reap: what was reaped leaves none
  abbrev pub NotesReaped : StoreState T W → Result (Unit {0}) ReapError → StoreState T W →
      EntryId → Type 0
  NotesReaped s (Ok done) t p = LosesNote s.notes p t.notes
  NotesReaped s (Err e) t p = t.notes ≡ s.notes

  -- a reap by a user's id
  abbrev pub ReapsFor : Bool → StoreState T W → EntryId → Result (Unit {0}) ReapError →
      StoreState T W → Type 0
  ReapsFor shared s u r t =
      AtPlace s u
      (λ p. OnCoreOr p.shard (λ b c. Reaps shared b p r c) (r ≡ Err NotThere) s.cores t.cores
      × NotesReaped s r t p)
      ((r ≡ Err NotThere) × (t ≡ s))

  -- why a core doesn't come in: first for a note that has an id which the core may give anew, and then
  -- as cores refuse it
  abbrev pub TakeRefusedFor : StoreState T W → Core T W → TakeError → Type 0
  TakeRefusedFor s c e =
      ((e ≡ UsedNumber) × (¬ AllArePast s.notes c))
      ⊎ (AllArePast s.notes c × TakeRefused s.cores c e)
