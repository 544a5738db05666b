-- How an entry leaves a shard: it is given out, or was cancelled. No call loses one.
use Rattle.std.specs.Prelude.{◌≡◌, ◌⊎◌, ℕ, Ok, Option, List, [], ◌∷◌, length}
use Rattle.atomic_table.specs.Table.{State}
use Rattle.dq_ticks.specs.declared.keys.EntryId.{EntryId}
use Rattle.dq_ticks.specs.declared.keys.Key.{Key}
use Rattle.dq_core.specs.Calls.{IsFound}
use Rattle.dq_core.specs.Core.{Core, IsLawfulCore}
use Rattle.dq_core.specs.Machine.{Entry}
use Rattle.dq_core.specs.declared.outcomes.Expired.{Expired}
use Rattle.dq_core.specs.declared.outcomes.Piece.TheVariants.{Answer}
use Rattle.dq_core.specs.declared.outcomes.Removed.{Removed}
use Rattle.dq_core.specs.declared.outcomes.Turn.TheVariants.{Out as CameOut}
use Rattle.dq_growing.specs.Cores.{IsCoreAt}
use Rattle.dq_growing.specs.Notes.{user_at}
use Rattle.dq_growing.specs.Stands.{HasEntry}
use Rattle.dq_growing.specs.Sized.{SizedState}
use Rattle.dq_growing.specs.Store.{StoreState, HasFor, NoneStandsFor}
use Rattle.dq_growing.specs.declared.moving.Moved.TheVariants.{Out}
use Rattle.dq_growing.specs.declared.moving.NextDeadline.{NextDeadline}
use Rattle.dq_queue.specs.declared.journal.views.Entry.{Entry as Call}
use Rattle.dq_words.specs.declared.views.View.{View}
use Rattle.dq_words.specs.Seats.{Sat}
use Rattle.dq_queue.specs.Calls.{IsStoreCall, StoreRemoves, StoreRelocates, StorePolls}
use Rattle.dq_queue.specs.Endings.{InEachTable, IsKeptCore, file_under, present_key}
use Rattle.dq_queue.specs.Shards.{IsStoreHistory}

-- a key's stamp was cancelled once, by a caller, and its keeper never ended it
abbrev pub WasCancelledOnce : Key → State ℕ View → Type 0
WasCancelledOnce k t =
    (length (file_under k t).cancels ≡ 1) × (length (file_under k t).ends ≡ 0)

module _ {T : Type 0} where
  -- a call gave an entry out: a removal did, or a move, or a poll
  abbrev pub GivesOut : EntryId → StoreState T Sat → StoreState T Sat → Type 0
  GivesOut u s t =
      ((x : Removed T) × StoreRemoves u (Ok x) s t)
      ⊎ (((next : NextDeadline) × (x : Removed T) × (beside : Option T)
      × StoreRelocates u next (Ok (Out x), beside) s t)
      ⊎ ((at : ℕ) × (most : Option ℕ) × (x : Expired T) × (x.key.entry ≡ u)
      × StorePolls at most (Ok (Answer (CameOut x))) s t))

  -- An entry had been cancelled. It stood at a place, whose user knew it by the id that the notes
  -- tell, and one core held it there. By what that core keeps, its key there was cancelled, once.
  pub record WasCancelledIn (u : EntryId) (s t : StoreState T Sat) : Type 0 where
    pub place : EntryId
    pub user : user_at s.notes place ≡ u
    pub stood : (e : Entry T) × HasEntry s.cores place e
    pub core : ℕ
    pub before : Core T Sat
    pub after : Core T Sat
    pub was : IsCoreAt s.cores.cores core before
    pub is : IsCoreAt t.cores.cores core after
    pub held : IsFound before place place.index
    pub same : after.shard ≡ before.shard
    pub cancelled :
        IsLawfulCore before → IsKeptCore after →
        InEachTable after.words.view (WasCancelledOnce (present_key before place))

  -- a call lost no entry: one that stood, and stands no more, was given out or had been cancelled
  abbrev pub LosesNone : StoreState T Sat → StoreState T Sat → Type 0
  LosesNone s t =
      (u : EntryId) (v : T) → HasFor s u v → NoneStandsFor t u →
      GivesOut u s t ⊎ WasCancelledIn u s t

  -- so of each call of a history
  abbrev pub EachLosesNone : (log : List (Call (SizedState T Sat))) → IsStoreHistory log → Type 0
  EachLosesNone [] history = Unit {0}
  EachLosesNone (e ∷ es) (old, new, left, was, call, history) =
      LosesNone old.store new.store × EachLosesNone es history

  -- in a history no entry was ever lost, whoever called
  abbrev pub NoneIsLostIn : List (Call (SizedState T Sat)) → Type 0
  NoneIsLostIn log = (history : IsStoreHistory log) → EachLosesNone log history

-- no call of a store loses an entry
abbrev pub StoreLosesNone : Type 0 → Type 0
StoreLosesNone T = (s t : StoreState T Sat) → IsStoreCall s t → LosesNone s t
