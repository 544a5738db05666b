-- A shard, callers of it, and its one history.
use Rattle.std.specs.Prelude.{◌≡◌, ℕ, List, [], ◌∷◌, ◌++◌, Some}
use Rattle.atomic_table.specs.Seated.{TableId}
use Rattle.dq_words.specs.Claims.{Claimed}
use Rattle.dq_queue.specs.declared.journal.views.Entry.{Entry}
use Rattle.dq_queue.specs.declared.journal.views.View.{View}
use Rattle.dq_queue.specs.History.{entry, entries_by}
use Rattle.dq_growing.specs.Sized.{SizedState}
use Rattle.dq_growing.specs.Store.{StoreState, IsStore}
use Rattle.dq_words.specs.OpenCalls.{Open}
use Rattle.dq_words.specs.Seats.{Sat}
use Rattle.dq_queue.specs.Calls.{IsStoreCall}

-- the name of no table
abbrev pub unnamed : TableId
unnamed = record { words = 0; slots = 0; views_name = 0; atom = 0; block = 0; offset = 0; slot_names = [] }

-- a shard: its number, and its store, which knows its size and its hint; what is known of its
-- history under the lock; and its claims of the words of its cores
pub record HeldShard (T : Type 0) : Type 0 where
  pub number : ℕ
  pub sized : SizedState T Sat
  pub history : View (SizedState T Sat)
  pub claims : List (Claimed Open)

-- a caller: the number of its shard, and what it knows of the history
pub record CallerView (T : Type 0) : Type 0 where
  pub shard : ℕ
  pub history : View (SizedState T Sat)

-- the caller of that shard, which knows so much
abbrev pub caller_of : {T : Type 0} → ℕ → View (SizedState T Sat) → CallerView T
caller_of shard history = record { shard = shard; history = history }

module _ {T : Type 0} where
  -- The shard's store is what the newest entry left; with no entry yet it is as it was made. What is
  -- known of its size, and its hint, may have changed since.
  abbrev pub IsAsLeft : List (Entry (SizedState T Sat)) → SizedState T Sat → Type 0
  IsAsLeft [] s = Unit {0}
  IsAsLeft (e ∷ es) s =
      (left : SizedState T Sat) × (e.left ≡ Some left) × (left.store ≡ s.store)

  -- each entry is what one call left of what the entries before it had left
  abbrev pub IsStoreHistory : List (Entry (SizedState T Sat)) → Type 0
  IsStoreHistory [] = Unit {0}
  IsStoreHistory (e ∷ es) =
      (old : SizedState T Sat) × (new : SizedState T Sat) × (e.left ≡ Some new) × IsAsLeft es old
      × IsStoreCall old.store new.store × IsStoreHistory es

  -- The caller's call was made once, on the shard whose history this is: it took the store, as the
  -- history had left it, from one state to another, and is the newest entry. What is between are
  -- other callers' entries, since the history has of this caller this entry and those that it knew,
  -- and no other.
  abbrev pub MadeOnce :
      CallerView T → (StoreState T Sat → StoreState T Sat → Type 0) → CallerView T → Type 0
  MadeOnce v gives w =
      (between : List (Entry (SizedState T Sat))) × (old : SizedState T Sat)
      × (new : SizedState T Sat)
      × (w.history.log ≡ entry v.history.number (Some new) ∷ (between ++ v.history.log))
      × IsAsLeft (between ++ v.history.log) old
      × IsStore old.store × IsStore new.store × gives old.store new.store
      × (w.history.mine ≡ entry v.history.number (Some new) ∷ v.history.mine)
      × (entries_by w.history.number w.history.log ≡ w.history.mine)
      × IsStoreHistory w.history.log × (w.history.number ≡ v.history.number) × (w.shard ≡ v.shard)

  -- Under the lock: the history has one entry more, which is this caller's and what the call left,
  -- and no caller more was made.
  abbrev pub OneMore : HeldShard T → CallerView T → HeldShard T → Type 0
  OneMore s v t =
      (t.history.log ≡ entry v.history.number (Some t.sized) ∷ s.history.log)
      × (t.history.made ≡ s.history.made)

  -- no call is entered and no caller made; the shard has its number and its claims
  abbrev pub EntersNone : HeldShard T → HeldShard T → Type 0
  EntersNone s t = (t.number ≡ s.number) × (t.history ≡ s.history) × (t.claims ≡ s.claims)

  -- of the caller's calls a history has those that it knew and one more, which did that
  abbrev pub HasCallMore :
      CallerView T → (StoreState T Sat → StoreState T Sat → Type 0) →
      List (Entry (SizedState T Sat)) → Type 0
  HasCallMore v gives log =
      (old : SizedState T Sat) × (new : SizedState T Sat) × gives old.store new.store
      × (entries_by v.history.number log ≡ entry v.history.number (Some new) ∷ v.history.mine)
