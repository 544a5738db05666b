-- How many entries came into a shard, and how many of them stand there, were given out, and were
-- cancelled.
use Rattle.std.specs.Prelude.{◌≡◌, ◌≢◌, ◌⊎◌, ℕ, ◌+◌, List, [], ◌∷◌, length, Option, Ok}
use Rattle.dq_ticks.specs.declared.keys.EntryId.{EntryId}
use Rattle.dq_ticks.specs.declared.keys.Key.{Key}
use Rattle.dq_queue.specs.declared.journal.views.Entry.{Entry}
use Rattle.dq_growing.specs.Sized.{SizedState}
use Rattle.dq_growing.specs.Store.{StoreState, NoneStandsFor}
use Rattle.dq_words.specs.Seats.{Sat}
use Rattle.dq_queue.specs.Calls.{HasOnly, StoreInserts}
use Rattle.dq_queue.specs.Leaving.{GivesOut, WasCancelledIn}
use Rattle.dq_queue.specs.Runs.{HasNext}
use Rattle.dq_queue.specs.Shards.{IsAsLeft, IsStoreHistory}

-- how many entries stand, were given out, and were found cancelled
pub record Counted : Type 0 where
  pub here : ℕ
  pub out : ℕ
  pub cancelled : ℕ

module _ {T : Type 0} where
  -- an insert that was accepted put an entry in, with its value
  abbrev pub WasPutIn : EntryId → T → StoreState T Sat → StoreState T Sat → Type 0
  WasPutIn u v s t =
      (when : ℕ) × (k : Key) × (beside : Option T) × (k.entry ≡ u)
      × StoreInserts v when (Ok k, beside) s t

  -- entries that came in by a history's calls, all of them or some, the newest first, each with its
  -- value
  abbrev pub CameIn : (log : List (Entry (SizedState T Sat))) → IsStoreHistory log →
      List (EntryId × T) → Type 0
  CameIn [] history came = came ≡ []
  CameIn (e ∷ es) (old, new, left, was, call, history) came =
      ((u : EntryId) × (v : T) × (older : List (EntryId × T)) × (came ≡ (u, v) ∷ older)
      × WasPutIn u v old.store new.store × CameIn es history older)
      ⊎ CameIn es history came

  -- none of these entries has that id
  abbrev pub NoneHas : EntryId → List (EntryId × T) → Type 0
  NoneHas u [] = Unit {0}
  NoneHas u (x ∷ came) = (x.0 ≢ u) × NoneHas u came

  -- no two of these entries have one id
  abbrev pub HaveOwnIds : List (EntryId × T) → Type 0
  HaveOwnIds [] = Unit {0}
  HaveOwnIds (x ∷ came) = NoneHas x.0 came × HaveOwnIds came

  -- by some call of a history that came about of an id
  abbrev pub CameAbout : (EntryId → StoreState T Sat → StoreState T Sat → Type 0) →
      (log : List (Entry (SizedState T Sat))) → IsStoreHistory log → EntryId → Type 0
  CameAbout How [] history u = ⊥
  CameAbout How (e ∷ es) (old, new, left, was, call, history) u =
      How u old.store new.store ⊎ CameAbout How es history u

  -- by the calls of a history an entry that had one value has the last one: each left it its value,
  -- or exchanged it
  abbrev pub HasBecome :
      (log : List (Entry (SizedState T Sat))) → IsStoreHistory log → EntryId → T → T → Type 0
  HasBecome [] history u v last = last ≡ v
  HasBecome (e ∷ es) (old, new, left, was, call, history) u v last =
      (w : T) × HasBecome es history u v w × HasNext u w last old.store new.store

  -- Of these entries so many stand, each with its value, or with what that has become. Of the others
  -- none stands: so many were given out by a call of the history, and so many were found cancelled by
  -- one.
  abbrev pub AreCounted :
      (log : List (Entry (SizedState T Sat))) → IsStoreHistory log → StoreState T Sat →
      List (EntryId × T) → Counted → Type 0
  AreCounted log history s [] n = n ≡ record { here = 0; out = 0; cancelled = 0 }
  AreCounted log history s (x ∷ came) n =
      (m : Counted) × AreCounted log history s came m
      × (((last : T) × HasOnly s x.0 last × HasBecome log history x.0 x.1 last
      × (n ≡ record m { here = m.here + 1 }))
      ⊎ (NoneStandsFor s x.0
      × ((CameAbout GivesOut log history x.0 × (n ≡ record m { out = m.out + 1 }))
      ⊎ (CameAbout WasCancelledIn log history x.0 × (n ≡ record m { cancelled = m.cancelled + 1 })))))

  -- In a history as many entries came in as stand there, were given out and were cancelled, each
  -- under an id of its own: of all that came in, and of any choice of them.
  abbrev pub TotalsAgreeIn : List (Entry (SizedState T Sat)) → Type 0
  TotalsAgreeIn log =
      (history : IsStoreHistory log) (came : List (EntryId × T)) (h : SizedState T Sat) →
      CameIn log history came → IsAsLeft log h →
      HaveOwnIds came
      × ((n : Counted) × AreCounted log history h.store came n
      × (length came ≡ n.here + n.out + n.cancelled))
