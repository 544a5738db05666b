-- Which entries stand in a store, and how one comes, leaves or goes on.
use Rattle.std.specs.Prelude.{◌≡◌, ◌≢◌, ◌⊎◌, ℕ, ◌<◌, ◌≤◌, Some}
use Rattle.dq_ticks.specs.declared.keys.EntryId.{EntryId}
use Rattle.dq_core.specs.Core.{Core, machine}
use Rattle.dq_core.specs.Machine.{Entry, table_at}
use Rattle.dq_core.specs.Words.{StillBegun}
use Rattle.dq_growing.specs.Cores.{CoreRow, IsCoreAt, HasAt}

-- an entry stands in a core under an id
pub record IsThere {T W : Type 0} (c : Core T W) (id : EntryId) (e : Entry T) : Type 0 where
  pub shard : id.shard ≡ c.shard
  pub linked : (table_at (machine c) id.index).entry ≡ Some e
  pub born : e.born ≡ id.born

-- an entry stands in a store under an id
abbrev pub HasEntry : {T W : Type 0} → CoreRow T W → EntryId → Entry T → Type 0
HasEntry {T} {W} s id e = (i : ℕ) × (c : Core T W) × IsCoreAt s.cores i c × IsThere c id e

-- the birth of an id isn't after its slot's stamp: no new entry gets that id
abbrev pub IsPastAt : {T W : Type 0} → Core T W → EntryId → Type 0
IsPastAt c id = id.born ≤ (table_at (machine c) id.index).stamp

-- so of the core of its number, where the store has it
abbrev pub IsPastIn : {T W : Type 0} → CoreRow T W → EntryId → Type 0
IsPastIn {T} {W} s id = (i : ℕ) (c : Core T W) → IsCoreAt s.cores i c → c.shard ≡ id.shard →
    IsPastAt c id

-- the birth of an id is after its slot's stamp, in the open core
abbrev pub IsAheadIn : {T W : Type 0} → CoreRow T W → EntryId → Type 0
IsAheadIn {T} {W} s id =
    (c : Core T W) × HasAt s.cores id.shard s.opened c
    × ((table_at (machine c) id.index).stamp < id.born)

-- no entry stands in a store under an id
abbrev pub HasNoEntry : {T W : Type 0} → CoreRow T W → EntryId → Type 0
HasNoEntry {T} s id = (e : Entry T) → ¬ HasEntry s id e

-- under an id an entry stands with that one's value
abbrev pub StandsAlike : {T : Type 0} → (EntryId → Entry T → Type 0) → EntryId → Entry T → Type 0
StandsAlike {T} A id e = (f : Entry T) × A id f × (f.value ≡ e.value)

-- an id that is past stays past, and its number stays a used one; what stands under it stood under it
-- before, with the same value; and what stood stands still, or nothing stands there
abbrev pub AgesAs : {T W : Type 0} → CoreRow T W → CoreRow T W → EntryId → Type 0
AgesAs {T} s t id =
    IsPastIn s id →
    IsPastIn t id
    × ((e : Entry T) → HasEntry t id e → StandsAlike (HasEntry s) id e)
    × ((e : Entry T) → HasEntry s id e → StandsAlike (HasEntry t) id e ⊎ HasNoEntry t id)
    × (id.shard < s.next → id.shard < t.next)

-- so of each id: no new entry gets an id that one has had
abbrev pub Ages : {T W : Type 0} → CoreRow T W → CoreRow T W → Type 0
Ages s t = (id : EntryId) → AgesAs s t id

-- what follows is said of what stands before and after, be it in a core or in a store
module _ {T : Type 0} (A B : EntryId → Entry T → Type 0) where
  -- each entry but that of one id stands as before, and each but that of another stood before
  abbrev pub OthersStand : EntryId → EntryId → Type 0
  OthersStand left came =
      ((o : EntryId) (e : Entry T) → o ≢ left → A o e → B o e)
      × ((o : EntryId) (e : Entry T) → o ≢ came → B o e → A o e)

  -- each entry stands with its value as before, and there is no other
  abbrev pub SameStand : Type 0
  SameStand =
      ((o : EntryId) (e : Entry T) → A o e → StandsAlike B o e)
      × ((o : EntryId) (e : Entry T) → B o e → StandsAlike A o e)

  -- one entry left, with its value; every other stays
  pub record OneLeaves (id : EntryId) (v : T) : Type 0 where
    pub was : (e : Entry T) × A id e × (e.value ≡ v)
    pub gone : (e : Entry T) → ¬ B id e
    pub others : OthersStand id id

  -- one entry came, live until that tick, under an id that none had; every other stays
  pub record OneComes (id : EntryId) (v : T) (until : ℕ) : Type 0 where
    pub fresh : (e : Entry T) → ¬ A id e
    pub here : B id (record { born = id.born; value = v; due = Some until })
    pub others : OthersStand id id

  -- one entry goes on under another id, with its value, live until that tick; every other stays
  pub record OneMoves (left came : EntryId) (until : ℕ) : Type 0 where
    pub value : T
    pub was : (e : Entry T) × A left e × (e.value ≡ value)
    pub gone : (e : Entry T) → ¬ B left e
    pub fresh : (e : Entry T) → ¬ A came e
    pub here : B came (record { born = came.born; value = value; due = Some until })
    pub others : OthersStand left came

-- one entry has another value, which a change made of the one that it had, and its deadline as
-- before; every other stays
pub record OneChanges {T R : Type 0} (A B : EntryId → Entry T → Type 0) (Makes : T → R → T → Type 0)
    (id : EntryId) (answer : R) : Type 0 where
  pub entry : Entry T
  pub value : T
  pub was : A id entry
  pub made : Makes entry.value answer value
  pub here : B id (record entry { value = value })
  pub others : OthersStand A B id id

-- each core has the words that it had, and what their keeper began stays begun
abbrev pub KeepsWords : {T W O : Type 0} → (W → O) → (W → ℕ → ℕ → ℕ → Type 0) → CoreRow T W →
    CoreRow T W → Type 0
KeepsWords {T} {W} origin begun s t =
    (i : ℕ) (b : Core T W) → IsCoreAt s.cores i b →
    (c : Core T W) × IsCoreAt t.cores i c × (c.shard ≡ b.shard) × (origin c.words ≡ origin b.words)
    × StillBegun begun b.words c.words
