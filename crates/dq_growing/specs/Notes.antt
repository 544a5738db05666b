-- Where moved entries are, by the ids that their users have.
use Rattle.std.specs.Prelude.{◌≡◌, ◌≢◌, ℕ, ◌%◌, ◌<◌, ◌≤◌, Bool, true, false, ◌&&◌, nat_eq, List, slice_index_or, Option, Some, None}
use Rattle.std.specs.Map.{lookup}
use Rattle.dq_ticks.specs.declared.keys.EntryId.{EntryId}
use Rattle.dq_core.specs.Core.{Core, machine}
use Rattle.dq_core.specs.Machine.{table_at}

-- the numbers of an id, by which it is found
abbrev pub numbers_of : EntryId → ℕ × ℕ × ℕ
numbers_of id = (id.shard, id.index, id.born)

-- whether two ids have the same numbers
abbrev pub same_numbers : ℕ × ℕ × ℕ → ℕ × ℕ × ℕ → Bool
same_numbers a b = (nat_eq a.0 b.0 && nat_eq a.1 b.1) && nat_eq a.2 b.2

-- ids by their numbers, each with another, and for how many more there is memory
pub record Pairs : Type 0 where
  pub entries : List ((ℕ × ℕ × ℕ) × EntryId)
  pub room : ℕ

-- what an id has with it
abbrev pub with_id : Pairs → EntryId → Option EntryId
with_id p id = lookup (same_numbers (numbers_of id)) p.entries

-- the mark of an id
abbrev pub note_mark : EntryId → ℕ
note_mark id = id.index % 128

-- each id that has another has its mark
abbrev pub AreMarked : Pairs → List Bool → Type 0
AreMarked p marks =
    (k o : EntryId) → with_id p k ≡ Some o → slice_index_or marks (note_mark k) false ≡ true

-- an id has that with it, or nothing, and every other has what it had
pub record SetsPair (p : Pairs) (id : EntryId) (o : Option EntryId) (q : Pairs) : Type 0 where
  pub here : with_id q id ≡ o
  pub else : (k : EntryId) → k ≢ id → with_id q k ≡ with_id p k

-- nothing is with an id any more, where there is such an id
abbrev pub TakesPair : Pairs → Option EntryId → Pairs → Type 0
TakesPair p None q = q ≡ p
TakesPair p (Some id) q = SetsPair p id None q

-- the id of those numbers isn't ahead of its slot's stamp in a core, if it has the core's number
abbrev pub ArePastBy : {T W : Type 0} → ℕ × ℕ × ℕ → Core T W → Type 0
ArePastBy k c = k.0 ≡ c.shard → k.2 ≤ (table_at (machine c) k.1).stamp

-- so of each id that has another with it
abbrev pub ArePastIn : {T W : Type 0} → Pairs → Core T W → Type 0
ArePastIn p c = (k o : EntryId) → with_id p k ≡ Some o → ArePastBy (numbers_of k) c

-- no id has another with it
abbrev pub HasNone : Pairs → Type 0
HasNone p = (k : EntryId) → with_id p k ≡ None

-- every id has what it had
abbrev pub SamePairs : Pairs → Pairs → Type 0
SamePairs p q = (k : EntryId) → with_id q k ≡ with_id p k

-- notes of moved entries: by a user's id the place, and by a place the user's id
pub record Book : Type 0 where
  pub places : Pairs
  pub users : Pairs

-- the law of notes: what is noted one way is noted the other way
abbrev pub AreNotes : Book → Type 0
AreNotes n =
    (u p : EntryId) →
    (with_id n.places u ≡ Some p → with_id n.users p ≡ Some u)
    × (with_id n.users p ≡ Some u → with_id n.places u ≡ Some p)

-- no id of a note, a user's or a place's, is ahead of its slot's stamp in a core of its number
abbrev pub AllArePast : {T W : Type 0} → Book → Core T W → Type 0
AllArePast n c = ArePastIn n.places c × ArePastIn n.users c

-- the id that the user of a place has: its own, where nothing is noted
abbrev pub or_own : EntryId → Option EntryId → EntryId
or_own id None = id
or_own id (Some other) = other

abbrev pub user_at : Book → EntryId → EntryId
user_at n p = or_own p (with_id n.users p)

-- the place that a user's id means, by what is noted of it, and of it as a place: its own, where
-- nothing is noted; none, where it is the place of another's entry
abbrev pub place_by : EntryId → Option EntryId → Option EntryId → Option EntryId
place_by id (Some p) o = Some p
place_by id None None = Some id
place_by id None (Some other) = None

abbrev pub meant_place : Book → EntryId → Option EntryId
meant_place n u = place_by u (with_id n.places u) (with_id n.users u)

-- there is memory for one note more
abbrev pub HasNoteRoom : Book → Type 0
HasNoteRoom n = (0 < n.places.room) × (0 < n.users.room)

-- the same notes
abbrev pub SameNotes : Book → Book → Type 0
SameNotes n m = SamePairs n.places m.places × SamePairs n.users m.users

-- a user's entry is at that place from now on, and no more where it was noted before
pub record IsNoted (n : Book) (u p : EntryId) (m : Book) : Type 0 where
  pub places : SetsPair n.places u (Some p) m.places
  pub here : with_id m.users p ≡ Some u
  pub left : (q : EntryId) → q ≢ p → with_id n.users q ≡ Some u → with_id m.users q ≡ None
  pub else :
      (q : EntryId) → q ≢ p → with_id n.users q ≢ Some u → with_id m.users q ≡ with_id n.users q

-- the note of a place is taken away
pub record IsForgotten (n : Book) (u p : EntryId) (m : Book) : Type 0 where
  pub was : with_id n.users p ≡ Some u
  pub places : SetsPair n.places u None m.places
  pub users : SetsPair n.users p None m.users

-- a place's note is taken away, where there is one
abbrev pub Forgets : Book → EntryId → Option EntryId → Book → Type 0
Forgets n p None m = (with_id n.users p ≡ None) × SameNotes n m
Forgets n p (Some u) m = IsForgotten n u p m

-- a note of a place is taken away, where there is one
abbrev pub LosesNote : Book → EntryId → Book → Type 0
LosesNote n p m = (o : Option EntryId) × Forgets n p o m
