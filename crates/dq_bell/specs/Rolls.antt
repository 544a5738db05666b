-- Who is in line. Each index stands at one place; those at the first places are in line.

use Rattle.std.specs.Prelude.{◌≡◌, ◌≢◌, ℕ, ◌+◌, ◌<◌, ◌≤◌, ◌==◌, if◌then◌else◌, List, length}
use Rattle.std.specs.Prelude.{slice_index, Option, None, Some}

-- the index at each place, the place of each index, and how many are in line
pub record RollState : Type 0 where
  pub indexes : List ℕ
  pub places : List ℕ
  pub count : ℕ

-- each place has one index, and each index one place
pub record IsRoll (indexes places : List ℕ) (count : ℕ) : Type 0 where
  pub size : length places ≡ length indexes
  pub few : count ≤ length indexes
  pub index_in : (p : ℕ) → p < length indexes → slice_index indexes p < length indexes
  pub place_in : (i : ℕ) → i < length indexes → slice_index places i < length indexes
  pub back : (p : ℕ) → p < length indexes → slice_index places (slice_index indexes p) ≡ p
  pub forth : (i : ℕ) → i < length indexes → slice_index indexes (slice_index places i) ≡ i

-- an index is in line
abbrev pub StandsInLine : RollState → ℕ → Type 0
StandsInLine r i = (i < length r.places) × (slice_index r.places i < r.count)

-- the first in line
abbrev pub first_in : RollState → Option ℕ
first_in r = if r.count == 0 then None else Some (slice_index r.indexes 0)

-- of all other indexes the same are in line
abbrev pub OthersStayInLine : RollState → ℕ → RollState → Type 0
OthersStayInLine old i new =
    (j : ℕ) → j ≢ i → (StandsInLine old j → StandsInLine new j) × (StandsInLine new j → StandsInLine old j)

-- an index is made only where none was free
abbrev pub GrowsIfFull : RollState → RollState → Type 0
GrowsIfFull old new = old.count < length old.places → length new.places ≡ length old.places

-- one index more, which isn't in line
pub record GrowsByOne (old new : RollState) : Type 0 where
  pub size : length new.places ≡ length old.places + 1
  pub room : new.count < length new.places
  pub first : first_in new ≡ first_in old
  pub kept : (j : ℕ) → StandsInLine old j → StandsInLine new j
  pub none_more : (j : ℕ) → StandsInLine new j → StandsInLine old j

-- an index that wasn't in line joins it, as the first where nobody was
pub record JoinsAs (old : RollState) (i : ℕ) (new : RollState) : Type 0 where
  pub was_out : ¬ StandsInLine old i
  pub is_in : StandsInLine new i
  pub others : OthersStayInLine old i new
  pub first : (f : ℕ) → first_in old ≡ Some f → first_in new ≡ Some f
  pub leads : first_in old ≡ None → first_in new ≡ Some i
  pub size : length new.places ≡ length old.places

-- an index leaves the line; where it wasn't the first, the first stays
pub record LeavesRoll (old : RollState) (i : ℕ) (new : RollState) : Type 0 where
  pub is_out : ¬ StandsInLine new i
  pub others : OthersStayInLine old i new
  pub first : first_in old ≢ Some i → first_in new ≡ first_in old
  pub next : (j : ℕ) → first_in new ≡ Some j → StandsInLine old j
  pub size : length new.places ≡ length old.places
  pub emptier : old.count ≡ new.count + 1

-- places p and q exchange their indexes, and all others stay
pub record HasExchanged (indexes places : List ℕ) (p q : ℕ) (indexes2 places2 : List ℕ) : Type 0 where
  pub size : length indexes2 ≡ length indexes
  pub size2 : length places2 ≡ length places
  pub here : slice_index indexes2 p ≡ slice_index indexes q
  pub there : slice_index indexes2 q ≡ slice_index indexes p
  pub else_index : (r : ℕ) → r ≢ p → r ≢ q → slice_index indexes2 r ≡ slice_index indexes r
  pub place_here : slice_index places2 (slice_index indexes p) ≡ q
  pub place_there : slice_index places2 (slice_index indexes q) ≡ p
  pub else_place : (i : ℕ) → i ≢ slice_index indexes p → i ≢ slice_index indexes q
      → slice_index places2 i ≡ slice_index places i

-- an index in line is the first from now on, and the same are in line
pub record MakesFirst (old : RollState) (i : ℕ) (new : RollState) : Type 0 where
  pub first : first_in new ≡ Some i
  pub stay : (j : ℕ) → StandsInLine old j → StandsInLine new j
  pub none_more : (j : ℕ) → StandsInLine new j → StandsInLine old j
  pub led : (f : ℕ) → first_in old ≡ Some f → StandsInLine new f
  pub size : length new.places ≡ length old.places

-- the first leaves the line, and an index that was in line is the first from then on
pub record HandsLead (old : RollState) (i f : ℕ) (new : RollState) : Type 0 where
  pub is_out : ¬ StandsInLine new f
  pub others : OthersStayInLine old f new
  pub first : first_in new ≡ Some i
  pub size : length new.places ≡ length old.places
