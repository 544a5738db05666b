-- What a caller sees of a wheel.

use Rattle.std.specs.Prelude.{◌≡◌, ◌≢◌, ◌<◌, ◌≤◌, length, ℕ, List, Option, None, Some, replicate}
use Rattle.std.specs.Prelude.{slice_index_or, slice_set}

-- the wheel's tick, the tick at which each index is filed, how often each index moved since it was
-- linked, and the moves made in all
pub record Filing : Type 0 where
  pub tick : ℕ
  pub filed : List (Option ℕ)
  pub moves : List ℕ
  pub moved : ℕ

-- a wheel's filing, with its links and its occupancy maps, of which only the wheel's law speaks
pub record WheelState : Type 0 where
  pub filing : Filing
  pub next : List ℕ
  pub maps : List ℕ

-- the tick at which an index is filed
abbrev pub filed_at : List (Option ℕ) → ℕ → Option ℕ
filed_at filed i = slice_index_or filed i None

-- tick 0, with nothing linked and no move made
abbrev pub fresh_filing : ℕ → Filing
fresh_filing capacity =
    record {
      tick = 0;
      filed = replicate capacity None;
      moves = replicate capacity 0;
      moved = 0;
    }

-- index i is filed at that tick, and has not moved
abbrev pub linked : Filing → ℕ → ℕ → Filing
linked w i when =
    record w { filed = slice_set w.filed i (Some when); moves = slice_set w.moves i 0 }

-- index i is filed nowhere
abbrev pub unlinked : Filing → ℕ → Filing
unlinked w i =
    record w { filed = slice_set w.filed i None; moves = slice_set w.moves i 0 }

-- each index but i is filed as before
abbrev pub OthersStayFiled : List (Option ℕ) → List (Option ℕ) → ℕ → Type 0
OthersStayFiled old new i = (j : ℕ) → j ≢ i → filed_at new j ≡ filed_at old j

-- no index is filed
abbrev pub NoneFiled : List (Option ℕ) → Type 0
NoneFiled filed = (i f : ℕ) → filed_at filed i ≢ Some f

-- no index is filed at that tick
abbrev pub NoneFiledAt : List (Option ℕ) → ℕ → Type 0
NoneFiledAt filed tick = (i : ℕ) → filed_at filed i ≢ Some tick

-- no index is filed before that tick
abbrev pub NoneFiledBefore : List (Option ℕ) → ℕ → Type 0
NoneFiledBefore filed tick = (i f : ℕ) → filed_at filed i ≡ Some f → tick ≤ f

-- index i is filed, and no index before it
abbrev pub IsLeast : List (Option ℕ) → ℕ → Type 0
IsLeast filed i =
    (f : ℕ) × (i < length filed) × (filed_at filed i ≡ Some f)
    × ((j g : ℕ) → filed_at filed j ≡ Some g → f ≤ g)
