-- A history, the newest entry first.
use Rattle.std.specs.Prelude.{◌≡◌, ℕ, ◌==◌, if◌then◌else◌, List, [], ◌∷◌, ◌++◌, Option}
use Rattle.dq_queue.specs.declared.journal.views.Entry.{Entry}

module _ {E : Type 0} where
  -- what the call of that number left
  abbrev pub entry : ℕ → Option E → Entry E
  entry by left = record { by = by; left = left }

  -- the entries of one number
  abbrev pub entries_by : ℕ → List (Entry E) → List (Entry E)
  entries_by by [] = []
  entries_by by (e ∷ es) = if e.by == by then e ∷ entries_by by es else entries_by by es

  -- a history goes on from another
  abbrev pub Continues : List (Entry E) → List (Entry E) → Type 0
  Continues log seen = (since : List (Entry E)) × (log ≡ since ++ seen)
