-- What each step tells.
use Rattle.std.specs.Prelude.{◌≡◌, ℕ, ◌∷◌, Option}
use Rattle.atomic_table.specs.Table.{Me, Step}
use Rattle.dq_queue.specs.declared.journal.views.View.{View}
use Rattle.dq_queue.specs.History.{entry, entries_by, Continues}

module _ {E : Type 0} where
  -- the view after the number that is with the witness entered what its call left
  abbrev pub entering : View E → Option E → View E
  entering v x =
      record v { log = entry v.number x ∷ v.log; mine = entry v.number x ∷ v.mine }

  -- what the witness under the lock knows, with a caller's number: the history goes on
  -- from what that caller has seen, and has of the number just the caller's entries
  abbrev pub IsFair : View E → Type 0
  IsFair v = Continues v.log v.told × (entries_by v.number v.log ≡ v.mine)

  abbrev pub entered : Option E → Step ℕ → Me ℕ (View E) → ℕ → Me ℕ (View E) → Type 0
  entered x s m n m' = (m'.0 ≡ entering m.0 x) × IsFair m.0 × IsFair m'.0

  abbrev pub learned : Step ℕ → Me ℕ (View E) → ℕ → Me ℕ (View E) → Type 0
  learned s m n m' = (m'.0 ≡ m.0) × IsFair m.0
