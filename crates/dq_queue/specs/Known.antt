-- A witness as contracts see it.
use Rattle.std.specs.Prelude.{◌≡◌}
use Rattle.atomic_table.specs.Seated.{TableId}
use Rattle.dq_queue.specs.declared.journal.views.View.{View}

-- the history that it is a witness of, and what it knows
pub record Known (E : Type 0) : Type 0 where
  pub table : TableId
  pub view : View E

-- it is of that history
abbrev pub Sits : TableId → TableId → Type 0
Sits sits hand = (sits ≡ hand) × (hand.words ≡ 1)
