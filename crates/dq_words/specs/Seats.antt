-- A seat as contracts see it.
use Rattle.atomic_table.specs.Seated.{TableId}
use Rattle.dq_words.specs.declared.views.View.{View}

-- a seat: the table that it sits at, and what it knows
pub record Sat : Type 0 where
  pub table : TableId
  pub view : View
