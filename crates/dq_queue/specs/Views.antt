-- What witnesses know.
use Rattle.std.specs.Prelude.{◌+◌, [], true, false}
use Rattle.dq_queue.specs.declared.journal.views.View.{View}

module _ {E : Type 0} where
  -- a witness that knows nothing
  abbrev pub nobody : View E
  nobody = record { keeps = false; made = 0; holds = false; number = 0; mine = []; log = []; told = [] }

  -- the witness under the lock, at the start
  abbrev pub first_witness : View E
  first_witness = record { keeps = true; made = 0; holds = false; number = 0; mine = []; log = []; told = [] }

  -- it made one caller more, and that caller's, which has seen as much and entered nothing
  abbrev pub with_one_more : View E → View E
  with_one_more v = record v { made = v.made + 1 }

  abbrev pub new_witness : View E → View E
  new_witness v = record { keeps = false; made = 0; holds = true; number = v.made; mine = []; log = v.log; told = [] }

  -- a witness that gave its number and entries away, and what carries them
  abbrev pub left : View E → View E
  left v = record v { holds = false; mine = [] }

  abbrev pub lent : View E → View E
  lent v = record { keeps = false; made = 0; holds = v.holds; number = v.number; mine = v.mine; log = v.log; told = [] }

  -- the witness under the lock that took them in, and was told what their caller had seen
  abbrev pub taken : View E → View E → View E
  taken v t = record v { holds = t.holds; number = t.number; mine = t.mine; told = t.log }
