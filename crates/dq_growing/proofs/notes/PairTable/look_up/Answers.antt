use Rattle.std.proofs.Common.{◌∙◌}
use Rattle.dq_growing.proofs.notes.PairTable.look_up.Goals as goal

pub returns : goal.returns
returns g c = rw (← c.self.view_is) (c.copied-found.ensures ∙ (rw c.numbers_of.ensures at c.get.ensures.value))
