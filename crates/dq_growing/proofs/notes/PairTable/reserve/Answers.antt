use Rattle.std.proofs.Common.{sym, ◌∙◌}
use Rattle.dq_growing.specs.Notes.{numbers_of}
use Rattle.dq_growing.proofs.notes.PairTable.reserve.Goals as goal

pub returns-clause-same : goal.returns-clause-same
returns-clause-same g c k = rw (← c.self.view_is) (c.reserve.ensures.entries.2 (numbers_of k))

pub invariant_of-self : goal.invariant_of-self
invariant_of-self g c k o at = c.self.invariant k o (sym (c.reserve.ensures.entries.2 (numbers_of k)) ∙ at)
