use Rattle.std.proofs.Common.{arith}
use Rattle.dq_core.proofs.WordRow.{few_begun}
use Rattle.dq_core.proofs.vec_words.VecWordsWords.begin.Goals as goal

-- too few words were begun to overflow
pub overflow_add-self : goal.overflow_add-self
overflow_add-self g c = omega (arith, few_begun _ _ c.self.invariant)
