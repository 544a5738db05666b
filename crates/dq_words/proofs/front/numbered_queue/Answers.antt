use Rattle.std.proofs.lemmas.Result.{IfOk-from_err}
use Rattle.dq_words.proofs.front.numbered_queue.Goals as goal

pub returns-in_err-clone-clause-empty : goal.returns-in_err-clone-clause-empty
returns-in_err-clone-clause-empty g c = IfOk-from_err _ _ c.from_residual.ensures.0

pub returns-in_err-clone-clause-start : goal.returns-in_err-clone-clause-start
returns-in_err-clone-clause-start g c = IfOk-from_err _ _ c.from_residual.ensures.0

pub returns-in_err-clone-clause-size : goal.returns-in_err-clone-clause-size
returns-in_err-clone-clause-size g c = IfOk-from_err _ _ c.from_residual.ensures.0

pub returns-in_err-clone-clause-stamps : goal.returns-in_err-clone-clause-stamps
returns-in_err-clone-clause-stamps g c = IfOk-from_err _ _ c.from_residual.ensures.0

pub returns-in_err-clone-clause-fresh : goal.returns-in_err-clone-clause-fresh
returns-in_err-clone-clause-fresh g c = IfOk-from_err _ _ c.from_residual.ensures.0

pub returns-in_err-clone-clause-made : goal.returns-in_err-clone-clause-made
returns-in_err-clone-clause-made g c = IfOk-from_err _ _ c.from_residual.ensures.0
