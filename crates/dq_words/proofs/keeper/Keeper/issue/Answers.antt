use Rattle.std.proofs.lemmas.Result.{IfOk-from_err}
use Rattle.dq_words.proofs.keeper.Keeper.issue.Goals as goal

pub returns-in_err-seat-clause-counted : goal.returns-in_err-seat-clause-counted
returns-in_err-seat-clause-counted g c = IfOk-from_err _ _ c.from_residual.ensures.0

pub returns-in_err-seat-clause-same_table : goal.returns-in_err-seat-clause-same_table
returns-in_err-seat-clause-same_table g c = IfOk-from_err _ _ c.from_residual.ensures.0

pub returns-in_err-seat-clause-newcomer : goal.returns-in_err-seat-clause-newcomer
returns-in_err-seat-clause-newcomer g c = IfOk-from_err _ _ c.from_residual.ensures.0
