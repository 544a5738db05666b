use Rattle.std.proofs.Common.{arith}
use Rattle.std.proofs.lemmas.Result.{IfOk-from_err}
use Rattle.dq_words.proofs.Bridge.{fresh_view}
use Rattle.dq_words.proofs.keeper.Keeper.new.Goals as goal

pub returns-clause-made : goal.returns-clause-made
returns-clause-made g c = (omega arith, omega arith, c.in_ok-seat.ensures, fresh_view c.args.capacity _ c.in_ok-seat.ensures)

pub returns-clause-fresh : goal.returns-clause-fresh
returns-clause-fresh g c = fresh_view c.args.capacity _ c.in_ok-seat.ensures

pub returns-in_err-seat-clause-rows : goal.returns-in_err-seat-clause-rows
returns-in_err-seat-clause-rows g c = IfOk-from_err _ _ c.from_residual.ensures.0

pub returns-in_err-seat-clause-fresh : goal.returns-in_err-seat-clause-fresh
returns-in_err-seat-clause-fresh g c = IfOk-from_err _ _ c.from_residual.ensures.0

pub returns-in_err-seat-clause-nothing : goal.returns-in_err-seat-clause-nothing
returns-in_err-seat-clause-nothing g c = IfOk-from_err _ _ c.from_residual.ensures.0
