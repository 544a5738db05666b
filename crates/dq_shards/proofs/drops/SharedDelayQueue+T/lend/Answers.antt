use Rattle.std.proofs.Common.{refl}
use Rattle.std.proofs.lemmas.Result.{err_from_is_err_and, IfOk-from_err}
use Rattle.dq_shards.proofs.drops.SharedDelayQueue+T.lend.Goals as goal

pub returns-clause-lent : goal.returns-clause-lent
returns-clause-lent g c = c.in_ok-locked.ensures.entered.0

pub returns-clause-answer : goal.returns-clause-answer
returns-clause-answer g c = (
  _,
  c.f-answer.new.arg2,
  c.in_ok-locked.ensures.entered.1,
  c.leave.ensures,
  (
    c.in_ok-locked.ensures.number,
    record {
      shown = _;
      shows = c.deref_mut.ensures.value;
      left = _;
      met = c.f-answer.ensures;
      leaves = refl;
    },
  ),
)

pub returns-in_err-locked-clause-lent : goal.returns-in_err-locked-clause-lent
returns-in_err-locked-clause-lent g c = IfOk-from_err _ _ c.from_residual.ensures.0

pub returns-in_err-locked-clause-answer : goal.returns-in_err-locked-clause-answer
returns-in_err-locked-clause-answer g c = IfOk-from_err _ _ c.from_residual.ensures.0

pub returns-in_err-locked-clause-refused : goal.returns-in_err-locked-clause-refused
returns-in_err-locked-clause-refused g c =
    let p = err_from_is_err_and c.from_residual.result c.from_residual.ensures.1 in
    rw (p.1, p.2) c.in_err-locked.ensures.refused
