use Rattle.dq_bell.proofs.Steps.{none_sleeps}
use Rattle.dq_bell.proofs.laws.nobody_sleeps_once_closed.Goals as goal

pub returns : goal.returns
returns c = none_sleeps
