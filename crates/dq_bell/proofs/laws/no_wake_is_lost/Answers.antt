use Rattle.dq_bell.proofs.Steps.{none_lost}
use Rattle.dq_bell.proofs.laws.no_wake_is_lost.Goals as goal

pub returns : goal.returns
returns c = none_lost
