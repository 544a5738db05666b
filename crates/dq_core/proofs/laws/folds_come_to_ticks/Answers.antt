use Rattle.dq_core.proofs.Folds.{comes}
use Rattle.dq_core.proofs.laws.folds_come_to_ticks.Goals as goal

pub returns : goal.returns
returns g c = λ f t behind. comes f t behind
