use Rattle.dq_ticks.proofs.Laws.{level_stable, start_above, start_le, start_opens, start_stable}
use Rattle.dq_ticks.proofs.digits.places_are_stable.Goals as goal

pub returns-clause-ahead : goal.returns-clause-ahead
returns-clause-ahead c = λ e f a. (start_above e f a, start_le e f a)

pub returns-clause-stable : goal.returns-clause-stable
returns-clause-stable c = λ e n f a from before. (level_stable e f a n from before, start_stable e f a n from before)

pub returns-clause-opening : goal.returns-clause-opening
returns-clause-opening c = start_opens
