use Rattle.dq_ticks.proofs.Laws.{before_later, lower_first, soonest_first}
use Rattle.dq_ticks.proofs.digits.soonest_slots_come_first.Goals as goal

pub returns-clause-lower : goal.returns-clause-lower
returns-clause-lower c = lower_first

pub returns-clause-earlier : goal.returns-clause-earlier
returns-clause-earlier c = before_later

pub returns-clause-soonest : goal.returns-clause-soonest
returns-clause-soonest c = soonest_first
