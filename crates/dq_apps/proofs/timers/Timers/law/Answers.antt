use Rattle.dq_apps.proofs.Timed.{capacity_within, stamps_within}
use Rattle.dq_apps.proofs.Firsts.{range_within}
use Rattle.dq_apps.proofs.timers.Timers.law.Goals as goal

pub returns-clause-capacity : goal.returns-clause-capacity
returns-clause-capacity g c = rw (← c.self.view_is) (capacity_within c.self.inside.queue c.law.ensures.shard)

pub returns-clause-stamps : goal.returns-clause-stamps
returns-clause-stamps g c = rw (← c.self.view_is) (stamps_within c.self.inside.queue c.law.ensures.shard)

pub returns-clause-deadlines : goal.returns-clause-deadlines
returns-clause-deadlines g c = rw (← c.self.view_is) (range_within c.self.inside.queue c.law.ensures.shard)
