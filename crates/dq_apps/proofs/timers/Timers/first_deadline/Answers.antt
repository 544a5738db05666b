use Rattle.dq_apps.proofs.Firsts.{first_is}
use Rattle.dq_apps.proofs.timers.Timers.first_deadline.Goals as goal

pub returns-in-Ok-StillLive : goal.returns-in-Ok-StillLive
returns-in-Ok-StillLive g c =
    let filed = rw (c.entry.ensures, ← c.if-deadline-filed.true) at c.in-Some-filed.ensures in
    let shows = rw c.in-Ok-StillLive.field-0-is at c.in-Ok-StillLive.ensures.shows in
    rw (← c.self.view_is) (first_is c.self.inside.queue c.law.ensures.shard c.in-Some.key c.in-Ok-StillLive.deadline c.in-Some.ensures filed shows)
