use Rattle.std.proofs.Common.{sym, ◌∙◌}
use Rattle.dq_apps.proofs.TimerRows.{length-slots}
use Rattle.dq_apps.proofs.timers.Timers.capacity.Goals as goal

pub returns : goal.returns
returns g c =
    let q = c.self.inside.queue in
    rw (← c.self.view_is) (c.capacity.ensures ∙ sym (length-slots q.slots.rows q.known c.law.ensures.shard.as_known))
