use Rattle.std.proofs.Common.{◌∙◌}
use Rattle.dq_apps.proofs.Timed.{removed_stops, removed_timers}
use Rattle.dq_apps.proofs.Filings.{removed_filed}
use Rattle.dq_apps.proofs.timers.Timers.stop.Goals as goal

pub invariant_of-self : goal.invariant_of-self
invariant_of-self g c =
    let removed = rw c.entry.ensures at c.in-Ok.ensures.removes in
    let set = rw (← c.self.view_is) at c.requires in
    (removed_timers c.self.inside.queue c.remove.new.self c.own_events_alone.ensures c.remove.ensures.same c.self.invariant.0 c.args.key.now _ set removed, c.remove.ensures.same.1 ∙ c.self.invariant.1, removed_filed c.self.inside.queue c.remove.new.self c.self.invariant.2 c.args.key.now.entry _ removed)

pub returns : goal.returns
returns g c =
    let removed = rw c.entry.ensures at c.in-Ok.ensures.removes in
    let set = rw (← c.self.view_is) at c.requires in
    rw (← c.self.view_is) (removed_stops c.self.inside.queue c.remove.new.self c.own_events_alone.ensures c.remove.ensures.same c.self.invariant.0 c.args.key.now _ set removed)
