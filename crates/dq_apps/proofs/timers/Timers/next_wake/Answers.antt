use Rattle.dq_apps.proofs.Filings.{tells_wake}
use Rattle.dq_apps.proofs.timers.Timers.next_wake.Goals as goal

pub returns : goal.returns
returns g c =
    let s = c.self.inside in
    rw (← c.self.view_is) (tells_wake s.queue c.law.ensures.shard c.law.ensures.wheel c.self.invariant.0.1 c.self.invariant.2 c.next_wake.result c.next_wake.ensures.wake)
