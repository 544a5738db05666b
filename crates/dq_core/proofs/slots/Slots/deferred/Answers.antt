use Rattle.std.proofs.Common.{arith}
use Rattle.dq_core.proofs.DeferredCounts.{all_wait}
use Rattle.dq_core.proofs.slots.Slots.deferred.Goals as goal

pub returns : goal.returns
returns g c =
    let i = c.self.invariant in
    let all = all_wait i.0 i.3 i.4 i.1 i.2 c.law.ensures c.law-2.ensures in
    rw (← c.self.view_is) (omega (arith, all, c.count.ensures.exact, c.count-2.ensures.exact))
