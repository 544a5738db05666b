use Rattle.std.proofs.Common.{IfSome, ◌<◌, ◌^◌, rules}
use Rattle.dq_growing.proofs.Leasts.{wake_bounds}
use Rattle.dq_growing.proofs.cores.wake_of.Goals as goal

pub returns-clause-bounds : goal.returns-clause-bounds
returns-clause-bounds g c =
    let fits : IfSome c.next_wake-wake.result (λ w. w < 2 ^ 64) = search rules in
    let tells = c.next_wake-wake.ensures in
    wake_bounds c.args.core.now c.next_wake-wake.result c.wakes_bound_deadlines.ensures c.law.ensures.shard c.law.ensures.wheel tells.wake tells.none fits
