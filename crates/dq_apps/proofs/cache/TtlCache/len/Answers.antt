use Rattle.dq_apps.proofs.Ties.{count_kept}
use Rattle.dq_apps.proofs.cache.TtlCache.len.Goals as goal

pub returns : goal.returns
returns g c =
    let kept = count_kept g.met.K.Eq.laws c.self.inside.stock.entries c.self.inside.timers.slots c.self.invariant.tied in
    rw (← c.self.view_is, c.len.ensures.count) kept
