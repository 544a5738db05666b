use Rattle.dq_apps.proofs.CacheReads.{cache_law}
use Rattle.dq_apps.proofs.cache.TtlCache.law.Goals as goal

pub returns : goal.returns
returns g c =
    let s = c.self.inside in
    let l = c.law.ensures in
    rw (← c.self.view_is) (cache_law g.met.K.Eq.laws s.stock.entries s.timers s.moment c.self.invariant l.capacity l.stamps l.deadlines l.last)
