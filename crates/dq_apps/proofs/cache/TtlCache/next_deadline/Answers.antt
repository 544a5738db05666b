use Rattle.dq_apps.proofs.CacheReads.{first_least, stock_least}
use Rattle.dq_apps.proofs.cache.TtlCache.next_deadline.Goals as goal

pub returns-in-Some : goal.returns-in-Some
returns-in-Some g c =
    let s = c.self.inside in
    rw (← c.self.view_is) (first_least g.met.K.Eq.laws s.stock.entries s.timers s.moment c.self.invariant c.in-Some.deadline c.in-Some.ensures)

pub returns-in-None : goal.returns-in-None
returns-in-None g c =
    let s = c.self.inside in
    rw (← c.self.view_is) (stock_least g.met.K.Eq.laws s.stock.entries s.timers s.moment c.self.invariant c.least_deadline.result c.least_deadline.ensures)
