use Rattle.dq_apps.proofs.Ties.{count_used}
use Rattle.dq_apps.proofs.cache.TtlCache.worn.Goals as goal

pub returns : goal.returns
returns g c =
    let s = c.self.inside in
    let used = count_used g.met.K.Eq.laws s.stock.entries s.timers.slots c.self.invariant.tied s.timers.last_stamp in
    rw (← c.self.view_is, c.worn.ensures.count) used
