use Rattle.dq_apps.proofs.Refreshed.{refreshed_stock, is_refreshed, keeps_seen, none_worn}
use Rattle.dq_apps.proofs.MovedTimers.{begins}
use Rattle.dq_apps.proofs.cache.TtlCache.refresh.Goals as goal

pub move_all-requires : goal.move_all-requires
move_all-requires g c =
    let s = c.self.inside in
    begins g.met.K.Eq.laws s.stock.entries s.timers c.self.invariant.tied c.law.ensures.deadlines c.in_ok-fresh.ensures.0 c.in_ok-fresh.fresh c.in_ok-fresh.ensures.1

pub invariant_of-self : goal.invariant_of-self
invariant_of-self g c =
    let s = c.self.inside in
    refreshed_stock g.met.K.Eq.laws s.stock.entries s.timers s.moment c.self.invariant c.in_ok-fresh.fresh c.in_ok-fresh.ensures.1 c.move_all.new.stock.entries c.move_all.new.worn.slots c.move_all.new.fresh c.move_all.ensures.moved c.move_all.ensures.left

pub returns : goal.returns
returns g c =
    let s = c.self.inside in
    let fs = c.move_all.new.stock.entries in
    let rest = c.move_all.new.worn.slots in
    let next = c.move_all.new.fresh in
    let moved = c.move_all.ensures.moved in
    let left = c.move_all.ensures.left in
    let is = is_refreshed g.met.K.Eq.laws s.stock.entries s.timers s.moment c.self.invariant c.in_ok-fresh.fresh c.in_ok-fresh.ensures.1 fs rest next moved left in
    rw (← c.self.view_is)
    (record {
      refreshes = is;
      seen = keeps_seen g.met.K.Eq.laws s.stock.entries s.timers s.moment c.self.invariant c.in_ok-fresh.fresh c.in_ok-fresh.ensures.1 fs rest next moved left;
      count = is.count;
      worn = none_worn g.met.K.Eq.laws s.stock.entries s.timers s.moment c.self.invariant c.in_ok-fresh.fresh c.in_ok-fresh.ensures.1 fs rest next moved left;
    })
