use Rattle.dq_apps.specs.NextWake.{TellsNextWake}
use Rattle.dq_apps.proofs.Wakings.{wakes, wakes_early, wakes_none}
use Rattle.dq_apps.proofs.cache.TtlCache.next_wake.Goals as goal

pub returns : goal.returns
returns g c =
    let s = c.self.inside in
    let b = c.args.self.now in
    let tells : TellsNextWake b c.next_wake.result = rw (← c.self.view_is) (wakes g.met.K.Eq.laws s.stock.entries s.timers s.moment c.self.invariant c.next_wake.result c.next_wake.ensures) in
    record { tells = tells; early = wakes_early b c.next_wake.result tells; none = wakes_none b c.next_wake.result tells }
