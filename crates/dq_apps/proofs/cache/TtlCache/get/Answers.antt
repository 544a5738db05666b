use Rattle.std.proofs.Common.{sym, max, arith}
use Rattle.dq_apps.proofs.CacheReads.{gets_none, gets_due, gets_now}
use Rattle.dq_apps.proofs.cache.TtlCache.get.Goals as goal

pub returns-in_default : goal.returns-in_default
returns-in_default g c =
    let s = c.self.inside in
    rw (← c.self.view_is) (sym (gets_none g.met.K.Eq.laws s.stock.entries s.timers s.moment c.self.invariant c.args.key.now (max c.args.now s.moment) (sym c.in_default.ensures.value)))

pub returns-then-max-kept : goal.returns-then-max-kept
returns-then-max-kept g c =
    let s = c.self.inside in
    rw (← c.self.view_is)
    (sym (gets_now g.met.K.Eq.laws s.stock.entries s.timers s.moment c.self.invariant c.args.key.now c.in-Some.kept.now (max c.args.now s.moment) (sym c.in-Some.ensures.value) (omega (arith, c.max.ensures, c.if-max-kept.true))))

pub returns-else-max-kept : goal.returns-else-max-kept
returns-else-max-kept g c =
    let s = c.self.inside in
    rw (← c.self.view_is)
    (sym (gets_due g.met.K.Eq.laws s.stock.entries s.timers s.moment c.self.invariant c.args.key.now c.in-Some.kept.now (max c.args.now s.moment) (sym c.in-Some.ensures.value) (omega (arith, c.max.ensures, c.if-max-kept.false))))
