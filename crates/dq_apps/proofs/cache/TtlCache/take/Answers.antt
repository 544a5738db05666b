use Rattle.std.proofs.Common.{refl, arith, max, Some, None}
use Rattle.dq_apps.specs.Cache.{Cache, moment_at}
use Rattle.dq_apps.specs.Calls.{Takes}
use Rattle.dq_apps.specs.Tied.{cache_of}
use Rattle.dq_apps.proofs.CacheReads.{unseen_absent, unseen_due}
use Rattle.dq_apps.proofs.CacheSteps.{taken_stock, taken_takes}
use Rattle.dq_apps.proofs.Shows.{taken_value, taken_gone, taken_others, taken_moment}
use Rattle.dq_apps.proofs.cache.TtlCache.take.Goals as goal

pub returns-in_default : goal.returns-in_default
returns-in_default g c =
    let s = c.self.inside in
    let b = c.args.self.now in
    let laws = g.met.K.Eq.laws in
    let apart = c.law.ensures.distinct in
    let takes : Takes g.K.PartialEq.eq b c.args.key.now (moment_at b c.args.now) None b = rw (← c.self.view_is) (unseen_absent laws s.stock.entries s.timers s.moment c.self.invariant c.args.key.now (max c.args.now s.moment) c.in_default.ensures, refl) in
    record {
      takes = takes;
      taken = taken_value laws b b c.args.key.now c.args.now apart None takes;
      gone = taken_gone laws b b c.args.key.now c.args.now apart None takes;
      others = taken_others laws b b c.args.key.now c.args.now None takes;
      moment = refl;
    }

pub returns-then-timer-max : goal.returns-then-timer-max
returns-then-timer-max g c =
    let s = c.self.inside in
    let t = c.in-Some.ensures in
    let b = c.args.self.now in
    let laws = g.met.K.Eq.laws in
    let apart = c.law.ensures.distinct in
    let takes : Takes g.K.PartialEq.eq b c.args.key.now (moment_at b c.args.now) None b = rw (← c.self.view_is)
    (unseen_due laws s.stock.entries s.timers s.moment c.self.invariant c.args.key.now t.0 (max c.args.now s.moment) t.1 (omega (arith, t.2, c.max.ensures, c.if-timer-max.true)), refl) in
    record {
      takes = takes;
      taken = taken_value laws b b c.args.key.now c.args.now apart None takes;
      gone = taken_gone laws b b c.args.key.now c.args.now apart None takes;
      others = taken_others laws b b c.args.key.now c.args.now None takes;
      moment = refl;
    }

pub invariant_of-self : goal.invariant_of-self
invariant_of-self g c =
    let s = c.self.inside in
    let t = c.in-Some.ensures in
    let is = rw (← t.3) at c.stop.ensures in
    taken_stock g.met.K.Eq.laws s.stock.entries s.timers s.moment c.self.invariant c.remove.new.self.entries c.stop.new.self c.args.key.now t.0 t.1 (c.remove.ensures.updates.0, c.remove.ensures.unique) is

pub returns : goal.returns
returns g c =
    let s = c.self.inside in
    let t = c.in-Some.ensures in
    let b = c.args.self.now in
    let laws = g.met.K.Eq.laws in
    let apart = c.law.ensures.distinct in
    let is = rw (← t.3) at c.stop.ensures in
    let d : Cache g.row.K.Denot g.row.V.Denot = cache_of g.K.PartialEq.eq c.remove.new.self.entries c.stop.new.self s.moment in
    let takes : Takes g.K.PartialEq.eq b c.args.key.now (moment_at b c.args.now) (Some c.in-Some-remove.kept.value) d = rw (← c.self.view_is)
    (taken_takes laws s.stock.entries s.timers s.moment c.self.invariant c.remove.new.self.entries c.stop.new.self c.args.key.now t.0 t.1 (c.remove.ensures.updates.0, c.remove.ensures.unique) is (max c.args.now s.moment) c.in-Some-remove.kept (omega (arith, t.2, c.max.ensures, c.if-timer-max.false)) c.in-Some-remove.ensures.value) in
    record {
      takes = takes;
      taken = taken_value laws b d c.args.key.now c.args.now apart (Some c.in-Some-remove.kept.value) takes;
      gone = taken_gone laws b d c.args.key.now c.args.now apart (Some c.in-Some-remove.kept.value) takes;
      others = taken_others laws b d c.args.key.now c.args.now (Some c.in-Some-remove.kept.value) takes;
      moment = taken_moment laws b d c.args.key.now c.args.now (Some c.in-Some-remove.kept.value) takes;
    }
