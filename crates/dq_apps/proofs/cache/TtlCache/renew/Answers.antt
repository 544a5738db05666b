use Rattle.std.proofs.Common.{◌+◌, ◌<◌, refl, ap, arith, max, Ok, Err}
use Rattle.dq_core.specs.declared.errors.CoreError.TheVariants.{Missing, Worn}
use Rattle.dq_apps.specs.Cache.{Cache}
use Rattle.dq_apps.specs.Calls.{Renews}
use Rattle.dq_apps.specs.Tied.{cache_of}
use Rattle.dq_apps.proofs.CacheReads.{unseen_absent, unseen_due}
use Rattle.dq_apps.proofs.CacheSteps.{renewed_stock, seen_worn, worn_cache}
use Rattle.dq_apps.proofs.CacheSteps as steps
use Rattle.dq_apps.proofs.ShowsPuts.{renews_seen, renews_others, renews_refused}
use Rattle.dq_apps.proofs.cache.TtlCache.renew.Goals as goal

pub returns-in_default : goal.returns-in_default
returns-in_default g c =
    let s = c.self.inside in
    let b = c.args.self.now in
    let laws = g.met.K.Eq.laws in
    let apart = c.law.ensures.distinct in
    let renews : Renews g.K.PartialEq.eq b c.args.key.now c.args.ttl c.args.now (Err Missing) b = rw (← c.self.view_is)
    (((c.if-now-gt-LAST_TICK.false, omega (arith, c.max-moment.ensures, c.if-moment-ttl.false)), unseen_absent laws s.stock.entries s.timers s.moment c.self.invariant c.args.key.now (max c.args.now s.moment) c.in_default.ensures), refl) in
    record {
      renews = renews;
      seen = renews_seen laws b b c.args.key.now c.args.ttl c.args.now apart (Err Missing) renews;
      others = renews_others laws b b c.args.key.now c.args.ttl c.args.now (Err Missing) renews;
      refused = renews_refused laws b b c.args.key.now c.args.ttl c.args.now (Err Missing) renews;
    }

pub returns-then-timer-moment : goal.returns-then-timer-moment
returns-then-timer-moment g c =
    let t = c.in-Some.ensures in
    let s = c.self.inside in
    let b = c.args.self.now in
    let laws = g.met.K.Eq.laws in
    let apart = c.law.ensures.distinct in
    let renews : Renews g.K.PartialEq.eq b c.args.key.now c.args.ttl c.args.now (Err Missing) b = rw (← c.self.view_is)
    (((c.if-now-gt-LAST_TICK.false, omega (arith, c.max-moment.ensures, c.if-moment-ttl.false)), unseen_due laws s.stock.entries s.timers s.moment c.self.invariant c.args.key.now t.0 (max c.args.now s.moment) t.1 (omega (arith, t.2, c.max-moment.ensures, c.if-timer-moment.true))), refl) in
    record {
      renews = renews;
      seen = renews_seen laws b b c.args.key.now c.args.ttl c.args.now apart (Err Missing) renews;
      others = renews_others laws b b c.args.key.now c.args.ttl c.args.now (Err Missing) renews;
      refused = renews_refused laws b b c.args.key.now c.args.ttl c.args.now (Err Missing) renews;
    }

pub returns-in_default-restart : goal.returns-in_default-restart
returns-in_default-restart g c =
    let t = c.in-Some.ensures in
    let restarts = rw (← t.3) at c.in_default-restart.ensures in
    let s = c.self.inside in
    let b = c.args.self.now in
    let laws = g.met.K.Eq.laws in
    let apart = c.law.ensures.distinct in
    let d : Cache g.row.K.Denot g.row.V.Denot = cache_of g.K.PartialEq.eq s.stock.entries c.restart.new.self s.moment in
    let renews : Renews g.K.PartialEq.eq b c.args.key.now c.args.ttl c.args.now (Err Worn) d = rw (← c.self.view_is)
    (((c.if-now-gt-LAST_TICK.false, omega (arith, c.max-moment.ensures, c.if-moment-ttl.false)), seen_worn laws s.stock.entries s.timers s.moment c.self.invariant s.stock.entries c.restart.new.self c.args.key.now t.0 t.1 (c.max-moment.result + c.args.ttl) restarts (max c.args.now s.moment) (omega (arith, t.2, c.max-moment.ensures, c.if-timer-moment.false))), worn_cache laws s.stock.entries s.timers s.moment c.self.invariant s.stock.entries c.restart.new.self c.args.key.now t.0 t.1 (c.max-moment.result + c.args.ttl) restarts) in
    record {
      renews = renews;
      seen = renews_seen laws b d c.args.key.now c.args.ttl c.args.now apart (Err Worn) renews;
      others = renews_others laws b d c.args.key.now c.args.ttl c.args.now (Err Worn) renews;
      refused = renews_refused laws b d c.args.key.now c.args.ttl c.args.now (Err Worn) renews;
    }

pub invariant_of-self-2 : goal.invariant_of-self-2
invariant_of-self-2 g c =
    let s = c.self.inside in
    let t = c.in-Some.ensures in
    let restarts = rw (← t.3) at c.in-Some-restart.ensures in
    renewed_stock g.met.K.Eq.laws s.stock.entries s.timers s.moment c.self.invariant c.renew_at.new.stock.entries c.restart.new.self c.args.key.now t.0 t.1 t.0.value (c.max-moment.result + c.args.ttl) c.max-moment.result c.in-Some-restart.next restarts (c.renew_at.ensures t.0 t.1) (omega (arith, c.max-moment.ensures)) (omega (arith, c.max-moment.ensures, c.if-now-gt-LAST_TICK.false, c.self.invariant.bound))

pub returns : goal.returns
returns g c =
    let t = c.in-Some.ensures in
    let restarts = rw (← t.3) at c.in-Some-restart.ensures in
    let s = c.self.inside in
    let b = c.args.self.now in
    let laws = g.met.K.Eq.laws in
    let apart = c.law.ensures.distinct in
    let later : max c.args.now s.moment < t.0.deadline = omega (arith, t.2, c.max-moment.ensures, c.if-timer-moment.false) in
    let d : Cache g.row.K.Denot g.row.V.Denot = cache_of g.K.PartialEq.eq c.renew_at.new.stock.entries c.restart.new.self c.max-moment.result in
    let renews : Renews g.K.PartialEq.eq b c.args.key.now c.args.ttl c.args.now (Ok (c.max-moment.result + c.args.ttl)) d = rw (← c.self.view_is)
    (steps.renews laws s.stock.entries s.timers s.moment c.self.invariant c.renew_at.new.stock.entries c.restart.new.self c.args.key.now t.0 t.1 t.0.value (c.max-moment.result + c.args.ttl) c.max-moment.result c.in-Some-restart.next restarts (c.renew_at.ensures t.0 t.1) c.args.ttl c.args.now refl (c.if-now-gt-LAST_TICK.false, omega (arith, c.max-moment.ensures, c.if-moment-ttl.false)) (ap (λ n. n + c.args.ttl) c.max-moment.ensures) c.max-moment.ensures later) in
    record {
      renews = renews;
      seen = renews_seen laws b d c.args.key.now c.args.ttl c.args.now apart (Ok (c.max-moment.result + c.args.ttl)) renews;
      others = renews_others laws b d c.args.key.now c.args.ttl c.args.now (Ok (c.max-moment.result + c.args.ttl)) renews;
      refused = renews_refused laws b d c.args.key.now c.args.ttl c.args.now (Ok (c.max-moment.result + c.args.ttl)) renews;
    }
