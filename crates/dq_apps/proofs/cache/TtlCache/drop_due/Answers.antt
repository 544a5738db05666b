use Rattle.dq_apps.proofs.Sweeps.{dropped_more, dropped_all}
use Rattle.dq_apps.proofs.cache.TtlCache.drop_due.Goals as goal

pub loop-due-preserved : goal.loop-due-preserved
loop-due-preserved g c =
    let l = c.loop-due in
    dropped_more c.args.self.now l.self c.take_due.new.self l.dropped c.in-Some._due c.in-Some.ensures l.invariant.0 l.invariant.1 l.invariant.2

pub returns : goal.returns
returns g c =
    let l = c.loop-due in
    let all = dropped_all c.args.self.now l.self c.take_due.new.self l.dropped c.in_default.ensures l.invariant.1 l.invariant.2 in
    record { count = all.0; purged = all.1 }
