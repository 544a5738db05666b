use Rattle.std.proofs.Common.{max, ap, ◌∙◌, Ok}
use Rattle.dq_apps.proofs.PutSteps.{purge_steps}
use Rattle.dq_apps.proofs.ShowsPuts.{purges_keep, purges_count, purges_due, purges_refused}
use Rattle.dq_apps.proofs.cache.TtlCache.purge.Goals as goal

pub returns : goal.returns
returns g c =
    let b = c.args.self.now in
    let d = c.drop_due.new.self in
    let laws = g.met.K.Eq.laws in
    let purges = purge_steps b c.pass.new.self d c.args.now c.max-moment.result c.if-now-gt-LAST_TICK.false (c.max-moment.ensures ∙ ap (max c.args.now) c.moment.ensures.value) c.pass.ensures c.drop_due.result c.drop_due.ensures.count c.drop_due.ensures.purged in
    record {
      purges = purges;
      dropped = purges_count laws b d c.args.now (Ok c.drop_due.result) purges;
      rest = purges_due laws b d c.args.now (Ok c.drop_due.result) purges;
      seen = purges_keep laws b d c.args.now (Ok c.drop_due.result) purges;
      refused = purges_refused laws b d c.args.now (Ok c.drop_due.result) purges;
    }
