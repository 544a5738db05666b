use Rattle.std.proofs.Common.{max, ap, ◌∙◌, Ok}
use Rattle.dq_apps.proofs.PutSteps.{expired_steps}
use Rattle.dq_apps.proofs.ShowsPuts.{expired_keeps, expired_rest, expired_refused}
use Rattle.dq_apps.proofs.cache.TtlCache.take_expired.Goals as goal

pub returns : goal.returns
returns g c =
    let b = c.args.self.now in
    let d = c.take_due.new.self in
    let laws = g.met.K.Eq.laws in
    let takes = expired_steps b c.pass.new.self d c.args.now c.max-moment.result c.if-now-gt-LAST_TICK.false (c.max-moment.ensures ∙ ap (max c.args.now) c.moment.ensures.value) c.pass.ensures c.take_due.result c.take_due.ensures in
    record {
      takes = takes;
      rest = expired_rest laws b d c.args.now (Ok c.take_due.result) takes;
      seen = expired_keeps laws b d c.args.now (Ok c.take_due.result) takes;
      refused = expired_refused laws b d c.args.now (Ok c.take_due.result) takes;
    }
