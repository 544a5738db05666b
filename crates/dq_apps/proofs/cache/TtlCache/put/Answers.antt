use Rattle.std.proofs.Common.{◌≡◌, ◌+◌, refl, sym, ap, ◌∙◌, arith, max, Ok, Err, Some, None}
use Rattle.std.proofs.lemmas.Bool.{false≢true}
use Rattle.std.proofs.lemmas.Result.{err_from_is_err_and}
use Rattle.dq_apps.specs.Cache.{moment_at}
use Rattle.dq_apps.specs.Calls.{InRange, Puts}
use Rattle.dq_core.specs.declared.errors.CoreError.TheVariants.{Worn}
use Rattle.dq_apps.proofs.PutSteps.{at_purge, puts_replaced, puts_worn, puts_added}
use Rattle.dq_apps.proofs.PutSteps as steps
use Rattle.dq_apps.proofs.ShowsPuts.{puts_seen, puts_others, puts_refused}
use Rattle.dq_apps.proofs.cache.TtlCache.put.Goals as goal

pub returns-in-Ok : goal.returns-in-Ok
returns-in-Ok g c =
    let b = c.args.self.now in
    let laws = g.met.K.Eq.laws in
    let apart = c.law.ensures.distinct in
    let d = c.drop_due.new.self in
    let m = c.max-moment.result in
    let at : m ≡ moment_at b c.args.now = c.max-moment.ensures ∙ ap (max c.args.now) c.moment.ensures.value in
    let is = at_purge g.K.PartialEq.eq b d c.args.key c.args.value c.args.ttl c.args.now c.pass.new.self m at c.pass.ensures c.drop_due.ensures.purged in
    let deadline : m + c.args.ttl ≡ moment_at b c.args.now + c.args.ttl = ap (λ n. n + c.args.ttl) at in
    let range : InRange b c.args.ttl c.args.now = (c.if-now-gt-LAST_TICK.false, omega (arith, deadline, c.if-moment-ttl.false, c.moment.ensures.tick, c.max-moment.ensures, c.if-now-gt-LAST_TICK.false)) in
    let puts : Puts g.K.PartialEq.eq b c.args.key c.args.value c.args.ttl c.args.now (Ok (Some c.in-Ok.old)) c.replace.new.self = puts_replaced g.K.PartialEq.eq b d c.args.key c.args.value c.args.ttl c.args.now (m + c.args.ttl) is deadline range c.replace.new.self c.in-Ok.old c.in-Ok.ensures in
    record {
      puts = puts;
      seen = puts_seen laws b c.replace.new.self c.args.key c.args.value c.args.ttl c.args.now apart (Ok (Some c.in-Ok.old)) puts;
      others = puts_others laws b c.replace.new.self c.args.key c.args.value c.args.ttl c.args.now apart (Ok (Some c.in-Ok.old)) puts;
      refused = puts_refused laws b c.replace.new.self c.args.key c.args.value c.args.ttl c.args.now apart (Ok (Some c.in-Ok.old)) puts;
    }

pub returns-in-Err : goal.returns-in-Err
returns-in-Err g c =
    let b = c.args.self.now in
    let laws = g.met.K.Eq.laws in
    let apart = c.law.ensures.distinct in
    let d = c.drop_due.new.self in
    let m = c.max-moment.result in
    let at : m ≡ moment_at b c.args.now = c.max-moment.ensures ∙ ap (max c.args.now) c.moment.ensures.value in
    let is = at_purge g.K.PartialEq.eq b d c.args.key c.args.value c.args.ttl c.args.now c.pass.new.self m at c.pass.ensures c.drop_due.ensures.purged in
    let deadline : m + c.args.ttl ≡ moment_at b c.args.now + c.args.ttl = ap (λ n. n + c.args.ttl) at in
    let range : InRange b c.args.ttl c.args.now = (c.if-now-gt-LAST_TICK.false, omega (arith, deadline, c.if-moment-ttl.false, c.moment.ensures.tick, c.max-moment.ensures, c.if-now-gt-LAST_TICK.false)) in
    let worn = c.in-Err.ensures in
    let worn_puts = puts_worn g.K.PartialEq.eq b d c.args.key c.args.value c.args.ttl c.args.now (m + c.args.ttl) is deadline range c.replace.new.self worn.0 worn.2 in
    let puts : Puts g.K.PartialEq.eq b c.args.key c.args.value c.args.ttl c.args.now (Err (Worn, c.args.key, c.in-Err.value)) c.replace.new.self = (worn_puts.0, refl, worn.1) in
    record {
      puts = puts;
      seen = puts_seen laws b c.replace.new.self c.args.key c.args.value c.args.ttl c.args.now apart (Err (Worn, c.args.key, c.in-Err.value)) puts;
      others = puts_others laws b c.replace.new.self c.args.key c.args.value c.args.ttl c.args.now apart (Err (Worn, c.args.key, c.in-Err.value)) puts;
      refused = puts_refused laws b c.replace.new.self c.args.key c.args.value c.args.ttl c.args.now apart (Err (Worn, c.args.key, c.in-Err.value)) puts;
    }

pub returns-in_ok-add : goal.returns-in_ok-add
returns-in_ok-add g c =
    let b = c.args.self.now in
    let laws = g.met.K.Eq.laws in
    let apart = c.law.ensures.distinct in
    let d = c.drop_due.new.self in
    let m = c.max-moment.result in
    let at : m ≡ moment_at b c.args.now = c.max-moment.ensures ∙ ap (max c.args.now) c.moment.ensures.value in
    let is = at_purge g.K.PartialEq.eq b d c.args.key c.args.value c.args.ttl c.args.now c.pass.new.self m at c.pass.ensures c.drop_due.ensures.purged in
    let deadline : m + c.args.ttl ≡ moment_at b c.args.now + c.args.ttl = ap (λ n. n + c.args.ttl) at in
    let range : InRange b c.args.ttl c.args.now = (c.if-now-gt-LAST_TICK.false, omega (arith, deadline, c.if-moment-ttl.false, c.moment.ensures.tick, c.max-moment.ensures, c.if-now-gt-LAST_TICK.false)) in
    let puts : Puts g.K.PartialEq.eq b c.args.key c.args.value c.args.ttl c.args.now (Ok None) c.add.new.self = puts_added g.K.PartialEq.eq b d c.args.key c.args.value c.args.ttl c.args.now (m + c.args.ttl) is deadline range c.add.new.self (c.holds.ensures.no (λ e. false≢true (sym c.if-holds.false ∙ e))) c.in_ok-add.ensures in
    record {
      puts = puts;
      seen = puts_seen laws b c.add.new.self c.args.key c.args.value c.args.ttl c.args.now apart (Ok None) puts;
      others = puts_others laws b c.add.new.self c.args.key c.args.value c.args.ttl c.args.now apart (Ok None) puts;
      refused = puts_refused laws b c.add.new.self c.args.key c.args.value c.args.ttl c.args.now apart (Ok None) puts;
    }

pub returns-in_err-add : goal.returns-in_err-add
returns-in_err-add g c =
    let b = c.args.self.now in
    let laws = g.met.K.Eq.laws in
    let apart = c.law.ensures.distinct in
    let d = c.drop_due.new.self in
    let m = c.max-moment.result in
    let at : m ≡ moment_at b c.args.now = c.max-moment.ensures ∙ ap (max c.args.now) c.moment.ensures.value in
    let is = at_purge g.K.PartialEq.eq b d c.args.key c.args.value c.args.ttl c.args.now c.pass.new.self m at c.pass.ensures c.drop_due.ensures.purged in
    let deadline : m + c.args.ttl ≡ moment_at b c.args.now + c.args.ttl = ap (λ n. n + c.args.ttl) at in
    let range : InRange b c.args.ttl c.args.now = (c.if-now-gt-LAST_TICK.false, omega (arith, deadline, c.if-moment-ttl.false, c.moment.ensures.tick, c.max-moment.ensures, c.if-now-gt-LAST_TICK.false)) in
    let e = c.in_err-add.ensures in
    let p = err_from_is_err_and c.from_residual.result c.from_residual.ensures.1 in
    let puts : Puts g.K.PartialEq.eq b c.args.key c.args.value c.args.ttl c.args.now (Err p.0) c.add.new.self = rw p.2 (steps.puts_refused g.K.PartialEq.eq b d c.args.key c.args.value c.args.ttl c.args.now (m + c.args.ttl) is deadline range c.add.new.self _ (c.holds.ensures.no (λ t. false≢true (sym c.if-holds.false ∙ t))) e.0 e.1 e.2 e.3) in
    rw p.1
    (record {
      puts = puts;
      seen = puts_seen laws b c.add.new.self c.args.key c.args.value c.args.ttl c.args.now apart (Err p.0) puts;
      others = puts_others laws b c.add.new.self c.args.key c.args.value c.args.ttl c.args.now apart (Err p.0) puts;
      refused = puts_refused laws b c.add.new.self c.args.key c.args.value c.args.ttl c.args.now apart (Err p.0) puts;
    })
