use Rattle.dq_apps.proofs.CacheSteps.{made_stock, made_cache}
use Rattle.dq_apps.proofs.Shows.{fresh_nothing}
use Rattle.dq_apps.proofs.cache.TtlCache.made.Goals as goal

pub invariant_of-result : goal.invariant_of-result
invariant_of-result g c =
    made_stock g.K.PartialEq.eq c.with_hasher.result.entries c.in_ok-timers.timers c.args.capacity c.args.last_stamp c.with_hasher.ensures.empty c.in_ok-timers.ensures.1 c.with_hasher.ensures.unique

pub returns : goal.returns
returns g c =
    let made = made_cache g.K.PartialEq.eq c.with_hasher.result.entries c.in_ok-timers.timers c.args.capacity c.args.last_stamp c.with_hasher.ensures.empty c.in_ok-timers.ensures.1 in
    record { makes = (c.in_ok-timers.ensures.0, made); empty = fresh_nothing g.met.K.Eq.laws _ c.args.capacity c.args.last_stamp made }
