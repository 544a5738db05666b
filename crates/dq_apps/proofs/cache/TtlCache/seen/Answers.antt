use Rattle.std.proofs.Common.{arith}
use Rattle.dq_apps.specs.Cache.{moment_at}
use Rattle.dq_apps.specs.Calls.{IsAllSeen}
use Rattle.dq_apps.specs.Tied.{pairs_seen}
use Rattle.dq_apps.proofs.SeenPairs.{all_are_seen}
use Rattle.dq_apps.proofs.SeenCounts.{seen_few}
use Rattle.dq_apps.proofs.cache.TtlCache.seen.Goals as goal

pub returns : goal.returns
returns g c =
    let s = c.self.inside in
    let b = c.args.self.now in
    let all : IsAllSeen g.K.PartialEq.eq b c.args.now (pairs_seen c.max.result c.iter.result) =
    rw (← c.self.view_is) (all_are_seen g.met.K.Eq.laws s.stock.entries s.timers s.moment c.self.invariant c.max.result c.args.now c.iter.result c.iter.ensures.rest c.max.ensures) in
    let count = all.count in
    record { all = all; few = omega (arith, count, seen_few (moment_at b c.args.now) b.slots, c.law.ensures.capacity) }
