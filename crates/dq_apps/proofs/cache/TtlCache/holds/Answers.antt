use Rattle.dq_apps.proofs.CacheReads.{some_kept, none_absent}
use Rattle.dq_apps.proofs.cache.TtlCache.holds.Goals as goal

pub returns-clause-yes : goal.returns-clause-yes
returns-clause-yes g c =
    let s = c.self.inside in
    rw (c.contains_key.ensures, ← c.self.view_is) (some_kept g.met.K.Eq.laws s.stock.entries s.timers s.moment c.self.invariant c.args.key.now)

pub returns-clause-no : goal.returns-clause-no
returns-clause-no g c =
    let s = c.self.inside in
    rw (c.contains_key.ensures, ← c.self.view_is) (none_absent g.met.K.Eq.laws s.stock.entries s.timers s.moment c.self.invariant c.args.key.now)
