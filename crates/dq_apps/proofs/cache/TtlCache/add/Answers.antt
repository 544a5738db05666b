use Rattle.std.proofs.Common.{refl, ◌∙◌, arith}
use Rattle.dq_apps.proofs.CacheReads.{counts_are}
use Rattle.dq_apps.proofs.CacheSteps.{same_cache, new_stock, new_adds}
use Rattle.dq_apps.proofs.cache.TtlCache.add.Goals as goal

pub returns-then-linked-worn : goal.returns-then-linked-worn
returns-then-linked-worn g c =
    let s = c.self.inside in
    let counts = counts_are g.met.K.Eq.laws s.stock.entries s.timers s.moment c.self.invariant _ _ _ c.len-linked.ensures.count c.worn-worn.ensures.count c.capacity.ensures in
    rw (← c.self.view_is) ((counts.0, counts.1, c.if-linked-worn.true ∙ counts.2), refl, refl, refl)

pub returns-in_default : goal.returns-in_default
returns-in_default g c =
    let s = c.self.inside in
    let counts = counts_are g.met.K.Eq.laws s.stock.entries s.timers s.moment c.self.invariant _ _ _ c.len-linked.ensures.count c.worn-worn.ensures.count c.capacity.ensures in
    rw (← c.self.view_is) ((λ full. c.if-linked-worn.false (omega (arith, counts.0, counts.1, counts.2, full))), refl, refl, refl)

pub returns-then-is_err : goal.returns-then-is_err
returns-then-is_err g c =
    let s = c.self.inside in
    let counts = counts_are g.met.K.Eq.laws s.stock.entries s.timers s.moment c.self.invariant _ _ _ c.len-linked.ensures.count c.worn-worn.ensures.count c.capacity.ensures in
    rw (← c.self.view_is)
    ((λ full. c.if-linked-worn.false (omega (arith, counts.0, counts.1, counts.2, full))), refl, refl, same_cache g.met.K.Eq.laws s.stock.entries s.timers s.moment c.self.invariant c.reserve.new.self.entries c.reserve.ensures.entries.2)

pub invariant_of-self-2 : goal.invariant_of-self-2
invariant_of-self-2 g c =
    let s = c.self.inside in
    let r = c.reserve in
    let absent = rw (← c.self.view_is) at c.requires.absent in
    new_stock g.met.K.Eq.laws s.stock.entries s.timers s.moment c.self.invariant r.new.self.entries c.insert.new.self.entries r.ensures.entries.2 r.ensures.unique c.start-timer.new.self c.args.key c.in-Ok.copy c.args.value c.args.when c.start-timer.result absent (c.requires.clones c.in-Ok.copy c.in-Ok.ensures.cases) c.start-timer.ensures (c.in-Ok-insert.ensures.updates.0, c.insert.ensures.unique)

pub returns : goal.returns
returns g c =
    let s = c.self.inside in
    let r = c.reserve in
    let absent = rw (← c.self.view_is) at c.requires.absent in
    rw (← c.self.view_is)
    (new_adds g.met.K.Eq.laws s.stock.entries s.timers s.moment c.self.invariant r.new.self.entries c.insert.new.self.entries r.ensures.entries.2 r.ensures.unique c.start-timer.new.self c.args.key c.in-Ok.copy c.args.value c.args.when c.start-timer.result absent (c.requires.clones c.in-Ok.copy c.in-Ok.ensures.cases) c.start-timer.ensures (c.in-Ok-insert.ensures.updates.0, c.insert.ensures.unique))
