use Rattle.std.proofs.Common.{refl, sym, arith}
use Rattle.std.proofs.lemmas.Bool.{true≢false}
use Rattle.dq_apps.proofs.CacheReads.{kept_some}
use Rattle.dq_apps.proofs.CacheSteps.{renewed_stock, replaces, kept_worn, worn_cache}
use Rattle.dq_apps.proofs.cache.TtlCache.replace.Goals as goal

pub unreachable-requires : goal.unreachable-requires
unreachable-requires g c =
    let s = c.self.inside in
    let kept = rw (← c.self.view_is) at c.requires.kept in
    let some = kept_some g.met.K.Eq.laws s.stock.entries s.timers s.moment c.self.invariant c.args.key.now kept.0 kept.1 kept.2 in
    true≢false (sym (rw c.in_default.ensures at some))

pub invariant_of-self : goal.invariant_of-self
invariant_of-self g c =
    let s = c.self.inside in
    let t = c.in-Some.ensures in
    let restarts = rw (← t.3) at c.in-Some-restart.ensures in
    renewed_stock g.met.K.Eq.laws s.stock.entries s.timers s.moment c.self.invariant c.replace_at.new.stock.entries c.restart.new.self c.args.key.now t.0 t.1 c.args.value c.args.when s.moment c.in-Some-restart.next restarts c.replace_at.ensures.written (omega arith) c.self.invariant.bound

pub returns-in-Some-restart : goal.returns-in-Some-restart
returns-in-Some-restart g c =
    let s = c.self.inside in
    let t = c.in-Some.ensures in
    let restarts = rw (← t.3) at c.in-Some-restart.ensures in
    rw (← c.self.view_is)
    (replaces g.met.K.Eq.laws s.stock.entries s.timers s.moment c.self.invariant c.replace_at.new.stock.entries c.restart.new.self c.args.key.now t.0 t.1 c.args.value c.args.when s.moment c.in-Some-restart.next restarts c.replace_at.ensures.written c.replace_at.result c.replace_at.ensures.old refl)

pub returns-in-None : goal.returns-in-None
returns-in-None g c =
    let s = c.self.inside in
    let t = c.in-Some.ensures in
    let restarts = rw (← t.3) at c.in-None.ensures in
    rw (← c.self.view_is)
    (kept_worn g.met.K.Eq.laws s.stock.entries s.timers s.moment c.self.invariant s.stock.entries c.restart.new.self c.args.key.now t.0 t.1 c.args.when restarts, refl, worn_cache g.met.K.Eq.laws s.stock.entries s.timers s.moment c.self.invariant s.stock.entries c.restart.new.self c.args.key.now t.0 t.1 c.args.when restarts)
