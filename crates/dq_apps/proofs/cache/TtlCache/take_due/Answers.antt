use Rattle.std.proofs.Common.{◌≡◌, Some, None, ◌∙◌}
use Rattle.dq_apps.proofs.CacheSteps.{dropped_stock, due_lookup, takes_due, rest_stock, rest_takes}
use Rattle.dq_apps.proofs.cache.TtlCache.take_due.Goals as goal

pub unreachable-requires : goal.unreachable-requires
unreachable-requires g c =
    let s = c.self.inside in
    let there = due_lookup g.met.K.Eq.laws s.stock.entries s.timers s.moment c.self.invariant c.remove.new.self.entries c.stop_due.new.self c.in-Some.key c.in-Some.ensures (c.remove.ensures.updates.0, c.remove.ensures.unique) in
    let none = c.in-None.ensures.value in
    let is = there.1 in
    let both = none ∙ is in
    none_some both
  where
    none_some : {X : Type 0} {x : X} → None ≡ Some x → ⊥
    none_some e = absurd (cc)

pub invariant_of-self : goal.invariant_of-self
invariant_of-self g c =
    let s = c.self.inside in
    rest_stock g.met.K.Eq.laws s.stock.entries s.timers s.moment c.self.invariant c.stop_due.new.self c.in_default.ensures

pub returns-in_default : goal.returns-in_default
returns-in_default g c =
    let s = c.self.inside in
    rw (← c.self.view_is) (rest_takes g.met.K.Eq.laws s.stock.entries s.timers s.moment c.self.invariant c.stop_due.new.self c.in_default.ensures)

pub invariant_of-self-2 : goal.invariant_of-self-2
invariant_of-self-2 g c =
    let s = c.self.inside in
    dropped_stock g.met.K.Eq.laws s.stock.entries s.timers s.moment c.self.invariant c.remove.new.self.entries c.stop_due.new.self c.in-Some.key c.in-Some.ensures (c.remove.ensures.updates.0, c.remove.ensures.unique)

pub returns : goal.returns
returns g c =
    let s = c.self.inside in
    rw (← c.self.view_is)
    (takes_due g.met.K.Eq.laws s.stock.entries s.timers s.moment c.self.invariant c.remove.new.self.entries c.stop_due.new.self c.in-Some.key c.in-Some.ensures (c.remove.ensures.updates.0, c.remove.ensures.unique) c.in-Some-remove.kept c.in-Some-remove.ensures.value)
