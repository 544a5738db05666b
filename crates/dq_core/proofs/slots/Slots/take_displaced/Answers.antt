use Rattle.std.proofs.Common.{refl, arith}
use Rattle.dq_core.proofs.DeferredCounts.{all_wait, displaced_count}
use Rattle.dq_core.proofs.slots.Slots.take_displaced.Goals as goal

pub returns-then-deferred-eq0-clause-takes : goal.returns-then-deferred-eq0-clause-takes
returns-then-deferred-eq0-clause-takes g c =
    let i = c.self.invariant in
    let all = all_wait i.0 i.3 i.4 i.1 i.2 c.law.ensures c.law-2.ensures in
    let none = rw (← c.self.view_is) at c.deferred.ensures in
    rw (← c.self.view_is) (
      (λ displaced.
          let q = displaced_count i.0 i.3 i.4 i.1 i.2 c.law.ensures displaced in
          absurd (omega (arith, q.0, q.1, all, none, c.if-deferred-eq0.true))),
      refl,
    )
