use Rattle.std.proofs.Common.{ap, arith, inl, inr, refl}
use Rattle.dq_wheel.proofs.Rows.{stands_seen}
use Rattle.dq_wheel.proofs.Least.{least_init, least_more, least_seen}
use Rattle.dq_wheel.proofs.lists.Lists.least_in.Goals as goal

pub loop-turn-init : goal.loop-turn-init
loop-turn-init g c =
    let first = (rw c.deref.ensures.value at c.in-Some.ensures) _ c.self.invariant.0 in
    least_init _ _ _ _ c.self.invariant.0 _ _ c.requires _ first.1 (stands_seen _ _ _ _ _ _ c.self.invariant.0 refl first.0.0)

pub loop-turn-preserved : goal.loop-turn-preserved
loop-turn-preserved g c =
    rw (c.row_at-at.ensures.next, c.deref-in-loop-turn-2.ensures.value)
    (least_more _ _ _ _ c.self.invariant.0 _ _ c.requires _ _ _ _ c.loop-turn.invariant c.if-at-self.false
    c.earlier-best.ensures.either (rw c.deref-in-loop-turn.ensures.value at c.earlier-best.ensures.one) (rw c.deref-in-loop-turn.ensures.value at c.earlier-best.ensures.other))

pub returns-then-at-self : goal.returns-then-at-self
returns-then-at-self g c =
    least_seen _ _ _ _ c.self.invariant.0 _ _ c.requires _ _ (ap (λ w. w.homes) c.self.view_is) (ap (λ w. w.filed) c.self.view_is) _ _ _
    c.loop-turn.invariant (inl c.if-at-self.true)

pub returns-after-loop-turn : goal.returns-after-loop-turn
returns-after-loop-turn g c =
    least_seen _ _ _ _ c.self.invariant.0 _ _ c.requires _ _ (ap (λ w. w.homes) c.self.view_is) (ap (λ w. w.filed) c.self.view_is) _ _ _
    c.loop-turn.invariant (inr (omega arith))
