use Rattle.std.proofs.Common.{ap}
use Rattle.dq_wheel.proofs.Lawful.{lawful_unlinked, seen_unlinked, seen_in}
use Rattle.dq_wheel.proofs.Changes.{has_unlinked}
use Rattle.dq_wheel.proofs.wheel.Wheel.unlink.Goals as goal

pub invariant_of-self : goal.invariant_of-self
invariant_of-self g c =
    let seen = ap (λ w. w.filing) c.self.view_is in
    rw (c.unlink.ensures.homes, c.unlink.ensures.filed, c.unlink.ensures.moves, c.unlink.ensures.opened)
    (lawful_unlinked _ _ _ _ _ _ c.self.invariant.0 seen _ (seen_in _ _ _ _ _ _ c.self.invariant.0 seen _ c.requires.index_in), c.self.invariant.1)

pub returns : goal.returns
returns g c =
    let exact = seen_unlinked _ _ _ _ _ (ap (λ w. w.filing) c.self.view_is) c.args.index in
    let now = has_unlinked _ _ _ c.requires.index_in exact in
    rw (c.unlink.ensures.filed, c.unlink.ensures.moves) (record { loose = now.loose; others = now.others; tick = now.tick; exact = exact })
