use Rattle.std.proofs.Common.{ap, arith}
use Rattle.dq_wheel.proofs.Lawful.{lawful_linked, seen_linked, seen_moved}
use Rattle.dq_wheel.proofs.Arriving.{unnamed_shut}
use Rattle.dq_wheel.proofs.Changes.{has_linked}
use Rattle.dq_wheel.proofs.wheel.Wheel.link.Goals as goal

pub invariant_of-self : goal.invariant_of-self
invariant_of-self g c =
    rw (c.link.ensures.homes, c.link.ensures.filed, c.link.ensures.moves, c.list_of-list.ensures.value, c.link.ensures.opened) (
      lawful_linked _ _ _ _ _ _ c.self.invariant.0 (ap (λ w. w.filing) c.self.view_is) _ _
          c.requires.index_in c.requires.not_before (omega (arith, c.requires.in_range)) (omega (arith, c.requires.near)),
      c.self.invariant.1,
    )

pub link-requires-clause-takes : goal.link-requires-clause-takes
link-requires-clause-takes g c =
    let same = ap (λ w. w.filing.tick) c.self.view_is in (
      c.list_of-list.ensures.small,
      unnamed_shut _ _ _ _ c.self.invariant.1
          (rw same (record { not_before = c.requires.not_before; in_range = omega (arith, c.requires.in_range); near = omega (arith, c.requires.near) }))
          c.list_of-list.ensures.value,
    )

pub returns : goal.returns
returns g c =
    let seen = ap (λ w. w.filing) c.self.view_is in
    let exact = seen_linked _ _ _ _ _ seen c.args.index c.args.filed (omega (arith, c.requires.in_range)) in
    let now = has_linked _ _ _ _ c.requires.index_in (seen_moved _ _ _ _ _ _ c.self.invariant.0 seen _ c.requires.index_in) exact in
    rw (c.link.ensures.filed, c.link.ensures.moves) (record { filed = now.filed; unmoved = now.unmoved; others = now.others; tick = now.tick; exact = exact })
