use Rattle.std.proofs.Common.{ap}
use Rattle.dq_wheel.proofs.Places.{seen_place}
use Rattle.dq_wheel.proofs.wheel.Wheel.place.Goals as goal

pub returns : goal.returns
returns g c =
    rw (c.place_of.ensures, c.home.ensures.value)
    (seen_place _ _ _ _ _ _ c.self.invariant.0 (ap (λ w. w.filing) c.self.view_is) _ c.requires)
