use Rattle.std.proofs.Common.{ap}
use Rattle.dq_wheel.proofs.Occupancy.{occupied_without}
use Rattle.dq_wheel.proofs.lists.Lists.map_without.Goals as goal

pub returns : goal.returns
returns g c k k_in =
    rw (← ap (λ w. w.homes) c.self.view_is)
    (occupied_without _ _ _ c.self.invariant.1 c.args.list c.clear_bit.ensures.cleared c.clear_bit.ensures.others c.args.level k c.requires.level_in k_in)
