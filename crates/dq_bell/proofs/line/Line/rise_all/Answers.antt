use Rattle.dq_bell.proofs.Lined.{all_awake}
use Rattle.dq_bell.proofs.line.Line.rise_all.Goals as goal

pub invariant_of-self-2 : goal.invariant_of-self-2
invariant_of-self-2 g c =
    all_awake _ _ _ _ _ _ c.self.invariant c.rise.ensures.same c.in_ok-take_all.ensures.awake c.in_ok-take_all.ensures.size
