use Rattle.std.proofs.Common.{inl, refl}
use Rattle.dq_core.proofs.slots.take_any.Goals as goal

pub returns : goal.returns
returns g c = (c.in-Some-take_waiting.index, inl (c.in-Some-take_waiting.ensures, c.give.ensures, refl))
