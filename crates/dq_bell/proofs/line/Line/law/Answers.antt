use Rattle.std.proofs.Common.{subst}
use Rattle.dq_bell.specs.Lines.{LineState, IsLed}
use Rattle.dq_bell.proofs.Lined.{led_by}
use Rattle.dq_bell.proofs.line.Line.law.Goals as goal

pub returns-clause-led : goal.returns-clause-led
returns-clause-led g c = let P : LineState → Type 0 = λ l. IsLed l in subst P c.self.view_is (led_by _ _ _ _ c.self.invariant)
