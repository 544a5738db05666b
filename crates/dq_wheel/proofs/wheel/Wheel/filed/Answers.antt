use Rattle.std.proofs.Common.{◌≡◌, ap, arith}
use Rattle.std.proofs.lemmas.Grind.{common_steps}
use Rattle.dq_wheel.specs.State.{filed_at}
use Rattle.dq_wheel.proofs.Lawful.{seen_within}
use Rattle.dq_wheel.proofs.wheel.Wheel.filed.Goals as goal

pub returns-clause-within : goal.returns-clause-within
returns-clause-within g c =
    let value : c.filed_of.result ≡ filed_at c.args.self.now.filing.filed c.args.index = grind (arith, common_steps) in
    rw value (seen_within _ _ _ _ _ _ c.self.invariant.0 (ap (λ w. w.filing) c.self.view_is) _ c.requires)
