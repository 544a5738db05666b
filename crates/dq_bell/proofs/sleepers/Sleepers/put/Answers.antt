use Rattle.std.proofs.Common.{true, set, ap, ◌∙◌}
use Rattle.std.proofs.lemmas.List.{map-set}
use Rattle.dq_bell.proofs.sleepers.Sleepers.put.Goals as goal

pub returns : goal.returns
returns g c = map-set _ _ _ _ ∙ ap (λ l. set l c.args.at true) c.self.view_is
