use Rattle.std.proofs.Common.{false, is_some, map, set, ap, ◌∙◌}
use Rattle.std.proofs.lemmas.List.{map-set}
use Rattle.dq_bell.proofs.sleepers.Sleepers.take.Goals as goal

pub returns-then-at-len-clause-sleeps : goal.returns-then-at-len-clause-sleeps
returns-then-at-len-clause-sleeps g c =
    map-set _ _ _ _
    ∙ (ap (λ o. set (map is_some c.self.inside.calls.items) c.args.at (is_some o)) c.take.ensures.after
    ∙ ap (λ l. set l c.args.at false) c.self.view_is)
