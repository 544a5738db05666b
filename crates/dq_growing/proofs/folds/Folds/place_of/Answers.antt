use Rattle.std.proofs.Common.{◌<◌, length, sym, ◌∙◌, rules}
use Rattle.dq_growing.proofs.folds.Folds.place_of.Goals as goal

pub returns-then-capacity-clause-found : goal.returns-then-capacity-clause-found
returns-then-capacity-clause-found g c =
    let inside : c.loop-at.at < length c.self.inside.folded.items = search rules in
    rw (← c.self.view_is) (c.index.result.now, (inside, sym c.index.ensures, sym c.capacity.ensures ∙ c.if-capacity.true))
