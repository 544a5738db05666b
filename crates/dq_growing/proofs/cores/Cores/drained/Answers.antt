use Rattle.std.proofs.Common.{◌<◌, length, sym, rules}
use Rattle.dq_growing.proofs.cores.Cores.drained.Goals as goal

pub returns-then-is_foldable-clause-found : goal.returns-then-is_foldable-clause-found
returns-then-is_foldable-clause-found g c =
    let inside : c.loop-at.at < length c.self.inside.cores.items = search rules in
    rw (← c.self.view_is)
    (c.index.result.now, ((inside, sym c.index.ensures), c.if-at-self.true, c.is_foldable.ensures.yes c.if-is_foldable.true))
