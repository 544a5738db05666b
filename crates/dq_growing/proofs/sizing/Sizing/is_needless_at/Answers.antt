use Rattle.std.proofs.Common.{◌≢◌, rules}
use Rattle.dq_growing.proofs.Sizes.{needed_at}
use Rattle.dq_growing.proofs.sizing.Sizing.is_needless_at.Goals as goal

pub returns-then-is_foldable-clause-yes : goal.returns-then-is_foldable-clause-yes
returns-then-is_foldable-clause-yes g c is =
    let ne : c.args.place ≢ c.args.cores.now.opened = search rules in
    (c.in-Some.core.now, ((c.in-Some.ensures.found, ne, c.is_foldable.ensures.yes c.if-is_foldable.true), c.is_needless.ensures.yes is))

pub returns-then-is_foldable-clause-no : goal.returns-then-is_foldable-clause-no
returns-then-is_foldable-clause-no g c is = needed_at c.args.self.now c.args.cores.now c.args.place c.in-Some.core.now c.in-Some.ensures.found (λ _. c.is_needless.ensures.no is)
