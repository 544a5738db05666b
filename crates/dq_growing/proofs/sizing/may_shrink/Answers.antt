use Rattle.dq_growing.proofs.Sizes.{small_open}
use Rattle.dq_growing.proofs.sizing.may_shrink.Goals as goal

pub returns-clause-yes : goal.returns-clause-yes
returns-clause-yes g c is = small_open c.args.cores.now c.opened.result c.in-Some.open.now c.in-Some.ensures.found c.opened.ensures (c.is_small.ensures.yes is)
