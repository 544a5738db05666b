use Rattle.dq_growing.proofs.Sizes.{needless_next}
use Rattle.dq_growing.proofs.sizing.Sizing.needless.Goals as goal

pub returns-then-is_needless_at-clause-found : goal.returns-then-is_needless_at-clause-found
returns-then-is_needless_at-clause-found g c = c.is_needless_at.ensures.yes c.if-is_needless_at.true

pub loop-at-preserved : goal.loop-at-preserved
loop-at-preserved g c = needless_next c.args.self.now c.args.cores.now c.loop-at.at c.loop-at.invariant (c.is_needless_at.ensures.no c.if-is_needless_at.false)
