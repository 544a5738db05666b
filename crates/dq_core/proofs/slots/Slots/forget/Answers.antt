use Rattle.std.proofs.Common.{arith}
use Rattle.dq_core.specs.Slots.{shown}
use Rattle.dq_core.proofs.Renewing.{all_forgotten}
use Rattle.dq_core.proofs.slots.Slots.forget.Goals as goal

pub returns-clause-forgotten : goal.returns-clause-forgotten
returns-clause-forgotten g c =
    let i = c.loop-index.invariant in
    let end = i.end in
    let size = i.size in
    all_forgotten (shown c.loop-index.self) (shown c.args.self.now) c.loop-index.index i.last size (omega arith) i.before
