use Rattle.std.proofs.Common.{ap}
use Rattle.dq_core.proofs.Cells.{born_of_cell}
use Rattle.dq_core.proofs.slots.Cell.born.Goals as goal

pub returns-then-self-gt0 : goal.returns-then-self-gt0
returns-then-self-gt0 g c = born_of_cell c.self.inside.born c.self.inside.value c.args.self.now.row c.self.invariant c.if-self-gt0.true (ap (λ c. c.row.held) c.self.view_is)
