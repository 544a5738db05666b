use Rattle.std.proofs.Common.{ap}
use Rattle.dq_core.proofs.CallWords.{made_empty}
use Rattle.dq_core.proofs.queue.DelayCore.new.Goals as goal

pub returns-in-Ok-clause-empty : goal.returns-in-Ok-clause-empty
returns-in-Ok-clause-empty g c = made_empty c.in-Ok.slots.rows _ c.args.config.capacity (ap (λ s. s.rows) c.in-Ok.ensures.1)
