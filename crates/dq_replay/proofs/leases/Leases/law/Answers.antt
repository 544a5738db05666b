use Rattle.dq_core.specs.Core.{machine}
use Rattle.dq_replay.proofs.Expiry.{live_lined}
use Rattle.dq_replay.proofs.leases.Leases.law.Goals as goal

pub returns : goal.returns
returns g c = rw (← c.self.view_is) (live_lined (machine c.self.inside.queue).table)
