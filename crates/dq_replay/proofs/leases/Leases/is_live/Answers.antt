use Rattle.std.proofs.Common.{◌∙◌, ap}
use Rattle.std.specs.Prelude.{is_some}
use Rattle.dq_core.specs.Core.{machine}
use Rattle.dq_replay.specs.Leases.{found_in}
use Rattle.dq_replay.proofs.Tied.{live_by_key}
use Rattle.dq_replay.proofs.leases.Leases.is_live.Goals as goal

pub returns : goal.returns
returns g c = rw (← c.self.view_is)
    ((c.is_some.ensures ∙ ap is_some c.get.ensures) ∙ live_by_key c.self.inside.queue.shard (machine c.self.inside.queue) (found_in c.self.inside.names) c.self.invariant.keyed c.args.name.now)
