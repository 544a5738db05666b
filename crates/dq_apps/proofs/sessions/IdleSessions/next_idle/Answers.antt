use Rattle.dq_apps.proofs.Logins.{idle}
use Rattle.dq_apps.proofs.sessions.IdleSessions.next_idle.Goals as goal

pub returns-clause-idle : goal.returns-clause-idle
returns-clause-idle g c = idle _ c.args.shard c.args.now _ c.outs_are_in_force.ensures c.poll.ensures.answers
