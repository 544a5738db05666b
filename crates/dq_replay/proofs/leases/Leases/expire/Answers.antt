use Rattle.dq_replay.proofs.Calls.{gone_tied, gone_shown}
use Rattle.dq_replay.proofs.leases.Leases.expire.Goals as goal

pub invariant_of-self-2 : goal.invariant_of-self-2
invariant_of-self-2 g c = gone_tied c.self.inside.queue c.expire_one.new.queue c.self.inside.names c.self.inside.given c.args.now c.in-Some.lease c.self.invariant c.in-Some.ensures c.remove.new.self c.remove.ensures.put c.remove.ensures.len

pub returns : goal.returns
returns g c = rw (← c.self.view_is) (gone_shown c.self.inside.queue c.expire_one.new.queue c.self.inside.names c.self.inside.given c.args.now c.in-Some.lease c.self.invariant c.in-Some.ensures)
