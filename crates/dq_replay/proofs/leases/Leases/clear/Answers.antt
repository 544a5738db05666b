use Rattle.dq_replay.proofs.Calls.{cleared_tied, cleared_shown}
use Rattle.dq_replay.proofs.leases.Leases.clear.Goals as goal

pub invariant_of-self : goal.invariant_of-self
invariant_of-self g c = cleared_tied c.self.inside.queue c.clear.new.self c.self.inside.names c.clear-2.new.self c.self.inside.given c.clear.result c.self.invariant c.clear.ensures.same c.clear.ensures.clears c.clear-2.ensures

pub returns-clause-clear : goal.returns-clause-clear
returns-clause-clear g c = rw (← c.self.view_is) (cleared_shown c.self.inside.queue c.clear.new.self c.self.inside.given c.clear.result c.clear.ensures.same c.clear.ensures.clears)
