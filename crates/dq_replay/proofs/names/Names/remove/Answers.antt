use Rattle.dq_replay.proofs.names.Names.remove.Goals as goal

pub returns-clause-put : goal.returns-clause-put
returns-clause-put g c = λ q. rw (← c.self.view_is) (c.remove.ensures.updates.0 q)
