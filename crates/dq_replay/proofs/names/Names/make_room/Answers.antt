use Rattle.dq_replay.proofs.names.Names.make_room.Goals as goal

pub returns-clause-same : goal.returns-clause-same
returns-clause-same g c = λ q. rw (← c.self.view_is) (c.reserve.ensures.entries.2 q)
