use Rattle.dq_shards.proofs.state.ShardState.remove.Goals as goal

pub returns-clause-missing : goal.returns-clause-missing
returns-clause-missing g c = rw (← c.self.view_is) c.remove-answer.ensures.missing

pub returns-clause-poller : goal.returns-clause-poller
returns-clause-poller g c = rw (← c.self.view_is) c.keep_or_leave.ensures.keeps

pub returns-clause-removes : goal.returns-clause-removes
returns-clause-removes g c =
    let told = c.remove-answer.ensures in
    rw (← c.self.view_is) (told.removes, (told.same, told.origin, c.keep_or_leave.ensures.keeps, told.begun))
