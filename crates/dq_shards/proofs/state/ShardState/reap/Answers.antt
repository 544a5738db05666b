use Rattle.dq_shards.proofs.state.ShardState.reap.Goals as goal

pub returns-clause-missing : goal.returns-clause-missing
returns-clause-missing g c = rw (← c.self.view_is) c.reap_deferring-answer.ensures.missing

pub returns-clause-poller : goal.returns-clause-poller
returns-clause-poller g c = rw (← c.self.view_is) c.keep_or_leave.ensures.keeps

pub returns-clause-reaps : goal.returns-clause-reaps
returns-clause-reaps g c =
    let told = c.reap_deferring-answer.ensures in
    rw (← c.self.view_is) (told.reaps, (told.same, told.origin, c.keep_or_leave.ensures.keeps, told.begun))
