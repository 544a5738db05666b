use Rattle.dq_shards.proofs.state.ShardState.reset.Goals as goal

pub returns-clause-live : goal.returns-clause-live
returns-clause-live g c = rw (← c.self.view_is) c.reset-answer.ensures.live
