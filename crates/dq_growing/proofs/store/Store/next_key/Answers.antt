use Rattle.dq_growing.proofs.store.Store.next_key.Goals as goal

pub returns : goal.returns
returns g c = rw (← c.self.view_is) c.next_key-key.ensures
