use Rattle.dq_growing.proofs.Leasts.{takes_deferred}
use Rattle.dq_growing.proofs.cores.Cores.take_deferred.Goals as goal

pub returns : goal.returns
returns g c =
    let a = c.take_deferred-value.ensures in
    rw (← c.self.view_is)
    (takes_deferred _ c.in-Some.at c.index_mut.result.now c.take_deferred-value.new.self c.take_deferred-value.result
    (rw (← c.self.view_is) at c.in-Some.ensures.found) c.index_mut.ensures.value a.takes a.rest)
