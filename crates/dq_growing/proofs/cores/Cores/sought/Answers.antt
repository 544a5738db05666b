use Rattle.std.proofs.Common.{◌<◌, rules}
use Rattle.dq_core.specs.Core.{machine}
use Rattle.dq_growing.specs.Polls.{bound_at}
use Rattle.dq_growing.proofs.Leasts.{earlier}
use Rattle.dq_growing.proofs.cores.Cores.sought.Goals as goal

pub tries-requires-clause-quiet : goal.tries-requires-clause-quiet
tries-requires-clause-quiet g c i d ne there =
    let turns = c.self-in-loop.inside.turns in
    let here = rw (← c.self-in-loop.view_is) at there in
    let below : i < c.len-cores.result = search rules in
    earlier (machine d) (bound_at turns.bounds i) c.in-Some.others (c.self-in-loop.invariant.1.1 i d here) (c.in-Some.ensures.1 i below ne)
