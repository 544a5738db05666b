use Rattle.std.proofs.Common.{◌<◌, ◌-◌, length, sym, ◌∙◌, rules}
use Rattle.dq_growing.proofs.cores.Cores.place_of.Goals as goal

pub returns-then-shard-number-clause-found : goal.returns-then-shard-number-clause-found
returns-then-shard-number-clause-found g c =
    let inside : c.len.result - 1 - c.loop-newer.newer < length c.self.inside.cores.items = search rules in
    rw (← c.self.view_is)
    (c.index.result.now, ((inside, sym c.index.ensures), sym c.shard.ensures ∙ c.if-shard-number.true))
