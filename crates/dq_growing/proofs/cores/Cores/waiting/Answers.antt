use Rattle.std.proofs.Common.{◌<◌, length, sym, ◌∙◌, rules, arith}
use Rattle.dq_growing.proofs.cores.Cores.waiting.Goals as goal

pub returns-then-deferred-gt0-clause-found : goal.returns-then-deferred-gt0-clause-found
returns-then-deferred-gt0-clause-found g c =
    let inside : c.loop-at.at < length c.self.inside.cores.items = search rules in
    let some = c.if-deferred-gt0.true in
    rw (← c.self.view_is) (c.index.result.now, (inside, sym c.index.ensures), λ none. let count = c.deferred.ensures ∙ none in absurd (omega arith))
