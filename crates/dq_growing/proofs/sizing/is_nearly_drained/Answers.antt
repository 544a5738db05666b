use Rattle.std.proofs.Common.{◌≢◌, ◌/◌, rules, arith}
use Rattle.std.proofs.lemmas.Bool.{leb-true}
use Rattle.dq_growing.proofs.sizing.is_nearly_drained.Goals as goal

pub returns-clause-yes : goal.returns-clause-yes
returns-clause-yes g c is =
    let few = leb-true c.len.result (c.capacity.result / 16) is in
    let ne : c.args.place ≢ c.args.cores.now.opened = search rules in
    let linked = c.len.ensures in
    let slots = c.capacity.ensures in
    (c.in-Some.core.now, (c.in-Some.ensures.found, ne, omega (arith, few, linked, slots)))
