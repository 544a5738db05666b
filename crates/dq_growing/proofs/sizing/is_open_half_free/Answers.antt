use Rattle.std.proofs.Common.{◌/◌}
use Rattle.std.proofs.lemmas.Bool.{leb-true}
use Rattle.dq_growing.proofs.Sizes.{half_free}
use Rattle.dq_growing.proofs.sizing.is_open_half_free.Goals as goal

pub returns-clause-yes : goal.returns-clause-yes
returns-clause-yes g c is =
    half_free c.args.cores.now c.opened.result c.free.result c.capacity.result c.in-Some.open.now c.in-Some.ensures.found c.opened.ensures c.free.ensures c.capacity.ensures
    (leb-true (c.capacity.result / 2) c.free.result is)
