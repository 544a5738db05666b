use Rattle.std.proofs.lemmas.Bool.{ltb-true, ltb-false}
use Rattle.dq_growing.proofs.Sizes.{is_clear, not_clear}
use Rattle.dq_growing.proofs.sizing.has_open_room.Goals as goal

pub returns-clause-yes : goal.returns-clause-yes
returns-clause-yes g c is =
    is_clear c.args.cores.now c.args.cores.now.opened c.opened.result c.free.result c.in-Some.core.now c.in-Some.ensures.found c.free.ensures c.opened.ensures
    (ltb-true 0 c.free.result is)

pub returns-clause-no : goal.returns-clause-no
returns-clause-no g c is =
    not_clear c.args.cores.now c.args.cores.now.opened c.opened.result c.free.result c.in-Some.core.now c.in-Some.ensures.found c.free.ensures c.opened.ensures
    (ltb-false 0 c.free.result is)
