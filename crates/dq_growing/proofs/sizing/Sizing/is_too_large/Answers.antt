use Rattle.std.proofs.Common.{◌/◌, arith}
use Rattle.std.proofs.lemmas.Bool.{leb-true, leb-false}
use Rattle.dq_growing.proofs.Sizes.{large_enough, too_large}
use Rattle.dq_growing.proofs.sizing.Sizing.is_too_large.Goals as goal

pub returns-clause-yes : goal.returns-clause-yes
returns-clause-yes g c is =
    let none = c.if-self-gt0.false in
    too_large c.args.self.now c.args.cores.now c.opened.result c.next_capacity.result c.capacity.result c.in-Some.open.now c.in-Some.ensures.found c.opened.ensures
    (c.is_small.ensures.yes c.if-not-is_small.false) (omega (arith, none)) c.capacity.ensures c.next_capacity.ensures.size
    (leb-true c.next_capacity.result (c.capacity.result / 4) is)

pub returns-clause-no : goal.returns-clause-no
returns-clause-no g c is =
    large_enough c.args.self.now c.args.cores.now c.opened.result c.next_capacity.result c.capacity.result c.in-Some.open.now c.in-Some.ensures.found c.opened.ensures
    c.capacity.ensures c.next_capacity.ensures.size (leb-false c.next_capacity.result (c.capacity.result / 4) is)
