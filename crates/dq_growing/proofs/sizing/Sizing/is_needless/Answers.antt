use Rattle.std.proofs.Common.{arith}
use Rattle.dq_growing.proofs.Sizes.{needed_next, needless_other}
use Rattle.dq_growing.proofs.sizing.Sizing.is_needless.Goals as goal

pub returns-then-not-will_do-clause-yes : goal.returns-then-not-will_do-clause-yes
returns-then-not-will_do-clause-yes g c _ =
    let none = c.if-self-gt0.false in
    needless_other c.args.self.now c.args.cores.now c.args.core.now c.next_capacity.result (omega (arith, none)) c.next_capacity.ensures.size (c.will_do.ensures.no c.if-not-will_do.true)

pub returns-else-not-will_do-clause-no : goal.returns-else-not-will_do-clause-no
returns-else-not-will_do-clause-no g c is =
    let none = c.if-self-gt0.false in
    needed_next c.args.self.now c.args.cores.now c.args.core.now c.next_capacity.result (c.is_worn.ensures.no c.if-is_worn.false) (omega (arith, none)) c.next_capacity.ensures.size
    (c.will_do.ensures.yes c.if-not-will_do.false) (c.is_open_half_free.ensures.no is)
