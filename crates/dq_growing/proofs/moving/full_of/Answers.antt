use Rattle.std.proofs.Common.{arith}
use Rattle.dq_growing.proofs.Standing.{within}
use Rattle.dq_growing.proofs.moving.full_of.Goals as goal

pub returns-else-linked-worn : goal.returns-else-linked-worn
returns-else-linked-worn g c =
    let l = c.len-linked.ensures in
    let w = c.worn-worn.ensures in
    let size = c.capacity.ensures in
    let full = c.if-linked-worn.false in
    let few = within c.args.core.now in
    (l, w, omega (arith, l, w, size, full, few))
