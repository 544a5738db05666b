use Rattle.std.proofs.Common.{arith}
use Rattle.dq_growing.proofs.Sizes.{roomier_shut, roomier_there}
use Rattle.dq_growing.proofs.sizing.roomier.Goals as goal

pub returns-then-may_open : goal.returns-then-may_open
returns-then-may_open g c =
    let more = c.if-room-so_far.false in
    roomier_there c.args.cores.now c.args.any_will_do c.args.so_far c.args.place c.free-room.result c.in-Some.core.now c.in-Some.ensures.found c.free-room.ensures
    (c.may_open.ensures.yes c.if-may_open.true) (omega (arith, more))

pub returns : goal.returns
returns g c =
    roomier_shut c.args.cores.now c.args.any_will_do c.args.so_far c.args.place c.in-Some.core.now c.in-Some.ensures.found (c.may_open.ensures.no c.if-may_open.false)
