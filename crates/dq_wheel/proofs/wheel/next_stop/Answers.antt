use Rattle.std.proofs.Common.{inr}
use Rattle.dq_wheel.specs.Maps.{IsFirstFilled}
use Rattle.dq_ticks.specs.Digits.{digit_of}
use Rattle.dq_wheel.proofs.wheel.next_stop.Goals as goal

pub returns-then-start-limit : goal.returns-then-start-limit
returns-then-start-limit g c =
    let first : IsFirstFilled (digit_of c.args.tick 5) c.args.lists.now.homes c.in_ok-list.list =
    rw (← c.digit-own.ensures) (rw c.in_ok-list.was at c.first_filled.ensures) in
    inr (c.in_ok-list.list, first, rw c.start_of-start.ensures at c.if-start-limit.true)

pub returns : goal.returns
returns g c =
    let first : IsFirstFilled (digit_of c.args.tick 5) c.args.lists.now.homes c.in_ok-list.list =
    rw (← c.digit-own.ensures) (rw c.in_ok-list.was at c.first_filled.ensures) in
    (first, c.start_of-start.ensures, c.if-start-limit.false)
