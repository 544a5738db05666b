use Rattle.std.proofs.Common.{rules}
use Rattle.std.proofs.lemmas.Result.{err_from_is_err_and}
use Rattle.dq_replay.proofs.Reading.{takes_front, takes_too_many}
use Rattle.dq_replay.proofs.line.next_line.Goals as goal

pub returns-in_err-push-in-Some : goal.returns-in_err-push-in-Some
returns-in_err-push-in-Some g c =
    let was = err_from_is_err_and c.from_residual-in_err-push-in-Some.result c.from_residual-in_err-push-in-Some.ensures.1 in
    rw (was.1, was.2) (takes_front _ _ _ c.loop.line.items c.in-Some.byte c.loop.invariant.no_end (search rules) c.in-Some.byte-test.1 c.loop.invariant.taken (rw c.in-Some.is at c.in_ok-next_byte.ensures))

pub returns-in-Some-2 : goal.returns-in-Some-2
returns-in-Some-2 g c =
    takes_too_many _ _ _ c.loop.line.items c.in-Some-2.field-0 c.loop.invariant.no_end (search rules) c.in-Some-2.field-0-test.1 c.loop.invariant.taken (rw c.in-Some-2.is at c.in_ok-next_byte-2.ensures)
