use Rattle.std.proofs.lemmas.Result.{IfOk-from_err}
use Rattle.dq_bell.proofs.Lined.{fresh_line, fresh_is_line}
use Rattle.dq_bell.proofs.line.Line.new.Goals as goal

pub returns-in_err-clone : goal.returns-in_err-clone
returns-in_err-clone g c = IfOk-from_err _ _ c.from_residual.ensures.0

pub returns-in_err-clone-2 : goal.returns-in_err-clone-2
returns-in_err-clone-2 g c = IfOk-from_err _ _ c.from_residual-in_err-clone-2.ensures.0

pub returns-in_err-clone-3 : goal.returns-in_err-clone-3
returns-in_err-clone-3 g c = IfOk-from_err _ _ c.from_residual-in_err-clone-3.ensures.0

pub returns-in_err-leader : goal.returns-in_err-leader
returns-in_err-leader g c = IfOk-from_err _ _ c.from_residual-in_err-leader.ensures.0

pub invariant_of-result : goal.invariant_of-result
invariant_of-result g c =
    fresh_is_line c.args.places c.in_ok-leader.leader c.add_place.new.self c.in-Ok.hint c.new-in-Ok.result c.new-roll.result c.new-sleepers.result c.in_ok-leader.ensures c.in-Ok.ensures.dealt
    c.new-in-Ok.ensures.open c.new-in-Ok.ensures.hint c.new-roll.ensures c.new-sleepers.ensures

pub returns-in-Ok : goal.returns-in-Ok
returns-in-Ok g c =
    fresh_line c.args.places c.in_ok-leader.leader c.add_place.new.self c.in-Ok.hint c.new-in-Ok.result c.new-roll.result c.new-sleepers.result c.in_ok-leader.ensures c.in-Ok.ensures.dealt
    c.new-in-Ok.ensures.open c.new-in-Ok.ensures.hint c.new-roll.ensures
