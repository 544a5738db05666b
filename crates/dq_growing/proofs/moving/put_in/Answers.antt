use Rattle.dq_growing.proofs.Standing.{insert_past, insert_ahead, insert_comes}
use Rattle.dq_growing.proofs.moving.put_in.Goals as goal

pub returns-clause-comes : goal.returns-clause-comes
returns-clause-comes g c =
    let a = c.insert_deferring-answer in
    insert_comes c.args.core.now a.new.self c.args.value c.args.deadline c.in-Ok.key a.result.0 a.ensures.same.0 a.ensures.inserts c.in-Ok.is

pub returns-clause-ahead : goal.returns-clause-ahead
returns-clause-ahead g c =
    let a = c.insert_deferring-answer in
    insert_ahead c.args.core.now a.new.self c.args.value c.args.deadline c.in-Ok.key a.result.0 a.ensures.inserts c.in-Ok.is

pub returns-clause-past : goal.returns-clause-past
returns-clause-past g c =
    let a = c.insert_deferring-answer in
    insert_past c.args.core.now a.new.self c.args.value c.args.deadline c.in-Ok.key a.result.0 a.ensures.inserts c.in-Ok.is
