use Rattle.dq_growing.proofs.Standing.{removal_past, removal_leaves, removal_in_time, refusal_keeps}
use Rattle.dq_growing.proofs.cores.remove_from.Goals as goal

pub returns-clause-leaves : goal.returns-clause-leaves
returns-clause-leaves g c =
    let r = c.remove-answer.ensures in
    removal_leaves _ _ _ c.remove-answer.result r.same.0 c.law.ensures.shard r.out r.gone r.others

pub returns-clause-in_time : goal.returns-clause-in_time
returns-clause-in_time g c =
    let r = c.remove-answer.ensures in
    removal_in_time g.W.Words.shared _ c.remove-answer.new.self _ c.remove-answer.result c.law.ensures.shard r.out r.removes

pub returns-clause-refused : goal.returns-clause-refused
returns-clause-refused g c =
    let r = c.remove-answer.ensures in
    refusal_keeps _ _ c.remove-answer.result r.same.0 c.law.ensures.shard c.law-2.ensures.shard r.refused

pub returns-clause-past : goal.returns-clause-past
returns-clause-past g c =
    let r = c.remove-answer.ensures in
    removal_past g.W.Words.shared _ c.remove-answer.new.self _ c.remove-answer.result c.law.ensures.shard c.law-2.ensures.shard r.out r.removes
