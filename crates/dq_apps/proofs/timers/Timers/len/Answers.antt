use Rattle.std.proofs.Common.{arith}
use Rattle.dq_apps.specs.TimerTable.{is_set}
use Rattle.dq_apps.proofs.TimerRows.{count_set}
use Rattle.dq_apps.proofs.Timed.{counted_within}
use Rattle.dq_apps.proofs.timers.Timers.len.Goals as goal

pub returns-clause-count : goal.returns-clause-count
returns-clause-count g c =
    let q = c.self.inside.queue in
    let count = count_set q.slots.rows q.known c.law.ensures.shard.as_known in
    rw (← c.self.view_is, c.len.ensures) count

pub returns-clause-few : goal.returns-clause-few
returns-clause-few g c =
    let q = c.self.inside.queue in
    let count = count_set q.slots.rows q.known c.law.ensures.shard.as_known in
    omega (arith, c.len.ensures, count, counted_within q c.law.ensures.shard is_set)
