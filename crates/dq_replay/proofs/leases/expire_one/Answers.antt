use Rattle.dq_replay.proofs.Roomy.{out_gone, waiting_resting, idle_resting}
use Rattle.dq_replay.proofs.leases.expire_one.Goals as goal

pub returns-in-Ok-Out : goal.returns-in-Ok-Out
returns-in-Ok-Out g c = out_gone c.args.queue.now c.poll.new.self c.args.now c.in-Ok-Out.expired c.in-Ok-Out.ensures.same c.requires.later (rw c.in-Ok-Out.field-0-is at c.in-Ok-Out.ensures.polls)

pub returns-in-Ok-Waiting : goal.returns-in-Ok-Waiting
returns-in-Ok-Waiting g c = waiting_resting c.args.queue.now c.poll.new.self c.args.now c.in-Ok-Waiting.field-0-0 c.in-Ok-Waiting.ensures.same c.requires.later (rw c.in-Ok-Waiting.field-0-is at c.in-Ok-Waiting.ensures.polls)

pub returns-in-Ok-Idle : goal.returns-in-Ok-Idle
returns-in-Ok-Idle g c = idle_resting c.args.queue.now c.poll.new.self c.args.now c.in-Ok-Idle.ensures.same c.requires.later (rw c.in-Ok-Idle.field-0-is at c.in-Ok-Idle.ensures.polls)
