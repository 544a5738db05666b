use Rattle.std.proofs.Common.{Some, None}
use Rattle.dq_shards.proofs.Streamed.{waited}
use Rattle.dq_shards.proofs.parking.sleeping.turn.Goals as goal

pub returns-in-Ok-Answer-Waiting : goal.returns-in-Ok-Answer-Waiting
returns-in-Ok-Answer-Waiting g c =
    let so = c.in-Ok-Answer-Waiting in
    waited g.S.Sleeps.core g.S.Sleeps.changes g.S.Sleeps.parked g.S.Sleeps.parks g.S.Next.Until.waits c.args.most c.args.shard.now c.poll_piece.new.self c.wait.new.shard c.args.tick (Some so.next) c.args.slot.now c.wait.result
    (rw (so.field-0-is, so.field-0-0-is) at so.ensures.polls, c.poll_piece.ensures.changes, c.poll_piece.ensures.none) c.wait.ensures

pub returns-in-Ok-Answer-Idle : goal.returns-in-Ok-Answer-Idle
returns-in-Ok-Answer-Idle g c =
    let so = c.in-Ok-Answer-Idle in
    waited g.S.Sleeps.core g.S.Sleeps.changes g.S.Sleeps.parked g.S.Sleeps.parks g.S.Next.Until.waits c.args.most c.args.shard.now c.poll_piece.new.self c.wait-in-Ok-Answer-Idle.new.shard c.args.tick None c.args.slot.now c.wait-in-Ok-Answer-Idle.result
    (rw (so.field-0-is, so.field-0-0-is) at so.ensures.polls, c.poll_piece.ensures.changes, c.poll_piece.ensures.none) c.wait-in-Ok-Answer-Idle.ensures
