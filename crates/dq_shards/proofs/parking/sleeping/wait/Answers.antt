use Rattle.std.proofs.Common.{sym, ◌∙◌}
use Rattle.dq_shards.proofs.Streamed.{parks_slot}
use Rattle.dq_shards.proofs.parking.sleeping.wait.Goals as goal

pub returns-in-Ok : goal.returns-in-Ok
returns-in-Ok g c =
    let parked = parks_slot g.S.Sleeps.parks c.args.shard.now c.park_with.new.shard c.in-Some.next c.take.result c.in-Ok.field-0 (rw c.in-Ok.is at c.park_with.ensures) in
    (c.in-Some.next, parked.0, sym c.of_wake.ensures.value ∙ c.in-Some.is, sym c.take.ensures.value ∙ parked.1, parked.2)
