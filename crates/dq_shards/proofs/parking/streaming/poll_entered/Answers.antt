use Rattle.std.proofs.Common.{ap, ◌∙◌, subst}
use Rattle.dq_shards.specs.Streaming.{Turns}
use Rattle.dq_shards.proofs.parking.streaming.poll_entered.Goals as goal

pub turn-polled-requires : goal.turn-polled-requires
turn-polled-requires g c = ap g.Q.State.Sleeps.parked c.deref_mut.ensures.value ∙ c.entered-shard.ensures.none

pub returns : goal.returns
returns g c =
    let was = c.entered-shard.ensures.entered in
    let begins = c.deref_mut.ensures.value ∙ was.3 in
    let P = λ (s : g.row.Q-State.Denot). Turns g.Q.State.Sleeps.core g.Q.State.Sleeps.changes g.Q.State.Sleeps.parked g.Q.State.Sleeps.parks g.Q.State.Next.Until.waits
    c.args.most s c.entered-shard.result.1 c.args.slot.now c.turn-polled.result c.turn-polled.new.shard in
    let law = subst g.Q.State.Shard.keeps c.deref.ensures c.law.ensures in
    (c.entered-shard.result.1, c.entered-shard.ensures.tick, (was.0, c.turn-polled.new.shard, was.1, was.2, law, subst P begins c.turn-polled.ensures))
