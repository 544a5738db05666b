use Rattle.futures.specs.Poll.{OnPending}
use Rattle.futures.specs.declared.task.Poll.{Poll}
use Rattle.futures.specs.declared.task.Poll.TheVariants.{Ready, Pending}
use Rattle.dq_shards.proofs.Streamed.{answered}
use Rattle.dq_shards.proofs.parking.streaming.poll_place.Goals as goal

on_pending : {A P : Type 0} (answer : Poll A) → P → OnPending answer P
on_pending (Ready x) p = tt
on_pending Pending p = p

pub returns-clause-polls : goal.returns-clause-polls
returns-clause-polls g c =
    let once = c.poll_entered-polled.ensures in (
      once.0,
      once.1,
      answered g.Q.State.Sleeps.core g.Q.State.Sleeps.changes g.Q.State.Sleeps.parked g.Q.State.Sleeps.parks g.Q.State.Next.Until.waits
          g.Q.State.Shard.keeps g.Q.State.Shard.stands c.args.place (g.Q.Shards.places c.args.queue.now) c.args.cx.now c.register-slot.new.cx c.args.most once.0
          c.register-slot.result c.in-Some.answer c.register-slot.ensures.left (rw c.in-Some.is at once.2),
    )

pub returns-clause-registered : goal.returns-clause-registered
returns-clause-registered g c = on_pending c.in-Some.answer c.register-slot.ensures.registered

pub returns-clause-kept : goal.returns-clause-kept
returns-clause-kept g c = c.register-slot.ensures.kept

pub returns-in_default-clause-registered : goal.returns-in_default-clause-registered
returns-in_default-clause-registered g c = (c.yield_now-woken.ensures.armed, λ s is. c.yield_now-woken.ensures.heard s)

pub returns-in_default-clause-kept : goal.returns-in_default-clause-kept
returns-in_default-clause-kept g c = λ fact held. c.yield_now-woken.ensures.kept fact (c.register-slot.ensures.kept fact held)
