use Rattle.std.proofs.Common.{◌≡◌, Bool, true, false, refl, ap, ◌∙◌, inr}
use Rattle.futures.specs.Poll.{OnPending}
use Rattle.futures.specs.declared.task.Poll.{Poll}
use Rattle.futures.specs.declared.task.Poll.TheVariants.{Ready, Pending}
use Rattle.dq_shards.specs.EachPoll.{is_over}
use Rattle.dq_shards.proofs.StreamEnds.{given_due, fault_is}
use Rattle.dq_shards.proofs.Streamed.{from_start, rests_or_works}
use Rattle.dq_shards.proofs.parking.streaming.ShardStream.poll_locked.Goals as goal

on_pending : {A P : Type 0} (answer : Poll A) → P → OnPending answer P
on_pending (Ready x) p = tt
on_pending Pending p = p

true_false : (b : Bool) → b ≡ true → b ≡ false → ⊥
true_false b is not = cc

pub returns-in_default-clause-waits : goal.returns-in_default-clause-waits
returns-in_default-clause-waits g c =
    rests_or_works g.Q.State.Sleeps.core g.Q.State.Sleeps.changes g.Q.State.Sleeps.parked g.Q.State.Sleeps.parks g.Q.State.Next.Until.waits
    g.met.Q.State.Sleeps.same_core g.met.Q.State.Sleeps.is_parked c.args.cx.now c.yield_now-woken.new.self (g.P.Pace.most c.args.self.now.pace) c.args.shard.now
    c.turn-polled.new.shard c.now.result Pending
    (inr (refl, c.yield_now-woken.ensures.woken, rw (c.in_default.is, c.most.ensures, c.take_parked.ensures) at c.turn-polled.ensures))

pub returns-clause-waits : goal.returns-clause-waits
returns-clause-waits g c =
    rests_or_works g.Q.State.Sleeps.core g.Q.State.Sleeps.changes g.Q.State.Sleeps.parked g.Q.State.Sleeps.parks g.Q.State.Next.Until.waits
    g.met.Q.State.Sleeps.same_core g.met.Q.State.Sleeps.is_parked c.args.cx.now c.register-slot.new.cx (g.P.Pace.most c.args.self.now.pace) c.args.shard.now
    c.turn-polled.new.shard c.now.result c.in-Some.answer
    (from_start g.Q.State.Sleeps.core g.Q.State.Sleeps.changes g.Q.State.Sleeps.parked g.Q.State.Sleeps.parks g.Q.State.Next.Until.waits c.args.cx.now
    c.register-slot.new.cx c.most.result (g.P.Pace.most c.args.self.now.pace) c.take_parked.new.self c.args.shard.now c.turn-polled.new.shard c.now.result
    c.register-slot.result c.in-Some.answer
    c.most.ensures c.take_parked.ensures c.register-slot.ensures.left (rw c.in-Some.is at c.turn-polled.ensures))

pub returns-clause-given : goal.returns-clause-given
returns-clause-given g c =
    given_due g.Q.State.Sleeps.core g.Q.State.Sleeps.changes g.Q.State.Sleeps.parked g.Q.State.Sleeps.parks g.Q.State.Next.Until.waits c.most.result
    c.take_parked.new.self c.turn-polled.new.shard c.now.result c.register-slot.result c.in-Some.answer
    (rw c.in-Some.is at c.turn-polled.ensures)

pub returns-clause-registered : goal.returns-clause-registered
returns-clause-registered g c = on_pending c.in-Some.answer c.register-slot.ensures.registered

pub returns-clause-ends : goal.returns-clause-ends
returns-clause-ends g c =
    let over = c.ends_by-self.ensures ∙ ap (λ b. is_over b c.in-Some.answer) c.ends.ensures in (
      fault_is g.Q.State.Sleeps.core g.Q.State.Sleeps.changes g.Q.State.Sleeps.parked g.Q.State.Sleeps.parks g.Q.State.Next.Until.waits c.most.result
          c.take_parked.new.self c.turn-polled.new.shard c.now.result c.register-slot.result
          c.args.cx.now c.register-slot.new.cx g.Q.Shards.ends c.ends_by-self.result c.in-Some.answer c.register-slot.ensures.left over (rw c.in-Some.is at c.turn-polled.ensures),
      λ going. over,
    )

pub returns-clause-over : goal.returns-clause-over
returns-clause-over g c = λ ended. absurd (true_false c.args.self.now.ended ended c.if-self.false)

pub returns-clause-polls : goal.returns-clause-polls
returns-clause-polls g c =
    λ going. (
      c.now.result,
      c.now.ensures,
      from_start g.Q.State.Sleeps.core g.Q.State.Sleeps.changes g.Q.State.Sleeps.parked g.Q.State.Sleeps.parks g.Q.State.Next.Until.waits c.args.cx.now
          c.register-slot.new.cx c.most.result (g.P.Pace.most c.args.self.now.pace) c.take_parked.new.self c.args.shard.now c.turn-polled.new.shard c.now.result
          c.register-slot.result c.in-Some.answer
          c.most.ensures c.take_parked.ensures c.register-slot.ensures.left (rw c.in-Some.is at c.turn-polled.ensures),
    )

pub returns-clause-kept : goal.returns-clause-kept
returns-clause-kept g c = c.register-slot.ensures.kept

pub returns-in_default-clause-polls : goal.returns-in_default-clause-polls
returns-in_default-clause-polls g c =
    λ going. (
      c.now.result,
      c.now.ensures,
      inr (refl, c.yield_now-woken.ensures.woken, rw (c.in_default.is, c.most.ensures, c.take_parked.ensures) at c.turn-polled.ensures),
    )

pub returns-in_default-clause-registered : goal.returns-in_default-clause-registered
returns-in_default-clause-registered g c = (c.yield_now-woken.ensures.armed, λ s is. c.yield_now-woken.ensures.heard s)

pub returns-in_default-clause-ends : goal.returns-in_default-clause-ends
returns-in_default-clause-ends g c = (tt, λ going. going)

pub returns-in_default-clause-kept : goal.returns-in_default-clause-kept
returns-in_default-clause-kept g c = λ fact held. c.yield_now-woken.ensures.kept fact (c.register-slot.ensures.kept fact held)

pub returns-then-self-clause-polls : goal.returns-then-self-clause-polls
returns-then-self-clause-polls g c = λ going. absurd (true_false c.args.self.now.ended c.if-self.true going)
