use Rattle.dq_core.proofs.Turns.{turn_waiting, turn_out, plain_left}
use Rattle.dq_core.proofs.plain.PlainQueue.poll.Goals as goal

pub returns-then-deadline-self : goal.returns-then-deadline-self
returns-then-deadline-self g c =
    let s = rw c.deref.ensures.value at c.soonest-first.ensures in
    rw (← c.self.view_is) (c.if-tick-gt-LAST_TICK.false, turn_waiting c.self.inside.capacity c.self.inside.noted c.args.tick c.max-self-inside.result c.soonest-first.result.0 c.soonest-first.result.1 c.self.inside.entries.items c.max-self-inside.ensures s c.if-deadline-self.true)

pub invariant_of-self-2 : goal.invariant_of-self-2
invariant_of-self-2 g c =
    let s = rw c.deref.ensures.value at c.soonest-first.ensures in
    rw (c.remove-deadline.ensures.items, c.remove-deadline.ensures.capacity) (plain_left c.self.inside.capacity c.self.inside.tick c.self.inside.noted c.args.tick c.max-self-inside.result c.soonest-first.result.0 c.soonest-first.result.1 c.self.inside.entries.items c.remove-deadline.result c.self.invariant.0 c.max-self-inside.ensures c.if-tick-gt-LAST_TICK.false s c.if-deadline-self.false c.remove-deadline.ensures.value, c.self.invariant.1)

pub returns : goal.returns
returns g c =
    let s = rw c.deref.ensures.value at c.soonest-first.ensures in
    rw (← c.self.view_is, c.remove-deadline.ensures.items) (c.if-tick-gt-LAST_TICK.false, turn_out c.self.inside.capacity c.self.inside.noted c.args.tick c.max-self-inside.result c.soonest-first.result.0 c.soonest-first.result.1 c.self.inside.entries.items c.remove-deadline.result c.max-self-inside.ensures s c.if-deadline-self.false c.remove-deadline.ensures.value)
