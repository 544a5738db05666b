use Rattle.std.proofs.Common.{◌∙◌}
use Rattle.dq_apps.proofs.TimerRuns.{out_stops, waiting_stops, idle_stops, turn_timers}
use Rattle.dq_apps.proofs.Filings.{polled_filed}
use Rattle.dq_apps.proofs.timers.Timers.stop_due.Goals as goal
use Rattle.dq_apps.proofs.timers.Timers.stop_due.Goals.{in-Out, in-Waiting, in-Idle}

pub invariant_of-self : goal.invariant_of-self
invariant_of-self g c = (
  turn_timers c.self.inside.queue c.poll.new.self c.args.now c.poll.ensures.same c.self.invariant.0 (rw (← c.self.view_is) at c.requires.later) _ c.in-Ok.ensures.polls,
  c.poll.ensures.same.1 ∙ c.self.invariant.1,
  polled_filed c.self.inside.queue c.poll.new.self c.self.invariant.2 c.args.now _ c.in-Ok.ensures.polls,
)

pub returns : goal.returns
returns g c =
    let b = c.self.inside.queue in
    let d = c.poll.new.self in
    let later = rw (← c.self.view_is) at c.requires.later in
    rw (← c.self.view_is)
    (elim c.match-turn.branch [
      | in-Out w ↦ rw w.result-is (out_stops b d c.args.now c.poll.ensures.same c.self.invariant.0 later w.in-Out.expired (rw w.in-Out.is at c.in-Ok.ensures.polls))
      | in-Waiting w ↦ rw w.result-is (waiting_stops b d c.args.now c.poll.ensures.same c.self.invariant.0 later _ (rw w.in-Waiting.is at c.in-Ok.ensures.polls)).0
      | in-Idle w ↦ rw w.result-is (idle_stops b d c.args.now c.poll.ensures.same c.self.invariant.0 later (rw w.in-Idle.is at c.in-Ok.ensures.polls)).0
    ])
