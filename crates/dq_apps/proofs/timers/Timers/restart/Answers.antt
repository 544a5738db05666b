use Rattle.std.proofs.Common.{◌∙◌}
use Rattle.dq_apps.proofs.Timed.{reset_restarts, reset_timers, reset_refused}
use Rattle.dq_apps.proofs.Filings.{reset_filed, refused_filed, named_inside}
use Rattle.dq_apps.proofs.timers.Timers.restart.Goals as goal
use Rattle.dq_apps.proofs.timers.Timers.restart.Goals.{in-Ok, in-Err}

pub invariant_of-self : goal.invariant_of-self
invariant_of-self g c =
    let b = c.self.inside.queue in
    let later = rw (← c.self.view_is) at c.requires.later in
    let set = rw (← c.self.view_is) at c.requires.set in (
      elim c.match-reset.branch [
        | in-Ok w ↦ reset_timers b c.reset.new.self c.own_events_alone.ensures c.reset.ensures.same c.self.invariant.0 c.args.key.now w.in-Ok.next c.args.when c.law.ensures.shard later set (rw c.entry.ensures at w.in-Ok.ensures.resets)
        | in-Err w ↦ (reset_refused b c.reset.new.self c.own_events_alone.ensures c.reset.ensures.same c.self.invariant.0 c.args.key.now c.args.when _ c.law.ensures.shard c.requires.tick set (rw c.entry.ensures at w.in-Err.ensures.resets)).1
      ],
      c.reset.ensures.same.1 ∙ c.self.invariant.1,
      elim c.match-reset.branch [
        | in-Ok w ↦ reset_filed b c.reset.new.self c.self.invariant.2 c.args.key.now.entry c.args.when w.in-Ok.next (named_inside b c.args.key.now c.law.ensures.shard set) (rw c.entry.ensures at w.in-Ok.ensures.resets)
        | in-Err w ↦ refused_filed b c.reset.new.self c.self.invariant.2 c.args.key.now.entry c.args.when _ (rw c.entry.ensures at w.in-Err.ensures.resets)
      ],
    )

pub returns : goal.returns
returns g c =
    let b = c.self.inside.queue in
    let later = rw (← c.self.view_is) at c.requires.later in
    let set = rw (← c.self.view_is) at c.requires.set in
    rw (← c.self.view_is)
    (elim c.match-reset.branch [
      | in-Ok w ↦ rw w.result-is (reset_restarts b c.reset.new.self c.own_events_alone.ensures c.reset.ensures.same c.self.invariant.0 c.args.key.now w.in-Ok.next c.args.when c.law.ensures.shard later set (rw c.entry.ensures at w.in-Ok.ensures.resets))
      | in-Err w ↦ rw w.result-is (reset_refused b c.reset.new.self c.own_events_alone.ensures c.reset.ensures.same c.self.invariant.0 c.args.key.now c.args.when _ c.law.ensures.shard c.requires.tick set (rw c.entry.ensures at w.in-Err.ensures.resets)).0
    ])
