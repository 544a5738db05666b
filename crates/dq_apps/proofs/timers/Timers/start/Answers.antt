use Rattle.std.proofs.Common.{◌∙◌}
use Rattle.dq_apps.proofs.Timed.{inserted_timers, insert_refused}
use Rattle.dq_apps.proofs.Filings.{inserted_filed}
use Rattle.dq_apps.proofs.timers.Timers.start.Goals as goal

pub unreachable-requires : goal.unreachable-requires
unreachable-requires g c =
    insert_refused c.self.inside.queue c.insert.new.self c.args.when _ c.law.ensures.shard c.requires.tick (rw (← c.self.view_is) at c.requires.room) c.in-Err.ensures.inserts.0

pub invariant_of-self : goal.invariant_of-self
invariant_of-self g c = (
  inserted_timers c.self.inside.queue c.insert.new.self c.args.when c.args.key c.in-Ok.key c.insert.ensures.same c.self.invariant.0 c.in-Ok.ensures.inserts,
  c.insert.ensures.same.1 ∙ c.self.invariant.1,
  inserted_filed c.self.inside.queue c.insert.new.self c.self.invariant.2 c.args.key c.args.when c.in-Ok.key c.law.ensures.shard c.in-Ok.ensures.inserts,
)
