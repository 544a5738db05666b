use Rattle.std.proofs.Common.{refl, ap}
use Rattle.dq_shards.proofs.ParkedLaw.{parked_still}
use Rattle.dq_shards.proofs.Auditing.{audited, refused, few_told}
use Rattle.dq_shards.proofs.state.ShardState.audit.Goals as goal
use Rattle.dq_shards.proofs.state.ShardState.audit.Goals.{in-Ok, in-Err}

pub invariant_of-self : goal.invariant_of-self
invariant_of-self g c =
    parked_still c.self.inside.watched.core c.returned.new.self _ (ap (λ k. k.wheel) c.returned.ensures.same) c.self.invariant

pub returns-clause-audits : goal.returns-clause-audits
returns-clause-audits g c =
    let b = c.self.inside.watched.core in
    let n = c.returned.new.self in
    let p = c.self.inside.watched.parked in
    let heard = c.returned.ensures in
    elim c.match-returned.branch [
      | in-Ok w ↦ rw (← c.self.view_is, w.result-is) (audited b n p c.tally-tally.result w.in-Ok.cancelled
          w.totals_of.result c.tally-tally.ensures w.in-Ok.ensures.returned heard.same heard.counts
          w.in-Ok.ensures.audit.0 w.totals_of.ensures)
      | in-Err w ↦ rw (← c.self.view_is, w.result-is)
          (refused b n p w.in-Err.out _ refl w.in-Err.ensures.returned heard.same)
    ]

pub returns-clause-few : goal.returns-clause-few
returns-clause-few g c =
    few_told c.args.self.now (record { core = c.returned.new.self; parked = c.self.inside.watched.parked }) c.match-returned.result
    (returns-clause-audits g c)
