use Rattle.std.proofs.Common.{◌∙◌, arith}
use Rattle.dq_core.proofs.Leaving.{sweeping_on, sweeping_ends}
use Rattle.dq_core.proofs.CallWords.{out_tick}
use Rattle.dq_core.proofs.queue.DelayCore.sweep_deferring.Goals.{then-reap_at, else-reap_at}
use Rattle.dq_core.proofs.Settings.{sets_then}
use Rattle.dq_core.proofs.queue.DelayCore.sweep_deferring.Goals as goal

pub loop-index-preserved : goal.loop-index-preserved
loop-index-preserved g c =
    let to = c.loop-index.invariant.1 in
    let few = to.few in
    elim c.if-reap_at.branch [
      | then-reap_at w ↦
          let up = w.reaped-is in
          (c.loop-index.invariant.0, sweeping_on g.W.Words.shared c.args.self.now c.loop-index.self c.reap_at.new.self 0 c.loop-index.index c.loop-index.reaped c.if-reap_at.reaped c.reap_at.result to c.reap_at.ensures.same c.reap_at.ensures.swept (rw w.if-reap_at.true up) (omega (arith, up, few)), c.reap_at.ensures.origin ∙ c.loop-index.invariant.2, λ i s d b. c.reap_at.ensures.begun i s d (c.loop-index.invariant.3 i s d b), sets_then c.loop-index.invariant.4 c.reap_at.ensures.deferred)
      | else-reap_at w ↦
          let up = w.reaped-is in
          (c.loop-index.invariant.0, sweeping_on g.W.Words.shared c.args.self.now c.loop-index.self c.reap_at.new.self 0 c.loop-index.index c.loop-index.reaped c.if-reap_at.reaped c.reap_at.result to c.reap_at.ensures.same c.reap_at.ensures.swept (rw w.if-reap_at.false (omega (arith, up))) (omega (arith, up, few)), c.reap_at.ensures.origin ∙ c.loop-index.invariant.2, λ i s d b. c.reap_at.ensures.begun i s d (c.loop-index.invariant.3 i s d b), sets_then c.loop-index.invariant.4 c.reap_at.ensures.deferred)
    ]

pub returns-clause-sweeps : goal.returns-clause-sweeps
returns-clause-sweeps g c =
    let past = c.loop-index-test.false in
    let size = c.loop-index.invariant.0 in
    sweeping_ends g.W.Words.shared c.args.self.now c.loop-index.self c.loop-index.index c.loop-index.reaped c.loop-index.invariant.1 (omega (arith, past, size))

pub returns-clause-reaped : goal.returns-clause-reaped
returns-clause-reaped g c = (returns-clause-sweeps g c).none

pub returns-clause-tick : goal.returns-clause-tick
returns-clause-tick g c = out_tick (returns-clause-sweeps g c).reaped.2.out
