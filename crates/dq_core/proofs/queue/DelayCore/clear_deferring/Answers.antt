use Rattle.std.proofs.Common.{◌∙◌, arith}
use Rattle.dq_core.proofs.Clearing.{clear_on, clear_ends}
use Rattle.dq_core.proofs.CallWords.{out_tick, removed_most}
use Rattle.dq_core.proofs.queue.DelayCore.clear_deferring.Goals.{then-clear_at, else-clear_at}
use Rattle.dq_core.proofs.Settings.{sets_then}
use Rattle.dq_core.proofs.queue.DelayCore.clear_deferring.Goals as goal

pub loop-index-preserved : goal.loop-index-preserved
loop-index-preserved g c =
    let to = c.loop-index.invariant.1 in
    let few = to.few in
    elim c.if-clear_at.branch [
      | then-clear_at w ↦
          let up = w.removed-is in
          (c.loop-index.invariant.0, clear_on g.W.Words.shared c.args.self.now c.loop-index.self c.clear_at.new.self c.loop-index.index c.loop-index.removed c.if-clear_at.removed c.clear_at.result to c.clear_at.ensures.same c.clear_at.ensures.emptied (rw w.if-clear_at.true up) (omega (arith, up, few)), c.clear_at.ensures.origin ∙ c.loop-index.invariant.2, λ i s d b. c.clear_at.ensures.begun i s d (c.loop-index.invariant.3 i s d b), sets_then c.loop-index.invariant.4 c.clear_at.ensures.deferred)
      | else-clear_at w ↦
          let up = w.removed-is in
          (c.loop-index.invariant.0, clear_on g.W.Words.shared c.args.self.now c.loop-index.self c.clear_at.new.self c.loop-index.index c.loop-index.removed c.if-clear_at.removed c.clear_at.result to c.clear_at.ensures.same c.clear_at.ensures.emptied (rw w.if-clear_at.false (omega (arith, up))) (omega (arith, up, few)), c.clear_at.ensures.origin ∙ c.loop-index.invariant.2, λ i s d b. c.clear_at.ensures.begun i s d (c.loop-index.invariant.3 i s d b), sets_then c.loop-index.invariant.4 c.clear_at.ensures.deferred)
    ]

pub returns-clause-clears : goal.returns-clause-clears
returns-clause-clears g c =
    let past = c.loop-index-test.false in
    let size = c.loop-index.invariant.0 in
    clear_ends g.W.Words.shared c.args.self.now c.loop-index.self c.loop-index.index c.loop-index.removed c.loop-index.invariant.1 (omega (arith, past, size))

pub returns-clause-empty : goal.returns-clause-empty
returns-clause-empty g c = (returns-clause-clears g c).none

pub returns-clause-at_most : goal.returns-clause-at_most
returns-clause-at_most g c = removed_most (returns-clause-clears g c)

pub returns-clause-tick : goal.returns-clause-tick
returns-clause-tick g c = out_tick (returns-clause-clears g c).ended.1.out
