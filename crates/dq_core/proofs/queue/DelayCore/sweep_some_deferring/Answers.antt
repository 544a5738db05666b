use Rattle.std.proofs.Common.{◌≡◌, ◌+◌, length, ap, refl, ◌∙◌, arith}
use Rattle.dq_core.proofs.Leaving.{sweeping_from, sweeping_on, some_swept, next_is}
use Rattle.dq_core.proofs.CallWords.{out_tick}
use Rattle.dq_core.proofs.queue.DelayCore.sweep_some_deferring.Goals.{then-reap_at, else-reap_at}
use Rattle.dq_core.proofs.Settings.{stays, sets_then}
use Rattle.dq_core.proofs.queue.DelayCore.sweep_some_deferring.Goals as goal

pub loop-index-init : goal.loop-index-init
loop-index-init g c = (omega arith, sweeping_from g.W.Words.shared c.args.self.now _, refl, λ i s d b. b, omega arith, stays _ _)

pub loop-index-preserved : goal.loop-index-preserved
loop-index-preserved g c =
    let to = c.loop-index.invariant.1 in
    let few = to.few in
    elim c.if-reap_at.branch [
      | then-reap_at w ↦
          let up = w.reaped-is in
          (omega arith, sweeping_on g.W.Words.shared c.args.self.now c.loop-index.self c.reap_at.new.self _ c.loop-index.index c.loop-index.reaped c.if-reap_at.reaped c.reap_at.result to c.reap_at.ensures.same c.reap_at.ensures.swept (rw w.if-reap_at.true up) (omega (arith, up, few)), c.reap_at.ensures.origin ∙ c.loop-index.invariant.2, λ i s d b. c.reap_at.ensures.begun i s d (c.loop-index.invariant.3 i s d b), omega (arith, c.reap_at.ensures.one_step, c.loop-index.invariant.4), sets_then c.loop-index.invariant.5 c.reap_at.ensures.deferred)
      | else-reap_at w ↦
          let up = w.reaped-is in
          (omega arith, sweeping_on g.W.Words.shared c.args.self.now c.loop-index.self c.reap_at.new.self _ c.loop-index.index c.loop-index.reaped c.if-reap_at.reaped c.reap_at.result to c.reap_at.ensures.same c.reap_at.ensures.swept (rw w.if-reap_at.false (omega (arith, up))) (omega (arith, up, few)), c.reap_at.ensures.origin ∙ c.loop-index.invariant.2, λ i s d b. c.reap_at.ensures.begun i s d (c.loop-index.invariant.3 i s d b), omega (arith, c.reap_at.ensures.one_step, c.loop-index.invariant.4), sets_then c.loop-index.invariant.5 c.reap_at.ensures.deferred)
    ]

pub returns-clause-sweeps : goal.returns-clause-sweeps
returns-clause-sweeps g c =
    let cap : c.capacity-capacity.result ≡ length c.args.self.now.slots.rows = c.capacity-capacity.ensures ∙ ap (λ q. length q.slots.rows) c.self.view_is in
    some_swept g.W.Words.shared c.args.self.now c.loop-index.self c.args.from c.args.count _ _ c.loop-index.index c.loop-index.reaped
    c.loop-index.invariant.1 (rw cap at c.min-first.ensures) (ap (λ n. c.min-first.result + n) (rw cap at c.min.ensures)) (omega arith) (omega arith)

pub returns-clause-reaped : goal.returns-clause-reaped
returns-clause-reaped g c = (returns-clause-sweeps g c).none

pub returns-clause-others : goal.returns-clause-others
returns-clause-others g c = (returns-clause-sweeps g c).other

pub returns-clause-tick : goal.returns-clause-tick
returns-clause-tick g c = out_tick (returns-clause-sweeps g c).reaped.2.out

pub reap_at-requires : goal.reap_at-requires
reap_at-requires g c =
    let size = c.loop-index.invariant.1.same.2 in
    let seen = ap (λ q. length q.slots.rows) c.self.view_is in
    omega (arith, size, seen)

pub returns-clause-next : goal.returns-clause-next
returns-clause-next g c =
    let cap : c.capacity-capacity.result ≡ length c.args.self.now.slots.rows = c.capacity-capacity.ensures ∙ ap (λ q. length q.slots.rows) c.self.view_is in
    rw (c.going_on.ensures, ← cap) (next_is c.args.from c.args.count _ _ _ c.min-first.ensures (ap (λ n. c.min-first.result + n) c.min.ensures))
