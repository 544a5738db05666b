use Rattle.std.proofs.Common.{true, false, subst}
use Rattle.dq_core.specs.Calls.{IsFound}
use Rattle.dq_core.specs.Sweeps.{IsSwept}
use Rattle.dq_core.proofs.Finds.{not_missing}
use Rattle.dq_core.proofs.queue.DelayCore.reap_deferring.Goals as goal

pub returns-then-reap_at-clause-missing : goal.returns-then-reap_at-clause-missing
returns-then-reap_at-clause-missing g c =
    (λ e. cc, λ missing. absurd (not_missing c.args.self.now c.law.ensures.shard c.args.entry.now c.in-Some.index c.in-Some.ensures missing))

pub returns-then-reap_at-clause-reaps : goal.returns-then-reap_at-clause-reaps
returns-then-reap_at-clause-reaps g c =
    let swept = rw c.if-reap_at.true at c.reap_at.ensures.swept in
    subst (λ i. IsFound c.args.self.now c.args.entry.now i × IsSwept g.W.Words.shared c.args.self.now i true c.reap_at.new.self)
    c.in-Some.ensures.1 (c.in-Some.ensures, swept)

pub returns-else-reap_at-clause-missing : goal.returns-else-reap_at-clause-missing
returns-else-reap_at-clause-missing g c =
    (λ e. cc, λ missing. absurd (not_missing c.args.self.now c.law.ensures.shard c.args.entry.now c.in-Some.index c.in-Some.ensures missing))

pub returns-else-reap_at-clause-reaps : goal.returns-else-reap_at-clause-reaps
returns-else-reap_at-clause-reaps g c =
    let swept = rw c.if-reap_at.false at c.reap_at.ensures.swept in
    subst (λ i. IsFound c.args.self.now c.args.entry.now i × IsSwept g.W.Words.shared c.args.self.now i false c.reap_at.new.self)
    c.in-Some.ensures.1 (c.in-Some.ensures, swept)
