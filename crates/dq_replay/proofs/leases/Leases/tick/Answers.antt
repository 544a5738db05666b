use Rattle.std.proofs.Common.{subst}
use Rattle.dq_replay.specs.Order.{IsLined}
use Rattle.dq_replay.proofs.Expiry.{expiring_first, expiring_next, expiring_less, expired_all}
use Rattle.dq_replay.proofs.leases.Leases.tick.Goals as goal

pub loop-lease-init : goal.loop-lease-init
loop-lease-init g c = rw c.new-due.ensures.items (expiring_first c.args.self.now c.args.now c.requires.later c.law.ensures)

pub loop-lease-smaller : goal.loop-lease-smaller
loop-lease-smaller g c = expiring_less c.loop-lease.self c.expire.new.self c.args.now c.in-Some.lease c.in-Some.ensures

pub loop-lease-preserved : goal.loop-lease-preserved
loop-lease-preserved g c = rw c.in_ok-push.ensures.items (expiring_next c.args.self.now c.loop-lease.self c.expire.new.self c.args.now c.loop-lease.due.items c.in-Some.lease c.loop-lease.invariant c.in-Some.ensures)

pub returns : goal.returns
returns g c = expired_all c.args.self.now c.loop-lease.self c.expire.new.self c.args.now c.loop-lease.due.items c.sort_unstable.new.self.items c.loop-lease.invariant c.in_default.ensures
    (subst (λ z. IsLined z.live) c.in_default.ensures.0 c.law-2.ensures) c.sort_unstable.ensures.permutation c.sort_unstable.ensures.sorted
