use Rattle.std.proofs.Common.{◌≡◌, ◌+◌}
use Rattle.dq_core.specs.Deferring.{waiting_in}
use Rattle.dq_core.proofs.queue.DelayCore.drop_deferred.Given as goal

-- each turn took a value out, and nothing else changed
abbrev pub invariant-loop-turn : goal.invariant-loop-turn
invariant-loop-turn g l =
    (waiting_in l.self.deferred + l._turn ≡ waiting_in l.fn.self.deferred) × (l.self ≡ record l.fn.self { deferred = l.self.deferred })
