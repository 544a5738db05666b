use Rattle.std.proofs.Common.{◌≡◌}
use Rattle.dq_bell.proofs.leader.Leader.may_sleep.Given as goal

abbrev pub invariant-loop-at : goal.invariant-loop-at
invariant-loop-at g l =
    (l.self.seen ≡ l.at) × (l.self.until ≡ l.until) × (l.self.places ≡ l.places) × (l.self.table ≡ l.fn.self.table) × (l.self.places ≡ l.fn.self.places) × (l.self.dealt ≡ l.fn.self.dealt)
