use Rattle.std.proofs.Common.{◌≡◌, ◌+◌}
use Rattle.dq_apps.specs.Calls.{due_count, purged}
use Rattle.dq_apps.proofs.cache.TtlCache.drop_due.Given as goal

abbrev pub invariant-loop-due : goal.invariant-loop-due
invariant-loop-due g l =
    (l.self.moment ≡ l.initial.self.moment)
    × (purged l.self l.self.moment ≡ purged l.initial.self l.initial.self.moment)
    × (l.dropped + due_count l.self.moment l.self.slots ≡ due_count l.initial.self.moment l.initial.self.slots)

abbrev pub decreases-loop-due : goal.decreases-loop-due
decreases-loop-due g l = due_count l.self.moment l.self.slots
