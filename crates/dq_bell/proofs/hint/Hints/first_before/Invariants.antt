use Rattle.std.proofs.Common.{◌<◌, ◌≤◌, IfSome, ◌≡◌}
use Rattle.dq_bell.proofs.hint.Hints.first_before.Given as goal

abbrev pub invariant-loop-place : goal.invariant-loop-place
invariant-loop-place g l =
    (l.self ≡ l.fn.self) × (l.from ≡ l.fn.from) × IfSome l.first (λ place. (l.fn.from ≤ place) × (place < l.fn.self))
